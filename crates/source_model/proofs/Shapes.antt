-- The shapes of the values that stand while text is read: what each making takes and gives, and what each symbol leaves.
use Rattle.std.proofs.Common.{ℕ, List, [], ◌∷◌, ◌++◌, Option}
use Rattle.source_model.specs.Source.{Tree, Module, Pattern, Parameter, Constructor, NameUse}
use Rattle.source_model.specs.Grammar.{Token, Branch, Value, token, part, enclosed, nothing, patterns, branches, parameters, constructors, module_so_far, Making}
use Rattle.source_model.specs.Grammar as m
use Rattle.cdle_model.specs.declared.grammar.Mode.TheVariants.{Kept, Erased, OfType}
use Rattle.source_model.specs.Made.{made}

-- a token, a part, an option's term or that it is left out, the name before a `#` or that it is left out, the lists that grow
pub data Shape : Type 0 where
  a_token a_part an_option an_owner some_patterns some_branches some_parameters some_constructors a_module_so_far : Shape

pub data Is {A : Type 0} : Shape → Value A → Type 0 where
  is_token : {t : Token A} → Is a_token (token t)
  is_part : {f : ℕ} {t : Tree A} → Is a_part (part f t)
  is_enclosed : {n : ℕ} {t : Tree A} → Is an_option (enclosed n t)
  no_option : Is an_option nothing
  is_owner : {t : Token A} → Is an_owner (token t)
  no_owner : Is an_owner nothing
  is_patterns : {ps : List (Pattern (Option A))} → Is some_patterns (patterns ps)
  is_branches : {bs : List (Branch A)} → Is some_branches (branches bs)
  is_parameters : {ps : List (Parameter (Option A) (NameUse A))} → Is some_parameters (parameters ps)
  is_constructors : {cs : List (Constructor A (Option A) (NameUse A))} → Is some_constructors (constructors cs)
  is_module : {b : Module A} → Is a_module_so_far (module_so_far b)

-- values of these shapes, the latest first
pub data Stand {A : Type 0} : List Shape → List (Value A) → Type 0 where
  bottom : Stand [] []
  on : {s : Shape} {v : Value A} {ss : List Shape} {vs : List (Value A)} → Is s v → Stand ss vs → Stand (s ∷ ss) (v ∷ vs)

-- ---- makings

-- what a making takes off, above the shapes that it leaves alone; `Given` takes a token from under any shape
abbrev pub taken : Making → List Shape
taken m.Named = an_owner ∷ a_token ∷ []
taken m.Parenthesized = a_token ∷ a_part ∷ a_token ∷ []
taken m.Given = a_part ∷ a_token ∷ []
taken m.Enclosed = a_token ∷ a_part ∷ a_token ∷ []
taken m.NoPatterns = []
taken m.NoBranches = []
taken m.NoParameters = []
taken m.NoConstructors = []
taken m.Star = a_token ∷ []
taken m.Equation = a_token ∷ a_part ∷ a_token ∷ a_part ∷ a_token ∷ []
taken m.Product = a_part ∷ a_token ∷ a_part ∷ a_token ∷ a_token ∷ a_token ∷ []
taken m.Forall = a_part ∷ a_token ∷ a_part ∷ a_token ∷ a_token ∷ a_token ∷ []
taken m.Lambda = a_part ∷ a_token ∷ a_part ∷ a_token ∷ a_token ∷ a_token ∷ []
taken m.Iota = a_part ∷ a_token ∷ a_part ∷ a_token ∷ a_token ∷ a_token ∷ []
taken m.Arrow = a_part ∷ a_token ∷ a_part ∷ []
taken m.ErasedArrow = a_part ∷ a_token ∷ a_part ∷ []
taken m.At = a_part ∷ a_part ∷ []
taken m.On = a_part ∷ a_token ∷ a_part ∷ []
taken m.Lam = a_part ∷ a_token ∷ a_part ∷ a_token ∷ a_token ∷ []
taken m.Elam = a_part ∷ a_token ∷ a_part ∷ a_token ∷ a_token ∷ []
taken m.Rho = a_part ∷ a_token ∷ a_part ∷ a_token ∷ a_token ∷ a_token ∷ a_part ∷ a_token ∷ []
taken m.Phi = a_token ∷ a_part ∷ a_token ∷ a_part ∷ a_token ∷ a_part ∷ a_token ∷ []
taken m.Delta = a_part ∷ a_token ∷ a_part ∷ a_token ∷ []
taken m.Chi = a_part ∷ a_token ∷ a_part ∷ a_token ∷ []
taken m.Flip = a_part ∷ a_token ∷ []
taken m.Mu = a_token ∷ some_branches ∷ a_token ∷ a_part ∷ a_part ∷ a_token ∷ a_token ∷ a_token ∷ []
taken m.Sigma = a_token ∷ some_branches ∷ a_token ∷ a_part ∷ a_part ∷ a_token ∷ []
taken m.Pair = a_token ∷ a_part ∷ a_token ∷ a_part ∷ a_token ∷ []
taken m.Beta = an_option ∷ an_option ∷ a_token ∷ []
taken m.Fst = a_token ∷ a_part ∷ []
taken m.Snd = a_token ∷ a_part ∷ []
taken m.App = a_part ∷ a_part ∷ []
taken m.Eapp = a_part ∷ a_token ∷ a_part ∷ []
taken m.Tapp = a_part ∷ a_token ∷ a_part ∷ []
taken m.ABranch = a_part ∷ a_token ∷ some_patterns ∷ a_part ∷ a_token ∷ some_branches ∷ []
taken (m.APattern Kept) = a_token ∷ some_patterns ∷ []
taken (m.APattern Erased) = a_token ∷ a_token ∷ some_patterns ∷ []
taken (m.APattern OfType) = a_token ∷ a_token ∷ some_patterns ∷ []
taken m.TheModule = a_token ∷ a_token ∷ a_token ∷ []
taken m.AnImport = a_token ∷ a_token ∷ a_token ∷ a_module_so_far ∷ []
taken m.AnItem = a_token ∷ a_part ∷ a_token ∷ a_part ∷ a_token ∷ a_token ∷ a_module_so_far ∷ []
taken m.AParameter = a_token ∷ a_part ∷ a_token ∷ a_token ∷ a_token ∷ some_parameters ∷ []
taken m.AConstructor = a_part ∷ a_token ∷ a_token ∷ a_token ∷ some_constructors ∷ []
taken m.ADatatype = a_token ∷ some_constructors ∷ a_token ∷ a_token ∷ a_token ∷ some_parameters ∷ a_token ∷ a_token ∷ a_module_so_far ∷ []

abbrev pub given : Making → Shape
given m.Enclosed = an_option
given m.NoPatterns = some_patterns
given m.NoBranches = some_branches
given m.NoParameters = some_parameters
given m.NoConstructors = some_constructors
given m.ABranch = some_branches
given (m.APattern mode) = some_patterns
given m.TheModule = a_module_so_far
given m.AnImport = a_module_so_far
given m.AnItem = a_module_so_far
given m.AParameter = some_parameters
given m.AConstructor = some_constructors
given m.ADatatype = a_module_so_far
given f = a_part

module _ {A : Type 0} (text : A → List ℕ) where
  pub made_stand : (f : Making) {ss : List Shape} {vs : List (Value A)} → Stand (taken f ++ ss) vs → Stand (given f ∷ ss) (made text f vs)
  unfolding made
  made_stand m.Named (on is_owner (on is_token h)) = on is_part h
  made_stand m.Named (on no_owner (on is_token h)) = on is_part h
  made_stand m.Parenthesized (on is_token (on is_part (on is_token h))) = on is_part h
  made_stand m.Given (on i (on is_token h)) = on i h
  made_stand m.Enclosed (on is_token (on is_part (on is_token h))) = on is_enclosed h
  made_stand m.NoPatterns h = on is_patterns h
  made_stand m.NoBranches h = on is_branches h
  made_stand m.NoParameters h = on is_parameters h
  made_stand m.NoConstructors h = on is_constructors h
  made_stand m.Star (on is_token h) = on is_part h
  made_stand m.Equation (on is_token (on is_part (on is_token (on is_part (on is_token h))))) = on is_part h
  made_stand m.Product (on is_part (on is_token (on is_part (on is_token (on is_token (on is_token h)))))) = on is_part h
  made_stand m.Forall (on is_part (on is_token (on is_part (on is_token (on is_token (on is_token h)))))) = on is_part h
  made_stand m.Lambda (on is_part (on is_token (on is_part (on is_token (on is_token (on is_token h)))))) = on is_part h
  made_stand m.Iota (on is_part (on is_token (on is_part (on is_token (on is_token (on is_token h)))))) = on is_part h
  made_stand m.Arrow (on is_part (on is_token (on is_part h))) = on is_part h
  made_stand m.ErasedArrow (on is_part (on is_token (on is_part h))) = on is_part h
  made_stand m.At (on is_part (on is_part h)) = on is_part h
  made_stand m.On (on is_part (on is_token (on is_part h))) = on is_part h
  made_stand m.Lam (on is_part (on is_token (on is_part (on is_token (on is_token h))))) = on is_part h
  made_stand m.Elam (on is_part (on is_token (on is_part (on is_token (on is_token h))))) = on is_part h
  made_stand m.Rho (on is_part (on is_token (on is_part (on is_token (on is_token (on is_token (on is_part (on is_token h)))))))) = on is_part h
  made_stand m.Phi (on is_token (on is_part (on is_token (on is_part (on is_token (on is_part (on is_token h))))))) = on is_part h
  made_stand m.Delta (on is_part (on is_token (on is_part (on is_token h)))) = on is_part h
  made_stand m.Chi (on is_part (on is_token (on is_part (on is_token h)))) = on is_part h
  made_stand m.Flip (on is_part (on is_token h)) = on is_part h
  made_stand m.Mu (on is_token (on is_branches (on is_token (on is_part (on is_part (on is_token (on is_token (on is_token h)))))))) = on is_part h
  made_stand m.Sigma (on is_token (on is_branches (on is_token (on is_part (on is_part (on is_token h)))))) = on is_part h
  made_stand m.Pair (on is_token (on is_part (on is_token (on is_part (on is_token h))))) = on is_part h
  made_stand m.Beta (on i (on j (on is_token h))) = on is_part h
  made_stand m.Fst (on is_token (on is_part h)) = on is_part h
  made_stand m.Snd (on is_token (on is_part h)) = on is_part h
  made_stand m.App (on is_part (on is_part h)) = on is_part h
  made_stand m.Eapp (on is_part (on is_token (on is_part h))) = on is_part h
  made_stand m.Tapp (on is_part (on is_token (on is_part h))) = on is_part h
  made_stand m.ABranch (on is_part (on is_token (on is_patterns (on is_part (on is_token (on is_branches h)))))) = on is_branches h
  made_stand (m.APattern Kept) (on is_token (on is_patterns h)) = on is_patterns h
  made_stand (m.APattern Erased) (on is_token (on is_token (on is_patterns h))) = on is_patterns h
  made_stand (m.APattern OfType) (on is_token (on is_token (on is_patterns h))) = on is_patterns h
  made_stand m.TheModule (on is_token (on is_token (on is_token h))) = on is_module h
  made_stand m.AnImport (on is_token (on is_token (on is_token (on is_module h)))) = on is_module h
  made_stand m.AnItem (on is_token (on is_part (on is_token (on is_part (on is_token (on is_token (on is_module h))))))) = on is_module h
  made_stand m.AParameter (on is_token (on is_part (on is_token (on is_token (on is_token (on is_parameters h)))))) = on is_parameters h
  made_stand m.AConstructor (on is_part (on is_token (on is_token (on is_token (on is_constructors h))))) = on is_constructors h
  made_stand m.ADatatype (on is_token (on is_constructors (on is_token (on is_token (on is_token (on is_parameters (on is_token (on is_token (on is_module h))))))))) = on is_module h
