-- What the rows make and test of values is the same, whatever the names are.
use Rattle.std.proofs.Common.{◌≡◌, ℕ, Bool, true, false, cond, List, [], ◌∷◌, ◌++◌, Option, Some, map, refl, ap}
use Rattle.std.proofs.lemmas.List.{map-append}
use Rattle.std.specs.List.{list_any}
use Rattle.std.specs.Str.{bytes_eq}
use Rattle.cdle_model.specs.declared.grammar.Mode.{Mode}
use Rattle.source_model.specs.Source.{Span, Tree, Module, Pattern, Parameter, Constructor, NameUse, data_item}
use Rattle.source_model.specs.Grammar.{Token, Branch, Value, token, part, enclosed, nothing, patterns, branches, parameters, constructors, module_so_far, IsType, Fits, IsShallow, HasFewArguments, IsModule, IsImportable}
use Rattle.source_model.specs.Grammar as m
use Rattle.source_model.specs.Made.{made, defined, a_parameter, a_constructor, a_branch, with_import}
use Rattle.source_model.specs.Parsing.{Given, complaint}
use Rattle.build_model.specs.Renamed.{renamed_pattern, renamed_parameter, renamed_constructor, renamed_item}
use Rattle.build_model.proofs.RenamedValues.{anew, called_anew, from_renamed, to_renamed, kind_renamed, none_renamed, levels_renamed, arguments_renamed, renamed_branch, chained_renamed, branch_renamed, defined_renamed, import_renamed}
use Rattle.build_model.proofs.NamedWanted.{IsName, IsMadeAlike, IsTestedAlike}

module _ {A B : Type 0} (f : A → B) (other : B) (h : Given B) where
  -- ---- tests

  pub type_tested : (n : ℕ) (t : Tree A) (vs : List (Value A)) → IsTestedAlike f other h IsType (part n t ∷ vs)
  unfolding complaint
  type_tested n t vs at = rw (kind_renamed f t) refl

  pub fit_tested : (n p : ℕ) (d : Token A) (a b : Tree A) (vs : List (Value A)) → IsTestedAlike f other h Fits (part n b ∷ token d ∷ part p a ∷ vs)
  unfolding complaint
  fit_tested n p d a b vs at = rw (kind_renamed f a, kind_renamed f b) refl

  pub shallow_tested : (n : ℕ) (t : Tree A) (vs : List (Value A)) → IsTestedAlike f other h IsShallow (part n t ∷ vs)
  unfolding complaint
  shallow_tested n t vs at = rw (levels_renamed f t) refl

  pub few_tested : (n : ℕ) (t : Tree A) (vs : List (Value A)) → IsTestedAlike f other h HasFewArguments (part n t ∷ vs)
  unfolding complaint
  few_tested n t vs at = rw (arguments_renamed f t) refl

  pub module_tested : (x : Token A) (vs : List (Value A)) → IsName x → IsTestedAlike f other h IsModule (token x ∷ vs)
  unfolding complaint
  module_tested x vs r at = rw r refl

  pub importable_tested : (x : Token A) (vs : List (Value A)) → IsName x → IsTestedAlike f other h IsImportable (token x ∷ vs)
  unfolding complaint
  importable_tested x vs r at = rw r refl

  -- ---- parts

  pub named_made : (x : Token A) (vs : List (Value A)) → IsName x → IsMadeAlike f other h m.Named (nothing ∷ token x ∷ vs)
  unfolding made
  named_made x vs r = rw r refl

  pub owned_made : (x n : Token A) (vs : List (Value A)) → IsName x → IsName n → IsMadeAlike f other h m.Named (token x ∷ token n ∷ vs)
  unfolding made
  owned_made x n vs r s = rw (r, s) refl

  pub product_made : (i j : ℕ) (a b : Tree A) (d c x o : Token A) (vs : List (Value A)) → IsName x → IsMadeAlike f other h m.Product (part j b ∷ token d ∷ part i a ∷ token c ∷ token x ∷ token o ∷ vs)
  unfolding made
  product_made i j a b d c x o vs r = rw (r, kind_renamed f a, kind_renamed f b, to_renamed f b) refl

  pub forall_made : (i j : ℕ) (a b : Tree A) (d c x o : Token A) (vs : List (Value A)) → IsName x → IsMadeAlike f other h m.Forall (part j b ∷ token d ∷ part i a ∷ token c ∷ token x ∷ token o ∷ vs)
  unfolding made
  forall_made i j a b d c x o vs r = rw (r, kind_renamed f a, to_renamed f b) refl

  pub lambda_made : (i j : ℕ) (a b : Tree A) (d c x o : Token A) (vs : List (Value A)) → IsName x → IsMadeAlike f other h m.Lambda (part j b ∷ token d ∷ part i a ∷ token c ∷ token x ∷ token o ∷ vs)
  unfolding made
  lambda_made i j a b d c x o vs r = rw (r, kind_renamed f a, to_renamed f b) refl

  pub iota_made : (i j : ℕ) (a b : Tree A) (d c x o : Token A) (vs : List (Value A)) → IsName x → IsMadeAlike f other h m.Iota (part j b ∷ token d ∷ part i a ∷ token c ∷ token x ∷ token o ∷ vs)
  unfolding made
  iota_made i j a b d c x o vs r = rw (r, to_renamed f b) refl

  pub arrow_made : (i j : ℕ) (a b : Tree A) (d : Token A) (vs : List (Value A)) → IsMadeAlike f other h m.Arrow (part j b ∷ token d ∷ part i a ∷ vs)
  unfolding made
  arrow_made i j a b d vs = rw (kind_renamed f a, kind_renamed f b, from_renamed f a, to_renamed f b) refl

  pub erased_arrow_made : (i j : ℕ) (a b : Tree A) (d : Token A) (vs : List (Value A)) → IsMadeAlike f other h m.ErasedArrow (part j b ∷ token d ∷ part i a ∷ vs)
  unfolding made
  erased_arrow_made i j a b d vs = rw (kind_renamed f a, from_renamed f a, to_renamed f b) refl

  pub at_made : (i j : ℕ) (t u : Tree A) (vs : List (Value A)) → IsMadeAlike f other h m.At (part j u ∷ part i t ∷ vs)
  unfolding made
  at_made i j t u vs = rw (from_renamed f t, to_renamed f u) refl

  pub on_made : (i j : ℕ) (t u : Tree A) (d : Token A) (vs : List (Value A)) → IsMadeAlike f other h m.On (part j u ∷ token d ∷ part i t ∷ vs)
  unfolding made
  on_made i j t u d vs = rw (from_renamed f t, to_renamed f u) refl

  pub app_made : (i j : ℕ) (t u : Tree A) (vs : List (Value A)) → IsMadeAlike f other h m.App (part j u ∷ part i t ∷ vs)
  unfolding made
  app_made i j t u vs = rw (from_renamed f t, to_renamed f u) refl

  pub eapp_made : (i j : ℕ) (t u : Tree A) (d : Token A) (vs : List (Value A)) → IsMadeAlike f other h m.Eapp (part j u ∷ token d ∷ part i t ∷ vs)
  unfolding made
  eapp_made i j t u d vs = rw (from_renamed f t, to_renamed f u) refl

  pub tapp_made : (i j : ℕ) (t u : Tree A) (d : Token A) (vs : List (Value A)) → IsMadeAlike f other h m.Tapp (part j u ∷ token d ∷ part i t ∷ vs)
  unfolding made
  tapp_made i j t u d vs = rw (from_renamed f t, to_renamed f u) refl

  pub lam_made : (i j : ℕ) (a t : Tree A) (d x o : Token A) (vs : List (Value A)) → IsName x → IsMadeAlike f other h m.Lam (part j t ∷ token d ∷ part i a ∷ token x ∷ token o ∷ vs)
  unfolding made
  lam_made i j a t d x o vs r = rw (r, to_renamed f t) refl

  pub elam_made : (i j : ℕ) (a t : Tree A) (d x o : Token A) (vs : List (Value A)) → IsName x → IsMadeAlike f other h m.Elam (part j t ∷ token d ∷ part i a ∷ token x ∷ token o ∷ vs)
  unfolding made
  elam_made i j a t d x o vs r = rw (r, none_renamed f a, kind_renamed f a, to_renamed f t) refl

  pub rho_made : (i j l : ℕ) (q a t : Tree A) (d p x e o : Token A) (vs : List (Value A)) → IsName x
      → IsMadeAlike f other h m.Rho (part l t ∷ token d ∷ part j a ∷ token p ∷ token x ∷ token e ∷ part i q ∷ token o ∷ vs)
  unfolding made
  rho_made i j l q a t d p x e o vs r = rw (r, to_renamed f t) refl

  pub delta_made : (i j : ℕ) (a q : Tree A) (d o : Token A) (vs : List (Value A)) → IsMadeAlike f other h m.Delta (part j q ∷ token d ∷ part i a ∷ token o ∷ vs)
  unfolding made
  delta_made i j a q d o vs = rw (to_renamed f q) refl

  pub chi_made : (i j : ℕ) (a t : Tree A) (d o : Token A) (vs : List (Value A)) → IsMadeAlike f other h m.Chi (part j t ∷ token d ∷ part i a ∷ token o ∷ vs)
  unfolding made
  chi_made i j a t d o vs = rw (to_renamed f t) refl

  pub flip_made : (i : ℕ) (q : Tree A) (o : Token A) (vs : List (Value A)) → IsMadeAlike f other h m.Flip (part i q ∷ token o ∷ vs)
  unfolding made
  flip_made i q o vs = rw (to_renamed f q) refl

  pub fst_made : (i : ℕ) (t : Tree A) (d : Token A) (vs : List (Value A)) → IsMadeAlike f other h m.Fst (token d ∷ part i t ∷ vs)
  unfolding made
  fst_made i t d vs = rw (from_renamed f t) refl

  pub snd_made : (i : ℕ) (t : Tree A) (d : Token A) (vs : List (Value A)) → IsMadeAlike f other h m.Snd (token d ∷ part i t ∷ vs)
  unfolding made
  snd_made i t d vs = rw (from_renamed f t) refl

  pub mu_made : (i j : ℕ) (t a : Tree A) (bs : List (Branch A)) (c b d x o : Token A) (vs : List (Value A)) → IsName x
      → IsMadeAlike f other h m.Mu (token c ∷ branches bs ∷ token b ∷ part j a ∷ part i t ∷ token d ∷ token x ∷ token o ∷ vs)
  unfolding made
  mu_made i j t a bs c b d x o vs r = rw (r, chained_renamed f bs) refl

  pub sigma_made : (i j : ℕ) (t a : Tree A) (bs : List (Branch A)) (c b o : Token A) (vs : List (Value A)) → IsMadeAlike f other h m.Sigma (token c ∷ branches bs ∷ token b ∷ part j a ∷ part i t ∷ token o ∷ vs)
  unfolding made
  sigma_made i j t a bs c b o vs = rw (chained_renamed f bs) refl

  -- ---- lists

  pub pattern_made : (mode : Mode) (x : Token A) (ps : List (Pattern (Option A))) (vs : List (Value A)) → IsName x → IsMadeAlike f other h (m.APattern mode) (token x ∷ patterns ps ∷ vs)
  unfolding made
  pattern_made mode x ps vs r = rw (r, map-append (renamed_pattern f) ps (record { mode = mode; span = x.span; binder = Some x.name } ∷ [])) refl

  pub marked_pattern_made : (mode : Mode) (x d : Token A) (ps : List (Pattern (Option A))) (vs : List (Value A)) → IsName x → IsMadeAlike f other h (m.APattern mode) (token x ∷ token d ∷ patterns ps ∷ vs)
  unfolding made
  marked_pattern_made mode x d ps vs r = rw (r, map-append (renamed_pattern f) ps (record { mode = mode; span = x.span; binder = Some x.name } ∷ [])) refl

  pub branch_made : (i j : ℕ) (c t : Tree A) (d b : Token A) (ps : List (Pattern (Option A))) (bs : List (Branch A)) (vs : List (Value A))
      → IsMadeAlike f other h m.ABranch (part j t ∷ token d ∷ patterns ps ∷ part i c ∷ token b ∷ branches bs ∷ vs)
  unfolding made
  branch_made i j c t d b ps bs vs = rw (branch_renamed f c t ps, map-append (renamed_branch f) bs (a_branch c ps t)) refl

  pub parameter_made : (i : ℕ) (c : Tree A) (d b x o : Token A) (ps : List (Parameter (Option A) (NameUse A))) (vs : List (Value A)) → IsName x
      → IsMadeAlike f other h m.AParameter (token d ∷ part i c ∷ token b ∷ token x ∷ token o ∷ parameters ps ∷ vs)
  unfolding made
  parameter_made i c d b x o ps vs r = rw (r, kind_renamed f c, map-append (renamed_parameter f) ps (a_parameter x c ∷ [])) refl

  pub constructor_made : (i : ℕ) (c : Tree A) (b x o : Token A) (cs : List (Constructor A (Option A) (NameUse A))) (vs : List (Value A)) → IsName x
      → IsMadeAlike f other h m.AConstructor (part i c ∷ token b ∷ token x ∷ token o ∷ constructors cs ∷ vs)
  unfolding made
  constructor_made i c b x o cs vs r = rw (r, map-append (renamed_constructor f) cs (a_constructor x c ∷ [])) refl

  -- ---- modules

  pub start_made : (d x o : Token A) (vs : List (Value A)) → IsName x → IsMadeAlike f other h m.TheModule (token d ∷ token x ∷ token o ∷ vs)
  unfolding made
  start_made d x o vs r = rw r refl

  pub import_named : (text : A → List ℕ) (x : Token A) (b : Module A) → (with_import text x b).name ≡ b.name
  import_named text x b = by_test (list_any (λ (i : A × Span). bytes_eq (text x.name) (text i.0)) b.imports)
    where
      by_test : (t : Bool) → (cond t b (record b { imports = b.imports ++ (x.name, x.span) ∷ [] })).name ≡ b.name
      by_test true = refl
      by_test false = refl

  pub import_made : (d x i : Token A) (b : Module A) (vs : List (Value A)) → IsName x → IsMadeAlike f other h m.AnImport (token d ∷ token x ∷ token i ∷ module_so_far b ∷ vs)
  unfolding made
  import_made d x i b vs r = ap (λ (c : Module B). module_so_far c ∷ map (anew f other) vs) (import_renamed f h.text x (called_anew f other x) b refl (rw r refl))

  pub item_made : (i j : ℕ) (c t : Tree A) (d e b x : Token A) (a : Module A) (vs : List (Value A)) → IsName x
      → IsMadeAlike f other h m.AnItem (token d ∷ part j t ∷ token e ∷ part i c ∷ token b ∷ token x ∷ module_so_far a ∷ vs)
  unfolding made
  item_made i j c t d e b x a vs r = rw (r, defined_renamed f x.span x.name c t, map-append (renamed_item f) a.items (defined x c t ∷ [])) refl

  pub datatype_made : (d i t c x o : Token A) (ps : List (Parameter (Option A) (NameUse A))) (cs : List (Constructor A (Option A) (NameUse A))) (b : Module A) (vs : List (Value A)) → IsName x
      → IsMadeAlike f other h m.ADatatype (token d ∷ constructors cs ∷ token i ∷ token t ∷ token c ∷ parameters ps ∷ token x ∷ token o ∷ module_so_far b ∷ vs)
  unfolding made
  datatype_made d i t c x o ps cs b vs r = rw (r, map-append (renamed_item f) b.items (data_item x.span x.name ps cs ∷ [])) refl
