-- What is to hold of the values where something is wanted, so that it is made and tested alike whatever the names are: whatever is read for it, it holds of the
-- values behind it. A token whose name is used is a name.
use Rattle.std.proofs.Common.{◌≡◌, ℕ, Bool, true, false, List, [], ◌∷◌, ◌++◌, Option, Some, None, map, refl, subst}
use Rattle.source_model.specs.Source.{Tree, Module, Pattern, Parameter, Constructor, NameUse, none, nowhere}
use Rattle.source_model.specs.Grammar.{Token, Branch, Value, token, part, enclosed, nothing, patterns, branches, parameters, constructors, module_so_far, Making, Symbol, The, Term, Spine, Atom, ClassAtom, Class, Body, Owner, Annotation, Side, KeptTerm, TypeGiven, Motive, MaybeArrow, Projections, Patterns, Arguments, TypeArguments, Branches, Imports, Items, Parameters, Constructors, Test, Want, Test_, Make, Read}
use Rattle.source_model.specs.Rows.{Row, ◌▸◌, only, raised, same_kind, behind_type, counted, leaving, MustStand}
use Rattle.source_model.specs.Made.{made, left_out}
use Rattle.source_model.specs.Parsing.{Given, complaint}
use Rattle.source_model.specs.declared.token.TokenKind.TheVariants as k
use Rattle.build_model.proofs.RenamedValues.{anew, kind_renamed}

-- what is to hold of values
abbrev pub After : Type 0 → Type 1
After A = List (Value A) → Type 0

module _ {A : Type 0} where
  abbrev pub IsName : Token A → Type 0
  IsName t = same_kind k.Name t.kind ≡ true

  abbrev pub OnPart : List (Value A) → After A → Type 0
  OnPart vs Q = (n : ℕ) (t : Tree A) → Q (part n t ∷ vs)

  abbrev pub OnEnclosed : List (Value A) → After A → Type 0
  OnEnclosed vs Q = Q (nothing ∷ vs) × ((n : ℕ) (t : Tree A) → Q (enclosed n t ∷ vs))

  abbrev pub OnOwner : List (Value A) → After A → Type 0
  OnOwner vs Q = Q (nothing ∷ vs) × ((t : Token A) → IsName t → Q (token t ∷ vs))

  -- where a part stands already, which may grow
  abbrev pub BehindPart : List (Value A) → After A → Type 0
  BehindPart (part n t ∷ vs) Q = OnPart vs Q
  BehindPart vs Q = ⊥

  -- lists that grow
  abbrev pub OnPatterns : List (Value A) → After A → Type 0
  OnPatterns (patterns ps ∷ vs) Q = (qs : List (Pattern (Option A))) → Q (patterns qs ∷ vs)
  OnPatterns vs Q = ⊥

  abbrev pub OnBranches : List (Value A) → After A → Type 0
  OnBranches (branches bs ∷ vs) Q = (cs : List (Branch A)) → Q (branches cs ∷ vs)
  OnBranches vs Q = ⊥

  abbrev pub OnParameters : List (Value A) → After A → Type 0
  OnParameters (parameters ps ∷ vs) Q = (qs : List (Parameter (Option A) (NameUse A))) → Q (parameters qs ∷ vs)
  OnParameters vs Q = ⊥

  abbrev pub OnConstructors : List (Value A) → After A → Type 0
  OnConstructors (constructors cs ∷ vs) Q = (ds : List (Constructor A (Option A) (NameUse A))) → Q (constructors ds ∷ vs)
  OnConstructors vs Q = ⊥

  abbrev pub OnModule : List (Value A) → After A → Type 0
  OnModule (module_so_far b ∷ vs) Q = (c : Module A) → c.name ≡ b.name → Q (module_so_far c ∷ vs)
  OnModule vs Q = ⊥

  abbrev pub OnSymbol : Symbol → List (Value A) → After A → Type 0
  OnSymbol (The s w) vs Q = (t : Token A) → same_kind s t.kind ≡ true → Q (token t ∷ vs)
  OnSymbol (Term n) vs Q = OnPart vs Q
  OnSymbol (Spine n) vs Q = OnPart vs Q
  OnSymbol (Atom n) vs Q = OnPart vs Q
  OnSymbol (ClassAtom n w) vs Q = OnPart vs Q
  OnSymbol (Class n need l) vs Q = OnPart vs Q
  OnSymbol Body vs Q = OnPart vs Q
  OnSymbol Owner vs Q = OnOwner vs Q
  OnSymbol (Annotation n need) vs Q = OnPart vs Q
  OnSymbol (Side n) vs Q = OnEnclosed vs Q
  OnSymbol (KeptTerm n) vs Q = OnEnclosed vs Q
  OnSymbol (TypeGiven n) vs Q = OnPart vs Q
  OnSymbol (Motive n) vs Q = OnPart vs Q
  OnSymbol (MaybeArrow n l) vs Q = BehindPart vs Q
  OnSymbol Projections vs Q = BehindPart vs Q
  OnSymbol Patterns vs Q = OnPatterns vs Q
  OnSymbol (Arguments n) vs Q = BehindPart vs Q
  OnSymbol (TypeArguments n) vs Q = BehindPart vs Q
  OnSymbol (Branches n) vs Q = OnBranches vs Q
  OnSymbol Imports vs Q = OnModule vs Q
  OnSymbol Items vs Q = OnModule vs Q
  OnSymbol (Parameters n) vs Q = OnParameters vs Q
  OnSymbol (Constructors n) vs Q = OnConstructors vs Q

  -- ---- what may be left out

  part_ends : (vs : List (Value A)) (Q : After A) → BehindPart vs Q → Q vs
  part_ends (part n t ∷ vs) Q h = h n t
  part_ends vs Q h = absurd h

  patterns_end : (vs : List (Value A)) (Q : After A) → OnPatterns vs Q → Q vs
  patterns_end (patterns ps ∷ vs) Q h = h ps
  patterns_end vs Q h = absurd h

  branches_end : (vs : List (Value A)) (Q : After A) → OnBranches vs Q → Q vs
  branches_end (branches bs ∷ vs) Q h = h bs
  branches_end vs Q h = absurd h

  parameters_end : (vs : List (Value A)) (Q : After A) → OnParameters vs Q → Q vs
  parameters_end (parameters ps ∷ vs) Q h = h ps
  parameters_end vs Q h = absurd h

  constructors_end : (vs : List (Value A)) (Q : After A) → OnConstructors vs Q → Q vs
  constructors_end (constructors cs ∷ vs) Q h = h cs
  constructors_end vs Q h = absurd h

  module_end : (vs : List (Value A)) (Q : After A) → OnModule vs Q → Q vs
  module_end (module_so_far b ∷ vs) Q h = h b refl
  module_end vs Q h = absurd h

  pub left_on : (s : Symbol) (vs : List (Value A)) (Q : After A) → ¬ (leaving s ≡ MustStand) → OnSymbol s vs Q → Q (left_out (leaving s) vs)
  left_on Owner vs Q n h = h.0
  left_on (Annotation c need) vs Q n h = h 0 (none nowhere)
  left_on (Side c) vs Q n h = h.0
  left_on (KeptTerm c) vs Q n h = h.0
  left_on (TypeGiven c) vs Q n h = h 0 (none nowhere)
  left_on (Motive c) vs Q n h = h 0 (none nowhere)
  left_on (MaybeArrow c l) vs Q n h = part_ends vs Q h
  left_on Projections vs Q n h = part_ends vs Q h
  left_on Patterns vs Q n h = patterns_end vs Q h
  left_on (Arguments c) vs Q n h = part_ends vs Q h
  left_on (TypeArguments c) vs Q n h = part_ends vs Q h
  left_on (Branches c) vs Q n h = branches_end vs Q h
  left_on Imports vs Q n h = module_end vs Q h
  left_on Items vs Q n h = module_end vs Q h
  left_on (Parameters c) vs Q n h = parameters_end vs Q h
  left_on (Constructors c) vs Q n h = constructors_end vs Q h
  left_on s vs Q n h = absurd (n refl)

module _ {A B : Type 0} (f : A → B) (other : B) (h : Given B) where
  -- the same, where names are what those of the other stand for
  abbrev pub before : Given A
  before = record { text = λ x. h.text (f x); module_name = h.module_name; end = h.end }

  -- it is made, and tested, alike
  abbrev pub IsMadeAlike : Making → List (Value A) → Type 0
  IsMadeAlike m vs = made h.text m (map (anew f other) vs) ≡ map (anew f other) (made before.text m vs)

  abbrev pub IsTestedAlike : Test → List (Value A) → Type 0
  IsTestedAlike q vs = (at : ℕ) → complaint h q at (map (anew f other) vs) ≡ complaint before q at vs

  abbrev pub OnWant : Want → List (Value A) → After A → Type 0
  OnWant (Test_ q) vs Q = IsTestedAlike q vs × ((at : ℕ) → complaint before q at vs ≡ None → Q vs)
  OnWant (Make m) vs Q = IsMadeAlike m vs × Q (made before.text m vs)
  OnWant (Read s) vs Q = OnSymbol s vs Q

  abbrev pub OnWants : List Want → List (Value A) → After A → Type 0
  OnWants [] vs Q = Q vs
  OnWants (w ∷ ws) vs Q = OnWant w vs (λ us. OnWants ws us Q)

  -- where the symbol begins so
  abbrev pub OnRow : Row → List (Value A) → After A → Type 0
  OnRow None vs Q = Unit {0}
  OnRow (Some ws) vs Q = OnWants ws vs Q

  wants_append : (ws xs : List Want) (vs : List (Value A)) (Q : After A) → OnWants ws vs (λ us. OnWants xs us Q) ≡ OnWants (ws ++ xs) vs Q
  wants_append [] xs vs Q = refl
  wants_append (w ∷ ws) xs vs Q = λ i. OnWant w vs (λ us. wants_append ws xs us Q i)

  pub wants_on : (ws xs : List Want) (vs : List (Value A)) (Q : After A) → OnWants ws vs (λ us. OnWants xs us Q) → OnWants (ws ++ xs) vs Q
  wants_on ws xs vs Q o = subst (λ (P : Type 0). P) (wants_append ws xs vs Q) o

  pub row_on : (r : Row) (ws : List Want) (vs : List (Value A)) (Q : After A) → OnRow r vs (λ us. OnWants ws us Q) → OnRow (r ▸ ws) vs Q
  row_on None ws vs Q o = tt
  row_on (Some us) ws vs Q o = wants_on us ws vs Q o

  pub raised_on : (n : ℕ) (r : Row) (vs : List (Value A)) (Q : After A) → OnRow r vs Q → OnRow (raised n r) vs Q
  unfolding complaint
  raised_on n None vs Q o = tt
  raised_on n (Some ws) vs Q o = (λ at. refl, λ at ok. o)

  pub only_on : (b : Bool) (ws : List Want) (vs : List (Value A)) (Q : After A) → (b ≡ true → OnWants ws vs Q) → OnRow (only b ws) vs Q
  only_on true ws vs Q o = o refl
  only_on false ws vs Q o = tt

  pub counted_on : (l : Option ℕ) (ws : List Want) (vs : List (Value A)) (Q : After A) → OnWants ws vs Q → OnWants (counted l ++ ws) vs Q
  unfolding complaint
  counted_on None ws vs Q o = o
  counted_on (Some n) ws vs Q o = (λ at. refl, λ at ok. o)

  pub behind_type_on : (r : Row) (n : ℕ) (d : Token A) (t : Tree A) (vs : List (Value A)) (Q : After A) → OnRow r (token d ∷ part n t ∷ vs) Q → OnRow (behind_type r) (token d ∷ part n t ∷ vs) Q
  unfolding complaint
  behind_type_on None n d t vs Q o = tt
  behind_type_on (Some ws) n d t vs Q o = (λ at. rw (kind_renamed f t) refl, λ at ok. o)
