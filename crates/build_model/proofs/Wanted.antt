-- What is to hold of the values where something is wanted: whatever is read for it, it holds of the values behind it. A part that is read is of the class that is wanted.
use Rattle.std.proofs.Common.{◌≡◌, ℕ, Bool, true, false, cond, List, [], ◌∷◌, ◌++◌, ◌⊎◌, Option, Some, None, refl, subst}
use Rattle.cdle_model.specs.Classes.{terms, types, kinds}
use Rattle.source_model.specs.Source.{Tree, Module, Pattern, Parameter, Constructor, NameUse}
use Rattle.source_model.specs.Heights.{is_kind, is_none}
use Rattle.source_model.specs.Grammar.{Token, Branch, Value, token, part, enclosed, nothing, patterns, branches, parameters, constructors, module_so_far, Need, of_type, IsType, Fits, HeadIsType, Symbol, The, Term, Spine, Atom, ClassAtom, Class, Body, Owner, Annotation, Side, KeptTerm, TypeGiven, Motive, MaybeArrow, Projections, Patterns, Arguments, TypeArguments, Branches, Imports, Items, Parameters, Constructors, Want, Test_, Make, Read}
use Rattle.source_model.specs.Rows.{Row, ◌▸◌, only, raised, behind_type, counted, body_is_type}
use Rattle.source_model.specs.Made.{made}
use Rattle.source_model.specs.Parsing.{Fault, Given, complaint}
use Rattle.build_model.proofs.Forms.{HasForm, HaveForms}

-- a type or a kind
abbrev pub IsClass : {A : Type 0} → Bool → Tree A → Type 0
IsClass true t = HasForm kinds t
IsClass false t = HasForm types t

abbrev pub IsBody : {A : Type 0} → Bool → Tree A → Type 0
IsBody true t = IsClass (is_kind t) t
IsBody false t = HasForm terms t

abbrev pub IsAnnotation : {A : Type 0} → Need → Tree A → Type 0
IsAnnotation of_type t = HasForm types t
IsAnnotation need t = IsClass (is_kind t) t

-- what is to hold of values
abbrev pub After : Type 0 → Type 1
After A = List (Value A) → Type 0

module _ {A : Type 0} where
  abbrev pub OnTerm : List (Value A) → After A → Type 0
  OnTerm vs Q = (f : ℕ) (t : Tree A) → HasForm terms t → Q (part f t ∷ vs)

  abbrev pub OnClass : List (Value A) → After A → Type 0
  OnClass vs Q = (f : ℕ) (t : Tree A) → IsClass (is_kind t) t → Q (part f t ∷ vs)

  -- a part that may be left out
  abbrev pub OnOption : (Tree A → Type 0) → List (Value A) → After A → Type 0
  OnOption P vs Q = (f : ℕ) (t : Tree A) → (is_none t ≡ true) ⊎ P t → Q (part f t ∷ vs)

  abbrev pub OnEnclosed : List (Value A) → After A → Type 0
  OnEnclosed vs Q = Q (nothing ∷ vs) × ((n : ℕ) (t : Tree A) → HasForm terms t → Q (enclosed n t ∷ vs))

  abbrev pub OnOwner : List (Value A) → After A → Type 0
  OnOwner vs Q = Q (nothing ∷ vs) × ((t : Token A) → Q (token t ∷ vs))

  -- where a term, or a class, stands already, which may grow
  abbrev pub BehindTerm : List (Value A) → After A → Type 0
  BehindTerm (part f t ∷ vs) Q = HasForm terms t × OnTerm vs Q
  BehindTerm vs Q = ⊥

  abbrev pub BehindClass : List (Value A) → After A → Type 0
  BehindClass (part f t ∷ vs) Q = IsClass (is_kind t) t × OnClass vs Q
  BehindClass vs Q = ⊥

  -- lists that grow
  abbrev pub OnPatterns : List (Value A) → After A → Type 0
  OnPatterns (patterns ps ∷ vs) Q = (qs : List (Pattern (Option A))) → Q (patterns qs ∷ vs)
  OnPatterns vs Q = ⊥

  abbrev pub OnBranches : List (Value A) → After A → Type 0
  OnBranches (branches bs ∷ vs) Q = (cs : List (Branch A)) → Q (branches cs ∷ vs)
  OnBranches vs Q = ⊥

  abbrev pub OnParameters : List (Value A) → After A → Type 0
  OnParameters (parameters ps ∷ vs) Q = (qs : List (Parameter (Option A) (NameUse A))) → Q (parameters qs ∷ vs)
  OnParameters vs Q = ⊥

  abbrev pub OnConstructors : List (Value A) → After A → Type 0
  OnConstructors (constructors cs ∷ vs) Q = (ds : List (Constructor A (Option A) (NameUse A))) → Q (constructors ds ∷ vs)
  OnConstructors vs Q = ⊥

  abbrev pub OnModule : List (Value A) → After A → Type 0
  OnModule (module_so_far b ∷ vs) Q = HaveForms b.items × ((c : Module A) → HaveForms c.items → Q (module_so_far c ∷ vs))
  OnModule vs Q = ⊥

  abbrev pub OnSymbol : Symbol → List (Value A) → After A → Type 0
  OnSymbol (The s w) vs Q = (t : Token A) → Q (token t ∷ vs)
  OnSymbol (Term n) vs Q = OnTerm vs Q
  OnSymbol (Spine n) vs Q = OnTerm vs Q
  OnSymbol (Atom n) vs Q = OnTerm vs Q
  OnSymbol (ClassAtom n w) vs Q = OnClass vs Q
  OnSymbol (Class n need l) vs Q = OnClass vs Q
  OnSymbol Body vs Q = (f : ℕ) (t : Tree A) → IsBody (body_is_type vs) t → Q (part f t ∷ vs)
  OnSymbol Owner vs Q = OnOwner vs Q
  OnSymbol (Annotation n need) vs Q = OnOption (IsAnnotation need) vs Q
  OnSymbol (Side n) vs Q = OnEnclosed vs Q
  OnSymbol (KeptTerm n) vs Q = OnEnclosed vs Q
  OnSymbol (TypeGiven n) vs Q = OnOption (HasForm types) vs Q
  OnSymbol (Motive n) vs Q = (f : ℕ) (t : Tree A) → Q (part f t ∷ vs)
  OnSymbol (MaybeArrow n l) vs Q = BehindClass vs Q
  OnSymbol Projections vs Q = BehindTerm vs Q
  OnSymbol Patterns vs Q = OnPatterns vs Q
  OnSymbol (Arguments n) vs Q = BehindTerm vs Q
  OnSymbol (TypeArguments n) vs Q = BehindClass vs Q
  OnSymbol (Branches n) vs Q = OnBranches vs Q
  OnSymbol Imports vs Q = OnModule vs Q
  OnSymbol Items vs Q = OnModule vs Q
  OnSymbol (Parameters n) vs Q = OnParameters vs Q
  OnSymbol (Constructors n) vs Q = OnConstructors vs Q

  -- a class that is not a kind is a type
  pub as_type : (t : Tree A) → IsClass (is_kind t) t → is_kind t ≡ false → HasForm types t
  as_type t h e = subst (λ (b : Bool). IsClass b t) e h

  module _ (g : Given A) where
    abbrev pub OnWant : Want → List (Value A) → After A → Type 0
    OnWant (Test_ q) vs Q = (at : ℕ) → complaint g q at vs ≡ None → Q vs
    OnWant (Make f) vs Q = Q (made g.text f vs)
    OnWant (Read s) vs Q = OnSymbol s vs Q

    abbrev pub OnWants : List Want → List (Value A) → After A → Type 0
    OnWants [] vs Q = Q vs
    OnWants (w ∷ ws) vs Q = OnWant w vs (λ us. OnWants ws us Q)

    -- where the symbol begins so
    abbrev pub OnRow : Row → List (Value A) → After A → Type 0
    OnRow None vs Q = Unit {0}
    OnRow (Some ws) vs Q = OnWants ws vs Q

    wants_append : (ws xs : List Want) (vs : List (Value A)) (Q : After A) → OnWants ws vs (λ us. OnWants xs us Q) ≡ OnWants (ws ++ xs) vs Q
    wants_append [] xs vs Q = refl
    wants_append (w ∷ ws) xs vs Q = λ i. OnWant w vs (λ us. wants_append ws xs us Q i)

    pub wants_on : (ws xs : List Want) (vs : List (Value A)) (Q : After A) → OnWants ws vs (λ us. OnWants xs us Q) → OnWants (ws ++ xs) vs Q
    wants_on ws xs vs Q h = subst (λ (P : Type 0). P) (wants_append ws xs vs Q) h

    pub row_on : (r : Row) (ws : List Want) (vs : List (Value A)) (Q : After A) → OnRow r vs (λ us. OnWants ws us Q) → OnRow (r ▸ ws) vs Q
    row_on None ws vs Q h = tt
    row_on (Some us) ws vs Q h = wants_on us ws vs Q h

    pub raised_on : (n : ℕ) (r : Row) (vs : List (Value A)) (Q : After A) → OnRow r vs Q → OnRow (raised n r) vs Q
    raised_on n None vs Q h = tt
    raised_on n (Some ws) vs Q h = λ at e. h

    pub only_on : (b : Bool) (ws : List Want) (vs : List (Value A)) (Q : After A) → OnWants ws vs Q → OnRow (only b ws) vs Q
    only_on true ws vs Q h = h
    only_on false ws vs Q h = tt

    pub counted_on : (l : Option ℕ) (ws : List Want) (vs : List (Value A)) (Q : After A) → OnWants ws vs Q → OnWants (counted l ++ ws) vs Q
    counted_on None ws vs Q h = h
    counted_on (Some n) ws vs Q h = λ at e. h

    -- ---- tests

    not_kind : (b : Bool) (f : Fault) → cond b (Some f) None ≡ None → b ≡ false
    not_kind true f e = absurd cc
    not_kind false f e = refl

    pub type_is : (f at : ℕ) (t : Tree A) (vs : List (Value A)) → complaint g IsType at (part f t ∷ vs) ≡ None → is_kind t ≡ false
    unfolding complaint
    type_is f at t vs e = not_kind (is_kind t) _ e

    pub head_is : (f at : ℕ) (d : Token A) (t : Tree A) (vs : List (Value A)) → complaint g HeadIsType at (token d ∷ part f t ∷ vs) ≡ None → is_kind t ≡ false
    unfolding complaint
    head_is f at d t vs e = not_kind (is_kind t) _ e

    both_kinds : (a b : Bool) (f : Fault) → cond a (cond b None (Some f)) None ≡ None → a ≡ true → b ≡ true
    both_kinds true true f e d = refl
    both_kinds true false f e d = absurd cc
    both_kinds false b f e d = absurd cc

    pub fits_is : (f e at : ℕ) (d : Token A) (a b : Tree A) (vs : List (Value A)) → complaint g Fits at (part f b ∷ token d ∷ part e a ∷ vs) ≡ None → is_kind a ≡ true → is_kind b ≡ true
    unfolding complaint
    fits_is f h at d a b vs e k = both_kinds (is_kind a) (is_kind b) _ e k

    pub behind_type_on : (r : Row) (f : ℕ) (d : Token A) (t : Tree A) (vs : List (Value A)) (Q : After A) → (is_kind t ≡ false → OnRow r (token d ∷ part f t ∷ vs) Q) → OnRow (behind_type r) (token d ∷ part f t ∷ vs) Q
    behind_type_on None f d t vs Q h = tt
    behind_type_on (Some ws) f d t vs Q h = λ at e. h (head_is f at d t vs e)
