-- Each item of a module that tokens say is a definition of a term or a type by its forms.
use Rattle.std.proofs.Common.{◌≡◌, ℕ, List, ◌∷◌, inl, refl, subst}
use Rattle.source_model.specs.Source.{Module, none, nowhere}
use Rattle.source_model.specs.Grammar.{Token, Value, token, part, patterns, branches, parameters, constructors, module_so_far, Symbol, Owner, Annotation, Side, KeptTerm, TypeGiven, Motive, MaybeArrow, Projections, Patterns, Arguments, TypeArguments, Branches, Imports, Items, Parameters, Constructors, Want}
use Rattle.source_model.specs.Rows.{Row, leaving, MustStand}
use Rattle.source_model.specs.Made.{made, left_out}
use Rattle.source_model.specs.Parsing.{Given}
use Rattle.source_model.specs.SurfaceText.{Reads, begins, left, makes, tests, ReadsAll, end, more, Says}
use Rattle.build_model.proofs.Forms.{HaveForms}
use Rattle.build_model.proofs.Wanted.{After, BehindTerm, BehindClass, OnPatterns, OnBranches, OnParameters, OnConstructors, OnModule, OnSymbol, OnWant, OnWants, OnRow}
use Rattle.build_model.proofs.FormedRows.{symbol_on}

module _ {A : Type 0} where
  -- ---- what may be left out

  term_ends : (vs : List (Value A)) (Q : After A) → BehindTerm vs Q → Q vs
  term_ends (part f t ∷ vs) Q h = h.1 f t h.0
  term_ends vs Q h = absurd h

  class_ends : (vs : List (Value A)) (Q : After A) → BehindClass vs Q → Q vs
  class_ends (part f t ∷ vs) Q h = h.1 f t h.0
  class_ends vs Q h = absurd h

  patterns_end : (vs : List (Value A)) (Q : After A) → OnPatterns vs Q → Q vs
  patterns_end (patterns ps ∷ vs) Q h = h ps
  patterns_end vs Q h = absurd h

  branches_end : (vs : List (Value A)) (Q : After A) → OnBranches vs Q → Q vs
  branches_end (branches bs ∷ vs) Q h = h bs
  branches_end vs Q h = absurd h

  parameters_end : (vs : List (Value A)) (Q : After A) → OnParameters vs Q → Q vs
  parameters_end (parameters ps ∷ vs) Q h = h ps
  parameters_end vs Q h = absurd h

  constructors_end : (vs : List (Value A)) (Q : After A) → OnConstructors vs Q → Q vs
  constructors_end (constructors cs ∷ vs) Q h = h cs
  constructors_end vs Q h = absurd h

  module_end : (vs : List (Value A)) (Q : After A) → OnModule vs Q → Q vs
  module_end (module_so_far b ∷ vs) Q h = h.1 b h.0
  module_end vs Q h = absurd h

  left_on : (s : Symbol) (vs : List (Value A)) (Q : After A) → ¬ (leaving s ≡ MustStand) → OnSymbol s vs Q → Q (left_out (leaving s) vs)
  left_on Owner vs Q n h = h.0
  left_on (Annotation c need) vs Q n h = h 0 (none nowhere) (inl refl)
  left_on (Side c) vs Q n h = h.0
  left_on (KeptTerm c) vs Q n h = h.0
  left_on (TypeGiven c) vs Q n h = h 0 (none nowhere) (inl refl)
  left_on (Motive c) vs Q n h = h 0 (none nowhere)
  left_on (MaybeArrow c l) vs Q n h = class_ends vs Q h
  left_on Projections vs Q n h = term_ends vs Q h
  left_on Patterns vs Q n h = patterns_end vs Q h
  left_on (Arguments c) vs Q n h = term_ends vs Q h
  left_on (TypeArguments c) vs Q n h = class_ends vs Q h
  left_on (Branches c) vs Q n h = branches_end vs Q h
  left_on Imports vs Q n h = module_end vs Q h
  left_on Items vs Q n h = module_end vs Q h
  left_on (Parameters c) vs Q n h = parameters_end vs Q h
  left_on (Constructors c) vs Q n h = constructors_end vs Q h
  left_on s vs Q n h = absurd (n refl)

mutual
  want_formed : {A : Type 0} {g : Given A} {w : Want} {at to : ℕ} {ts rest : List (Token A)} {vs us : List (Value A)} → Reads g w at ts vs to rest us → (Q : List (Value A) → Type 0) → OnWant g w vs Q → Q us
  want_formed {g = g} (begins {s = s} {ws = front} {t = t} {vs = vs} r d) Q h = all_formed d Q (subst (λ (f : Row). OnRow g f (token t ∷ vs) Q) r (symbol_on g s t.kind t vs Q h))
  want_formed (left {s = s} {vs = vs} n b) Q h = left_on s vs Q n h
  want_formed makes Q h = h
  want_formed (tests {at = at} e) Q h = h at e

  all_formed : {A : Type 0} {g : Given A} {ws : List Want} {at to : ℕ} {ts rest : List (Token A)} {vs us : List (Value A)} → ReadsAll g ws at ts vs to rest us → (Q : List (Value A) → Type 0) → OnWants g ws vs Q → Q us
  all_formed end Q h = h
  all_formed {g = g} (more {ws = ws} d i) Q h = all_formed i Q (want_formed d (λ us. OnWants g ws us Q) h)

-- what is known of the module that was read
abbrev IsFormed : {A : Type 0} → List (Value A) → Type 0
IsFormed (module_so_far b ∷ vs) = HaveForms b.items
IsFormed vs = Unit {0}

-- for names of any type
pub said_forms : {A : Type 0} (g : Given A) (ts : List (Token A)) (b : Module A) → Says g ts b → HaveForms b.items
unfolding made
said_forms g ts b s = all_formed s.reads IsFormed (λ o. λ x. λ at e. λ d. (tt, λ c p. (p, λ f q. q)))
