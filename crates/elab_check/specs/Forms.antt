-- The forms that one function of the code takes together, and the type asked for.
use Rattle.std.specs.Prelude.{List, ◌∷◌, Option, None, Some}
use Rattle.std.specs.Borrow.{Bor}
use Rattle.cdle_model.specs.Trees.{Tree}
use Rattle.source_model.specs.Source.{Span, SourceBinder, SourceTwo, lam_of, elam_of, app_of, eapp_of, pi_of, all_of, iota_of, bind, two}
use Rattle.cdle_model.specs.Derivation.{Entry, term_of, type_of}
use Rattle.scope_model.specs.Scoped.{Scoped}
use Rattle.elab_model.specs.Questions.{Env, Questions, then}
use Rattle.elab_model.specs.Rules.{check, term}
use Rattle.elab_model.specs.Soundness.{no_encodings}
use Rattle.elab_model.specs.Spines.{Made}
use Rattle.elab_rules.specs.Endings.{Either, over_term, over_type, abstraction_against, type_abstraction_against}
use Rattle.elab_rules.specs.declared.spine.Argument.{Argument}
use Rattle.elab_rules.specs.declared.spine.Argument.TheVariants.{Kept, Erased}
use Rattle.elab_rules.specs.declared.forms.Former.{Former}
use Rattle.elab_rules.specs.declared.forms.Former.TheVariants.{Pi, All, Iota}

abbrev pub lambda : Argument → SourceBinder
lambda Kept = lam_of
lambda Erased = elam_of

-- `λ x : A . t` or `Λ x : A . t`
abbrev pub abstracted : Argument → Span → Scoped → Scoped → Scoped
abstracted j s a t = bind s (lambda j) tt a t

abbrev pub application : Argument → SourceTwo
application Kept = app_of
application Erased = eapp_of

-- `t u` or `t -u`
abbrev pub applies : Argument → Span → Scoped → Scoped → Scoped
applies j s t u = two s (application j) t u

abbrev pub seen_goal : Option (Bor Tree) → Option Tree
seen_goal None = None
seen_goal (Some b) = Some b.now

abbrev pub former : Former → SourceBinder
former Pi = pi_of
former All = all_of
former Iota = iota_of

-- `Π x : A . B`, `∀ x : A . B` or `ι x : A . B`
abbrev pub formed : Former → Span → Scoped → Scoped → Scoped
formed f s a b = bind s (former f) tt a b

-- the body of `Λ x . t` whose variable is not used, against the rest of the product asked for
abbrev pub of_product : Env → List Entry → Span → Scoped → Either → Questions Made
of_product e c s t (over_term d b) = then (check e no_encodings (term_of d ∷ c) t (term e no_encodings (term_of d ∷ c) t) b) (λ t. abstraction_against Erased s d t)
of_product e c s t (over_type d b) = then (check e no_encodings (type_of d ∷ c) t (term e no_encodings (type_of d ∷ c) t) b) (λ t. type_abstraction_against s d t)
