-- The rules of forms that the code takes together.
use Rattle.std.proofs.Common.{◌≡◌, List, ◌∷◌, Option, Some, None, refl}
use Rattle.cdle_model.specs.Trees.{Tree}
use Rattle.cdle_model.specs.Derivation.{Entry, term_of}
use Rattle.source_model.specs.Source.{Span}
use Rattle.source_model.specs.Heights.{span_of}
use Rattle.scope_model.specs.Scoped.{Scoped}
use Rattle.elab_model.specs.declared.codes.Code.TheVariants.{WantedFunction, AnnotationWanted}
use Rattle.elab_model.specs.ScopedForms.{letter}
use Rattle.elab_model.specs.SourceErasure.{Encodings}
use Rattle.elab_model.specs.Questions.{Env, Questions, rejects, then}
use Rattle.elab_model.specs.Rules.{term, type, infer, check, head_then, star_then, if_written, if_annotated, agrees_then, binder_then}
use Rattle.elab_model.specs.Spines.{Made, argument}
use Rattle.elab_rules.specs.declared.spine.Argument.{Argument}
use Rattle.elab_rules.specs.declared.spine.Argument.TheVariants.{Kept, Erased}
use Rattle.elab_rules.specs.declared.forms.Former.{Former}
use Rattle.elab_rules.specs.declared.forms.Former.TheVariants.{Pi, All, Iota}
use Rattle.elab_rules.specs.Endings.{abstraction, abstraction_against, over_terms}
use Rattle.elab_rules.specs.Spines.{binder_of, binary_of}
use Rattle.elab_check.specs.Forms.{abstracted, applies, formed}

module _ (e : Env) (f : Encodings) (c : List Entry) where
  -- an abstraction over a term with its annotation; and against the type asked for
  abbrev pub inferred_abstraction : Span → Argument → Scoped → Scoped → Questions Made
  inferred_abstraction s j a t = star_then s a (type e f c a) (λ d. then (infer e f (term_of d ∷ c) t (term e f (term_of d ∷ c) t)) (λ r. abstraction j s d r))

  pub abstraction_is : (j : Argument) (s : Span) (a t : Scoped) (w : Span) → term e f c (abstracted j s a t) None w ≡ if_written a (inferred_abstraction s j a t) (rejects (letter s) AnnotationWanted)
  abstraction_is Kept s a t w = refl
  abstraction_is Erased s a t w = refl

  abbrev pub checked_abstraction : Span → Argument → Scoped → Scoped → Tree → Tree → Questions Made
  checked_abstraction s j a t d b = if_annotated a (λ q. star_then s a (type e f c a) (λ d'. agrees_then s a d' d q)) (then (check e f (term_of d ∷ c) t (term e f (term_of d ∷ c) t) b) (λ t. abstraction_against j s d t))

  pub abstraction_against_is : (j : Argument) (s : Span) (a t : Scoped) (b : Tree) (w : Span) → term e f c (abstracted j s a t) (Some b) w ≡ binder_then s (letter s) WantedFunction (binder_of j) b (checked_abstraction s j a t)
  abstraction_against_is Kept s a t b w = refl
  abstraction_against_is Erased s a t b w = refl

  -- a spine applied to a term
  pub application_is : (j : Argument) (s : Span) (t u : Scoped) (g : Option Tree) (w : Span)
      → term e f c (applies j s t u) g w ≡ head_then e f t (term e f c t) w (argument w (binder_of j) (binary_of j) (span_of u) (infer e f c u (term e f c u)) (check e f c u (term e f c u)))
  application_is Kept s t u g w = refl
  application_is Erased s t u g w = refl

  -- a product or an intersection
  pub formed_is : (h : Former) (s : Span) (a b : Scoped) → type e f c (formed h s a b) ≡ star_then s a (type e f c a) (λ a. star_then s b (type e f (term_of a ∷ c) b) (λ b. over_terms h s a b))
  formed_is Pi s a b = refl
  formed_is All s a b = refl
  formed_is Iota s a b = refl
