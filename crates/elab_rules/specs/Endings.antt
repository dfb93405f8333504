-- How the rules of the forms end, once their parts are found.
use Rattle.cdle_model.specs.Trees.{Binder, pi_of, all_of, iota_of, Tree, bind}
use Rattle.cdle_model.specs.Forms.{star, pi, all, allt, on, lam, elam, xlam}
use Rattle.cdle_model.specs.Erasure.{erased}
use Rattle.cdle_model.specs.Substitution.{put_written}
use Rattle.std.specs.Prelude.{false}
use Rattle.source_model.specs.Source.{Span}
use Rattle.elab_model.specs.declared.codes.Code.TheVariants.{WantedFunction, WantedKind}
use Rattle.elab_model.specs.ScopedForms.{letter}
use Rattle.elab_model.specs.Questions.{Questions, gives, rejects, ask_head, ask_same}
use Rattle.elab_model.specs.Rules.{either_product, unless_used, gives_inferred, gives_checked, gives_type}
use Rattle.elab_model.specs.Spines.{Typed, Made}
use Rattle.elab_rules.specs.declared.spine.Argument.{Argument}
use Rattle.elab_rules.specs.declared.spine.Argument.TheVariants.{Kept, Erased}
use Rattle.elab_rules.specs.declared.forms.Former.{Former}
use Rattle.elab_rules.specs.declared.forms.Former.TheVariants.{Pi, All, Iota}
use Rattle.elab_rules.specs.declared.forms.Product.{Product}
use Rattle.elab_rules.specs.declared.forms.Product.TheVariants.{OverTerms, OverTypes}

abbrev pub product_of : Former → Binder
product_of Pi = pi_of
product_of All = all_of
product_of Iota = iota_of

-- the parts of a product over terms, or of one over types
pub data Either : Type 0 where
  over_term over_type : Tree → Tree → Either

abbrev pub either_of : Product → Either
either_of (OverTerms a b) = over_term a b
either_of (OverTypes k b) = over_type k b

abbrev pub asks_product : Span → Span → Tree → Questions Either
asks_product s p a = ask_head s p false a (λ h. either_product h (λ d b. gives (over_term d b)) (λ d b. gives (over_type d b)) (rejects p WantedFunction))

-- `λ x : A . t` and `Λ x : A . t`: with a type, and with the type asked for
abbrev pub abstraction : Argument → Span → Tree → Typed → Questions Made
abstraction Kept s d r = gives_inferred s (lam d r.0) (pi d r.1)
abstraction Erased s d r = unless_used (letter s) (erased r.0) (gives_inferred s (elam d r.0) (all d r.1))

abbrev pub abstraction_against : Argument → Span → Tree → Tree → Questions Made
abstraction_against Kept s d t = gives_checked s (lam d t)
abstraction_against Erased s d t = unless_used (letter s) (erased t) (gives_checked s (elam d t))

-- `Λ X : κ . t`
abbrev pub type_abstraction : Span → Tree → Typed → Questions Made
type_abstraction s d r = unless_used (letter s) (erased r.0) (gives_inferred s (xlam d r.0) (allt d r.1))

abbrev pub type_abstraction_against : Span → Tree → Tree → Questions Made
type_abstraction_against s d t = unless_used (letter s) (erased t) (gives_checked s (xlam d t))

-- products and intersections, with their kind
abbrev pub over_terms : Former → Span → Tree → Tree → Questions Typed
over_terms f s a b = gives_type s (bind (product_of f) a b) star

abbrev pub over_types : Span → Tree → Tree → Questions Typed
over_types s k b = gives_type s (allt k b) star

-- `A ·B`, where A has a product of kinds with these parts
abbrev pub type_at_type : Span → Span → Tree → Typed → Typed → Questions Typed
type_at_type s p a ks z = ask_same s p WantedKind (erased z.1) (erased ks.0) (gives_type s (on a z.0) (put_written 0 z.0 ks.1))
