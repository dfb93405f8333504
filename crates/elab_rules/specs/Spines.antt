-- What the code's spines stand for, and the questions at an argument, in the two halves between which the argument is taken.
use Rattle.std.specs.Prelude.{ℕ, suc, false, true, cond, Result}
use Rattle.cdle_model.specs.Trees.{Binder, Binary, pi_of, all_of, allt_of, app_of, eapp_of, tapp_of, Tree}
use Rattle.cdle_model.specs.Erasure.{erased}
use Rattle.cdle_model.specs.HeadForms.{deepest}
use Rattle.source_model.specs.Source.{Span}
use Rattle.elab_model.specs.declared.codes.Code.TheVariants.{WantedFunction, WantedKind}
use Rattle.elab_model.specs.Questions.{Questions, gives, rejects, ask_same, then}
use Rattle.elab_model.specs.Instances.{has_unknown}
use Rattle.elab_model.specs.Spines.{Typed, Spine, Made, checked, inferred, spine, binder_parts, brought, applied, applied_at, refreshed, fits_then}
use Rattle.elab_tree.specs.Known.{Known}
use Rattle.scoped_tree.specs.Trees.{place}
use Rattle.elab_rules.specs.declared.fault.Fault.{Fault}
use Rattle.elab_rules.specs.declared.spine.Argument.{Argument}
use Rattle.elab_rules.specs.declared.spine.Argument.TheVariants.{Kept, Erased}
use Rattle.elab_rules.specs.declared.spine.Spine as code
use Rattle.elab_rules.specs.declared.spine.Made as made
use Rattle.elab_rules.specs.declared.spine.Made.TheVariants as m
use Rattle.elab_rules.specs.declared.spine.Opened as opened_code
use Rattle.elab_rules.specs.declared.spine.OpenedType as opened_type_code
use Rattle.elab_rules.specs.Answers.{Meets, seen}

abbrev pub spine_of : code.Spine → Spine
spine_of s = record { head = place s.head; term = s.term; type = s.ty; kinds = s.kinds.items; solution = s.found }

abbrev pub made_of : made.Made → Made
made_of (m.Checked t) = checked t
made_of (m.Inferred t a) = inferred t a
made_of (m.Spine s) = spine (spine_of s)

-- the product that a spine must have as its type, and the form that it becomes
abbrev pub binder_of : Argument → Binder
binder_of Kept = pi_of
binder_of Erased = all_of

abbrev pub binary_of : Argument → Binary
binary_of Kept = app_of
binary_of Erased = eapp_of

-- a spine whose type so far is a product, with its parts
abbrev pub Open : Type 0
Open = Spine × (Tree × Tree)

abbrev pub open_of : opened_code.Opened → Open
open_of o = (spine_of o.spine, (o.domain, o.range))

abbrev pub open_type_of : opened_type_code.OpenedType → Open
open_type_of o = (spine_of o.spine, (o.kind, o.range))

-- the spine is brought to such a product
abbrev pub opens : Span → Binder → Spine → Questions Open
opens w f s = then (brought (suc deepest) w false s) (λ r. binder_parts f r.type (λ a b. gives (r, (a, b))) (rejects r.head WantedFunction))

abbrev pub opens_type : Span → Spine → Questions Open
opens_type w s = then (brought (suc deepest) w true s) (λ r. binder_parts allt_of r.type (λ k b. gives (r, (k, b))) (rejects r.head WantedFunction))

-- the argument, where the domain has no unknown; and where it has one, with its type
abbrev pub takes : Span → Binary → Open → Tree → Questions Spine
takes w j o u = applied w j u o.1.1 o.0

abbrev pub takes_inferred : Span → Binder → Binary → Span → Open → Typed → Questions Spine
takes_inferred w f j at o x = fits_then w at o.0.solution o.1.0 x.1 (λ os. then (refreshed w o.0 os) (applied_at w f j x.0))

-- the argument that is a type, with its kind
abbrev pub takes_type : Span → Span → Open → Typed → Questions Spine
takes_type w at o x = cond (has_unknown o.1.0) (rejects at WantedKind) (ask_same w at WantedKind (erased x.1) (erased o.1.0) (applied w tapp_of x.0 o.1.1 o.0))

abbrev pub MeetsSpine : Known → ℕ → Questions Spine → Result code.Spine Fault → Type 0
MeetsSpine k n q r = Meets k n q (seen spine_of r)

abbrev pub MeetsMade : Known → ℕ → Questions Made → Result made.Made Fault → Type 0
MeetsMade k n q r = Meets k n q (seen made_of r)
