-- Each call falls: a form's parts are less deep than it, and the steps within a form have the small numbers.
use Rattle.std.proofs.Common.{◌+◌, ◌*◌, max}
use Rattle.cdle_model.specs.Depth.{depth}
use Rattle.cdle_model.specs.Forms.{allt, app, at_, delta, eapp, elam, fst, kpi, kpit, lam, on, pair, phi, pi, rho, snd, tapp, tlam, xlam, xtlam}
use Rattle.core_check.proofs.item.Checker.+infer.Given as goal

abbrev pub decreases-term : goal.decreases-term
decreases-term l = 7 * depth l.term.now + 2

abbrev pub decreases-term_form : goal.decreases-term_form
decreases-term_form l = 7 * depth l.term.now + 1

abbrev pub decreases-abstraction : goal.decreases-abstraction
decreases-abstraction l = 7 * depth (lam l.ty.now l.part.now)

abbrev pub decreases-application : goal.decreases-application
decreases-application l = 7 * depth (app l.head.now l.arg.now)

abbrev pub decreases-ty : goal.decreases-ty
decreases-ty l = 7 * depth l.ty.now + 2

abbrev pub decreases-ty_form : goal.decreases-ty_form
decreases-ty_form l = 7 * depth l.ty.now + 1

abbrev pub decreases-kind_form : goal.decreases-kind_form
decreases-kind_form l = 7 * depth l.kind.now + 1

abbrev pub decreases-dependent : goal.decreases-dependent
decreases-dependent l = 7 * depth (pi l.domain.now l.part.now)

abbrev pub decreases-polymorphic : goal.decreases-polymorphic
decreases-polymorphic l = 7 * depth (allt l.kind.now l.part.now)

abbrev pub decreases-term_function : goal.decreases-term_function
decreases-term_function l = 7 * depth (tlam l.ty.now l.part.now)

abbrev pub decreases-type_function : goal.decreases-type_function
decreases-type_function l = 7 * depth (xtlam l.kind.now l.part.now)

abbrev pub decreases-applied_to_term : goal.decreases-applied_to_term
decreases-applied_to_term l = 7 * depth (at_ l.head.now l.arg.now)

abbrev pub decreases-applied_to_type : goal.decreases-applied_to_type
decreases-applied_to_type l = 7 * depth (on l.head.now l.arg.now)

abbrev pub decreases-term_product : goal.decreases-term_product
decreases-term_product l = 7 * depth (kpi l.domain.now l.part.now)

abbrev pub decreases-type_product : goal.decreases-type_product
decreases-type_product l = 7 * depth (kpit l.domain.now l.part.now)

abbrev pub decreases-erased_abstraction : goal.decreases-erased_abstraction
decreases-erased_abstraction l = 7 * depth (elam l.ty.now l.part.now)

abbrev pub decreases-type_abstraction : goal.decreases-type_abstraction
decreases-type_abstraction l = 7 * depth (xlam l.kind.now l.part.now)

abbrev pub decreases-erased_application : goal.decreases-erased_application
decreases-erased_application l = 7 * depth (eapp l.head.now l.arg.now)

abbrev pub decreases-type_application : goal.decreases-type_application
decreases-type_application l = 7 * depth (tapp l.head.now l.arg.now)

abbrev pub decreases-pair : goal.decreases-pair
decreases-pair l = 7 * depth (pair l.left.now l.right.now l.ty.now)

abbrev pub decreases-first : goal.decreases-first
decreases-first l = 7 * depth (fst l.part.now)

abbrev pub decreases-second : goal.decreases-second
decreases-second l = 7 * depth (snd l.part.now)

abbrev pub decreases-rewriting : goal.decreases-rewriting
decreases-rewriting l = 7 * depth (rho l.proof.now l.guide.now l.ty.now l.part.now)

abbrev pub decreases-cast : goal.decreases-cast
decreases-cast l = 7 * depth (phi l.proof.now l.part.now l.kept.now)

abbrev pub decreases-separation : goal.decreases-separation
decreases-separation l = 7 * depth (delta l.ty.now l.proof.now)

abbrev pub decreases-product_of : goal.decreases-product_of
decreases-product_of l = 7 * depth l.term.now + 3

abbrev pub decreases-equation_of : goal.decreases-equation_of
decreases-equation_of l = 7 * depth l.term.now + 3

abbrev pub decreases-kind_product_of : goal.decreases-kind_product_of
decreases-kind_product_of l = 7 * depth l.ty.now + 3

abbrev pub decreases-is_type : goal.decreases-is_type
decreases-is_type l = 7 * depth l.ty.now + 3

abbrev pub decreases-erased_type : goal.decreases-erased_type
decreases-erased_type l = 7 * depth l.ty.now + 4

abbrev pub decreases-is_kind : goal.decreases-is_kind
decreases-is_kind l = 7 * depth l.kind.now + 2

abbrev pub decreases-erased_kind : goal.decreases-erased_kind
decreases-erased_kind l = 7 * depth l.kind.now + 3

abbrev pub decreases-applied : goal.decreases-applied
decreases-applied l = 7 * depth l.arg.now + 3

abbrev pub decreases-rewritten : goal.decreases-rewritten
decreases-rewritten l = 7 * max (depth l.ty.now) (depth l.part.now) + 5

abbrev pub decreases-part_is_after : goal.decreases-part_is_after
decreases-part_is_after l = 7 * depth l.part.now + 3

abbrev pub decreases-cast_to : goal.decreases-cast_to
decreases-cast_to l = 7 * depth l.part.now + 3

abbrev pub decreases-separates : goal.decreases-separates
decreases-separates l = 7 * depth l.proof.now + 4
