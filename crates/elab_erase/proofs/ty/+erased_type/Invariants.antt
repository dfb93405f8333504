-- Each call falls: a form's parts have fewer levels than it, and the steps within a form have the small numbers.
use Rattle.std.proofs.Common.{◌+◌, ◌*◌, max}
use Rattle.scoped_tree.specs.Trees.{levels}
use Rattle.elab_erase.proofs.ty.+erased_type.Given as goal

abbrev pub decreases-erased_type : goal.decreases-erased_type
decreases-erased_type l = 3 * levels l.node.now

abbrev pub decreases-type_of_two : goal.decreases-type_of_two
decreases-type_of_two l = 3 * max (levels l.left.now) (levels l.right.now) + 2

abbrev pub decreases-type_of_binder : goal.decreases-type_of_binder
decreases-type_of_binder l = 3 * max (levels l.domain.now) (levels l.part.now) + 2

abbrev pub decreases-over_two_types : goal.decreases-over_two_types
decreases-over_two_types l = 3 * max (levels l.left.now) (levels l.right.now) + 1

abbrev pub decreases-product_over_types : goal.decreases-product_over_types
decreases-product_over_types l = 3 * max (levels l.domain.now) (levels l.part.now) + 1

abbrev pub decreases-function_over_terms : goal.decreases-function_over_terms
decreases-function_over_terms l = 3 * levels l.part.now + 1

abbrev pub decreases-function_over_types : goal.decreases-function_over_types
decreases-function_over_types l = 3 * levels l.part.now + 1

abbrev pub decreases-type_at_term : goal.decreases-type_at_term
decreases-type_at_term l = 3 * max (levels l.head.now) (levels l.arg.now) + 1

abbrev pub decreases-erased_kind : goal.decreases-erased_kind
decreases-erased_kind l = 3 * levels l.node.now

abbrev pub decreases-kind_of_binder : goal.decreases-kind_of_binder
decreases-kind_of_binder l = 3 * max (levels l.domain.now) (levels l.part.now) + 2

abbrev pub decreases-kind_over_term : goal.decreases-kind_over_term
decreases-kind_over_term l = 3 * max (levels l.domain.now) (levels l.part.now) + 1

abbrev pub decreases-kind_over_type : goal.decreases-kind_over_type
decreases-kind_over_type l = 3 * max (levels l.domain.now) (levels l.part.now) + 1
