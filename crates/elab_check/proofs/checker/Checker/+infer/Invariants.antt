-- Each call falls: a form's parts have fewer levels than it, and the steps within a form have the small numbers.
use Rattle.std.proofs.Common.{◌+◌, ◌*◌, max}
use Rattle.scoped_tree.specs.Trees.{levels}
use Rattle.elab_check.proofs.checker.Checker.+infer.Given as goal

abbrev pub decreases-infer : goal.decreases-infer
decreases-infer l = 13 * levels l.node.now + 4

abbrev pub decreases-check : goal.decreases-check
decreases-check l = 13 * levels l.node.now + 4

abbrev pub decreases-term : goal.decreases-term
decreases-term l = 13 * levels l.node.now + 3

abbrev pub decreases-of_two : goal.decreases-of_two
decreases-of_two l = 13 * max (levels l.left.now) (levels l.right.now) + 12

abbrev pub decreases-of_binder : goal.decreases-of_binder
decreases-of_binder l = 13 * max (levels l.domain.now) (levels l.part.now) + 12

abbrev pub decreases-function : goal.decreases-function
decreases-function l = 13 * max (levels l.domain.now) (levels l.part.now) + 9

abbrev pub decreases-abstraction : goal.decreases-abstraction
decreases-abstraction l = 13 * max (levels l.domain.now) (levels l.part.now) + 8

abbrev pub decreases-abstraction_against : goal.decreases-abstraction_against
decreases-abstraction_against l = 13 * max (levels l.domain.now) (levels l.part.now) + 8

abbrev pub decreases-annotation : goal.decreases-annotation
decreases-annotation l = 13 * levels l.domain.now + 7

abbrev pub decreases-function_of_types : goal.decreases-function_of_types
decreases-function_of_types l = 13 * max (levels l.domain.now) (levels l.part.now) + 9

abbrev pub decreases-type_abstraction : goal.decreases-type_abstraction
decreases-type_abstraction l = 13 * max (levels l.domain.now) (levels l.part.now) + 8

abbrev pub decreases-type_abstraction_against : goal.decreases-type_abstraction_against
decreases-type_abstraction_against l = 13 * max (levels l.domain.now) (levels l.part.now) + 8

abbrev pub decreases-type_abstracted : goal.decreases-type_abstracted
decreases-type_abstracted l = 13 * levels l.part.now + 5

abbrev pub decreases-erased_abstracted : goal.decreases-erased_abstracted
decreases-erased_abstracted l = 13 * levels l.part.now + 5

abbrev pub decreases-kind_annotation : goal.decreases-kind_annotation
decreases-kind_annotation l = 13 * levels l.domain.now + 7

abbrev pub decreases-unclassed : goal.decreases-unclassed
decreases-unclassed l = 13 * levels l.part.now + 8

abbrev pub decreases-unclassed_against : goal.decreases-unclassed_against
decreases-unclassed_against l = 13 * levels l.part.now + 7

abbrev pub decreases-unclassed_at : goal.decreases-unclassed_at
decreases-unclassed_at l = 13 * levels l.part.now + 6

abbrev pub decreases-application : goal.decreases-application
decreases-application l = 13 * max (levels l.head.now) (levels l.arg.now) + 9

abbrev pub decreases-head : goal.decreases-head
decreases-head l = 13 * levels l.node.now + 4

abbrev pub decreases-argument : goal.decreases-argument
decreases-argument l = 13 * levels l.arg.now + 5

abbrev pub decreases-type_application : goal.decreases-type_application
decreases-type_application l = 13 * max (levels l.head.now) (levels l.arg.now) + 9

abbrev pub decreases-type_argument : goal.decreases-type_argument
decreases-type_argument l = 13 * levels l.arg.now + 5

abbrev pub decreases-ty : goal.decreases-ty
decreases-ty l = 13 * levels l.node.now + 3

abbrev pub decreases-star : goal.decreases-star
decreases-star l = 13 * levels l.part.now + 4

abbrev pub decreases-type_of_two : goal.decreases-type_of_two
decreases-type_of_two l = 13 * max (levels l.head.now) (levels l.arg.now) + 12

abbrev pub decreases-type_of_binder : goal.decreases-type_of_binder
decreases-type_of_binder l = 13 * max (levels l.domain.now) (levels l.part.now) + 12

abbrev pub decreases-over_term : goal.decreases-over_term
decreases-over_term l = 13 * max (levels l.domain.now) (levels l.part.now) + 9

abbrev pub decreases-over_type : goal.decreases-over_type
decreases-over_type l = 13 * max (levels l.domain.now) (levels l.part.now) + 9

abbrev pub decreases-term_function : goal.decreases-term_function
decreases-term_function l = 13 * max (levels l.domain.now) (levels l.part.now) + 9

abbrev pub decreases-type_function : goal.decreases-type_function
decreases-type_function l = 13 * max (levels l.domain.now) (levels l.part.now) + 9

abbrev pub decreases-type_at_term : goal.decreases-type_at_term
decreases-type_at_term l = 13 * max (levels l.head.now) (levels l.arg.now) + 9

abbrev pub decreases-type_at_type : goal.decreases-type_at_type
decreases-type_at_type l = 13 * max (levels l.head.now) (levels l.arg.now) + 9

abbrev pub decreases-kind : goal.decreases-kind
decreases-kind l = 13 * levels l.node.now + 3

abbrev pub decreases-kind_of_binder : goal.decreases-kind_of_binder
decreases-kind_of_binder l = 13 * max (levels l.domain.now) (levels l.part.now) + 12

abbrev pub decreases-kind_over_term : goal.decreases-kind_over_term
decreases-kind_over_term l = 13 * max (levels l.domain.now) (levels l.part.now) + 9

abbrev pub decreases-kind_over_type : goal.decreases-kind_over_type
decreases-kind_over_type l = 13 * max (levels l.domain.now) (levels l.part.now) + 9

abbrev pub decreases-of_one : goal.decreases-of_one
decreases-of_one l = 13 * levels l.part.now + 12

abbrev pub decreases-proof : goal.decreases-proof
decreases-proof l = 13 * levels l.proof.now + 5

abbrev pub decreases-pair : goal.decreases-pair
decreases-pair l = 13 * max (levels l.left.now) (levels l.right.now) + 11

abbrev pub decreases-pair_against : goal.decreases-pair_against
decreases-pair_against l = 13 * max (levels l.left.now) (levels l.right.now) + 10

abbrev pub decreases-second_part : goal.decreases-second_part
decreases-second_part l = 13 * levels l.right.now + 9

abbrev pub decreases-first_of : goal.decreases-first_of
decreases-first_of l = 13 * levels l.part.now + 11

abbrev pub decreases-second_of : goal.decreases-second_of
decreases-second_of l = 13 * levels l.part.now + 11

abbrev pub decreases-cast : goal.decreases-cast
decreases-cast l = 13 * max (levels l.group.now) (levels l.kept.now) + 11

abbrev pub decreases-cast_by : goal.decreases-cast_by
decreases-cast_by l = 13 * max (levels l.proof.now) (levels l.part.now) + 11

abbrev pub decreases-cast_of : goal.decreases-cast_of
decreases-cast_of l = 13 * max (levels l.proof.now) (levels l.part.now) + 10

abbrev pub decreases-cast_along : goal.decreases-cast_along
decreases-cast_along l = 13 * levels l.part.now + 9

abbrev pub decreases-cast_inferred : goal.decreases-cast_inferred
decreases-cast_inferred l = 13 * levels l.part.now + 8

abbrev pub decreases-cast_against : goal.decreases-cast_against
decreases-cast_against l = 13 * levels l.part.now + 8

abbrev pub decreases-absurdity : goal.decreases-absurdity
decreases-absurdity l = 13 * max (levels l.ty.now) (levels l.proof.now) + 11

abbrev pub decreases-absurd_written : goal.decreases-absurd_written
decreases-absurd_written l = 13 * max (levels l.ty.now) (levels l.proof.now) + 10

abbrev pub decreases-absurd_asked : goal.decreases-absurd_asked
decreases-absurd_asked l = 13 * levels l.proof.now + 7

abbrev pub decreases-absurd_against : goal.decreases-absurd_against
decreases-absurd_against l = 13 * levels l.proof.now + 6

abbrev pub decreases-annotated : goal.decreases-annotated
decreases-annotated l = 13 * max (levels l.ty.now) (levels l.part.now) + 11

abbrev pub decreases-flip : goal.decreases-flip
decreases-flip l = 13 * levels l.proof.now + 11

abbrev pub decreases-guided : goal.decreases-guided
decreases-guided l = 13 * max (levels l.guided.now) (levels l.part.now) + 11

abbrev pub decreases-guided_by : goal.decreases-guided_by
decreases-guided_by l = 13 * max (levels l.proof.now) (levels l.part.now) + 10

abbrev pub decreases-rewriting : goal.decreases-rewriting
decreases-rewriting l = 13 * max (levels l.proof.now) (levels l.part.now) + 9

abbrev pub decreases-rewriting_along : goal.decreases-rewriting_along
decreases-rewriting_along l = 13 * levels l.part.now + 8

abbrev pub decreases-to_equation : goal.decreases-to_equation
decreases-to_equation l = 13 * levels l.part.now + 7

abbrev pub decreases-from_equation : goal.decreases-from_equation
decreases-from_equation l = 13 * levels l.part.now + 6

abbrev pub decreases-to_goal : goal.decreases-to_goal
decreases-to_goal l = 13 * levels l.part.now + 7
