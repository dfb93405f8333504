use Rattle.std.proofs.Common.{◌+◌, ◌*◌}
use Rattle.cdle_model.specs.Depth.{depth}
use Rattle.elab_rules.proofs.ask.Rules.+kind_of.Given as goal

abbrev pub decreases-kind_of : goal.decreases-kind_of
decreases-kind_of l = 2 * depth l.ty.now

abbrev pub decreases-term_function_kind : goal.decreases-term_function_kind
decreases-term_function_kind l = 2 * depth l.body.now + 1

abbrev pub decreases-type_function_kind : goal.decreases-type_function_kind
decreases-type_function_kind l = 2 * depth l.body.now + 1

abbrev pub decreases-kind_at_term : goal.decreases-kind_at_term
decreases-kind_at_term l = 2 * depth l.head.now + 1

abbrev pub decreases-kind_at_type : goal.decreases-kind_at_type
decreases-kind_at_type l = 2 * depth l.head.now + 1
