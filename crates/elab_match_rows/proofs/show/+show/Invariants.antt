use Rattle.std.proofs.Common.{◌+◌, ◌*◌, max}
use Rattle.cdle_model.specs.Depth.{depth}
use Rattle.elab_match_rows.proofs.show.+show.Given as goal

abbrev pub decreases-show_type : goal.decreases-show_type
decreases-show_type l = 2 * depth l.tree.now + 1

abbrev pub decreases-show_term : goal.decreases-show_term
decreases-show_term l = 2 * depth l.tree.now + 1

abbrev pub decreases-show_kind : goal.decreases-show_kind
decreases-show_kind l = 2 * depth l.tree.now + 1

abbrev pub decreases-two_types : goal.decreases-two_types
decreases-two_types l = 2 * max (depth l.left.now) (depth l.right.now) + 2

abbrev pub decreases-kind_and_type : goal.decreases-kind_and_type
decreases-kind_and_type l = 2 * max (depth l.domain.now) (depth l.part.now) + 2
