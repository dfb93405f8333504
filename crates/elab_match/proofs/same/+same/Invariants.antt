use Rattle.std.proofs.Common.{◌+◌, ◌*◌, max}
use Rattle.cdle_model.specs.Depth.{depth}
use Rattle.elab_match.proofs.same.+same.Given as goal

abbrev pub decreases-same_guides : goal.decreases-same_guides
decreases-same_guides l = 2 * depth l.left.now + 1

abbrev pub decreases-same_guide_kinds : goal.decreases-same_guide_kinds
decreases-same_guide_kinds l = 2 * depth l.left.now + 1

abbrev pub decreases-same_both : goal.decreases-same_both
decreases-same_both l = 2 * max (depth l.first.now) (depth l.second.now) + 2

abbrev pub decreases-same_kinded : goal.decreases-same_kinded
decreases-same_kinded l = 2 * max (depth l.domain.now) (depth l.part.now) + 2

abbrev pub decreases-same_applied : goal.decreases-same_applied
decreases-same_applied l = 2 * depth l.head.now + 2
