use Rattle.std.proofs.Common.{◌+◌, ◌*◌, max}
use Rattle.cdle_model.specs.Depth.{depth}
use Rattle.elab_match.proofs.place.+place.Given as goal

abbrev pub decreases-type_place : goal.decreases-type_place
decreases-type_place l = 4 * depth l.pattern.now + 1

abbrev pub decreases-kind_place : goal.decreases-kind_place
decreases-kind_place l = 4 * depth l.pattern.now + 1

abbrev pub decreases-head_place : goal.decreases-head_place
decreases-head_place l = 4 * depth l.head.now + 2

abbrev pub decreases-applied_place : goal.decreases-applied_place
decreases-applied_place l = 4 * max (depth l.head.now) (depth l.arg.now) + 3

abbrev pub decreases-bound_place : goal.decreases-bound_place
decreases-bound_place l = 4 * max (depth l.domain.now) (depth l.part.now) + 2

abbrev pub decreases-kinded_place : goal.decreases-kinded_place
decreases-kinded_place l = 4 * max (depth l.domain.now) (depth l.part.now) + 2
