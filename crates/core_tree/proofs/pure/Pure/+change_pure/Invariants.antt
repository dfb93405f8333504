use Rattle.std.proofs.Common.{◌+◌, ◌*◌}
use Rattle.cdle_model.specs.Depth.{depth}
use Rattle.core_tree.specs.Changes.{weight}
use Rattle.core_tree.proofs.pure.Pure.+change_pure.Given as goal

abbrev pub decreases-change : goal.decreases-change
decreases-change l = weight l.change.now + 2 * depth l.self.now + 2

abbrev pub decreases-raised_part : goal.decreases-raised_part
decreases-raised_part l = weight l.change.now

abbrev pub decreases-variable : goal.decreases-variable
decreases-variable l = weight l.change.now + 1
