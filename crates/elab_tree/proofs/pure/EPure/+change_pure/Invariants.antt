use Rattle.std.proofs.Common.{◌+◌, ◌*◌, max}
use Rattle.cdle_model.specs.Depth.{depth}
use Rattle.elab_tree.specs.Changes.{weight}
use Rattle.elab_tree.proofs.pure.EPure.+change_pure.Given as goal

abbrev pub decreases-change : goal.decreases-change
decreases-change l = weight l.change.now + 3 * depth l.self.now + 3

abbrev pub decreases-change_both : goal.decreases-change_both
decreases-change_both l = weight l.change.now + 3 * max (depth l.self.now) (depth l.other.now) + 4

abbrev pub decreases-variable : goal.decreases-variable
decreases-variable l = weight l.change.now + 1

abbrev pub decreases-raised : goal.decreases-raised
decreases-raised l = 12292
