use Rattle.std.proofs.Common.{◌+◌, ◌*◌, max}
use Rattle.cdle_model.specs.Depth.{depth}
use Rattle.elab_tree.specs.Changes.{weight}
use Rattle.elab_tree.proofs.guide.+change_guide.Given as goal

abbrev pub decreases-EGuide::change : goal.decreases-EGuide::change
decreases-EGuide::change l = weight l.change.now + 3 * depth l.self.now + 3

abbrev pub decreases-EGuideKind::change : goal.decreases-EGuideKind::change
decreases-EGuideKind::change l = weight l.change.now + 3 * depth l.self.now + 3

abbrev pub decreases-EGuide::change_two : goal.decreases-EGuide::change_two
decreases-EGuide::change_two l = weight l.change.now + 3 * max (depth l.self.now) (depth l.other.now) + 4

abbrev pub decreases-EGuideKind::change_allt : goal.decreases-EGuideKind::change_allt
decreases-EGuideKind::change_allt l = weight l.change.now + 3 * max (depth l.self.now) (depth l.part.now) + 4

abbrev pub decreases-EGuide::variable : goal.decreases-EGuide::variable
decreases-EGuide::variable l = weight l.change.now + 1

abbrev pub decreases-EGuide::hole : goal.decreases-EGuide::hole
decreases-EGuide::hole l = weight l.change.now + 1

abbrev pub decreases-EGuide::raised : goal.decreases-EGuide::raised
decreases-EGuide::raised l = 12292
