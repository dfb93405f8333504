use Rattle.std.proofs.Common.{◌+◌, ◌*◌, max}
use Rattle.cdle_model.specs.Depth.{depth}
use Rattle.elab_tree.proofs.term.+erase.Given as goal

abbrev pub decreases-EType::erase : goal.decreases-EType::erase
decreases-EType::erase l = 2 * depth l.self.now + 1

abbrev pub decreases-EKind::erase : goal.decreases-EKind::erase
decreases-EKind::erase l = 2 * depth l.self.now + 1

abbrev pub decreases-EType::erase_two : goal.decreases-EType::erase_two
decreases-EType::erase_two l = 2 * max (depth l.self.now) (depth l.other.now) + 2

abbrev pub decreases-EKind::erase_allt : goal.decreases-EKind::erase_allt
decreases-EKind::erase_allt l = 2 * max (depth l.self.now) (depth l.part.now) + 2
