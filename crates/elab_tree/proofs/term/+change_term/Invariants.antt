use Rattle.std.proofs.Common.{◌+◌, ◌*◌, max}
use Rattle.cdle_model.specs.Depth.{depth}
use Rattle.cdle_model.specs.Forms.{pair, phi, rho}
use Rattle.elab_tree.specs.Changes.{weight}
use Rattle.elab_tree.proofs.term.+change_term.Given as goal

abbrev pub decreases-ETerm::change : goal.decreases-ETerm::change
decreases-ETerm::change l = weight l.change.now + 3 * depth l.self.now + 3

abbrev pub decreases-EType::change : goal.decreases-EType::change
decreases-EType::change l = weight l.change.now + 3 * depth l.self.now + 3

abbrev pub decreases-EKind::change : goal.decreases-EKind::change
decreases-EKind::change l = weight l.change.now + 3 * depth l.self.now + 3

abbrev pub decreases-ETerm::change_rho : goal.decreases-ETerm::change_rho
decreases-ETerm::change_rho l = weight l.change.now + 3 * depth (rho l.proof.now l.guide.now l.ty.now l.part.now) + 2

abbrev pub decreases-ETerm::change_pair : goal.decreases-ETerm::change_pair
decreases-ETerm::change_pair l = weight l.change.now + 3 * depth (pair l.left.now l.right.now l.ty.now) + 2

abbrev pub decreases-ETerm::change_phi : goal.decreases-ETerm::change_phi
decreases-ETerm::change_phi l = weight l.change.now + 3 * depth (phi l.proof.now l.part.now l.kept.now) + 2

abbrev pub decreases-ETerm::change_two : goal.decreases-ETerm::change_two
decreases-ETerm::change_two l = weight l.change.now + 3 * max (depth l.self.now) (depth l.other.now) + 4

abbrev pub decreases-EType::change_two : goal.decreases-EType::change_two
decreases-EType::change_two l = weight l.change.now + 3 * max (depth l.self.now) (depth l.other.now) + 4

abbrev pub decreases-EType::change_typed : goal.decreases-EType::change_typed
decreases-EType::change_typed l = weight l.change.now + 3 * max (depth l.self.now) (depth l.other.now) + 4

abbrev pub decreases-EType::change_at : goal.decreases-EType::change_at
decreases-EType::change_at l = weight l.change.now + 3 * max (depth l.self.now) (depth l.arg.now) + 4

abbrev pub decreases-EKind::change_xlam : goal.decreases-EKind::change_xlam
decreases-EKind::change_xlam l = weight l.change.now + 3 * max (depth l.self.now) (depth l.part.now) + 4

abbrev pub decreases-EKind::change_over : goal.decreases-EKind::change_over
decreases-EKind::change_over l = weight l.change.now + 3 * max (depth l.self.now) (depth l.part.now) + 4

abbrev pub decreases-ETerm::variable : goal.decreases-ETerm::variable
decreases-ETerm::variable l = weight l.change.now + 1

abbrev pub decreases-EType::variable : goal.decreases-EType::variable
decreases-EType::variable l = weight l.change.now + 1

abbrev pub decreases-EType::hole : goal.decreases-EType::hole
decreases-EType::hole l = weight l.change.now + 1

abbrev pub decreases-ETerm::raised : goal.decreases-ETerm::raised
decreases-ETerm::raised l = 12292

abbrev pub decreases-EType::raised : goal.decreases-EType::raised
decreases-EType::raised l = 12292
