use Rattle.std.proofs.Common.{◌+◌, ◌*◌}
use Rattle.cdle_model.specs.Depth.{depth}
use Rattle.cdle_model.specs.Forms.{allt, at_, kpi, kpit, on}
use Rattle.core_tree.specs.Changes.{weight}
use Rattle.core_tree.specs.Products.{product_tree}
use Rattle.core_tree.proofs.guide.+change_guide.Given as goal

abbrev pub decreases-Guide::change : goal.decreases-Guide::change
decreases-Guide::change l = weight l.change.now + 2 * depth l.self.now + 2

abbrev pub decreases-GuideKind::change : goal.decreases-GuideKind::change
decreases-GuideKind::change l = weight l.change.now + 2 * depth l.self.now + 2

abbrev pub decreases-Guide::change_product : goal.decreases-Guide::change_product
decreases-Guide::change_product l = weight l.change.now + 2 * depth (product_tree l.product l.domain.now l.part.now) + 1

abbrev pub decreases-Guide::raised_part : goal.decreases-Guide::raised_part
decreases-Guide::raised_part l = weight l.change.now

abbrev pub decreases-Guide::variable : goal.decreases-Guide::variable
decreases-Guide::variable l = weight l.change.now + 1

abbrev pub decreases-Guide::change_allt : goal.decreases-Guide::change_allt
decreases-Guide::change_allt l = weight l.change.now + 2 * depth (allt l.domain.now l.part.now) + 1

abbrev pub decreases-Guide::change_at : goal.decreases-Guide::change_at
decreases-Guide::change_at l = weight l.change.now + 2 * depth (at_ l.head.now l.arg.now) + 1

abbrev pub decreases-Guide::change_on : goal.decreases-Guide::change_on
decreases-Guide::change_on l = weight l.change.now + 2 * depth (on l.head.now l.arg.now) + 1

abbrev pub decreases-GuideKind::change_kpi : goal.decreases-GuideKind::change_kpi
decreases-GuideKind::change_kpi l = weight l.change.now + 2 * depth (kpi l.domain.now l.part.now) + 1

abbrev pub decreases-GuideKind::change_kpit : goal.decreases-GuideKind::change_kpit
decreases-GuideKind::change_kpit l = weight l.change.now + 2 * depth (kpit l.domain.now l.part.now) + 1
