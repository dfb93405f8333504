use Rattle.std.proofs.Common.{◌+◌, ◌*◌}
use Rattle.cdle_model.specs.Depth.{depth}
use Rattle.cdle_model.specs.Forms.{allt, at_}
use Rattle.core_tree.specs.Products.{product_tree}
use Rattle.core_tree.proofs.term.+erase.Given as goal

abbrev pub decreases-Ty::erase : goal.decreases-Ty::erase
decreases-Ty::erase l = 2 * depth l.self.now + 1

abbrev pub decreases-Kind::erase : goal.decreases-Kind::erase
decreases-Kind::erase l = 2 * depth l.self.now + 1

abbrev pub decreases-Ty::erase_product : goal.decreases-Ty::erase_product
decreases-Ty::erase_product l = 2 * depth (product_tree l.product l.domain.now l.part.now)

abbrev pub decreases-Ty::erase_allt : goal.decreases-Ty::erase_allt
decreases-Ty::erase_allt l = 2 * depth (allt l.domain.now l.part.now)

abbrev pub decreases-Ty::erase_at : goal.decreases-Ty::erase_at
decreases-Ty::erase_at l = 2 * depth (at_ l.head.now l.arg.now)
