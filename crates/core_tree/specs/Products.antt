-- The tree of a product of two guides.
use Rattle.cdle_model.specs.Trees.{Tree}
use Rattle.cdle_model.specs.Forms.{pi, all, iota}
use Rattle.core_tree.specs.declared.product.Product.{Product}
use Rattle.core_tree.specs.declared.product.Product.TheVariants.{Pi, All, Iota}

abbrev pub product_tree : Product → Tree → Tree → Tree
product_tree Pi a b = pi a b
product_tree All a b = all a b
product_tree Iota a b = iota a b
