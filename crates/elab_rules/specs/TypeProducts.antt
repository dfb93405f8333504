-- The parts of products over types.
use Rattle.std.specs.Prelude.{Bool, true, false, Option, None, Some}
use Rattle.cdle_model.specs.Trees.{Tree}
use Rattle.cdle_model.specs.Forms.{allt}

-- the parts of a product over types, and nothing of any other tree
abbrev pub type_product : Tree → Option (Tree × Tree)
type_product (allt k b) = Some (k, b)
type_product t = None

abbrev pub is_type_product : Tree → Bool
is_type_product (allt k b) = true
is_type_product t = false
