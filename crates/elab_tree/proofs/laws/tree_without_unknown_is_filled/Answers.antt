use Rattle.elab_tree.proofs.Filled.{nothing_filled}
use Rattle.elab_tree.proofs.laws.tree_without_unknown_is_filled.Goals as goal

pub returns : goal.returns
returns c = nothing_filled
