use Rattle.elab_convert.specs.Sides.{erased_tree, root_tree}
use Rattle.elab_convert.proofs.Settling.{applied_is}
use Rattle.elab_convert.proofs.settle.applied.Goals as goal

pub returns : goal.returns
returns c = applied_is (root_tree c.args.root) (erased_tree c.in_ok-head.head) c.args.args.now.items c.in_ok-args.args.items c.in_ok-head.ensures c.in_ok-args.ensures
