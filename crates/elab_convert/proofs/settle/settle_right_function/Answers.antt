use Rattle.std.proofs.Common.{◌∷◌, [], ◌∙◌, ap}
use Rattle.elab_convert.specs.Sides.{side_tree, stack}
use Rattle.elab_convert.proofs.Settling.{right_settled}
use Rattle.elab_convert.proofs.settle.settle_right_function.Goals as goal

pub returns : goal.returns
returns c = right_settled c.args.right.now (side_tree c.in_ok-left.left) c.args.root c.args.args.now.items c.args.pairs.now.items c.put_pair.new.pairs.items c.in_ok-left.ensures
    (c.in_ok-put_pair.ensures ∙ ap (λ z. (side_tree c.in_ok-left.left, z) ∷ stack [] c.args.pairs.now.items) c.in_ok-whole.ensures)
