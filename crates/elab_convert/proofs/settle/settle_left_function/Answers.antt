use Rattle.std.proofs.Common.{◌∷◌, [], ◌∙◌, ap}
use Rattle.elab_convert.specs.Sides.{side_tree, stack}
use Rattle.elab_convert.proofs.Settling.{left_settled}
use Rattle.elab_convert.proofs.settle.settle_left_function.Goals as goal

pub returns : goal.returns
returns c = left_settled c.args.left.now (side_tree c.in_ok-right.right) c.args.root c.args.args.now.items c.args.pairs.now.items c.put_pair.new.pairs.items c.in_ok-right.ensures
    (c.in_ok-put_pair.ensures ∙ ap (λ z. (z, side_tree c.in_ok-right.right) ∷ stack [] c.args.pairs.now.items) c.in_ok-whole.ensures)
