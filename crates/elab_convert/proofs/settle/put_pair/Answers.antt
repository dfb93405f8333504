use Rattle.std.proofs.Common.{[], ◌∙◌, ap}
use Rattle.elab_convert.specs.Sides.{stack}
use Rattle.elab_convert.proofs.Settling.{stack_push}
use Rattle.elab_convert.proofs.settle.put_pair.Goals as goal

pub returns : goal.returns
returns c = ap (stack []) c.in_ok-push.ensures.items ∙ stack_push [] c.args.pairs.now.items (record { left = c.args.left; right = c.args.right })
