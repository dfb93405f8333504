use Rattle.elab_convert.proofs.Settling.{functions_settled}
use Rattle.elab_convert.proofs.settle.settle_functions.Goals as goal

pub returns : goal.returns
returns c = functions_settled c.args.left.now c.args.right.now c.args.pairs.now.items c.put_parts.new.pairs.items c.in_ok-put_parts.ensures
