use Rattle.std.proofs.Common.{inr}
use Rattle.elab_convert.proofs.FormerHeads.{kind_is_former}
use Rattle.elab_convert.proofs.Steps.{former_still}
use Rattle.elab_convert.proofs.head.kind_step.Goals as goal

pub returns : goal.returns
returns c s xs n = let k = kind_is_former c.args.kind.now c.known.ensures in former_still s c.args.kind.now xs n k.0 (inr k.1)
