use Rattle.std.proofs.Common.{subst}
use Rattle.cdle_model.specs.Forms.{star}
use Rattle.cdle_model.proofs.MissingVariable.{lacks-lowered}
use Rattle.elab_tree.specs.Answers.{Gives}
use Rattle.elab_erase.proofs.pure.lower.Goals as goal

pub returns : goal.returns
returns c = subst (λ z. Gives z c.put_pure.result) (lacks-lowered 0 c.args.pure.now star c.args.pure.now c.requires) c.put_pure.ensures
