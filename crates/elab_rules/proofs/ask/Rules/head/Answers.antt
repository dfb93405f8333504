use Rattle.elab_rules.proofs.Asked.{head_meets}
use Rattle.elab_rules.proofs.ask.Rules.head.Goals as goal

pub returns : goal.returns
returns c = head_meets _ _ _ _ _ _ _ (c.headed.ensures _ c.head_type.ensures)
