use Rattle.elab_rules.proofs.Asked.{same_meets}
use Rattle.elab_rules.proofs.ask.Rules.same_guides.Goals as goal

pub returns : goal.returns
returns c = same_meets _ _ _ _ _ _ _ _ (c.compared.ensures _ c.convert_types.ensures)
