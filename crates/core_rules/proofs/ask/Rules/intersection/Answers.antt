use Rattle.core_rules.proofs.Results.{limited_meets}
use Rattle.core_rules.proofs.ask.Rules.intersection.Goals as goal

pub returns : goal.returns
returns c = c.in_ok-same_in_pair.ensures _ _ (limited_meets _ _ _ _ c.iota.ensures)
