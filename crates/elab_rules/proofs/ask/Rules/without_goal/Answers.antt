use Rattle.elab_rules.proofs.Steps.{given, no_memory}
use Rattle.elab_rules.proofs.ask.Rules.without_goal.Goals as goal

pub returns-in-Checked : goal.returns-in-Checked
returns-in-Checked c = no_memory _ _ _

pub returns-in-Inferred : goal.returns-in-Inferred
returns-in-Inferred c = rw c.in-Inferred.is (given _ _ _)

pub returns : goal.returns
returns c = rw c.in-Spine.is c.closed.ensures
