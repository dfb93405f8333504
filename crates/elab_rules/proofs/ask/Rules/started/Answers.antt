use Rattle.elab_rules.proofs.Steps.{no_memory, given}
use Rattle.elab_rules.proofs.ask.Rules.started.Goals as goal

pub returns-in-Spine : goal.returns-in-Spine
returns-in-Spine c f = rw c.in-Spine.is (given _ _ _)

pub returns-in-Inferred : goal.returns-in-Inferred
returns-in-Inferred c f = rw c.in-Inferred.is (rw (c.new.ensures.items, c.new-in-Inferred.ensures) (given _ _ _))

pub returns : goal.returns
returns c f = no_memory _ _ _
