use Rattle.std.proofs.Common.{subst}
use Rattle.elab_tree.specs.Answers.{Gives}
use Rattle.elab_rules.proofs.Endings.{made_on, made_stops}
use Rattle.elab_rules.proofs.rewriting.guide_made.Goals as goal

pub returns-in-Ok : goal.returns-in-Ok
returns-in-Ok c k n t h = made_on k n c.args.form t c.in-Ok.guide (subst (Gives t) c.in-Ok.is h)

pub returns-in-Err : goal.returns-in-Err
returns-in-Err c k n t h = made_stops k n c.args.form t c.in-Err.stop c.stopped.result c.stopped.ensures (subst (Gives t) c.in-Err.is h)
