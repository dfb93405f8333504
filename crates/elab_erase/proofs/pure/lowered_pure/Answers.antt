use Rattle.scoped_tree.specs.Trees.{place}
use Rattle.elab_rules.proofs.Closing.{limited_gives, limited_stops}
use Rattle.elab_erase.proofs.pure.lowered_pure.Goals as goal

pub returns-in-Ok : goal.returns-in-Ok
returns-in-Ok c e n t g = let h = rw c.in-Ok.is at g in limited_gives e n (place c.args.form) t c.in-Ok.pure h.0 h.1

pub returns-in-Err : goal.returns-in-Err
returns-in-Err c e n t g = limited_stops e n c.args.form t c.in-Err.stop c.stopped.result (rw c.in-Err.is at g) c.stopped.ensures
