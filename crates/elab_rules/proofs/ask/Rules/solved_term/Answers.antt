use Rattle.std.proofs.Common.{Ok, Err}
use Rattle.elab_model.specs.Instances.{solved_in}
use Rattle.scoped_tree.specs.Trees.{place}
use Rattle.elab_rules.proofs.Closing.{gives_found, limited_gives, limited_stops}
use Rattle.elab_rules.proofs.ask.Rules.solved_term.Goals as goal

pub returns-in-Ok : goal.returns-in-Ok
returns-in-Ok c =
    let h = gives_found c.args.found.now _ c.args.term.now (Ok c.in-Ok.term) c.as_slice.ensures c.in-Ok.ensures in
    limited_gives c.args.self.now.env.now c.args.self.now.budget (place c.args.whole) (solved_in c.args.found.now c.args.term.now) c.in-Ok.term h.0 h.1

pub returns-in-Err : goal.returns-in-Err
returns-in-Err c =
    limited_stops c.args.self.now.env.now c.args.self.now.budget c.args.whole (solved_in c.args.found.now c.args.term.now) c.in-Err.stop c.stopped.result
    (gives_found c.args.found.now _ c.args.term.now (Err c.in-Err.stop) c.as_slice.ensures c.in-Err.ensures) c.stopped.ensures
