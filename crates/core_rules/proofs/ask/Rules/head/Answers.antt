use Rattle.std.proofs.Common.{Err, subst}
use Rattle.cdle_model.specs.Derivation.{bodies, signature}
use Rattle.core_reduce.specs.Heads.{MeetsHead}
use Rattle.core_rules.specs.Faults.{path_of}
use Rattle.core_rules.proofs.Asked.{head_meets, head_stops}
use Rattle.core_rules.proofs.ask.Rules.head.Goals as goal

pub returns-in-Ok : goal.returns-in-Ok
returns-in-Ok c = head_meets c.args.self.now.items.now c.known.ensures.items c.known.ensures.erasures c.args.self.now.budget (path_of c.args.place) c.args.side.now.class c.args.side.now.tree _ _ c.in-Ok.value c.in-Ok.ensures.form

pub returns-in-Err : goal.returns-in-Err
returns-in-Err c =
    head_stops c.args.self.now.items.now c.args.self.now.budget (path_of c.args.place) c.args.side.now.class c.args.side.now.tree c.head.new.budget.left c.in-Err.stop c.stopped.result
    (subst (λ z. MeetsHead (bodies (signature c.args.self.now.items.now)) c.args.side.now.class c.args.side.now.tree z c.head.new.budget.left (Err c.in-Err.stop)) c.new-budget.ensures c.in-Err.ensures.form) c.stopped.ensures
