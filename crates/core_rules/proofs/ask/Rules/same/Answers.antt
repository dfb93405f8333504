use Rattle.std.proofs.Common.{Err, subst}
use Rattle.cdle_model.specs.Derivation.{bodies, signature}
use Rattle.core_compare.specs.Answers.{MeetsCompare}
use Rattle.core_rules.specs.Faults.{path_of}
use Rattle.core_rules.proofs.Asked.{same_meets, apart_meets, same_stops}
use Rattle.core_rules.proofs.ask.Rules.same.Goals as goal

pub returns-in-Ok-Same : goal.returns-in-Ok-Same
returns-in-Ok-Same c = same_meets c.args.self.now.items.now c.args.self.now.budget (path_of c.args.place) c.args.left.now.tree c.args.right.now.tree (rw c.in-Ok-Same.field-0-is at c.in-Ok-Same.ensures.answer)

pub returns-in-Ok-Apart : goal.returns-in-Ok-Apart
returns-in-Ok-Apart c = apart_meets c.args.self.now.items.now c.args.self.now.budget (path_of c.args.place) c.args.left.now.tree c.args.right.now.tree c.in-Ok-Apart.field-0-0 c.in-Ok-Apart.field-0-1 (rw c.in-Ok-Apart.field-0-is at c.in-Ok-Apart.ensures.answer)

pub returns : goal.returns
returns c =
    same_stops c.args.self.now.items.now c.args.self.now.budget (path_of c.args.place) c.args.left.now.tree c.args.right.now.tree c.in-Err.stop c.stopped.result
    (subst (λ z. MeetsCompare (bodies (signature c.args.self.now.items.now)) c.args.left.now.tree c.args.right.now.tree z (Err c.in-Err.stop)) c.new-budget.ensures c.in-Err.ensures.answer) c.stopped.ensures
