use Rattle.std.proofs.Common.{[], ap, subst}
use Rattle.std.proofs.lemmas.Result.{err_from_is_err_and}
use Rattle.cdle_model.specs.Trees.{Tree}
use Rattle.core_reduce.specs.Sides.{Sided}
use Rattle.core_rules.specs.Questions.{Passes}
use Rattle.cdle_model.specs.Check.{ask_same, sides_differ}
use Rattle.core_rules.proofs.Results.{no_memory}
use Rattle.core_rules.proofs.ask.Rules.same_in_rho.Goals as goal

pub returns-in_err-left : goal.returns-in_err-left
returns-in_err-left c = let p = err_from_is_err_and c.from_residual.result c.from_residual.ensures.1 in rw (p.1, p.2) (λ q. no_memory _ _ _)

pub returns-in_err-right : goal.returns-in_err-right
returns-in_err-right c = let p = err_from_is_err_and c.from_residual-in_err-right.result c.from_residual-in_err-right.ensures.1 in rw (p.1, p.2) (λ q. no_memory _ _ _)

pub returns : goal.returns
returns c = subst (λ (z : Tree). Passes c.args.self.now.items.now c.args.self.now.budget (ask_same [] (sides_differ z c.args.right.now) z c.args.right.now) c.compare_in_rho.result) (ap (λ (z : Sided). z.tree) c.in_ok-left.ensures) (subst (λ (z : Tree). Passes c.args.self.now.items.now c.args.self.now.budget (ask_same [] (sides_differ c.in_ok-left.left.tree z) c.in_ok-left.left.tree z) c.compare_in_rho.result) (ap (λ (z : Sided). z.tree) c.in_ok-right.ensures) c.compare_in_rho.ensures)
