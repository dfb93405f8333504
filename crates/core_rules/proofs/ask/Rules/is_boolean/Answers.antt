use Rattle.std.proofs.Common.{refl}
use Rattle.std.proofs.lemmas.Result.{err_from_is_err_and}
use Rattle.cdle_model.specs.Check.{not_booleans}
use Rattle.core_rules.proofs.Asked.{has_same, has_fault, has_not}
use Rattle.core_rules.proofs.Results.{no_memory}
use Rattle.core_rules.proofs.ask.Rules.is_boolean.Goals as goal

pub returns-in_err-left : goal.returns-in_err-left
returns-in_err-left c = let p = err_from_is_err_and c.from_residual-in_err-left.result c.from_residual-in_err-left.ensures.1 in rw (p.1, p.2) (λ q. no_memory _ _ _)

pub returns-in_err-right : goal.returns-in_err-right
returns-in_err-right c = let p = err_from_is_err_and c.from_residual-in_err-right.result c.from_residual-in_err-right.ensures.1 in rw (p.1, p.2) (λ q. no_memory _ _ _)

pub returns-in_err-same : goal.returns-in_err-same
returns-in_err-same c = let p = err_from_is_err_and c.from_residual.result c.from_residual.ensures.1 in rw (p.1, p.2) (has_fault _ _ _ (not_booleans c.args.left.now.tree c.args.right.now.tree) c.args.side.now.tree c.args.boolean.now.tree c.args.side.now c.args.boolean.now refl refl _ c.in_err-same.ensures)

pub returns-then-branch : goal.returns-then-branch
returns-then-branch c = has_same _ _ _ (not_booleans c.args.left.now.tree c.args.right.now.tree) c.args.side.now.tree c.args.boolean.now.tree c.args.side.now c.args.boolean.now refl refl c.in_ok-same.field-0 c.if-branch.true c.in_ok-same.ensures

pub returns : goal.returns
returns c = has_not _ _ _ (not_booleans c.args.left.now.tree c.args.right.now.tree) c.args.side.now.tree c.args.boolean.now.tree c.args.side.now c.args.boolean.now refl refl c.in_ok-same.field-0 c.if-branch.false c.in_ok-same.ensures c.refusal.result (c.refusal.ensures (not_booleans c.args.left.now.tree c.args.right.now.tree) (c.in_ok-left.ensures, c.in_ok-right.ensures))
