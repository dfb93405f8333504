use Rattle.std.proofs.lemmas.Result.{err_from_is_err_and}
use Rattle.elab_rules.proofs.Asked.{same_meets}
use Rattle.elab_rules.proofs.Steps.{no_memory}
use Rattle.elab_rules.proofs.ask.Rules.same_types.Goals as goal

pub returns-in_err-left : goal.returns-in_err-left
returns-in_err-left c = let p = err_from_is_err_and c.from_residual.result c.from_residual.ensures.1 in rw (p.1, p.2) (no_memory _ _ _)

pub returns-in_err-right : goal.returns-in_err-right
returns-in_err-right c = let p = err_from_is_err_and c.from_residual-in_err-right.result c.from_residual-in_err-right.ensures.1 in rw (p.1, p.2) (no_memory _ _ _)

pub returns : goal.returns
returns c = rw (← c.in_ok-left.ensures) (rw (← c.in_ok-right.ensures) (same_meets _ _ _ _ _ _ _ _ (c.compared.ensures _ c.convert_types.ensures)))
