use Rattle.std.proofs.lemmas.Result.{err_from_is_err_and}
use Rattle.elab_rules.proofs.Asked.{same_meets}
use Rattle.elab_rules.proofs.Steps.{no_memory}
use Rattle.elab_rules.proofs.ask.Rules.is_star.Goals as goal

pub returns-in_err-kind : goal.returns-in_err-kind
returns-in_err-kind c = let p = err_from_is_err_and c.from_residual.result c.from_residual.ensures.1 in rw (p.1, p.2) (no_memory _ _ _)

pub returns-in_err-star : goal.returns-in_err-star
returns-in_err-star c = let p = err_from_is_err_and c.from_residual-in_err-star.result c.from_residual-in_err-star.ensures.1 in rw (p.1, p.2) (no_memory _ _ _)

pub returns : goal.returns
returns c = rw (← c.in_ok-kind.ensures) (rw (← c.in_ok-star.ensures) (same_meets _ _ _ _ _ _ _ _ (c.compared.ensures _ c.convert_kinds.ensures)))
