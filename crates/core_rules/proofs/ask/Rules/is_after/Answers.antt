use Rattle.std.proofs.lemmas.Result.{err_from_is_err_and}
use Rattle.core_rules.proofs.Results.{limited_fault}
use Rattle.core_rules.proofs.ask.Rules.is_after.Goals as goal

pub returns-in_err-after : goal.returns-in_err-after
returns-in_err-after c = let p = err_from_is_err_and c.from_residual.result c.from_residual.ensures.1 in rw (p.1, p.2) (λ q. limited_fault _ _ _ _ _ c.in_err-after.ensures)
