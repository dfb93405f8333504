use Rattle.std.proofs.lemmas.Result.{err_from_is_err_and}
use Rattle.core_rules.proofs.Results.{limited_fault, no_memory}
use Rattle.core_rules.proofs.ask.Rules.paired.Goals as goal

pub returns-in_err-left : goal.returns-in_err-left
returns-in_err-left c = let p = err_from_is_err_and c.from_residual.result c.from_residual.ensures.1 in rw (p.1, p.2) (no_memory _ _ _)

pub returns-in_err-wanted : goal.returns-in_err-wanted
returns-in_err-wanted c = let p = err_from_is_err_and c.from_residual-in_err-wanted.result c.from_residual-in_err-wanted.ensures.1 in rw (p.1, p.2) (rw (← c.in_ok-left.ensures.is) (limited_fault _ _ _ _ _ c.in_err-wanted.ensures))
