use Rattle.std.proofs.lemmas.Result.{err_from_is_err_and}
use Rattle.core_rules.proofs.Results.{no_memory}
use Rattle.core_rules.proofs.ask.Rules.are_booleans.Goals as goal

pub returns-in_err-truth : goal.returns-in_err-truth
returns-in_err-truth c = let p = err_from_is_err_and c.from_residual.result c.from_residual.ensures.1 in rw (p.1, p.2) (λ q. no_memory _ _ _)

pub returns-in_err-falsity : goal.returns-in_err-falsity
returns-in_err-falsity c = let p = err_from_is_err_and c.from_residual-in_err-falsity.result c.from_residual-in_err-falsity.ensures.1 in rw (p.1, p.2) (λ q. no_memory _ _ _)
