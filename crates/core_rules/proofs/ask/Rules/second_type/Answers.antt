use Rattle.std.proofs.lemmas.Result.{err_from_is_err_and}
use Rattle.core_rules.proofs.Results.{limited_meets, no_memory}
use Rattle.core_rules.proofs.ask.Rules.second_type.Goals as goal

pub returns-in_err-part : goal.returns-in_err-part
returns-in_err-part c = let p = err_from_is_err_and c.from_residual.result c.from_residual.ensures.1 in rw (p.1, p.2) (no_memory _ _ _)

pub returns : goal.returns
returns c = rw (← c.in_ok-part.ensures.is) (limited_meets _ _ _ _ c.put_term_in_type.ensures)
