use Rattle.std.proofs.lemmas.Result.{err_from_is_err_and}
use Rattle.core_rules.proofs.Results.{limited_meets, no_memory}
use Rattle.core_rules.proofs.ask.Rules.kind_at_term.Goals as goal

pub returns-in_err-arg : goal.returns-in_err-arg
returns-in_err-arg c = let p = err_from_is_err_and c.from_residual-in_err-arg.result c.from_residual-in_err-arg.ensures.1 in rw (p.1, p.2) (no_memory _ _ _)

pub returns : goal.returns
returns c = rw (← c.in_ok-arg.ensures.is) (c.in_ok-type_is_side.ensures _ _ (limited_meets _ _ _ _ c.put_term_in_kind.ensures))
