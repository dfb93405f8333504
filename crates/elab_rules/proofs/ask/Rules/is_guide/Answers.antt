use Rattle.std.proofs.lemmas.Result.{err_from_is_err_and}
use Rattle.elab_rules.proofs.Steps.{no_memory}
use Rattle.elab_rules.proofs.ask.Rules.is_guide.Goals as goal

pub returns-in_err-erased : goal.returns-in_err-erased
returns-in_err-erased c = let p = err_from_is_err_and c.from_residual.result c.from_residual.ensures.1 in rw (p.1, p.2) (no_memory _ _ _)

pub returns : goal.returns
returns c = rw (← c.in_ok-erased.ensures) c.same_guides.ensures
