use Rattle.std.proofs.lemmas.Result.{err_from_is_err_and}
use Rattle.elab_rules.proofs.Steps.{no_memory}
use Rattle.elab_rules.proofs.ask.Rules.leaves_out.Goals as goal

pub returns-in_err-unknown : goal.returns-in_err-unknown
returns-in_err-unknown c = let p = err_from_is_err_and c.from_residual.result c.from_residual.ensures.1 in rw (p.1, p.2) (no_memory _ _ _)

pub returns-in_err-spine : goal.returns-in_err-spine
returns-in_err-spine c = let p = err_from_is_err_and c.from_residual-in_err-spine.result c.from_residual-in_err-spine.ensures.1 in rw (p.1, p.2) (no_memory _ _ _)
