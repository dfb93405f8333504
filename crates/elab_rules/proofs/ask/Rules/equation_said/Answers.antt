use Rattle.std.proofs.lemmas.Result.{err_from_is_err_and}
use Rattle.elab_rules.proofs.Steps.{no_memory}
use Rattle.elab_rules.proofs.ask.Rules.equation_said.Goals as goal

pub returns-in_err-equation_type : goal.returns-in_err-equation_type
returns-in_err-equation_type c = let p = err_from_is_err_and c.from_residual-in_err-equation_type.result c.from_residual-in_err-equation_type.ensures.1 in rw (p.1, p.2) (no_memory _ _ _)
