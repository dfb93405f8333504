use Rattle.std.proofs.lemmas.Result.{err_from_is_err_and}
use Rattle.elab_rules.proofs.Steps.{no_memory}
use Rattle.elab_erase.proofs.guide_kind.of_terms.Goals as goal

pub returns-in_err-kpi : goal.returns-in_err-kpi
returns-in_err-kpi c = let p = err_from_is_err_and c.from_residual.result c.from_residual.ensures.1 in rw (p.1, p.2) (λ e n. no_memory e n _)
