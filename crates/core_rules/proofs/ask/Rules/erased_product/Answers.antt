use Rattle.std.proofs.Common.{[], sym, ◌∙◌}
use Rattle.cdle_model.specs.Check.{erased_use}
use Rattle.core_rules.proofs.Results.{limited_meets, refuses}
use Rattle.core_rules.proofs.ask.Rules.erased_product.Goals as goal

pub returns-then-not-erasure_lacks : goal.returns-then-not-erasure_lacks
returns-then-not-erasure_lacks c = rw (sym c.erasure_lacks.ensures ∙ c.if-not-erasure_lacks.true) (refuses _ _ [] erased_use _ (c.refusal.ensures erased_use tt))

pub returns : goal.returns
returns c = rw (sym c.erasure_lacks.ensures ∙ c.if-not-erasure_lacks.false) (limited_meets _ _ _ _ c.all.ensures)
