use Rattle.std.proofs.Common.{◌∷◌, [], subst}
use Rattle.std.proofs.lemmas.Result.{err_from_is_err_and}
use Rattle.core_reduce.specs.Sides.{Sided}
use Rattle.core_rules.specs.Questions.{MeetsHeadForm}
use Rattle.core_rules.proofs.Results.{no_memory}
use Rattle.core_rules.proofs.ask.Rules.head_of_type.Goals as goal

pub returns-in_err-side : goal.returns-in_err-side
returns-in_err-side c = let p = err_from_is_err_and c.from_residual.result c.from_residual.ensures.1 in rw (p.1, p.2) (λ k. no_memory _ _ _)

pub returns : goal.returns
returns c = subst (λ (z : Sided). MeetsHeadForm c.args.self.now.items.now c.args.self.now.budget (c.args.number ∷ []) z.class z.tree c.head.result) c.in_ok-side.ensures c.head.ensures
