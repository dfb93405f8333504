use Rattle.std.proofs.Common.{◌∷◌, [], Some, ap, subst}
use Rattle.std.proofs.lemmas.Result.{err_from_is_err_and}
use Rattle.cdle_model.specs.Trees.{Tree}
use Rattle.core_reduce.specs.Sides.{Sided}
use Rattle.core_rules.specs.Questions.{Passes}
use Rattle.cdle_model.specs.Check.{ask_same, wrong_kind}
use Rattle.core_rules.proofs.Results.{no_memory}
use Rattle.core_rules.proofs.ask.Rules.kind_is_side.Goals as goal

pub returns-in_err-found : goal.returns-in_err-found
returns-in_err-found c = let p = err_from_is_err_and c.from_residual.result c.from_residual.ensures.1 in rw (p.1, p.2) (λ q. no_memory _ _ _)

pub returns : goal.returns
returns c = subst (λ (z : Tree). Passes c.args.self.now.items.now c.args.self.now.budget (ask_same (c.args.number ∷ []) (wrong_kind z (Some c.args.wanted.now.tree)) z c.args.wanted.now.tree) c.compare_kinds.result) (ap (λ (z : Sided). z.tree) c.in_ok-found.ensures) c.compare_kinds.ensures
