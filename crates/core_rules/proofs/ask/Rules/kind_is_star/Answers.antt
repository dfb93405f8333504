use Rattle.std.proofs.Common.{◌∷◌, [], Some, ap, subst, sym, ◌∙◌}
use Rattle.std.proofs.lemmas.Result.{err_from_is_err_and}
use Rattle.cdle_model.specs.Trees.{Tree}
use Rattle.cdle_model.specs.Classes.{guide_kinds, item_sorts}
use Rattle.cdle_model.specs.Check.{ask_same, wrong_kind}
use Rattle.core_compare.specs.Answers.{ArePlaced}
use Rattle.core_reduce.specs.Sides.{Sided}
use Rattle.core_rules.specs.Questions.{Passes}
use Rattle.core_rules.proofs.Results.{no_memory}
use Rattle.core_rules.proofs.ask.Rules.kind_is_star.Goals as goal

pub returns-in_err-star : goal.returns-in_err-star
returns-in_err-star c = let p = err_from_is_err_and c.from_residual.result c.from_residual.ensures.1 in rw (p.1, p.2) (λ q. no_memory _ _ _)

pub returns-in_err-wanted : goal.returns-in_err-wanted
returns-in_err-wanted c = let p = err_from_is_err_and c.from_residual-in_err-wanted.result c.from_residual-in_err-wanted.ensures.1 in rw (p.1, p.2) (λ q. no_memory _ _ _)

pub kind_is_side-requires-clause-placed : goal.kind_is_side-requires-clause-placed
kind_is_side-requires-clause-placed c = subst (λ (z : Tree). ArePlaced 4200000000 (item_sorts c.args.self.now.items.now) guide_kinds c.args.found.now z) (sym (ap (λ (z : Sided). z.tree) c.in_ok-wanted.ensures ∙ c.in_ok-star.ensures)) c.requires

pub returns : goal.returns
returns c = subst (λ (z : Tree). Passes c.args.self.now.items.now c.args.self.now.budget (ask_same (c.args.number ∷ []) (wrong_kind c.args.found.now (Some z)) c.args.found.now z) c.kind_is_side.result) (ap (λ (z : Sided). z.tree) c.in_ok-wanted.ensures ∙ c.in_ok-star.ensures) c.kind_is_side.ensures
