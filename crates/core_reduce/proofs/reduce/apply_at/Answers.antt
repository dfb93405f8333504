use Rattle.std.proofs.Common.{◌++◌, ◌∷◌, [], ◌∙◌, ap, sym, subst, refl}
use Rattle.cdle_model.specs.Trees.{of_term}
use Rattle.cdle_model.specs.Forms.{guide_tlam}
use Rattle.core_reduce.specs.declared.side.SideClass.TheVariants.{OfType}
use Rattle.core_reduce.specs.Heads.{MeetsStep, as_guide}
use Rattle.core_reduce.proofs.Placing.{at_used, no_at, moving_function, moving_applied}
use Rattle.core_reduce.proofs.reduce.apply_at.Goals as goal

pub pop-requires : goal.pop-requires
pop-requires c e = moving_applied (guide_tlam c.args.body.now) of_term c.args.body.now c.args.args.now.items refl e c.requires.moves

pub contract_at-requires-clause-used : goal.contract_at-requires-clause-used
contract_at-requires-clause-used c =
    (at_used c.requires.placed.0 (guide_tlam c.args.body.now) c.args.args.now.items c.pop.new.args.items c.args.body.now c.in-At.arg refl
    (c.pop.ensures ∙ ap (λ z. c.pop.new.args.items ++ z ∷ []) c.in-At.is) c.requires.placed.1).0

pub contract_at-requires-clause-below : goal.contract_at-requires-clause-below
contract_at-requires-clause-below c =
    (at_used c.requires.placed.0 (guide_tlam c.args.body.now) c.args.args.now.items c.pop.new.args.items c.args.body.now c.in-At.arg refl
    (c.pop.ensures ∙ ap (λ z. c.pop.new.args.items ++ z ∷ []) c.in-At.is) c.requires.placed.1).1

pub unreachable-requires : goal.unreachable-requires
unreachable-requires c =
    moving_function (guide_tlam c.args.body.now) of_term c.args.body.now c.args.args.now.items c.pop.new.args.items c.pop.result refl
    c.pop.ensures c.requires.moves (no_at c.pop.result c.in_default.not-At)

pub returns-clause-step : goal.returns-clause-step
returns-clause-step c s =
    subst (λ z. MeetsStep s OfType (guide_tlam c.args.body.now) z c.args.budget.now.left c.pop.new.args.items c.contract_at.new.budget.left (as_guide c.contract_at.result))
    (sym (c.pop.ensures ∙ ap (λ z. c.pop.new.args.items ++ z ∷ []) c.in-At.is)) (c.contract_at.ensures.step s c.pop.new.args.items)
