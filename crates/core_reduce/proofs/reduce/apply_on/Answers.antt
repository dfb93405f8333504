use Rattle.std.proofs.Common.{◌++◌, ◌∷◌, [], ◌∙◌, ap, sym, subst, refl}
use Rattle.cdle_model.specs.Trees.{of_type}
use Rattle.cdle_model.specs.Forms.{guide_xtlam}
use Rattle.core_reduce.specs.declared.side.SideClass.TheVariants.{OfType}
use Rattle.core_reduce.specs.Heads.{MeetsStep, as_guide}
use Rattle.core_reduce.proofs.Placing.{on_used, no_on, moving_function, moving_applied}
use Rattle.core_reduce.proofs.reduce.apply_on.Goals as goal

pub pop-requires : goal.pop-requires
pop-requires c e = moving_applied (guide_xtlam c.args.body.now) of_type c.args.body.now c.args.args.now.items refl e c.requires.moves

pub contract_on-requires-clause-used : goal.contract_on-requires-clause-used
contract_on-requires-clause-used c =
    (on_used c.requires.placed.0 (guide_xtlam c.args.body.now) c.args.args.now.items c.pop.new.args.items c.args.body.now c.in-On.arg refl
    (c.pop.ensures ∙ ap (λ z. c.pop.new.args.items ++ z ∷ []) c.in-On.is) c.requires.placed.1).0

pub contract_on-requires-clause-below : goal.contract_on-requires-clause-below
contract_on-requires-clause-below c =
    (on_used c.requires.placed.0 (guide_xtlam c.args.body.now) c.args.args.now.items c.pop.new.args.items c.args.body.now c.in-On.arg refl
    (c.pop.ensures ∙ ap (λ z. c.pop.new.args.items ++ z ∷ []) c.in-On.is) c.requires.placed.1).1

pub unreachable-requires : goal.unreachable-requires
unreachable-requires c =
    moving_function (guide_xtlam c.args.body.now) of_type c.args.body.now c.args.args.now.items c.pop.new.args.items c.pop.result refl
    c.pop.ensures c.requires.moves (no_on c.pop.result c.in_default.not-On)

pub returns-clause-step : goal.returns-clause-step
returns-clause-step c s =
    subst (λ z. MeetsStep s OfType (guide_xtlam c.args.body.now) z c.args.budget.now.left c.pop.new.args.items c.contract_on.new.budget.left (as_guide c.contract_on.result))
    (sym (c.pop.ensures ∙ ap (λ z. c.pop.new.args.items ++ z ∷ []) c.in-On.is)) (c.contract_on.ensures.step s c.pop.new.args.items)
