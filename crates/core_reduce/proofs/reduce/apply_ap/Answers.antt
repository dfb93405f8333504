use Rattle.std.proofs.Common.{◌++◌, ◌∷◌, [], ◌∙◌, ap, sym, subst, refl}
use Rattle.cdle_model.specs.Trees.{of_pure}
use Rattle.cdle_model.specs.Forms.{fn}
use Rattle.core_reduce.specs.declared.side.SideClass.TheVariants.{OfPure}
use Rattle.core_reduce.specs.Heads.{MeetsStep, as_pure}
use Rattle.core_reduce.proofs.Placing.{ap_used, ap_only, moving_applied}
use Rattle.core_reduce.proofs.reduce.apply_ap.Goals as goal

pub pop-requires : goal.pop-requires
pop-requires c e = moving_applied (fn c.args.body.now) of_pure c.args.body.now c.args.args.now.items refl e c.requires.moves

pub contract_ap-requires-clause-used : goal.contract_ap-requires-clause-used
contract_ap-requires-clause-used c =
    (ap_used c.requires.placed.0 (fn c.args.body.now) c.args.args.now.items c.pop.new.args.items c.args.body.now c.in-Ap.arg refl
    (c.pop.ensures ∙ ap (λ z. c.pop.new.args.items ++ z ∷ []) c.in-Ap.is) c.requires.placed.1).0

pub contract_ap-requires-clause-below : goal.contract_ap-requires-clause-below
contract_ap-requires-clause-below c =
    (ap_used c.requires.placed.0 (fn c.args.body.now) c.args.args.now.items c.pop.new.args.items c.args.body.now c.in-Ap.arg refl
    (c.pop.ensures ∙ ap (λ z. c.pop.new.args.items ++ z ∷ []) c.in-Ap.is) c.requires.placed.1).1

pub unreachable-requires : goal.unreachable-requires
unreachable-requires c =
    ap_only c.requires.placed.0 (fn c.args.body.now) c.args.body.now c.args.args.now.items c.pop.new.args.items c.pop.result refl c.pop.ensures c.requires.placed.1 c.in_default.not-Ap

pub returns-clause-step : goal.returns-clause-step
returns-clause-step c s =
    subst (λ z. MeetsStep s OfPure (fn c.args.body.now) z c.args.budget.now.left c.pop.new.args.items c.contract_ap.new.budget.left (as_pure c.contract_ap.result))
    (sym (c.pop.ensures ∙ ap (λ z. c.pop.new.args.items ++ z ∷ []) c.in-Ap.is)) (c.contract_ap.ensures.step s c.pop.new.args.items)
