use Rattle.std.proofs.Common.{refl, subst, sym, Err, [], ◌∷◌, ◌++◌}
use Rattle.cdle_model.specs.Forms.{guide_xtlam}
use Rattle.core_reduce.specs.declared.root.Root.TheVariants as r
use Rattle.core_reduce.specs.declared.root.Arg.TheVariants.{On}
use Rattle.core_reduce.specs.declared.side.SideClass.TheVariants.{OfType}
use Rattle.core_reduce.specs.Heads.{MeetsStep}
use Rattle.core_reduce.proofs.Steps.{none_left, redex_halts, redex_steps, redex_stops}
use Rattle.core_reduce.proofs.reduce.contract_on.Goals as goal

pub returns-then-not-take-clause-step : goal.returns-then-not-take-clause-step
returns-then-not-take-clause-step c s xs = redex_halts s c.args.body.now xs (On c.args.arg.now) c.args.budget.now.left (none_left _ _ c.take.ensures.any.1 c.if-not-take.true)

pub returns-in-Ok-clause-step : goal.returns-in-Ok-clause-step
returns-in-Ok-clause-step c s xs =
    redex_steps s c.args.body.now xs (On c.args.arg.now) OfType c.args.budget.now.left c.take.new.self.left (r.Guide c.in-Ok.tree) refl (c.take.ensures.taken c.if-not-take.false)
    c.in-Ok.ensures

pub returns-in-Err-clause-step : goal.returns-in-Err-clause-step
returns-in-Err-clause-step c s xs =
    subst (λ z. MeetsStep s OfType (guide_xtlam c.args.body.now) (xs ++ On c.args.arg.now ∷ []) c.args.budget.now.left xs c.take.new.self.left (Err z)) (sym c.put_stop.ensures)
    (redex_stops s c.args.body.now xs (On c.args.arg.now) OfType c.args.budget.now.left c.take.new.self.left c.in-Err.stop (c.take.ensures.taken c.if-not-take.false) c.in-Err.ensures)
