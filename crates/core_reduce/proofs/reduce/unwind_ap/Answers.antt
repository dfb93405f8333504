use Rattle.std.proofs.Common.{sym, subst, refl, Ok}
use Rattle.cdle_model.specs.Trees.{of_pure}
use Rattle.cdle_model.specs.Forms.{ap}
use Rattle.core_reduce.specs.declared.root.Root.TheVariants as r
use Rattle.core_reduce.specs.declared.root.Arg.TheVariants.{Ap}
use Rattle.core_reduce.specs.declared.side.SideClass.TheVariants.{OfPure}
use Rattle.core_reduce.specs.Heads.{MeetsStep}
use Rattle.core_reduce.proofs.Steps.{app_unwinds}
use Rattle.core_reduce.proofs.reduce.unwind_ap.Goals as goal

pub returns : goal.returns
returns c s units =
    subst (λ ys. MeetsStep s OfPure (ap c.args.head.now c.args.arg.now) c.args.args.now.items units ys units (Ok (r.Pure c.in_ok-clone.field-0))) (sym c.in_ok-push.ensures.items)
    (app_unwinds s OfPure of_pure c.args.head.now c.args.arg.now c.args.args.now.items (Ap c.in_ok-of_pure.field-0) units (r.Pure c.in_ok-clone.field-0) refl c.in_ok-of_pure.ensures c.in_ok-clone.ensures.cases refl)
