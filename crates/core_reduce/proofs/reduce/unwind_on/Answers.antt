use Rattle.std.proofs.Common.{sym, subst, refl, Ok}
use Rattle.cdle_model.specs.Trees.{of_type}
use Rattle.cdle_model.specs.Forms.{on}
use Rattle.core_reduce.specs.declared.root.Root.TheVariants as r
use Rattle.core_reduce.specs.declared.root.Arg.TheVariants.{On}
use Rattle.core_reduce.specs.declared.side.SideClass.TheVariants.{OfType}
use Rattle.core_reduce.specs.Heads.{MeetsStep}
use Rattle.core_reduce.proofs.Steps.{app_unwinds}
use Rattle.core_reduce.proofs.reduce.unwind_on.Goals as goal

pub returns : goal.returns
returns c s units =
    subst (λ ys. MeetsStep s OfType (on c.args.head.now c.args.arg.now) c.args.args.now.items units ys units (Ok (r.Guide c.in_ok-clone.field-0))) (sym c.in_ok-push.ensures.items)
    (app_unwinds s OfType of_type c.args.head.now c.args.arg.now c.args.args.now.items (On c.in_ok-of_guide.field-0) units (r.Guide c.in_ok-clone.field-0) refl c.in_ok-of_guide.ensures c.in_ok-clone.ensures.cases refl)
