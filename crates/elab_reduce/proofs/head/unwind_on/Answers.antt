use Rattle.std.proofs.Common.{Ok, sym, ap, subst}
use Rattle.cdle_model.specs.Forms.{on}
use Rattle.elab_tree.specs.declared.items.EArg.TheVariants.{OfType}
use Rattle.elab_reduce.specs.Heads.{IsStep}
use Rattle.elab_reduce.proofs.Steps.{unwound}
use Rattle.elab_reduce.proofs.head.unwind_on.Goals as goal

pub returns : goal.returns
returns c u n =
    subst (λ z. IsStep u (on c.args.head.now c.args.arg.now) c.args.args.now.items n z n (Ok c.in_ok-clone-2.field-0)) (sym c.in_ok-push.ensures.items)
    (unwound u (on c.args.head.now c.args.arg.now) c.args.head.now c.args.args.now.items (OfType c.in_ok-clone.field-0) c.in_ok-clone-2.field-0 n
    (ap (on c.args.head.now) (sym c.in_ok-clone.ensures.cases)) c.in_ok-clone-2.ensures.cases c.requires)
