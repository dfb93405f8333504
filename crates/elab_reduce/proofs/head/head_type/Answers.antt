use Rattle.elab_reduce.specs.Items.{unfolds}
use Rattle.elab_reduce.specs.Spines.{spine}
use Rattle.elab_reduce.proofs.Steps.{carried}
use Rattle.elab_reduce.proofs.head.head_type.Goals as goal

pub returns : goal.returns
returns c =
    carried (unfolds c.args.env.now c.args.stop_at_data) c.args.ty.now (spine c.steps.head c.steps.args.items) c.args.units c.steps.budget.left c.applied.result c.steps.invariant.same
    (c.applied.ensures (unfolds c.args.env.now c.args.stop_at_data) c.steps.budget.left (c.is_still.ensures.still c.steps-test.false))
