use Rattle.std.proofs.Common.{◌≡◌, ◌≤◌, ◌+◌, ◌*◌}
use Rattle.cdle_model.specs.Depth.{depth}
use Rattle.elab_model.specs.HeadWritten.{head_written}
use Rattle.elab_reduce.specs.Items.{unfolds}
use Rattle.elab_reduce.specs.Spines.{spine}
use Rattle.elab_reduce.proofs.head.head_type.Given as goal

abbrev pub invariant-steps : goal.invariant-steps
invariant-steps l = record {
  same : head_written (unfolds l.env l.stop_at_data) l.units l.ty ≡ head_written (unfolds l.env l.stop_at_data) l.budget.left (spine l.head l.args.items);
  low : depth l.head ≤ 32768;
}

abbrev pub decreases-steps : goal.decreases-steps
decreases-steps l = 100000 * l.budget.left + depth l.head
