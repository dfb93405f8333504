use Rattle.std.proofs.Common.{◌≡◌, ◌≤◌, ◌+◌, ◌*◌}
use Rattle.cdle_model.specs.Depth.{depth}
use Rattle.cdle_model.specs.HeadForms.{head_form}
use Rattle.elab_convert.specs.Bodies.{erased_bodies}
use Rattle.elab_convert.specs.Sides.{erased_tree, side_tree, spine}
use Rattle.elab_convert.proofs.head.head.Given as goal

abbrev pub invariant-moves : goal.invariant-moves
invariant-moves l = record {
  same : head_form (erased_bodies l.env) l.fn.left.left (side_tree l.fn.side) ≡ head_form (erased_bodies l.env) l.left.left (spine (erased_tree l.now) l.args.items);
  less : l.left.left ≤ l.fn.left.left;
}

abbrev pub decreases-moves : goal.decreases-moves
decreases-moves l = 100000 * l.left.left + depth (erased_tree l.now)
