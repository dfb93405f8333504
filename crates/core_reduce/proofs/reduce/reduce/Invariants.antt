use Rattle.std.proofs.Common.{◌≤◌, ◌+◌, ◌*◌}
use Rattle.cdle_model.specs.Depth.{depth}
use Rattle.cdle_model.specs.Classes.{item_sorts}
use Rattle.cdle_model.specs.Derivation.{bodies, signature}
use Rattle.core_reduce.specs.Sides.{root_class, root_tree, spine}
use Rattle.core_reduce.proofs.Going.{Going}
use Rattle.core_reduce.proofs.reduce.reduce.Given as goal

abbrev pub invariant-steps : goal.invariant-steps
invariant-steps l = record {
  so_far : Going (item_sorts l.items) (bodies (signature l.items)) (root_class l.fn.now) 4250000000 (spine (root_tree l.fn.now) l.fn.args.items) l.fn.budget.left l.now l.args.items l.budget.left;
  less : l.budget.left ≤ l.fn.budget.left;
}

abbrev pub decreases-steps : goal.decreases-steps
decreases-steps l = 100000 * l.budget.left + depth (root_tree l.now)
