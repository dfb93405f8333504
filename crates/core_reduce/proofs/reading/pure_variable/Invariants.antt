use Rattle.std.proofs.Common.{◌≡◌, ◌≤◌, ◌-◌, length, drop}
use Rattle.cdle_model.specs.Depth.{depth}
use Rattle.cdle_model.specs.Trees.{var}
use Rattle.core_reduce.specs.declared.side.SideClass.TheVariants.{OfPure}
use Rattle.core_reduce.specs.Values.{applied_to}
use Rattle.core_reduce.proofs.reading.pure_variable.Given as goal

abbrev pub invariant-build : goal.invariant-build
invariant-build l = (l.k ≤ length l.args.items) × (applied_to OfPure l.tree (drop l.k l.args.items) ≡ applied_to OfPure (var l.index) l.args.items) × (depth l.tree ≤ 4096)

abbrev pub decreases-build : goal.decreases-build
decreases-build l = length l.args.items - l.k
