use Rattle.std.proofs.Common.{◌≤◌, ◌-◌, length, drop, []}
use Rattle.elab_convert.specs.Sides.{stack}
use Rattle.elab_convert.proofs.Putting.{AreLeft}
use Rattle.elab_convert.proofs.settle.put_arguments.Given as goal

abbrev pub invariant-put : goal.invariant-put
invariant-put l = (l.k ≤ length l.xs.items) × (AreLeft l.xs.items l.ys.items (stack [] l.fn.pairs.items) (drop l.k l.xs.items) (drop l.k l.ys.items) (stack [] l.pairs.items))

abbrev pub decreases-put : goal.decreases-put
decreases-put l = length l.xs.items - l.k
