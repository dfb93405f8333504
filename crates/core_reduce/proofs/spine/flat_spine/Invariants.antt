use Rattle.std.proofs.Common.{◌≡◌, ◌≤◌, length, drop}
use Rattle.core_reduce.specs.Sides.{spine}
use Rattle.core_reduce.proofs.spine.flat_spine.Given as goal

abbrev pub invariant-build : goal.invariant-build
invariant-build l = (l.from ≤ l.k) × (l.k ≤ length l.args.items) × (l.tree ≡ spine l.head (drop l.k l.args.items))

abbrev pub decreases-build : goal.decreases-build
decreases-build l = l.k
