use Rattle.std.proofs.Common.{◌≡◌, ◌≤◌, length, drop}
use Rattle.cdle_model.specs.Depth.{depth}
use Rattle.elab_reduce.specs.Spines.{spine}
use Rattle.elab_reduce.proofs.head.applied.Given as goal

abbrev pub invariant-build : goal.invariant-build
invariant-build l = (l.k ≤ length l.args.items) × (l.tree ≡ spine l.head (drop l.k l.args.items)) × (depth l.tree ≤ 4096)

abbrev pub decreases-build : goal.decreases-build
decreases-build l = l.k
