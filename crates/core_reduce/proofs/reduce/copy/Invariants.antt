use Rattle.std.proofs.Common.{◌≡◌, ◌≤◌, ◌-◌, ◌++◌, length, drop}
use Rattle.core_reduce.proofs.reduce.copy.Given as goal

abbrev pub invariant-copied : goal.invariant-copied
invariant-copied l = (l.from ≤ l.k) × (l.k ≤ length l.args.items) × (l.all.items ++ drop l.k l.args.items ≡ drop l.from l.args.items)

abbrev pub decreases-copied : goal.decreases-copied
decreases-copied l = length l.args.items - l.k
