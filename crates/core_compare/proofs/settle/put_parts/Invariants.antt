use Rattle.std.proofs.Common.{◌≡◌, ◌++◌, ◌≤◌, length, drop}
use Rattle.core_compare.specs.Pairs.{part_pairs}
use Rattle.core_compare.proofs.settle.put_parts.Given as goal

abbrev pub invariant-parts : goal.invariant-parts
invariant-parts l = (l.k ≤ length l.xs.items) × (l.pairs.items ≡ l.fn.pairs.items ++ part_pairs l.binders (drop l.k l.xs.items) (drop l.k l.ys.items))

abbrev pub decreases-parts : goal.decreases-parts
decreases-parts l = l.k
