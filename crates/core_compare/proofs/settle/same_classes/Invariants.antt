use Rattle.std.proofs.Common.{◌≡◌, ◌≤◌, ◌-◌, length, take}
use Rattle.core_reduce.specs.Values.{classes}
use Rattle.core_compare.proofs.settle.same_classes.Given as goal

abbrev pub invariant-compared : goal.invariant-compared
invariant-compared l = (l.k ≤ length l.xs.items) × (length l.xs.items ≡ length l.ys.items) × (classes (take l.k l.xs.items) ≡ classes (take l.k l.ys.items))

abbrev pub decreases-compared : goal.decreases-compared
decreases-compared l = length l.xs.items - l.k
