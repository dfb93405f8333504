use Rattle.std.proofs.Common.{◌≡◌, ◌++◌, ◌-◌, length, drop}
use Rattle.elab_convert.proofs.settle.inner_args.Given as goal

abbrev pub invariant-copied : goal.invariant-copied
invariant-copied l = l.list.items ++ drop l.k l.args.items ≡ drop 1 l.args.items

abbrev pub decreases-copied : goal.decreases-copied
decreases-copied l = length l.args.items - l.k
