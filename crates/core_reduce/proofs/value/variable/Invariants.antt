use Rattle.core_reduce.proofs.Values.{SidesSo}
use Rattle.core_reduce.proofs.value.variable.Given as goal

abbrev pub invariant-sides : goal.invariant-sides
invariant-sides l = SidesSo l.index l.args.items l.from l.k l.sides.items

abbrev pub decreases-sides : goal.decreases-sides
decreases-sides l = l.k
