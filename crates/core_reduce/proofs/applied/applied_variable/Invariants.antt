use Rattle.core_reduce.proofs.Raising.{RaisedSo}
use Rattle.core_reduce.proofs.applied.applied_variable.Given as goal

abbrev pub invariant-raised : goal.invariant-raised
invariant-raised l = RaisedSo l.args.items l.k l.all.items

abbrev pub decreases-raised : goal.decreases-raised
decreases-raised l = l.k
