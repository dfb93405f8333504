use Rattle.std.proofs.Common.{ℕ, Contains, take}
use Rattle.build_plan.specs.Tables.{IsTaken}
use Rattle.build_plan.proofs.table.first_left.Given as goal

abbrev pub invariant-loop-number : goal.invariant-loop-number
invariant-loop-number l = (k : ℕ) → Contains (take l.number-index l.numbers) k → IsTaken l.taken k
