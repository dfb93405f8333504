use Rattle.std.proofs.Common.{ℕ, ◌<◌}
use Rattle.build_plan.specs.Tables.{IsTaken}
use Rattle.build_plan.proofs.table.lowest_left.Given as goal

abbrev pub invariant-loop-number : goal.invariant-loop-number
invariant-loop-number l = (j : ℕ) → j < l.number → IsTaken l.taken j
