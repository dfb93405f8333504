use Rattle.std.proofs.Common.{ℕ, ◌<◌}
use Rattle.build_plan.specs.Tables.{CanBeNext, needs_of}
use Rattle.build_plan.proofs.table.lowest_next.Given as goal

abbrev pub invariant-loop-number : goal.invariant-loop-number
invariant-loop-number l = (j : ℕ) → j < l.number → CanBeNext (needs_of l.needs) l.taken j → ⊥
