use Rattle.std.proofs.Common.{◌≡◌, ℕ, ◌<◌, Some, slice_get}
use Rattle.build_plan.specs.Tables.{names_in}
use Rattle.build_plan.proofs.numbers.number_of.Given as goal

abbrev pub invariant-loop-i : goal.invariant-loop-i
invariant-loop-i l = (j : ℕ) → j < l.i → slice_get (names_in l.modules) j ≡ Some l.name.0 → ⊥
