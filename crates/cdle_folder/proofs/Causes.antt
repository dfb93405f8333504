-- A count that rose was not quiet.
use Rattle.std.proofs.Common.{ℕ, arith}
use Rattle.cdle_folder.specs.Causes.{Quiet, Rose}

pub no_rise : {R : Type 0} (before now : ℕ) → Rose before now → Quiet before now → R
no_rise before now rose quiet = absurd (omega (arith, rose, quiet.0, quiet.1))
