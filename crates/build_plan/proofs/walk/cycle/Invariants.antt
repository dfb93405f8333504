use Rattle.std.proofs.Common.{length, ◌-◌}
use Rattle.build_plan.specs.Tables.{needs_of}
use Rattle.build_plan.proofs.Walking.{IsWalking}
use Rattle.build_plan.proofs.walk.cycle.Given as goal

abbrev pub invariant-walk : goal.invariant-walk
invariant-walk l = IsWalking (needs_of l.needs) l.path.items l.at

abbrev pub decreases-walk : goal.decreases-walk
decreases-walk l = length l.needs - length l.path.items
