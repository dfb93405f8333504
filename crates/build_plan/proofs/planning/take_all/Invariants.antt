use Rattle.std.proofs.Common.{length, ◌-◌}
use Rattle.build_plan.specs.Tables.{needs_of}
use Rattle.build_plan.proofs.Taking.{IsTaking}
use Rattle.build_plan.proofs.planning.take_all.Given as goal

abbrev pub invariant-modules : goal.invariant-modules
invariant-modules l = IsTaking (needs_of l.needs) l.order.items l.taken.items

abbrev pub decreases-modules : goal.decreases-modules
decreases-modules l = length l.needs - length l.order.items
