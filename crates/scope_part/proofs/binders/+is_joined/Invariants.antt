use Rattle.std.proofs.Common.{length}
use Rattle.scope_part.proofs.binders.+is_joined.Given as goal

abbrev pub decreases-is_joined : goal.decreases-is_joined
decreases-is_joined l = length l.prefix.now
