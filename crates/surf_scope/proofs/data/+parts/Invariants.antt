use Rattle.std.proofs.Common.{length}
use Rattle.surf_scope.proofs.data.+parts.Given as goal

abbrev pub decreases-parts : goal.decreases-parts
decreases-parts l = length l.params.now
