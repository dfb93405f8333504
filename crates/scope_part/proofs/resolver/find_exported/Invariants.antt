use Rattle.std.proofs.Common.{◌≡◌, length}
use Rattle.scope_model.specs.ScopeNames.{exported}
use Rattle.scope_part.specs.Known.{exported_all}
use Rattle.scope_part.proofs.resolver.find_exported.Given as goal

abbrev pub invariant-modules : goal.invariant-modules
invariant-modules l = exported l.owner l.word (exported_all l.rest) ≡ exported l.owner l.word (exported_all l.modules)

abbrev pub decreases-modules : goal.decreases-modules
decreases-modules l = length l.rest
