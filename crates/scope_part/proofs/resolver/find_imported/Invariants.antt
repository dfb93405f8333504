use Rattle.std.proofs.Common.{◌≡◌, length}
use Rattle.scope_model.specs.ScopeNames.{imported}
use Rattle.scope_part.specs.Known.{exported_all}
use Rattle.scope_part.specs.Around.{import_texts}
use Rattle.scope_part.proofs.resolver.find_imported.Given as goal

abbrev pub invariant-imports : goal.invariant-imports
invariant-imports l = record {
  same : imported (import_texts l.names l.rest) l.word (exported_all l.modules) ≡ imported (import_texts l.names l.imports) l.word (exported_all l.modules);
}

abbrev pub decreases-imports : goal.decreases-imports
decreases-imports l = length l.rest
