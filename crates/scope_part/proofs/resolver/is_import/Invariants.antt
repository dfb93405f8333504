use Rattle.std.proofs.Common.{◌≡◌, length}
use Rattle.scope_model.specs.ScopeNames.{is_one_of}
use Rattle.scope_part.specs.Around.{import_texts}
use Rattle.scope_part.proofs.resolver.is_import.Given as goal

abbrev pub invariant-owners : goal.invariant-owners
invariant-owners l = record {
  same : is_one_of l.owner (import_texts l.names l.rest) ≡ is_one_of l.owner (import_texts l.names l.imports);
}

abbrev pub decreases-owners : goal.decreases-owners
decreases-owners l = length l.rest
