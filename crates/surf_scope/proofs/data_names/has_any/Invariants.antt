use Rattle.std.proofs.Common.{◌≡◌, length}
use Rattle.scope_model.specs.Scope.{meets, texts}
use Rattle.scope_part.specs.Entries.{listed_names}
use Rattle.scope_part.specs.Index.{names_of}
use Rattle.surf_scope.proofs.data_names.has_any.Given as goal

abbrev pub invariant-names : goal.invariant-names
invariant-names l = meets (texts (listed_names l.rest)) (texts (names_of l.items)) ≡ meets (texts (listed_names l.names)) (texts (names_of l.items))

abbrev pub decreases-names : goal.decreases-names
decreases-names l = length l.rest
