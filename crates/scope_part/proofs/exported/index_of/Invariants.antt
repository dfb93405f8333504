use Rattle.std.proofs.Common.{◌≡◌, take}
use Rattle.scope_part.specs.Entries.{listed_names}
use Rattle.scope_part.specs.Index.{names_of}
use Rattle.scope_part.proofs.exported.index_of.Given as goal

abbrev pub invariant-loop-name : goal.invariant-loop-name
invariant-loop-name l = names_of l.index ≡ listed_names (take l.name-index l.names)
