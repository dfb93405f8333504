use Rattle.std.proofs.Common.{◌≡◌, ◌++◌, length}
use Rattle.std.specs.Vec.Iter.{into_iter_items, into_iter_len}
use Rattle.scope_part.specs.Entries.{listed_names}
use Rattle.scope_part.specs.Index.{names_of}
use Rattle.surf_scope.proofs.modules.extend.Given as goal

abbrev pub invariant-loop-name : goal.invariant-loop-name
invariant-loop-name l = record {
  same : names_of l.own ++ listed_names (into_iter_items l.name-iterator) ≡ names_of l.fn.own ++ listed_names (into_iter_items l.initial.name-iterator);
  len : into_iter_len l.name-iterator ≡ length (into_iter_items l.name-iterator);
}
