use Rattle.std.proofs.Common.{◌≡◌, ◌+◌, ◌<◌, ◌^◌, length}
use Rattle.std.specs.Vec.Iter.{into_iter_items, into_iter_len}
use Rattle.core_text.specs.Scope.{known_names, HasRoom}
use Rattle.core_text.proofs.Names.{put_names}
use Rattle.core_text.proofs.scope.CoreScope.add.Given as goal

abbrev pub invariant-loop-name : goal.invariant-loop-name
invariant-loop-name l = record {
  rest : put_names (into_iter_items l.name-iterator) (known_names l.self) ≡ put_names (into_iter_items l.initial.name-iterator) (known_names l.fn.self);
  room : HasRoom (length (into_iter_items l.name-iterator)) l.self;
  counted : length (known_names l.self) + length (into_iter_items l.name-iterator) < 2 ^ 32;
  len : into_iter_len l.name-iterator ≡ length (into_iter_items l.name-iterator);
}
