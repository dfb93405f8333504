use Rattle.std.proofs.Common.{◌≡◌}
use Rattle.cdle_model.specs.Places.{column_of, line_of}
use Rattle.cdle_names.proofs.place.place_of.Given as goal

abbrev pub invariant-loop-byte : goal.invariant-loop-byte
invariant-loop-byte l = record {
  line : l.line ≡ line_of l.byte-items l.byte-index;
  column : l.column ≡ column_of l.byte-items l.byte-index;
}
