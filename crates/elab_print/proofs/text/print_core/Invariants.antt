use Rattle.std.proofs.Common.{◌≡◌, ◌+◌, length, string_bytes}
use Rattle.print_model.specs.Printed.{file_text, lines_text}
use Rattle.elab_print.specs.Layouts.{all_written, before_lines}
use Rattle.elab_print.proofs.text.print_core.Given as goal

abbrev pub invariant-items : goal.invariant-items
invariant-items l = record {
  same : before_lines (string_bytes l.out) (lines_text l.names l.number (all_written l.rest)) ≡ file_text l.names (all_written l.items);
  counted : l.number + length l.rest ≡ length l.items;
}

abbrev pub decreases-items : goal.decreases-items
decreases-items l = length l.rest
