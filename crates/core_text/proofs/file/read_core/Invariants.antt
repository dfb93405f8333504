use Rattle.std.proofs.Common.{◌≤◌, ◌-◌, length, ◌++◌}
use Rattle.std.specs.Str.{IsCharBoundary}
use Rattle.core_tree.specs.Items.{all_written}
use Rattle.core_text.specs.Scope.{known_names}
use Rattle.core_text.specs.View.{rest}
use Rattle.core_text.proofs.Files.{Upto}
use Rattle.core_text.proofs.file.read_core.Given as goal

abbrev pub invariant-items : goal.invariant-items
invariant-items l = record {
  boundary : IsCharBoundary l.bytes l.at;
  counted : length (known_names l.own) ≤ l.at;
  few : length l.items.items ≤ l.at;
  upto : Upto l.bytes (known_names l.known) (all_written l.items.items) (known_names l.own ++ known_names l.known) (rest l.bytes l.at);
}

abbrev pub decreases-items : goal.decreases-items
decreases-items l = length l.bytes - l.at
