use Rattle.core_text.specs.Scope.{known_names}
use Rattle.core_check_rows.proofs.Reading.{Read}
use Rattle.core_check_rows.proofs.files.read_files.Given as goal

abbrev pub invariant-loop-text : goal.invariant-loop-text
invariant-loop-text l =
    (goal.iterator-loop-text).can_next l.text-iterator × (goal.iterator-loop-text).is_finite l.text-iterator × Read l.files.items (known_names l.known) l.items
