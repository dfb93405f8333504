use Rattle.std.proofs.Common.{◌≡◌, ◌+◌, ◌*◌, ◌≤◌, ◌++◌, length, None}
use Rattle.std.specs.Str.{IsCharBoundary}
use Rattle.cdle_model.specs.CoreGrammar.{pieces, part_classes}
use Rattle.cdle_model.specs.CoreReading.{part_at, pieces_with}
use Rattle.core_text.specs.View.{rest, with_front}
use Rattle.core_text.specs.Parts.{AreShallow, trees, classes}
use Rattle.core_text.specs.Scope.{scope_of, binder_name}
use Rattle.core_text.proofs.reader.Reader.+part.Given as goal

abbrev pub decreases-part : goal.decreases-part
decreases-part l = 3 * l.left

abbrev pub decreases-under : goal.decreases-under
decreases-under l = 3 * l.left + 1

abbrev pub decreases-form : goal.decreases-form
decreases-form l = 3 * l.left + 2

abbrev pub invariant-form-pieces : goal.invariant-form-pieces
invariant-form-pieces l = record {
  ahead : l.inside ≤ l.at;
  boundary : IsCharBoundary l.self.bytes.now l.at;
  reads : with_front (trees l.parts.items) (pieces_with (part_at (length l.self.bytes.now) l.left) (length l.self.bytes.now) l.left (scope_of l.binders l.self.own.now l.self.known.now) (binder_name l.binder) l.pieces (rest l.self.bytes.now l.at))
      ≡ pieces_with (part_at (length l.self.bytes.now) l.left) (length l.self.bytes.now) l.left (scope_of l.binders l.self.own.now l.self.known.now) None (pieces l.form) (rest l.self.bytes.now l.inside);
  classes : classes l.parts.items ++ part_classes l.pieces ≡ part_classes (pieces l.form);
  shallow : AreShallow l.left l.parts.items;
}

abbrev pub decreases-form-pieces : goal.decreases-form-pieces
decreases-form-pieces l = length l.pieces
