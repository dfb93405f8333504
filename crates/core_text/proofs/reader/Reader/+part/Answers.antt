use Rattle.std.proofs.Common.{◌∙◌, ◌∷◌, length, sym, ap, arith}
use Rattle.cdle_model.specs.CoreGrammar.{part_classes}
use Rattle.cdle_model.specs.CoreReading.{part_at}
use Rattle.core_text.specs.Scope.{scope_of, binder_name}
use Rattle.core_text.specs.Next.{lexeme_of}
use Rattle.core_text.specs.View.{rest}
use Rattle.std.proofs.lemmas.Result.{err_from_is_err_and}
use Rattle.core_text.proofs.Files.{placed_at}
use Rattle.core_text.proofs.Pieces.{classes_more, form_shallow, part_more, shallow_more, under_more}
use Rattle.core_text.proofs.reader.Reader.+part.Goals as goal

pub form-returns-clause-shallow : goal.form-returns-clause-shallow
form-returns-clause-shallow t c =
    form_shallow c.in_ok-build.field-0 c.in_ok-form.form c.pieces.parts.items c.args.left (rw c.deref.ensures.value at c.in_ok-build.ensures.tree) c.pieces.invariant.shallow

pub part-returns-in_err-part-in-Word-clause-placed : goal.part-returns-in_err-part-in-Word-clause-placed
part-returns-in_err-part-in-Word-clause-placed t c =
    let p = err_from_is_err_and c.from_residual.result c.from_residual.ensures.1 in
    let next = c.in-Some.ensures in
    let word = next.here ∙ next.first ∙ ap (λ l. (c.in-Some.token.at, lexeme_of l) ∷ rest c.args.self.now.bytes.now c.in-Some.token.end) c.in-Word.is in
    rw (p.1, p.2)
    (placed_at c.args.self.now.bytes.now c.in-Some.token.at c.in-Word.word.now (rest c.args.self.now.bytes.now c.in-Some.token.end) c.in_err-part-in-Word.field-0.0 c.in_err-part-in-Word.ensures.placed next.start word)

pub form-pieces-preserved-in_ok-push-in-Part : goal.form-pieces-preserved-in_ok-push-in-Part
form-pieces-preserved-in_ok-push-in-Part t c =
    let pieces = c.in-Some.ensures.cases.0 ∙ ap (λ piece. piece ∷ c.in-Some.others.now) c.in-Part.is in
    let read = part_more (part_at (length c.args.self.now.bytes.now) c.args.left) (length c.args.self.now.bytes.now) c.args.left (scope_of c.args.binders.now c.args.self.now.own.now c.args.self.now.known.now) (binder_name c.pieces.binder) c.in-Part.class c.in-Some.others.now c.pieces.parts.items _ c.in_ok-part-in-Part.part _ (rest c.args.self.now.bytes.now c.in_ok-part-in-Part.after) c.in_ok-part-in-Part.ensures.gives c.in_ok-push-in-Part.ensures.items in
    record {
      ahead = omega (arith, c.pieces.invariant.ahead, c.in_ok-part-in-Part.ensures.advances.ahead);
      boundary = c.in_ok-part-in-Part.ensures.advances.boundary;
      reads = sym read ∙ (rw pieces at c.pieces.invariant.reads);
      classes = sym (classes_more c.in-Part.class (part_classes c.in-Some.others.now) c.pieces.parts.items _ c.in_ok-part-in-Part.part c.in_ok-part-in-Part.ensures.class c.in_ok-push-in-Part.ensures.items) ∙ (rw pieces at c.pieces.invariant.classes);
      shallow = shallow_more c.pieces.parts.items _ c.in_ok-part-in-Part.part c.args.left c.in_ok-push-in-Part.ensures.items c.pieces.invariant.shallow c.in_ok-part-in-Part.ensures.shallow;
    }

pub form-pieces-preserved : goal.form-pieces-preserved
form-pieces-preserved t c =
    let pieces = c.in-Some.ensures.cases.0 ∙ ap (λ piece. piece ∷ c.in-Some.others.now) c.in-Under.is in
    let read = under_more (part_at (length c.args.self.now.bytes.now) c.args.left) (length c.args.self.now.bytes.now) c.args.left (scope_of c.args.binders.now c.args.self.now.own.now c.args.self.now.known.now) (binder_name c.pieces.binder) c.in-Under.class c.in-Some.others.now c.pieces.parts.items _ c.in_ok-part-in-Under.part _ (rest c.args.self.now.bytes.now c.in_ok-part-in-Under.after) c.in_ok-part-in-Under.ensures.gives c.in_ok-push-in-Under.ensures.items in
    record {
      ahead = omega (arith, c.pieces.invariant.ahead, c.in_ok-part-in-Under.ensures.advances.ahead);
      boundary = c.in_ok-part-in-Under.ensures.advances.boundary;
      reads = sym read ∙ (rw pieces at c.pieces.invariant.reads);
      classes = sym (classes_more c.in-Under.class (part_classes c.in-Some.others.now) c.pieces.parts.items _ c.in_ok-part-in-Under.part c.in_ok-part-in-Under.ensures.class c.in_ok-push-in-Under.ensures.items) ∙ (rw pieces at c.pieces.invariant.classes);
      shallow = shallow_more c.pieces.parts.items _ c.in_ok-part-in-Under.part c.args.left c.in_ok-push-in-Under.ensures.items c.pieces.invariant.shallow c.in_ok-part-in-Under.ensures.shallow;
    }
