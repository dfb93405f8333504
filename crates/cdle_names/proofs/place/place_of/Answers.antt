use Rattle.std.proofs.Common.{arith, ◌∙◌, ◌+◌, refl, ap, sym, length-take-le}
use Rattle.cdle_names.proofs.Steps.{char_count_none, column_at_end, column_bound, column_past_feed, column_past_inside, column_past_start, line_at_end, line_bound, line_past_feed, line_past_other}
use Rattle.cdle_model.specs.Places.{column_of, line_of}
use Rattle.cdle_names.proofs.place.place_of.Goals as goal
use Rattle.cdle_names.proofs.place.place_of.Goals.{then-byte-eq10, else-byte-eq10+then-begins_character, else-byte-eq10+else-begins_character}

pub loop-byte-init : goal.loop-byte-init
loop-byte-init c = record { line = refl; column = ap (λ n. n + 1) (sym char_count_none) }

pub overflow_add-line : goal.overflow_add-line
overflow_add-line c = omega (arith, line_bound _ _ c.loop-byte-test.true, length-take-le c.min-end.result c.as_bytes-bytes.result.now)

pub overflow_add-column : goal.overflow_add-column
overflow_add-column c = omega (arith, column_bound _ _ c.loop-byte-test.true, length-take-le c.min-end.result c.as_bytes-bytes.result.now)

pub loop-byte-preserved : goal.loop-byte-preserved
loop-byte-preserved c =
    let line = c.loop-byte.invariant.line in
    let column = c.loop-byte.invariant.column in
    let within = c.loop-byte-test.true in
    elim c.if-byte-eq10.branch [
      | then-byte-eq10 w ↦ record {
        line = w.line-is ∙ ap (λ n. n + 1) line ∙ sym (line_past_feed _ _ within w.if-byte-eq10.true);
        column = w.column-is ∙ sym (column_past_feed _ _ within w.if-byte-eq10.true);
      }
      | else-byte-eq10+then-begins_character w ↦ record {
        line = w.line-is ∙ line ∙ sym (line_past_other _ _ within w.if-byte-eq10.false);
        column = w.column-is ∙ ap (λ n. n + 1) column ∙ sym (column_past_start _ _ within w.if-byte-eq10.false (sym w.begins_character.ensures ∙ w.if-begins_character.true));
      }
      | else-byte-eq10+else-begins_character w ↦ record {
        line = w.line-is ∙ line ∙ sym (line_past_other _ _ within w.if-byte-eq10.false);
        column = w.column-is ∙ column ∙ sym (column_past_inside _ _ within w.if-byte-eq10.false (sym w.begins_character.ensures ∙ w.if-begins_character.false));
      }
    ]

pub returns-clause-line : goal.returns-clause-line
returns-clause-line c =
    let whole = line_at_end _ c.args.at _ _ c.min-end.ensures c.loop-byte-test.false in
    c.loop-byte.invariant.line ∙ whole ∙ ap (λ text. line_of text c.args.at) c.as_bytes-bytes.ensures.value

pub returns-clause-column : goal.returns-clause-column
returns-clause-column c =
    let whole = column_at_end _ c.args.at _ _ c.min-end.ensures c.loop-byte-test.false in
    c.loop-byte.invariant.column ∙ whole ∙ ap (λ text. column_of text c.args.at) c.as_bytes-bytes.ensures.value
