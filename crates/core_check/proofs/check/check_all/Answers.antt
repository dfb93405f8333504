use Rattle.std.proofs.Common.{ℕ, List, cond, Some, sym, ap, ◌∙◌}
use Rattle.std.specs.HashMap.{get_by_text}
use Rattle.std.specs.Str.{bytes_eq}
use Rattle.std.specs.String.{string_bytes}
use Rattle.std.proofs.lemmas.Map.Text.{hash_map_updates_text}
use Rattle.std.proofs.lemmas.Result.{err_from_is_err_and}
use Rattle.cdle_model.specs.Forms.{name_of}
use Rattle.core_tree.specs.Items.{written}
use Rattle.core_check.proofs.Lists.{from_this, none_left}
use Rattle.core_check.proofs.Standing.{is_over, taken, faulted, advanced, finished}
use Rattle.core_check.proofs.check.check_all.Goals as goal

pub returns-in-Some : goal.returns-in-Some
returns-in-Some c =
    let rest = from_this _ _ _ c.loop-item-test.true c.item-item.is in
    taken _ _ _ _ _ _ _ c.loop-item.invariant rest _ _ c.as_str-name.result.now c.len-number.ensures (c.as_str-name.ensures ∙ c.name.ensures) (sym c.in-Some.ensures.value)

pub check_item-requires : goal.check_item-requires
check_item-requires c = is_over _ _ _ _ _ _ _ c.loop-item.invariant (from_this _ _ _ c.loop-item-test.true c.item-item.is)

pub returns-in_err-check_item : goal.returns-in_err-check_item
returns-in_err-check_item c =
    let rest = from_this _ _ _ c.loop-item-test.true c.item-item.is in
    let p = err_from_is_err_and c.from_residual.result c.from_residual.ensures.1 in
    rw (p.1, p.2) (faulted _ _ _ _ _ _ _ c.loop-item.invariant rest c.as_str-name.result.now _ (c.as_str-name.ensures ∙ c.name.ensures) (sym c.in_default.ensures.value) c.in_err-check_item.ensures.answer)

pub add-requires-clause-over : goal.add-requires-clause-over
add-requires-clause-over c = is_over _ _ _ _ _ _ _ c.loop-item.invariant (from_this _ _ _ c.loop-item-test.true c.item-item.is)

pub loop-item-preserved : goal.loop-item-preserved
loop-item-preserved c =
    let rest = from_this _ _ _ c.loop-item-test.true c.item-item.is in
    advanced _ _ _ _ _ _ _ c.loop-item.invariant rest c.as_str-name.result.now _ _ (c.as_str-name.ensures ∙ c.name.ensures) (sym c.in_default.ensures.value) c.in_ok-check_item.ensures.answer c.in_ok-add.ensures
    (λ q. hash_map_updates_text (string_bytes c.in_ok-from_str.field-0) c.loop-item.names c.insert.new.self (Some c.len-number.result) c.in_ok-insert.ensures.updates q
    ∙ ap (λ (bs : List ℕ). cond (bytes_eq bs q) (Some c.len-number.result) (get_by_text c.loop-item.names q)) (c.in_ok-from_str.ensures.ok ∙ c.as_str-name.ensures ∙ c.name.ensures)
    ∙ ap (λ (n : ℕ). cond (bytes_eq (name_of (written c.item-item.result.now)) q) (Some n) (get_by_text c.loop-item.names q)) c.len-number.ensures)

pub returns : goal.returns
returns c = finished _ _ _ _ _ _ c.loop-item.invariant (none_left _ _ c.loop-item-test.false) c.len.ensures
