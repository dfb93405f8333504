use Rattle.std.proofs.Common.{[], ◌∷◌, Some, string_bytes}
use Rattle.elab_print.specs.Layouts.{joined, front_text, back_text, node_class, node_tree}
use Rattle.print_model.specs.Printed.{part_text}
use Rattle.elab_print.proofs.Steps.{prints_then, form_too_deep, form_printed}
use Rattle.elab_print.proofs.part.+part.Goals as goal

pub back-returns : goal.back-returns
back-returns t c =
    prints_then (string_bytes c.args.out.now) (string_bytes c.slot.new.out) (string_bytes c.slot-3.new.out) _ _ c.slot-3.result c.in_ok-slot.ensures
    (prints_then (string_bytes c.slot.new.out) (string_bytes c.slot-2.new.out) (string_bytes c.slot-3.new.out) _ _ c.slot-3.result c.in_ok-slot-2.ensures c.slot-3.ensures)

pub form-returns : goal.form-returns
form-returns t c =
    let print = part_text c.args.names.now c.args.left in
    let front = front_text print c.args.level c.args.slots.now in
    let behind = joined (back_text print c.args.level c.args.slots.now) (Some (41 ∷ [])) in
    prints_then (string_bytes c.args.out.now) (string_bytes c.open.new.out) (string_bytes c.closed.new.out) (joined (Some (40 ∷ [])) (Some c.args.slots.now.word.now)) (joined front behind) c.closed.result c.in_ok-open.ensures
    (prints_then (string_bytes c.open.new.out) (string_bytes c.front.new.out) (string_bytes c.closed.new.out) front behind c.closed.result c.in_ok-front.ensures c.closed.ensures)

pub part-returns-then-left-eq0 : goal.part-returns-then-left-eq0
part-returns-then-left-eq0 t c =
    form_too_deep c.args.names.now c.args.left c.args.level (node_class c.args.node) (node_tree c.args.node) c.layout_of.result c.in-Form.slots c.layout_of.ensures c.in-Form.is c.if-left-eq0.true

pub part-returns-else-left-eq0 : goal.part-returns-else-left-eq0
part-returns-else-left-eq0 t c =
    rw (form_printed c.args.names.now c.args.left c.args.level (node_class c.args.node) (node_tree c.args.node) c.layout_of.result c.in-Form.slots c.layout_of.ensures c.in-Form.is c.if-left-eq0.false)
    c.form.ensures

pub closed-returns : goal.closed-returns
closed-returns t c =
    prints_then (string_bytes c.args.out.now) (string_bytes c.back.new.out) (string_bytes c.put.new.out) (back_text (part_text c.args.names.now c.args.left) c.args.level c.args.slots.now) (Some (41 ∷ [])) c.put.result c.in_ok-back.ensures c.put.ensures
