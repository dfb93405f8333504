use Rattle.std.proofs.Common.{Some, ◌≡◌, ◌∙◌, slice_get}
use Rattle.core_tree.specs.Items.{written}
use Rattle.build_drive.proofs.Items.{found, stands-next}
use Rattle.build_drive.proofs.check.item_name.Goals as goal

pub returns-in-Some : goal.returns-in-Some
returns-in-Some c =
    let w = written c.in-Some.item.now in
    let here : slice_get c.file-item.result.items c.loop-file.number ≡ Some w = c.in-Some.ensures in
    let same : c.deref-file-items.result.now ≡ c.args.files.now.items = c.deref-file-items.ensures.value in
    (w, found c.args.files.now.items c.args.item c.loop-file.file-index c.loop-file.number c.file-item.result w (rw same at c.loop-file-test.true) (rw same at c.file-item.is) c.loop-file.invariant here, c.in_ok-new-in-Some.ensures ∙ c.as_str.ensures ∙ c.name.ensures)

pub overflow_sub-number : goal.overflow_sub-number
overflow_sub-number c =
    let same : c.deref-file-items.result.now ≡ c.args.files.now.items = c.deref-file-items.ensures.value in
    let next = stands-next c.args.files.now.items c.args.item c.loop-file.file-index c.loop-file.number c.file-item.result (rw same at c.loop-file-test.true) (rw same at c.file-item.is) c.loop-file.invariant c.in-None.ensures in
    rw c.len.ensures next.0

pub loop-file-preserved : goal.loop-file-preserved
loop-file-preserved c =
    let same : c.deref-file-items.result.now ≡ c.args.files.now.items = c.deref-file-items.ensures.value in
    let next = stands-next c.args.files.now.items c.args.item c.loop-file.file-index c.loop-file.number c.file-item.result (rw same at c.loop-file-test.true) (rw same at c.file-item.is) c.loop-file.invariant c.in-None.ensures in
    rw c.len.ensures next.1
