use Rattle.std.proofs.Common.{List, ◌++◌, ap, sym, ◌∙◌}
use Rattle.cdle_model.specs.Forms.{Written}
use Rattle.core_check.proofs.Lists.{items_more}
use Rattle.core_check.proofs.check.all_items.Goals as goal

pub loop-file-preserved : goal.loop-file-preserved
loop-file-preserved c =
    c.in_ok-append_items.ensures ∙ ap (λ (l : List Written). l ++ c.file-item.result.items) c.loop-file.invariant
    ∙ sym (items_more c.deref-file-items.result.now c.loop-file.file-index c.file-item.result c.loop-file-test.true c.file-item.is)
