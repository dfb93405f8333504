use Rattle.std.proofs.Common.{◌≡◌, map, take}
use Rattle.core_tree.specs.Items.{written}
use Rattle.core_check.specs.Items.{items_of}
use Rattle.core_check.proofs.check.all_items.Given as goal

abbrev pub invariant-loop-file : goal.invariant-loop-file
invariant-loop-file l = map (λ item. written item.now) l.items.items ≡ items_of (take l.file-index l.file-items)
