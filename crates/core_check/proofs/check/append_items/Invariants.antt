use Rattle.std.proofs.Common.{◌≡◌, ◌++◌, map, take}
use Rattle.core_tree.specs.Items.{written, all_written}
use Rattle.core_check.proofs.check.append_items.Given as goal

abbrev pub invariant-loop-item : goal.invariant-loop-item
invariant-loop-item l = map (λ item. written item.now) l.items.items ≡ map (λ item. written item.now) l.fn.items.items ++ all_written (take l.item-index l.item-items)
