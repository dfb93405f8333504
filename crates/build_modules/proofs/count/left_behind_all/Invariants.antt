use Rattle.std.proofs.Common.{◌≡◌, ◌+◌, length, map}
use Rattle.build_modules.specs.Counts.{items_count}
use Rattle.surf_tree.specs.Items.{item_of}
use Rattle.build_modules.proofs.count.left_behind_all.Given as goal

abbrev pub invariant-items : goal.invariant-items
invariant-items l = record { same : items_count (map item_of l.items) + l.left ≡ l.most + items_count (map item_of l.rest) }

abbrev pub decreases-items : goal.decreases-items
decreases-items l = length l.rest
