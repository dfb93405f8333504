use Rattle.std.proofs.Common.{◌≡◌, ◌+◌, length, map}
use Rattle.build_module.specs.Counts.{items_count}
use Rattle.surf_tree.specs.Items.{item_of}
use Rattle.build_module.proofs.count.has_few.Given as goal

abbrev pub invariant-items : goal.invariant-items
invariant-items l = record { same : items_count (map item_of l.items) + l.left ≡ 10000 + items_count (map item_of l.rest) }

abbrev pub decreases-items : goal.decreases-items
decreases-items l = length l.rest
