use Rattle.std.proofs.Common.{◌≡◌, length, map}
use Rattle.build_model.specs.Unbuilt.{unbuilt_items}
use Rattle.scoped_tree.specs.Items.{item_of}
use Rattle.build_modules.proofs.unbuilt.first_in_items.Given as goal

abbrev pub invariant-items : goal.invariant-items
invariant-items l = record { same : unbuilt_items (map item_of l.rest) ≡ unbuilt_items (map item_of l.items) }

abbrev pub decreases-items : goal.decreases-items
decreases-items l = length l.rest
