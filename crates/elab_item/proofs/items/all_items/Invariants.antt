use Rattle.std.proofs.Common.{map}
use Rattle.elab_tree.specs.Items.{written}
use Rattle.scoped_tree.specs.Items.{item_of}
use Rattle.elab_item.proofs.Standing.{Standing}
use Rattle.elab_item.proofs.items.all_items.Given as goal

abbrev pub invariant-loop-item : goal.invariant-loop-item
invariant-loop-item l = Standing l.units l.fn.env l.env (map item_of l.items) l.item-index (map written l.given.items)
