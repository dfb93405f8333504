use Rattle.std.proofs.Common.{◌≡◌, map, take}
use Rattle.core_text.specs.Names.{item_name, new_name}
use Rattle.core_text.proofs.scope.new_names.Given as goal

abbrev pub invariant-loop-item : goal.invariant-loop-item
invariant-loop-item l = map new_name l.names.items ≡ map item_name (take l.item-index l.items)
