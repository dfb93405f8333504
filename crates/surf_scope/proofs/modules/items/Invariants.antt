use Rattle.std.proofs.Common.{◌≡◌, ◌++◌, ◌+◌, ◌<◌, ◌^◌, length, map}
use Rattle.scope_model.specs.Scope.{all_names, around, count, scoped_items}
use Rattle.scoped_tree.specs.Items as scoped
use Rattle.surf_tree.specs.Items.{item_of, module_of}
use Rattle.surf_scope.specs.Exports.{known}
use Rattle.scope_part.specs.Index.{names_of}
use Rattle.surf_scope.specs.Modules.{spelled_items, spelled_module}
use Rattle.surf_scope.specs.Modulewise.{around_behind}
use Rattle.surf_scope.proofs.ItemScope.{total}
use Rattle.surf_scope.proofs.ModuleScope.{items_on}
use Rattle.surf_scope.proofs.modules.items.Given as goal

abbrev pub invariant-items : goal.invariant-items
invariant-items l = record {
  same : items_on (around_behind (known l.exports) (spelled_module l.names (module_of l.«module»)) (names_of l.own)) (map scoped.item_of l.items.items) (spelled_items l.names (map item_of l.rest))
      ≡ scoped_items (around (known l.exports) (spelled_module l.names (module_of l.«module»))) (spelled_items l.names (map item_of l.«module».items.items));
  given : names_of l.own ++ all_names (spelled_items l.names (map item_of l.rest)) ≡ all_names (spelled_items l.names (map item_of l.«module».items.items));
  numbers : scoped.AreNumbered (count (known l.exports)) l.items.items;
  counted : total l.items.items ≡ length (names_of l.own);
  first : l.first ≡ count (known l.exports);
  few : count (known l.exports) + length (names_of l.own) < 2 ^ 32;
}

abbrev pub decreases-items : goal.decreases-items
decreases-items l = length l.rest
