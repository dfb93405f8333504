-- The items and modules that the code's stand for.
use Rattle.std.specs.Prelude.{◌≡◌, ℕ, ◌+◌, List, [], ◌∷◌, length, map}
use Rattle.cdle_model.specs.CoreNames.{Name}
use Rattle.source_model.specs.Source.{Parameter, Constructor, def_item, type_item, data_item}
use Rattle.scope_model.specs.ScopeNames.{Exported}
use Rattle.scope_model.specs.Scoped as model
use Rattle.scoped_tree.specs.Trees.{place}
use Rattle.scoped_tree.specs.declared.items.ItemName.{ItemName}
use Rattle.scoped_tree.specs.declared.items.ScopedCtor.{ScopedCtor}
use Rattle.scoped_tree.specs.declared.items.ScopedItem.{ScopedItem}
use Rattle.scoped_tree.specs.declared.items.ScopedItem.TheVariants.{Def, TypeDef, Data}
use Rattle.scoped_tree.specs.declared.items.ScopedModule.{ScopedModule}
use Rattle.scoped_tree.specs.declared.items.ScopedParam.{ScopedParam}

abbrev pub parameter_of : ScopedParam → Parameter (Unit {0}) model.Reference
parameter_of p = record { span = place p.span; binder = tt; sort = p.sort; class = p.class }

abbrev pub constructor_of : ScopedCtor → Constructor (List ℕ) (Unit {0}) model.Reference
constructor_of c = record { span = place c.span; name = c.name; type = c.ty }

abbrev pub item_of : ScopedItem → model.ScopedItem
item_of (Def x s a t) = def_item (place s) x a t
item_of (TypeDef x s a t) = type_item (place s) x a t
item_of (Data d) = data_item (place d.span) d.name (map parameter_of d.params.items) (map constructor_of d.ctors.items)

abbrev pub module_of : ScopedModule → model.ScopedModule
module_of m = record { first = m.first; items = map item_of m.items.items }

-- ---- names and numbers

abbrev pub item_name : ItemName → Name
item_name x = record { text = x.text; sort = x.sort }

-- the module as those behind it know it
abbrev pub exported_of : ScopedModule → Exported
exported_of m = record { name = m.name; first = m.first; items = map item_name m.names.items }

-- how many Core items an item gives
abbrev pub core_items : ScopedItem → ℕ
core_items (Def x s a t) = 1
core_items (TypeDef x s a t) = 1
core_items (Data d) = 5 + length d.ctors.items

-- a datatype keeps the number of its first Core item, which is this one
abbrev pub BeginsAt : ℕ → ScopedItem → Type 0
BeginsAt n (Def x s a t) = Unit {0}
BeginsAt n (TypeDef x s a t) = Unit {0}
BeginsAt n (Data d) = d.first ≡ n

-- the first of these items begins with this number, and each other one where the one before it ends
abbrev pub AreNumbered : ℕ → List ScopedItem → Type 0
AreNumbered n [] = Unit {0}
AreNumbered n (i ∷ is) = BeginsAt n i × AreNumbered (n + core_items i) is
