-- The names of items, and what a map of them has.
use Rattle.std.specs.Prelude.{ℕ, ◌+◌, List, map, Option, Some, None}
use Rattle.std.specs.Str.{bytes_eq}
use Rattle.std.specs.Global.{Vec}
use Rattle.std.specs.HashMap.{HashMap, get_by}
use Rattle.cdle_model.specs.declared.grammar.Sort.{Sort}
use Rattle.cdle_model.specs.CoreNames.{Name}
use Rattle.scope_model.specs.Scoped as scoped
use Rattle.scope_model.specs.ScopeNames.{Standing}
use Rattle.scoped_tree.specs.Items.{item_name}
use Rattle.scoped_tree.specs.declared.items.ItemName.{ItemName}

abbrev pub listed_names : List ItemName → List Name
listed_names xs = map item_name xs

abbrev pub item_standing : Option (Sort × ℕ) → Option Standing
item_standing None = None
item_standing (Some x) = Some (x.0, scoped.item x.1)

-- the place of an item among those of which the first has this number
abbrev pub standing_from : ℕ → Option (Sort × ℕ) → Option Standing
standing_from n None = None
standing_from n (Some x) = Some (x.0, scoped.item (n + x.1))

-- what a map has at a text
abbrev pub latest_at : {S : Type 0} → HashMap (Vec ℕ) (Sort × ℕ) S → List ℕ → Option (Sort × ℕ)
latest_at m w = get_by (λ k. bytes_eq w k.items) m
