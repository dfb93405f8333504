-- The names of items, by number and by spelling.
use Rattle.std.specs.Prelude.{ℕ, List, [], ◌∷◌, length, map, reverse, if◌then◌else◌, Option, Some, None}
use Rattle.std.specs.Str.{bytes_eq}
use Rattle.std.specs.Global.{Vec}
use Rattle.std.specs.HashMap.{HashMap, get_by}
use Rattle.cdle_model.specs.declared.grammar.Sort.{Sort}
use Rattle.cdle_model.specs.Trees.{Tree, name}
use Rattle.cdle_model.specs.CoreNames.{Name}
use Rattle.cdle_model.specs.Forms.{name_of}
use Rattle.cdle_model.specs.Classes.{item_sort}
use Rattle.core_tree.specs.Items.{written}
use Rattle.core_tree.specs.declared.items.CoreItem.{CoreItem}
use Rattle.core_text.specs.declared.entry.Entry.{Entry}
use Rattle.core_text.specs.declared.entry.NewName.{NewName}

abbrev pub entry : Entry → Name
entry e = record { text = e.name.items; sort = e.sort }

-- the latest first
abbrev pub entry_names : List Entry → List Name
entry_names xs = reverse (map entry xs)

abbrev pub numbered : Option (Sort × ℕ) → Option (Sort × Tree)
numbered None = None
numbered (Some x) = Some (x.0, name x.1)

-- the number of the latest item of that spelling, and what it stands for
abbrev pub latest_of : List ℕ → List Name → Option (Sort × ℕ)
latest_of w [] = None
latest_of w (x ∷ xs) = if bytes_eq w x.text then Some (x.sort, length xs) else latest_of w xs

-- what a map of names has at a spelling
abbrev pub latest_at : {S : Type 0} → HashMap (Vec ℕ) (Sort × ℕ) S → List ℕ → Option (Sort × ℕ)
latest_at m w = get_by (λ k. bytes_eq w k.items) m

abbrev pub new_name : NewName → Name
new_name n = entry n.entry

-- the name that an item gives
abbrev pub item_name : CoreItem → Name
item_name i = record { text = name_of (written i); sort = item_sort (written i) }
