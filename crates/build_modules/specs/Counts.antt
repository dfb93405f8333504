-- How many Core items source items give.
use Rattle.std.specs.Prelude.{ℕ, ◌+◌, List, [], ◌∷◌, length}
use Rattle.source_model.specs.Source.{SourceItem, def_item, type_item, data_item}

-- a definition is one; a datatype gives five, and its constructors
abbrev pub item_count : {T B N : Type 0} → SourceItem T B N → ℕ
item_count (def_item s x t u) = 1
item_count (type_item s x t u) = 1
item_count (data_item s x ps cs) = 5 + length cs

abbrev pub items_count : {T B N : Type 0} → List (SourceItem T B N) → ℕ
items_count [] = 0
items_count (i ∷ is) = item_count i + items_count is
