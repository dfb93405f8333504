-- The names that an index has.
use Rattle.std.specs.Prelude.{ℕ, ◌+◌, ◌≤◌, List}
use Rattle.std.specs.Vec.{vec_len, vec_capacity}
use Rattle.std.specs.HashMap.{spare}
use Rattle.cdle_model.specs.CoreNames.{Name}
use Rattle.scope_part.specs.Entries.{listed_names}
use Rattle.scope_part.specs.declared.index.ItemIndex.{ItemIndex}

-- in order
abbrev pub names_of : ItemIndex → List Name
names_of x = listed_names x.names.items

-- so many names can be put without more memory
abbrev pub HasRoom : ℕ → ItemIndex → Type 0
HasRoom n x = (vec_len x.names + n ≤ vec_capacity x.names) × (n ≤ spare x.latest)
