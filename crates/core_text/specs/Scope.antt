-- The scope that the reader's values stand for.
use Rattle.std.specs.Prelude.{ℕ, ◌+◌, ◌≤◌, List, [], ◌∷◌, ◌++◌, Option, Some, None}
use Rattle.std.specs.Borrow.{Bor}
use Rattle.std.specs.Vec.{vec_len, vec_capacity}
use Rattle.std.specs.HashMap.{spare}
use Rattle.cdle_model.specs.declared.grammar.Sort.{Sort}
use Rattle.cdle_model.specs.Trees.{Tree, var, name}
use Rattle.cdle_model.specs.CoreNames.{Name, Names}
use Rattle.core_text.specs.declared.binders.Binders.{Binders, Outermost, Inside'}
use Rattle.core_text.specs.Names.{entry_names}
use Rattle.core_text.specs.declared.scope.CoreScope.{CoreScope}
use Rattle.core_text.specs.declared.binders.Meaning.{Meaning}
use Rattle.core_text.specs.declared.binders.Meaning.TheVariants as means

abbrev pub names : Binders → List Name
names Outermost = []
names (Inside' text sort p outer) = record { text = text.now; sort = sort } ∷ names outer

-- the names of the items, the latest first
abbrev pub known_names : CoreScope → List Name
known_names s = entry_names s.entries.items

-- so many names can be put without more memory
abbrev pub HasRoom : ℕ → CoreScope → Type 0
HasRoom n s = (vec_len s.entries + n ≤ vec_capacity s.entries) × (n ≤ spare s.latest)

-- behind the binders the file's items, and behind these the earlier files'
abbrev pub scope_of : Binders → CoreScope → CoreScope → Names
scope_of binders own known = record { binders = names binders; items = known_names own ++ known_names known }

abbrev pub meant : Meaning → Tree
meant (means.Var n) = var n
meant (means.Name n) = name n

abbrev pub meaning : Option (Sort × Meaning) → Option (Sort × Tree)
meaning None = None
meaning (Some x) = Some (x.0, meant x.1)

-- a name that a form binds, and what it stands for
abbrev pub binder_name : Option (Bor (List ℕ) × Sort) → Option Name
binder_name None = None
binder_name (Some x) = Some (record { text = x.0.now; sort = x.1 })
