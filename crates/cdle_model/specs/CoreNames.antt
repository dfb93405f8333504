-- What the names of a Core text stand for.
use Rattle.std.specs.Prelude.{ℕ, ◌+◌, Bool, true, false, List, [], ◌∷◌, length, if◌then◌else◌, codes, Option, Some, None}
use Rattle.std.specs.Str.{bytes_eq}
use Rattle.cdle_model.specs.Trees.{Tree, var, name}
use Rattle.cdle_model.specs.Forms.{Written, name_of}
use Rattle.cdle_model.specs.declared.grammar.Sort.{Sort}
use Rattle.cdle_model.specs.declared.grammar.Sort.TheVariants.{OfTerm, OfType}
use Rattle.cdle_model.specs.Classes.{item_sort}

-- a name's bytes, and whether it stands for a term or a type
pub record Name : Type 0 where
  pub text : List ℕ
  pub sort : Sort

-- the binders from the innermost on, and the items of all files from the latest on
pub record Names : Type 0 where
  pub binders : List Name
  pub items : List Name

-- the innermost binder of that spelling, where the first has this number
abbrev pub binder_of : List ℕ → ℕ → List Name → Option (Sort × Tree)
binder_of w n [] = None
binder_of w n (x ∷ xs) = if bytes_eq w x.text then Some (x.sort, var n) else binder_of w (n + 1) xs

-- the latest item of that spelling; the earliest of all has number 0
abbrev pub item_of : List ℕ → List Name → Option (Sort × Tree)
item_of w [] = None
item_of w (x ∷ xs) = if bytes_eq w x.text then Some (x.sort, name (length xs)) else item_of w xs

abbrev pub or_else : Option (Sort × Tree) → Option (Sort × Tree) → Option (Sort × Tree)
or_else (Some x) other = Some x
or_else None other = other

-- an innermost binder hides each item
unfoldable pub stands : List ℕ → Names → Option (Sort × Tree)
stands w scope = or_else (binder_of w 0 scope.binders) (item_of w scope.items)

-- the scope under a binder, where one came before
abbrev pub names_under : Option Name → Names → Names
names_under None scope = scope
names_under (Some x) scope = record scope { binders = x ∷ scope.binders }

-- the scope of an item behind these, whose own name is not in it
abbrev pub behind : List Name → Names
behind known = record { binders = []; items = known }

-- the names behind an item
abbrev pub with_item : Written → List Name → List Name
with_item i known = record { text = name_of i; sort = item_sort i } ∷ known

-- the names behind these items
abbrev pub with_items : List Written → List Name → List Name
with_items [] known = known
with_items (i ∷ is) known = with_items is (with_item i known)

abbrev pub same_sort : Sort → Sort → Bool
same_sort OfTerm OfTerm = true
same_sort OfTerm OfType = false
same_sort OfType OfTerm = false
same_sort OfType OfType = true

-- `*` is never a name
abbrev pub is_star : List ℕ → Bool
is_star w = bytes_eq w (codes "*")
