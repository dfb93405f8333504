-- What is known of the items so far.
use Rattle.std.specs.Prelude.{ℕ, List, [], ◌∷◌, ◌++◌, Bool, false, Option, None, Some, slice_get}
use Rattle.cdle_model.specs.Forms.{Written}
use Rattle.elab_tree.specs.Items.{IsErasedBody}
use Rattle.elab_tree.specs.declared.items.ErasedBody.{ErasedBody}
use Rattle.cdle_model.specs.declared.grammar.Mode.{Mode}

-- a constructor's item, and the modes of its arguments
pub record Ctor : Type 0 where
  pub number : ℕ
  pub modes : List Mode

-- what is known of a datatype's name: how many parameters it has, its constructors in declared order, the items that case analysis applies,
-- whether there is an index, and the item of course-of-values case analysis where there is one
pub record Data : Type 0 where
  pub params : ℕ
  pub ctors : List Ctor
  pub mu : ℕ
  pub sigma : ℕ
  pub indexed : Bool
  pub case_item : Option ℕ

-- an item, annotated, and what is known of it where it is a datatype's name
pub record Entry : Type 0 where
  pub item : Written
  pub known : Option Data

-- the items in their order, and whether a call was refused
pub record Known : Type 0 where
  pub entries : List Entry
  pub failed : Bool

abbrev pub empty : Known
empty = record { entries = []; failed = false }

-- with one item more
abbrev pub with_entry : Known → Written → Option Data → Known
with_entry e w d = record { entries = e.entries ++ record { item = w; known = d } ∷ []; failed = e.failed }

abbrev pub item_in : Option Entry → Option Written
item_in None = None
item_in (Some e) = Some e.item

abbrev pub data_in : Option Entry → Option Data
data_in None = None
data_in (Some e) = e.known

-- the item of that number, and what is known of it where it is a datatype's name
abbrev pub item_at : Known → ℕ → Option Written
item_at k n = item_in (slice_get k.entries n)

abbrev pub data_of_item : Known → ℕ → Option Data
data_of_item k n = data_in (slice_get k.entries n)

-- the erasure of that item's body
abbrev pub HasErasedBody : Option Written → ErasedBody → Type 0
HasErasedBody None e = ⊥
HasErasedBody (Some w) e = IsErasedBody w e
