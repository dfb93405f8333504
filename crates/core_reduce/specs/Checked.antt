-- Items that were checked, and the erased bodies that are kept beside them.
use Rattle.std.specs.Prelude.{◌≡◌, ◌≤◌, List, [], ◌∷◌, length}
use Rattle.cdle_model.specs.Forms.{Written}
use Rattle.cdle_model.specs.Classes.{AreScoped}
use Rattle.cdle_model.specs.Erasure.{erased}
use Rattle.cdle_model.specs.Fitting.{HaveErasures}
use Rattle.core_tree.specs.declared.items.CoreItem.{CoreItem}
use Rattle.core_tree.specs.declared.items.CoreItem.TheVariants.{Def, TypeDef}
use Rattle.core_tree.specs.Items.{written}
use Rattle.core_reduce.specs.declared.root.Root.{Root}
use Rattle.core_reduce.specs.declared.root.Root.TheVariants as r
use Rattle.core_reduce.specs.declared.items.CheckedItem.{CheckedItem}

abbrev pub items_of : List CheckedItem → List Written
items_of [] = []
items_of (i ∷ is) = written i.item ∷ items_of is

-- the tree is the item's erased body
abbrev pub IsBody : CoreItem → Root → Type 0
IsBody (Def x a t) (r.Pure p) = p ≡ erased t
IsBody (TypeDef x k a) (r.Guide p) = p ≡ erased a
IsBody i p = ⊥

abbrev pub HaveBodies : List CheckedItem → Type 0
HaveBodies [] = Unit {0}
HaveBodies (i ∷ is) = IsBody i.item i.body × HaveBodies is

-- each item is over those before it, its erasures are defined, and its body is kept; and the items can be counted
pub record AreChecked (is : List CheckedItem) : Type 0 where
  pub items : AreScoped (items_of is)
  pub erasures : HaveErasures (items_of is)
  pub bodies : HaveBodies is
  pub few : length is ≤ 4294967295
