-- What elaboration gives, as the definitions' items, and what is left of an item's body by erasure.
use Rattle.std.specs.Prelude.{◌≡◌}
use Rattle.cdle_model.specs.Forms.{Written, def_item, type_item}
use Rattle.cdle_model.specs.Erasure.{erased}
use Rattle.elab_tree.specs.declared.items.OutItem.{OutItem}
use Rattle.elab_tree.specs.declared.items.OutItem.TheVariants.{Def, TypeDef}
use Rattle.elab_tree.specs.declared.items.ErasedBody.{ErasedBody}
use Rattle.elab_tree.specs.declared.items.ErasedBody.TheVariants.{OfTerm, OfType}

abbrev pub written : OutItem → Written
written (Def x a t) = def_item x a t
written (TypeDef x k a) = type_item x k a

-- the erasure of the item's body: a pure term where that is a term, and a guide where it is a type
abbrev pub IsErasedBody : Written → ErasedBody → Type 0
IsErasedBody (def_item x a t) (OfTerm p) = p ≡ erased t
IsErasedBody (type_item x k a) (OfType g) = g ≡ erased a
IsErasedBody w e = ⊥
