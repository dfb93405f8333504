-- The items that were checked, place by place.
use Rattle.std.proofs.Common.{◌≡◌, ℕ, zero, suc, ◌<◌, List, [], ◌∷◌, ◌++◌, length, slice_get, get_or, Some, length-append, refl, sym, ◌∙◌, subst, ap, arith}
use Rattle.std.proofs.lemmas.List.{append_assoc, append-nil}
use Rattle.cdle_model.specs.declared.grammar.Sort.{Sort}
use Rattle.cdle_model.specs.Forms.{Written}
use Rattle.cdle_model.specs.Classes.{IsScopedOver, AreScopedOver, item_sort, item_sorts}
use Rattle.cdle_model.specs.Derivation.{bodies, signature}
use Rattle.cdle_model.specs.Fitting.{ItemHasErasures, HaveErasures, class_of}
use Rattle.core_tree.specs.declared.items.CoreItem.{CoreItem}
use Rattle.core_tree.specs.declared.items.CoreItem.TheVariants.{Def, TypeDef}
use Rattle.core_tree.specs.Items.{written}
use Rattle.core_reduce.specs.declared.root.Root.{Root}
use Rattle.core_reduce.specs.declared.root.Root.TheVariants as r
use Rattle.core_reduce.specs.declared.items.CheckedItem.{CheckedItem}
use Rattle.core_reduce.specs.Sides.{class_trees, root_class, root_tree}
use Rattle.core_reduce.specs.Checked.{items_of, IsBody, HaveBodies, AreChecked}

pub length_items : (is : List CheckedItem) → length (items_of is) ≡ length is
length_items [] = refl
length_items (i ∷ is) = ap suc (length_items is)

pub items_push : (is : List CheckedItem) (i : CheckedItem) → items_of (is ++ i ∷ []) ≡ items_of is ++ written i.item ∷ []
items_push [] i = refl
items_push (j ∷ is) i = ap (λ ws. written j.item ∷ ws) (items_push is i)

pub item_at : (is : List CheckedItem) (n : ℕ) (i : CheckedItem) → n < length is → i ≡ get_or is n i → slice_get (items_of is) n ≡ Some (written i.item)
item_at [] n i l e = absurd (omega arith)
item_at (j ∷ is) zero i l e = ap (λ k. Some (written k.item)) (sym e)
item_at (j ∷ is) (suc n) i l e = item_at is n i (omega arith) e

-- ---- one more item

over_more : (es ws : List Written) (w : Written) → AreScopedOver es ws → IsScopedOver (es ++ ws) w → AreScopedOver es (ws ++ w ∷ [])
over_more es [] w h k = (subst (λ z. IsScopedOver z w) (append-nil es) k, tt)
over_more es (x ∷ ws) w h k = (h.0, over_more (es ++ (x ∷ [])) ws w h.1 (subst (λ z. IsScopedOver z w) (sym (append_assoc es (x ∷ []) ws)) k))

erasures_more : (ws : List Written) (w : Written) → HaveErasures ws → ItemHasErasures w → HaveErasures (ws ++ w ∷ [])
erasures_more [] w h k = (k, tt)
erasures_more (x ∷ ws) w h k = (h.0, erasures_more ws w h.1 k)

bodies_more : (is : List CheckedItem) (i : CheckedItem) → HaveBodies is → IsBody i.item i.body → HaveBodies (is ++ i ∷ [])
bodies_more [] i h k = (k, tt)
bodies_more (j ∷ is) i h k = (h.0, bodies_more is i h.1 k)

pub checked_more : (is : List CheckedItem) (i : CheckedItem) (c : CoreItem) → AreChecked is → length is < 4294967295 → IsScopedOver (items_of is) (written c) → ItemHasErasures (written c)
    → written i.item ≡ written c → IsBody c i.body → AreChecked (is ++ i ∷ [])
checked_more is i c h l over erasures same body = record {
  items = rw items_push (over_more [] (items_of is) (written i.item) h.items (rw same over));
  erasures = rw items_push (erasures_more (items_of is) (written i.item) h.erasures (rw same erasures));
  bodies = bodies_more is i h.bodies (same_body i.item c i.body same body);
  few = (rw length-append (omega arith));
}
  where
    same_body : (x y : CoreItem) (b : Root) → written x ≡ written y → IsBody y b → IsBody x b
    same_body (Def a b t) (Def c d u) (r.Pure p) e k = grind (arith, k)
    same_body (TypeDef a b t) (TypeDef c d u) (r.Guide p) e k = grind (arith, k)
    same_body (Def a b t) (TypeDef c d u) q e k = cc
    same_body (TypeDef a b t) (Def c d u) q e k = cc
    same_body x y q e k = absurd k

-- ---- the kept body at a place

body_is : (i : CoreItem) (b : Root) (es : List Written) → IsBody i b → bodies (signature (written i ∷ es)) ≡ root_tree b ∷ bodies (signature es)
body_is (Def x a t) (r.Pure p) es h = rw h refl
body_is (TypeDef x k a) (r.Guide p) es h = rw h refl
body_is i b es h = absurd h

pub body_at : (is : List CheckedItem) (n : ℕ) (i : CheckedItem) → n < length is → i ≡ get_or is n i → HaveBodies is → slice_get (bodies (signature (items_of is))) n ≡ Some (root_tree i.body)
body_at [] n i l e h = absurd (omega arith)
body_at (j ∷ is) zero i l e h = ap (λ z. slice_get z 0) (body_is j.item j.body (items_of is) h.0) ∙ ap (λ k. Some (root_tree k.body)) (sym e)
body_at (j ∷ is) (suc n) i l e h = ap (λ z. slice_get z (suc n)) (body_is j.item j.body (items_of is) h.0) ∙ body_at is n i (omega arith) e h.1

body_class : (i : CoreItem) (b : Root) → IsBody i b → class_trees (root_class b) ≡ class_of (item_sort (written i))
body_class (Def x a t) (r.Pure p) h = refl
body_class (TypeDef x k a) (r.Guide p) h = refl
body_class i b h = absurd h

pub class_at : (is : List CheckedItem) (n : ℕ) (i : CheckedItem) (x : Sort) → n < length is → i ≡ get_or is n i → HaveBodies is → slice_get (item_sorts (items_of is)) n ≡ Some x
    → class_trees (root_class i.body) ≡ class_of x
class_at [] n i x l e h g = absurd (omega arith)
class_at (j ∷ is) zero i x l e h g = let q : item_sort (written j.item) ≡ x = cc in rw e (body_class j.item j.body h.0 ∙ ap class_of q)
class_at (j ∷ is) (suc n) i x l e h g = class_at is n i x (omega arith) e h.1 g
