-- The bodies of items that have a derivation, as what their names unfold to.
use Rattle.std.proofs.Common.{◌≡◌, ◌⊎◌, inl, inr, ℕ, zero, suc, Bool, true, false, cond, List, [], ◌∷◌, ◌++◌, length, Option, Some, None, slice_get, refl, sym, ap, ◌∙◌, subst, arith}
use Rattle.std.proofs.lemmas.List.{append_assoc, append-nil}
use Rattle.cdle_model.specs.Trees.{Tree, IsBelow}
use Rattle.cdle_model.specs.Forms.{Written, def_item, type_item}
use Rattle.cdle_model.specs.Erasure.{erased}
use Rattle.cdle_model.specs.Classes.{types, within, IsScopedOver, AreScopedOver, AreScoped, item_sort, item_sorts}
use Rattle.cdle_model.specs.Derivation.{type_of, Item, bodies, bodies, item, a_type, Has, signed, signature, HasItem, DerivedAfter, AreDerived}
use Rattle.cdle_model.proofs.Lists.{get-left, get-snoc, signature-snoc}
use Rattle.cdle_model.proofs.ScopedTrees.{fits-inner}
use Rattle.cdle_model.proofs.Signatures.{ClosedItems, AreClosed, closed-items, closed-more, closed-none}
use Rattle.elab_model.specs.HeadWritten.{type_body, all_names, all_but}
use Rattle.elab_model.specs.Unfoldings.{IsSigned, AreKinded, UnfoldsSound}
use Rattle.elab_model.specs.SoundTrees.{Sound}
use Rattle.cdle_model.specs.declared.grammar.Sort.{Sort}
use Rattle.cdle_model.specs.declared.grammar.Sort.TheVariants.{OfType}
use Rattle.cdle_model.specs.Fitting.{ItemHasErasures, HaveErasures}
use Rattle.cdle_model.proofs.ClassSubstitution.{fits-closed}
use Rattle.elab_model.specs.Unknowns.{Types, fill_written}
use Rattle.elab_model.proofs.WholeTrees.{fits-whole}
use Rattle.elab_model.proofs.MoreItems.{Holds, holds-more, has-more}

closed-after : (es ws : List Written) → AreClosed (signature es) → AreScopedOver es ws → AreClosed (signature (es ++ ws))
closed-after es [] g h = subst (λ z. AreClosed (signature z)) (sym (append-nil es)) g
closed-after es (w ∷ ws) g h = subst (λ z. AreClosed (signature z)) (append_assoc es (w ∷ []) ws) (closed-after (es ++ (w ∷ [])) ws (closed-more es w g h.0) h.1)

pub items-closed : (ws : List Written) → AreScoped ws → ClosedItems (signature ws)
items-closed ws h = closed-items (signature ws) (closed-after [] ws closed-none h)

-- the body of a type's item is closed and without unknowns
abbrev IsWhole : Tree → Type 0
IsWhole p = IsBelow 0 p × ((f : Types) → fill_written f p ≡ p)

type-whole : (es : List Written) (x : List ℕ) (k a : Tree) → IsScopedOver es (type_item x k a) → IsWhole a
type-whole es x k a h = ((fits-inner [] (item_sorts es) types a h.1).0, λ f. fits-whole (within [] (item_sorts es)) types f a h.1)

whole-after : (es ws : List Written) → AreScopedOver es ws → (n : ℕ) (x : List ℕ) (k a : Tree) → slice_get ws n ≡ Some (type_item x k a) → IsWhole a
whole-after es [] h n x k a e = absurd (grind arith)
whole-after es (v ∷ ws) h zero x k a e = let i : v ≡ type_item x k a = grind arith in type-whole es x k a (subst (IsScopedOver es) i h.0)
whole-after es (v ∷ ws) h (suc n) x k a e = whole-after (es ++ (v ∷ [])) ws h.1 n x k a e

-- each item has a derivation over the whole signature
abbrev pub AreKnown : List Written → Type 0
AreKnown ws = (n : ℕ) (w : Written) → slice_get ws n ≡ Some w → HasItem (signature ws) w

item-more : (is js : List Item) → Holds is js → (w : Written) → HasItem is w → HasItem js w
item-more is js g (def_item x a t) h = (has-more is js g h.0, has-more is js g h.1)
item-more is js g (type_item x k a) h = (has-more is js g h.0, has-more is js g h.1)

known-snoc : (es : List Written) (w : Written) → AreKnown es → HasItem (signature es) w → AreKnown (es ++ (w ∷ []))
known-snoc es w h l n v e =
    let g : Holds (signature es) (signature (es ++ (w ∷ []))) = rw (signature-snoc es w) (holds-more (signature es) (signed w ∷ [])) in
    by_cases g (get-snoc es w v n e)
  where
    by_cases : Holds (signature es) (signature (es ++ (w ∷ []))) → (slice_get es n ≡ Some v) ⊎ (n ≡ length es) × (w ≡ v) → HasItem (signature (es ++ (w ∷ []))) v
    by_cases g (inl x) = item-more _ _ g v (h n v x)
    by_cases g (inr x) = rw (← x.1) (item-more _ _ g w l)

known-after : (es ws : List Written) → AreKnown es → DerivedAfter es ws → AreKnown (es ++ ws)
known-after es [] g k = subst AreKnown (sym (append-nil es)) g
known-after es (w ∷ ws) g k = subst AreKnown (append_assoc es (w ∷ []) ws) (known-after (es ++ (w ∷ [])) ws (known-snoc es w g k.1) k.2)

known-none : AreKnown []
known-none n w e = absurd (grind arith)

-- the signature's item of an item
pub item-get : (ws : List Written) (n : ℕ) (w : Written) → slice_get ws n ≡ Some w → (item (signature ws) n ≡ Some (signed w).known) × (slice_get (bodies (signature ws)) n ≡ Some (signed w).body)
item-get [] n w e = absurd (grind arith)
item-get (v ∷ ws) zero w e = let k : v ≡ w = grind arith in rw k (refl, refl)
item-get (v ∷ ws) (suc n) w e = item-get ws n w e

body-from : (o : Option Written) (p : Tree) → type_body o ≡ Some p → (x : List ℕ) × (k : Tree) × (o ≡ Some (type_item x k p))
body-from (Some (type_item x k a)) p e = let i : a ≡ p = grind arith in (x, k, rw i refl)
body-from (Some (def_item x a t)) p e = absurd (grind arith)
body-from None p e = absurd (grind arith)

kept-from : (ws : List Written) (kept : ℕ → Bool) (n : ℕ) (p : Tree) → all_but kept ws n ≡ Some p → (x : List ℕ) × (k : Tree) × (slice_get ws n ≡ Some (type_item x k p))
kept-from ws kept n p e = by_test (kept n) e
  where
    by_test : (b : Bool) → cond b None (all_names ws n) ≡ Some p → (x : List ℕ) × (k : Tree) × (slice_get ws n ≡ Some (type_item x k p))
    by_test true e = absurd (grind arith)
    by_test false e = body-from (slice_get ws n) p e

pub bodies-signed : (ws : List Written) → AreScoped ws → (kept : ℕ → Bool) → IsSigned (bodies (signature ws)) (all_but kept ws)
bodies-signed ws h kept = record {
  closed = λ n p e. let (x, k, y) = kept-from ws kept n p e in (whole-after [] ws h n x k p y).0;
  whole = λ n p e f. let (x, k, y) = kept-from ws kept n p e in (whole-after [] ws h n x k p y).1 f;
  erases = λ n p e. let (x, k, y) = kept-from ws kept n p e in (item-get ws n (type_item x k p) y).1;
}

one-kind : {a b : Tree} → Some (type_of a) ≡ Some (type_of b) → a ≡ b
one-kind e = grind arith

pub bodies-kinded : (ws : List Written) → AreDerived ws → (kept : ℕ → Bool) → AreKinded (signature ws) (all_but kept ws)
bodies-kinded ws h kept n p l e i =
    let (x, k, y) = kept-from ws kept n p e in
    let z : erased k ≡ l = one-kind (sym (item-get ws n (type_item x k p) y).0 ∙ i) in
    let d : HasItem (signature ws) (type_item x k p) = known-after [] ws known-none h n (type_item x k p) y in
    subst (Has (signature ws) a_type [] p) z d.1

-- the bodies are of their classes, with erasures
sorts-append : (es ws : List Written) → item_sorts (es ++ ws) ≡ item_sorts es ++ item_sorts ws
sorts-append [] ws = refl
sorts-append (e ∷ es) ws = ap (◌∷◌ (item_sort e)) (sorts-append es ws)

more-sorts : (es ws : List Written) (n : ℕ) (x : Sort) → slice_get (item_sorts es) n ≡ Some x → slice_get (item_sorts (es ++ ws)) n ≡ Some x
more-sorts es ws n x e = rw (sorts-append es ws) (get-left (item_sorts es) (item_sorts ws) n x e)

type-well : (es ws : List Written) (x : List ℕ) (k a : Tree) → IsScopedOver es (type_item x k a) → ItemHasErasures (type_item x k a) → Sound (item_sorts (es ++ ws)) [] types a
type-well es ws x k a h g = (fits-closed (item_sorts es) (item_sorts (es ++ ws)) [] (more-sorts es ws) types a h.1, g.1)

well-after : (es ws : List Written) → AreScopedOver es ws → HaveErasures ws → (n : ℕ) (x : List ℕ) (k a : Tree) → slice_get ws n ≡ Some (type_item x k a)
    → Sound (item_sorts (es ++ ws)) [] types a
well-after es [] h g n x k a e = absurd (grind arith)
well-after es (v ∷ ws) h g zero x k a e = let i : v ≡ type_item x k a = grind arith in type-well es (v ∷ ws) x k a (subst (IsScopedOver es) i h.0) (subst ItemHasErasures i g.0)
well-after es (v ∷ ws) h g (suc n) x k a e =
    subst (λ z. Sound (item_sorts z) [] types a) (append_assoc es (v ∷ []) ws) (well-after (es ++ (v ∷ [])) ws h.1 g.1 n x k a e)

pub bodies-sound : (ws : List Written) → AreScoped ws → HaveErasures ws → (kept : ℕ → Bool) → UnfoldsSound (item_sorts ws) (all_but kept ws)
bodies-sound ws h g kept n p e = let (x, k, y) = kept-from ws kept n p e in well-after [] ws h g n x k p y

-- every name of a type unfolds
pub names-full : (ws : List Written) (n : ℕ) → slice_get (item_sorts ws) n ≡ Some OfType → all_names ws n ≡ None → slice_get (bodies (signature ws)) n ≡ None
names-full [] n i e = refl
names-full (def_item x a t ∷ ws) zero i e = absurd (grind arith)
names-full (type_item x k a ∷ ws) zero i e = absurd (grind arith)
names-full (w ∷ ws) (suc n) i e = names-full ws n i e

pub known-items : (ws : List Written) → AreDerived ws → AreKnown ws
known-items ws k = known-after [] ws known-none k

-- more items at the end
signature-append : (es ws : List Written) → signature (es ++ ws) ≡ signature es ++ signature ws
signature-append [] ws = refl
signature-append (e ∷ es) ws = ap (◌∷◌ (signed e)) (signature-append es ws)

pub items-held : (es ws : List Written) → Holds (signature es) (signature (es ++ ws))
items-held es ws = rw (signature-append es ws) (holds-more (signature es) (signature ws))
