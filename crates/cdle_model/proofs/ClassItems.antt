-- The plain check of a list of items that are of their classes never ends as ill classed.
use Rattle.std.proofs.Common.{◌≡◌, ◌⊎◌, inl, inr, ℕ, List, [], ◌∷◌, ◌++◌, length, Option, Some, None, slice_get, option_map, refl, sym, ◌∙◌, subst, arith}
use Rattle.std.proofs.lemmas.List.{append_assoc, append-nil}
use Rattle.cdle_model.specs.declared.grammar.Sort.{Sort}
use Rattle.cdle_model.specs.declared.grammar.Sort.TheVariants.{OfTerm, OfType}
use Rattle.cdle_model.specs.Forms.{Written, def_item, type_item, name_of}
use Rattle.cdle_model.specs.Classes.{terms, types, kinds, guides, guide_kinds, within, Fits, item_sort, item_sorts, IsScopedOver, AreScopedOver, AreScoped}
use Rattle.cdle_model.specs.Erasure.{erased, HasErasure}
use Rattle.cdle_model.specs.Steps.{IsSignature}
use Rattle.cdle_model.specs.HeadForms.{Halt, deep}
use Rattle.cdle_model.specs.Derivation.{Entry, term_of, type_of, Item, bodies, a_term, a_type, a_kind, signed, signature}
use Rattle.cdle_model.specs.Fitting.{class_of, ItemHasErasures, HaveErasures, EntryFits, SignatureFits}
use Rattle.cdle_model.specs.Check.{first_of}
use Rattle.cdle_model.specs.Check.{Finding, gives, refused, spent_at, halts, infer_item, ListVerdict, accepts, ends, by_name, by_finding, check_item, check_after, check_items}
use Rattle.cdle_model.proofs.Lists.{get-left, get-last, get-snoc, length-sorts, sorts-snoc, signature-snoc}
use Rattle.cdle_model.proofs.Signatures.{AreClosed, body-get, closed-items, closed-more, closed-none}
use Rattle.cdle_model.proofs.ClassSubstitution.{Leads, fits-closed}
use Rattle.cdle_model.proofs.ClassErasure.{erased-fits}
use Rattle.cdle_model.proofs.ClassChecked.{FindingSound, Sound, sound-part, answer-sound, sound-same, sound-star, sound}

-- an item is of the sort of its name
abbrev ItemFits : List Sort → Sort → Item → Type 0
ItemFits zs x i = EntryFits [] zs x (Some i.known) × Fits (within [] zs) (class_of x) i.body

abbrev AreSorted : List Sort → List Item → Type 0
AreSorted zs is = (n : ℕ) (x : Sort) → slice_get zs n ≡ Some x → (i : Item) × (slice_get is n ≡ Some i) × ItemFits zs x i

sorted-items : (zs : List Sort) (is : List Item) → AreSorted zs is → SignatureFits zs is
sorted-items zs is h = record {
  bodies_fit = λ n p x e f.
      let (i, k, l) = body-get is n p e in
      let (j, m, o) = h n x f in
      let same : j ≡ i = grind arith in subst (Fits (within [] zs) (class_of x)) l (subst (ItemFits zs x) same o).1;
  known_fit = λ n x f. let (j, m, o) = h n x f in subst (λ z. EntryFits [] zs x (option_map (λ (i : Item). i.known) z)) (sym m) o.0;
}

entry-more : (zs ys : List Sort) (x : Sort) (e : Entry) → Leads (λ n. n) zs ys → EntryFits [] zs x (Some e) → EntryFits [] ys x (Some e)
entry-more zs ys OfTerm (term_of a) m h = fits-closed zs ys [] m guides a h
entry-more zs ys OfType (type_of k) m h = fits-closed zs ys [] m guide_kinds k h
entry-more zs ys OfTerm (type_of k) m h = absurd h
entry-more zs ys OfType (term_of a) m h = absurd h

item-more : (zs ys : List Sort) (x : Sort) (i : Item) → Leads (λ n. n) zs ys → ItemFits zs x i → ItemFits ys x i
item-more zs ys x i m h = (entry-more zs ys x i.known m h.0, fits-closed zs ys [] m (class_of x) i.body h.1)

sorted-snoc : (zs : List Sort) (is : List Item) (y : Sort) (i : Item) → length zs ≡ length is → AreSorted zs is → ItemFits zs y i → AreSorted (zs ++ (y ∷ [])) (is ++ (i ∷ []))
sorted-snoc zs is y i l h k n x e = by_cases (get-snoc zs y x n e)
  where
    by_cases : (slice_get zs n ≡ Some x) ⊎ (n ≡ length zs) × (y ≡ x) → (j : Item) × (slice_get (is ++ (i ∷ [])) n ≡ Some j) × ItemFits (zs ++ (y ∷ [])) x j
    by_cases (inl u) = let (j, m, o) = h n x u in (j, get-left is (i ∷ []) n j m, item-more zs (zs ++ (y ∷ [])) x j (get-left zs (y ∷ [])) o)
    by_cases (inr u) =
        let e : n ≡ length is = u.0 ∙ l in
        (i, rw e (get-last is i), rw (← u.1) (item-more zs (zs ++ (y ∷ [])) y i (get-left zs (y ∷ [])) k))

item-fits : (zs : List Sort) (es : List Written) (w : Written) → zs ≡ item_sorts es → IsScopedOver es w → ItemHasErasures w → ItemFits zs (item_sort w) (signed w)
item-fits zs es (def_item x a t) e h k = rw e (erased-fits (item_sorts es) [] types a h.0 k.0, erased-fits (item_sorts es) [] terms t h.1 k.1)
item-fits zs es (type_item x l a) e h k = rw e (erased-fits (item_sorts es) [] kinds l h.0 k.0, erased-fits (item_sorts es) [] types a h.1 k.1)

sorted-more : (es : List Written) (w : Written) → AreSorted (item_sorts es) (signature es) → IsScopedOver es w → ItemHasErasures w → AreSorted (item_sorts (es ++ (w ∷ []))) (signature (es ++ (w ∷ [])))
sorted-more es w h k l = rw (sorts-snoc es w, signature-snoc es w) (sorted-snoc (item_sorts es) (signature es) (item_sort w) (signed w) (length-sorts es) h (item-fits (item_sorts es) es w refl k l))

-- one item
module _ (es : List Written) (g : SignatureFits (item_sorts es) (signature es)) where
  sound-item : (w : Written) → IsScopedOver es w → Sound (item_sorts es) (λ _. ItemHasErasures w) (infer_item (signature es) w)
  sound-item (def_item x a t) h =
      sound-star (item_sorts es) (signature es) g (λ _. ItemHasErasures (def_item x a t)) [] a 1 _ _ (sound (item_sorts es) (signature es) g a_type [] a tt h.0)
      (λ ea. sound-part (item_sorts es) (λ b. HasErasure t × Fits (within [] (item_sorts es)) guides b) (λ _. ItemHasErasures (def_item x a t)) 2 _ _ (sound (item_sorts es) (signature es) g a_term [] t tt h.1)
      (λ b k. sound-same (item_sorts es) (signature es) g [] guides b (erased a) tt k.1 (erased-fits (item_sorts es) [] types a h.0 ea) (ea, k.0)))
  sound-item (type_item x l a) h =
      sound-part (item_sorts es) (λ b. HasErasure l × Fits (within [] (item_sorts es)) guide_kinds b) (λ _. ItemHasErasures (type_item x l a)) 1 _ _ (sound (item_sorts es) (signature es) g a_kind [] l tt h.0)
      (λ s el. sound-part (item_sorts es) (λ b. HasErasure a × Fits (within [] (item_sorts es)) guide_kinds b) (λ _. ItemHasErasures (type_item x l a)) 2 _ _ (sound (item_sorts es) (signature es) g a_type [] a tt h.1)
      (λ b k. sound-same (item_sorts es) (signature es) g [] guide_kinds b (erased l) tt k.1 (erased-fits (item_sorts es) [] kinds l h.0 el.0) (el.0, k.0)))

answered : (es : List Written) (w : Written) (n : ℕ) → SignatureFits (item_sorts es) (signature es) → IsScopedOver es w → FindingSound (λ _. ItemHasErasures w) (check_item n es w)
answered es w n g h = answer-sound (item_sorts es) (bodies (signature es)) g.bodies_fit n (λ _. ItemHasErasures w) (infer_item (signature es) w) (sound-item es g w h)

ends-name : (i j : ℕ) (z : Halt) (o : Option ℕ) (v : ListVerdict) → (v ≡ ends j z → z ≡ deep) → by_name i o v ≡ ends j z → z ≡ deep
ends-name i j z (Some e) v h k = absurd (grind arith)
ends-name i j z None v h k = h k

ends-finding : (i j : ℕ) (z : Halt) (Y : Type 0) (r : Finding) (v : ListVerdict) → FindingSound (λ _. Y) r → (Y → v ≡ ends j z → z ≡ deep) → by_finding i r v ≡ ends j z → z ≡ deep
ends-finding i j z Y (gives a) v h k e = k h e
ends-finding i j z Y (refused p w) v h k e = absurd (grind arith)
ends-finding i j z Y (spent_at p) v h k e = absurd (grind arith)
ends-finding i j z Y (halts y) v h k e = let l : y ≡ z = grind arith in sym l ∙ h

ends-after : (n : ℕ) (es ws : List Written) (j : ℕ) (z : Halt) → AreSorted (item_sorts es) (signature es) → AreScopedOver es ws → check_after n es ws ≡ ends j z → z ≡ deep
ends-after n es [] j z g h e = absurd (grind arith)
ends-after n es (w ∷ ws) j z g h e =
    ends-name (length es) j z (first_of (name_of w) es) _
    (ends-finding (length es) j z (ItemHasErasures w) (check_item n es w) _ (answered es w n (sorted-items (item_sorts es) (signature es) g) h.0)
    (λ k. ends-after n (es ++ (w ∷ [])) ws j z (sorted-more es w g h.0 k) h.1)) e

pub list-ends : (ws : List Written) → AreScoped ws → (n j : ℕ) (z : Halt) → check_items n ws ≡ ends j z → z ≡ deep
list-ends ws h n j z = ends-after n [] ws j z (λ m x e. absurd (grind arith)) h

-- the signature of a list of items
sorted-after : (es ws : List Written) → AreSorted (item_sorts es) (signature es) → AreScopedOver es ws → HaveErasures ws → AreSorted (item_sorts (es ++ ws)) (signature (es ++ ws))
sorted-after es [] g h k = rw (append-nil es) g
sorted-after es (w ∷ ws) g h k = subst (λ z. AreSorted (item_sorts z) (signature z)) (append_assoc es (w ∷ []) ws) (sorted-after (es ++ (w ∷ [])) ws (sorted-more es w g h.0 k.0) h.1 k.1)

pub items-fit : (ws : List Written) → AreScoped ws → HaveErasures ws → SignatureFits (item_sorts ws) (signature ws)
items-fit ws h k = sorted-items (item_sorts ws) (signature ws) (sorted-after [] ws (λ m x e. absurd (grind arith)) h k)

pub closed-after : (es ws : List Written) → AreClosed (signature es) → AreScopedOver es ws → AreClosed (signature (es ++ ws))
closed-after es [] g h = rw (append-nil es) g
closed-after es (w ∷ ws) g h = subst (λ z. AreClosed (signature z)) (append_assoc es (w ∷ []) ws) (closed-after (es ++ (w ∷ [])) ws (closed-more es w g h.0) h.1)

pub items-signature : (ws : List Written) → AreScoped ws → IsSignature (bodies (signature ws))
items-signature ws h = (closed-items (signature ws) (closed-after [] ws closed-none h)).signed_bodies

-- what is accepted has erasures
accepted-name : (i : ℕ) (Y : Type 0) (o : Option ℕ) (v : ListVerdict) → (v ≡ accepts → Y) → by_name i o v ≡ accepts → Y
accepted-name i Y (Some e) v h k = absurd (grind arith)
accepted-name i Y None v h k = h k

accepted-finding : (i : ℕ) (Y Z : Type 0) (r : Finding) (v : ListVerdict) → FindingSound (λ _. Y) r → (Y → v ≡ accepts → Z) → by_finding i r v ≡ accepts → Z
accepted-finding i Y Z (gives a) v h k e = k h e
accepted-finding i Y Z (refused p w) v h k e = absurd (grind arith)
accepted-finding i Y Z (spent_at p) v h k e = absurd (grind arith)
accepted-finding i Y Z (halts y) v h k e = absurd (grind arith)

accepted-after : (n : ℕ) (es ws : List Written) → AreSorted (item_sorts es) (signature es) → AreScopedOver es ws → check_after n es ws ≡ accepts → HaveErasures ws
accepted-after n es [] g h e = tt
accepted-after n es (w ∷ ws) g h e =
    accepted-name (length es) (HaveErasures (w ∷ ws)) (first_of (name_of w) es) _
    (accepted-finding (length es) (ItemHasErasures w) (HaveErasures (w ∷ ws)) (check_item n es w) _ (answered es w n (sorted-items (item_sorts es) (signature es) g) h.0)
    (λ k l. (k, accepted-after n (es ++ (w ∷ [])) ws (sorted-more es w g h.0 k) h.1 l))) e

pub accepted-erasures : (ws : List Written) → AreScoped ws → (n : ℕ) → check_items n ws ≡ accepts → HaveErasures ws
accepted-erasures ws h n = accepted-after n [] ws (λ m x e. absurd (grind arith)) h
