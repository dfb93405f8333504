-- The plain check of a list of items: what it accepts has a derivation, and the items up to one that it refuses have none.
use Rattle.std.proofs.Common.{◌≡◌, ℕ, zero, suc, ◌+◌, List, [], ◌∷◌, ◌++◌, length, take, Option, Some, None, ◌∙◌, subst, arith}
use Rattle.std.proofs.lemmas.List.{length-append}
use Rattle.cdle_model.specs.Trees.{Tree}
use Rattle.cdle_model.specs.Forms.{star, Written, def_item, type_item, name_of}
use Rattle.cdle_model.specs.Classes.{AreScopedOver, AreScoped}
use Rattle.cdle_model.specs.Erasure.{erased}
use Rattle.cdle_model.specs.Steps.{Joined}
use Rattle.cdle_model.specs.Derivation.{Item, bodies, Judgement, a_term, a_type, a_kind, Has, converted, signature, IsNew, HasItem, DerivedAfter, AreDerived}
use Rattle.cdle_model.specs.Check.{first_of}
use Rattle.cdle_model.specs.Check.{Reason, wrong_kind, mismatch, Finding, gives, refused, spent_at, halts, Questions, finds, ask_same, at_part, infer, infer_item, ListVerdict, accepts, refuses, spends, ends, duplicate, by_name, by_finding, check_item, check_after, check_items}
use Rattle.cdle_model.proofs.Signatures.{ClosedItems, AreClosed, closed-items, closed-more, closed-none}
use Rattle.cdle_model.proofs.NewNames.{NameTells, name-tells}
use Rattle.cdle_model.proofs.Inversion.{kind-star}
use Rattle.cdle_model.proofs.CheckSteps.{FindingTells, Tells, tells-part, answer-tells}
use Rattle.cdle_model.proofs.TreeChecked.{uniq, told}

-- one item
module _ (is : List Item) (g : ClosedItems is) where
  abbrev ItemTold : Written → Questions → Type 0
  ItemTold w q = Tells (bodies is) (λ _. HasItem is w) (HasItem is w → ⊥) q

  part-told : (j : Judgement) (t : Tree) (w : Written) (i : ℕ) (f : Tree → Questions) → (HasItem is w → (b : Tree) × Has is j [] t b) → ((a : Tree) → Has is j [] t a → ItemTold w (f a)) → ItemTold w (at_part i (infer is j [] t) f)
  part-told j t w i f h k = tells-part (bodies is) (Has is j [] t) (λ _. HasItem is w) ((b : Tree) → Has is j [] t b → ⊥) (HasItem is w → ⊥) i (infer is j [] t) f
      (told is g j [] t) (λ x d. let (b, e) = h d in x b e) k

  same-told : (w : Written) (p : List ℕ) (r : Reason) (a b : Tree) (k : Questions) → (HasItem is w → Joined (bodies is) a b) → (Joined (bodies is) a b → ItemTold w k) → ItemTold w (ask_same p r a b k)
  same-told w p r a b k h f = ((λ x d. x (h d)), f)

  told-item : (w : Written) → ItemTold w (infer_item is w)
  told-item (def_item x a t) =
      part-told a_type a (def_item x a t) 1 _ (λ h. (star, h.0))
      (λ k hk. same-told (def_item x a t) (1 ∷ []) (wrong_kind k (Some star)) k star _ (λ h. uniq is g [] hk h.0)
      (λ k-is. part-told a_term t (def_item x a t) 2 _ (λ h. (erased a, h.1))
      (λ b hb. same-told (def_item x a t) (2 ∷ []) (mismatch b (erased a)) b (erased a) (finds (erased a)) (λ h. uniq is g [] hb h.1)
      (λ b-is. (converted hk k-is, converted hb b-is)))))
  told-item (type_item x k a) =
      part-told a_kind k (type_item x k a) 1 _ (λ h. (star, h.0))
      (λ s hs. part-told a_type a (type_item x k a) 2 _ (λ h. (erased k, h.1))
      (λ l hl. same-told (type_item x k a) (2 ∷ []) (wrong_kind l (Some (erased k))) l (erased k) (finds (erased k)) (λ h. uniq is g [] hl h.1)
      (λ l-is. (kind-star hs, converted hl l-is))))

-- the items up to number i have no derivation, of which es are the first
abbrev Lost : List Written → List Written → ℕ → Type 0
Lost es ws i = (k : ℕ) × (i ≡ length es + k) × (DerivedAfter es (take (suc k) ws) → ⊥)

abbrev pub ListTold : List Written → List Written → ListVerdict → Type 0
ListTold es ws accepts = DerivedAfter es ws
ListTold es ws (refuses i p w) = Lost es ws i
ListTold es ws (duplicate i e) = Lost es ws i
ListTold es ws v = Unit {0}

told-later : (es ws : List Written) (w : Written) (v : ListVerdict) → IsNew (name_of w) es → HasItem (signature es) w → ListTold (es ++ (w ∷ [])) ws v → ListTold es (w ∷ ws) v
told-later es ws w accepts x y h = (x, y, h)
told-later es ws w (refuses i p r) x y (k, e, lost) =
    let m : length (es ++ (w ∷ [])) ≡ length es + 1 = length-append es (w ∷ []) in (suc k, grind arith, λ h. lost h.2)
told-later es ws w (duplicate i j) x y (k, e, lost) =
    let m : length (es ++ (w ∷ [])) ≡ length es + 1 = length-append es (w ∷ []) in (suc k, grind arith, λ h. lost h.2)
told-later es ws w (spends i p) x y h = tt
told-later es ws w (ends i z) x y h = tt

told-finding : (es ws : List Written) (w : Written) (r : Finding) (v : ListVerdict) → IsNew (name_of w) es → FindingTells (λ _. HasItem (signature es) w) (HasItem (signature es) w → ⊥) r
    → ListTold (es ++ (w ∷ [])) ws v → ListTold es (w ∷ ws) (by_finding (length es) r v)
told-finding es ws w (gives a) v x h k = told-later es ws w v x h k
told-finding es ws w (refused p r) v x h k = (zero, grind arith, λ l. h l.1)
told-finding es ws w (spent_at p) v x h k = tt
told-finding es ws w (halts z) v x h k = tt

told-after : (n : ℕ) (es ws : List Written) → AreClosed (signature es) → AreScopedOver es ws → ListTold es ws (check_after n es ws)
told-after n es [] g h = tt
told-after n es (w ∷ ws) g h = by_new (λ x. told-after n (es ++ (w ∷ [])) ws x h.1) (first_of (name_of w) es) (name-tells (name_of w) es)
  where
    by_new : (AreClosed (signature (es ++ (w ∷ []))) → ListTold (es ++ (w ∷ [])) ws (check_after n (es ++ (w ∷ [])) ws)) → (o : Option ℕ) → NameTells (name_of w) es o → ListTold es (w ∷ ws) (by_name (length es) o (by_finding (length es) (check_item n es w) (check_after n (es ++ (w ∷ [])) ws)))
    by_new f (Some e) k = (zero, grind arith, λ l. k l.0)
    by_new f None k = told-finding es ws w (check_item n es w) (check_after n (es ++ (w ∷ [])) ws) k
        (answer-tells (signature es) (closed-items (signature es) g) n (λ _. HasItem (signature es) w) (HasItem (signature es) w → ⊥) (infer_item (signature es) w) (told-item (signature es) (closed-items (signature es) g) w))
        (f (closed-more es w g h.0))

pub accepted-derived : (ws : List Written) → AreScoped ws → (n : ℕ) → check_items n ws ≡ accepts → AreDerived ws
accepted-derived ws h n e = subst (ListTold [] ws) e (told-after n [] ws closed-none h)

up-to : (ws : List Written) (i : ℕ) → Lost [] ws i → AreDerived (take (suc i) ws) → ⊥
up-to ws i (k, e, lost) = let j : i ≡ k = e ∙ grind arith in rw j lost

pub refused-lost : (ws : List Written) → AreScoped ws → (n i : ℕ) (p : List ℕ) (w : Reason) → check_items n ws ≡ refuses i p w → AreDerived (take (suc i) ws) → ⊥
refused-lost ws h n i p w e = up-to ws i (subst (ListTold [] ws) e (told-after n [] ws closed-none h))

pub duplicate-lost : (ws : List Written) → AreScoped ws → (n i j : ℕ) → check_items n ws ≡ duplicate i j → AreDerived (take (suc i) ws) → ⊥
duplicate-lost ws h n i j e = up-to ws i (subst (ListTold [] ws) e (told-after n [] ws closed-none h))
