-- Lists of items and of their sorts, with one more at the end.
use Rattle.std.proofs.Common.{◌≡◌, ◌⊎◌, inl, inr, ℕ, zero, suc, List, [], ◌∷◌, ◌++◌, length, Some, slice_get, refl, ap, arith}
use Rattle.cdle_model.specs.Forms.{Written}
use Rattle.cdle_model.specs.Classes.{item_sort, item_sorts}
use Rattle.cdle_model.specs.Derivation.{signed, signature}

pub get-left : {A : Type 0} (xs ys : List A) (n : ℕ) (x : A) → slice_get xs n ≡ Some x → slice_get (xs ++ ys) n ≡ Some x
get-left [] ys n x e = absurd (grind arith)
get-left (y ∷ xs) ys zero x e = e
get-left (y ∷ xs) ys (suc n) x e = get-left xs ys n x e

pub get-last : {A : Type 0} (xs : List A) (x : A) → slice_get (xs ++ (x ∷ [])) (length xs) ≡ Some x
get-last [] x = refl
get-last (y ∷ xs) x = get-last xs x

pub get-snoc : {A : Type 0} (is : List A) (i j : A) (n : ℕ) → slice_get (is ++ (i ∷ [])) n ≡ Some j → (slice_get is n ≡ Some j) ⊎ (n ≡ length is) × (i ≡ j)
get-snoc [] i j zero e = inr (refl, grind arith)
get-snoc [] i j (suc n) e = absurd (grind arith)
get-snoc (k ∷ is) i j zero e = inl e
get-snoc (k ∷ is) i j (suc n) e = by_cases (get-snoc is i j n e)
  where
    by_cases : (slice_get is n ≡ Some j) ⊎ (n ≡ length is) × (i ≡ j) → (slice_get is n ≡ Some j) ⊎ (suc n ≡ suc (length is)) × (i ≡ j)
    by_cases (inl h) = inl h
    by_cases (inr h) = inr (ap suc h.0, h.1)

pub length-sorts : (es : List Written) → length (item_sorts es) ≡ length (signature es)
length-sorts [] = refl
length-sorts (w ∷ es) = ap suc (length-sorts es)

pub sorts-snoc : (es : List Written) (w : Written) → item_sorts (es ++ (w ∷ [])) ≡ item_sorts es ++ (item_sort w ∷ [])
sorts-snoc [] w = refl
sorts-snoc (v ∷ es) w = ap (◌∷◌ (item_sort v)) (sorts-snoc es w)

pub signature-snoc : (es : List Written) (w : Written) → signature (es ++ (w ∷ [])) ≡ signature es ++ (signed w ∷ [])
signature-snoc [] w = refl
signature-snoc (v ∷ es) w = ap (◌∷◌ (signed v)) (signature-snoc es w)
