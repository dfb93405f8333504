-- The next module in the order.
use Rattle.std.proofs.Common.{◌≡◌, ℕ, zero, suc, List, [], ◌∷◌, Some, map, ap, ◌∙◌, arith}
use Rattle.std.specs.List.{slice_get}
use Rattle.build_modules.specs.Ordered.{before, in_order}

pub there_map : {A B : Type 0} (f : A → B) (xs : List A) (i : ℕ) (x : A) → slice_get xs i ≡ Some x → slice_get (map f xs) i ≡ Some (f x)
there_map f [] i x e = absurd (grind arith)
there_map f (y ∷ ys) zero x e = let same : y ≡ x = cc in ap (λ z. Some (f z)) same
there_map f (y ∷ ys) (suc i) x e = there_map f ys i x e

pub next_in_order : {A B : Type 0} (f : A → B) (xs : List A) (i : ℕ) (x : A) (rest others : List ℕ) → rest ≡ i ∷ others → slice_get xs i ≡ Some x → in_order (map f xs) rest ≡ f x ∷ in_order (map f xs) others
next_in_order f xs i x rest others e h = ap (in_order (map f xs)) e ∙ ap (λ o. before o (in_order (map f xs) others)) (there_map f xs i x h)
