-- An unknown that has a place stands in the pattern.
use Rattle.std.proofs.Common.{◌≡◌, ◌⊎◌, inl, inr, ℕ, suc, Bool, true, false, Option, Some, None, refl}
use Rattle.cdle_model.specs.Trees.{of_term, of_type, Binder, Tree, leaf, apply, bind}
use Rattle.elab_model.specs.Instances.{is_unknown, or_else, mentions, Part, or_part, of_domain, if_is, first_place}
use Rattle.elab_model.proofs.FoundParts.{of_head-is, of_domain-is, if_former-is}

either-true : (a b : Bool) → a ≡ true → or_else a b ≡ true
either-true true b h = refl
either-true false b h = absurd cc

or-true : (a b : Bool) → b ≡ true → or_else a b ≡ true
or-true true b h = refl
or-true false b h = h

or_part-from : (o r : Option Part) (x : Part) (a b : Bool) → (o ≡ Some x → a ≡ true) → (r ≡ Some x → b ≡ true) → or_part o r ≡ Some x → or_else a b ≡ true
or_part-from (Some y) r x a b f g h = either-true a b (f h)
or_part-from None r x a b f g h = or-true a b (g h)

of_domain-from : (f : Binder) (o r : Option Part) (x : Part) (a b : Bool) → (o ≡ Some x → a ≡ true) → (r ≡ Some x → b ≡ true) → of_domain f o r ≡ Some x → or_else a b ≡ true
of_domain-from f o r x a b i j h = by_domain (of_domain-is f o r x h)
  where
    by_domain : (o ≡ Some x) ⊎ (r ≡ Some x) → or_else a b ≡ true
    by_domain (inl e) = either-true a b (i e)
    by_domain (inr e) = or-true a b (j e)

pub place-mentioned : (n k : ℕ) (p t : Tree) (x : Part) → first_place n k p t ≡ Some x → mentions n p ≡ true
place-mentioned n k (leaf l) t x h = by_test (is_unknown n (leaf l)) h
  where
    by_test : (b : Bool) → if_is b k t ≡ Some x → b ≡ true
    by_test true h = refl
    by_test false h = absurd cc
place-mentioned n k (apply of_term p q) (apply of_term p' q') x h = either-true (mentions n p) (mentions n q) (place-mentioned n k p p' x (of_head-is p _ x h))
place-mentioned n k (apply of_type p q) (apply of_type p' q') x h =
    or_part-from _ _ x (mentions n p) (mentions n q) (λ e. place-mentioned n k p p' x (of_head-is p _ x e)) (place-mentioned n k q q' x) h
place-mentioned n k (bind f p q) (bind g p' q') x h =
    of_domain-from f _ _ x (mentions n p) (mentions n q) (place-mentioned n k p p' x) (place-mentioned n (suc k) q q' x) (if_former-is f g _ x h).1
place-mentioned n k p t x h = absurd cc
