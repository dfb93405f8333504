-- The signature of a list of items is closed.
use Rattle.std.proofs.Common.{◌≡◌, ◌⊎◌, inl, inr, ℕ, zero, suc, List, [], ◌∷◌, ◌++◌, length, Option, Some, None, slice_get, option_map, refl, subst, arith}
use Rattle.cdle_model.specs.Trees.{Tree, IsBelow, NamesBelow}
use Rattle.cdle_model.specs.Forms.{Written, def_item, type_item}
use Rattle.cdle_model.specs.Classes.{TreeClass, terms, types, kinds, within, Fits, item_sorts, IsScopedOver}
use Rattle.cdle_model.specs.Erasure.{erased}
use Rattle.cdle_model.specs.Steps.{IsSignature}
use Rattle.cdle_model.specs.Derivation.{Entry, term_of, type_of, Item, bodies, item, signed, signature}
use Rattle.cdle_model.proofs.Lists.{get-snoc, length-sorts, signature-snoc}
use Rattle.cdle_model.proofs.ScopedTrees.{Inner, fits-inner, erased-inner}

-- the bodies, types and kinds of a signature are closed
pub record ClosedItems (is : List Item) : Type 0 where
  pub signed_bodies : IsSignature (bodies is)
  pub closed_types : (n : ℕ) (a : Tree) → item is n ≡ Some (term_of a) → IsBelow 0 a
  pub closed_kinds : (n : ℕ) (a : Tree) → item is n ≡ Some (type_of a) → IsBelow 0 a

-- the same of one item, over n earlier ones
abbrev known_tree : Entry → Tree
known_tree (term_of a) = a
known_tree (type_of k) = k

abbrev IsClosedItem : ℕ → Item → Type 0
IsClosedItem n i = IsBelow 0 (known_tree i.known) × Inner 0 n i.body

abbrev pub AreClosed : List Item → Type 0
AreClosed is = (n : ℕ) (i : Item) → slice_get is n ≡ Some i → IsClosedItem n i

pub body-get : (is : List Item) (n : ℕ) (p : Tree) → slice_get (bodies is) n ≡ Some p → (i : Item) × (slice_get is n ≡ Some i) × (i.body ≡ p)
body-get [] n p e = absurd (grind arith)
body-get (i ∷ is) zero p e = (i, refl, grind arith)
body-get (i ∷ is) (suc n) p e = body-get is n p e

known-get : (o : Option Item) (e : Entry) → option_map (λ (i : Item). i.known) o ≡ Some e → (i : Item) × (o ≡ Some i) × (i.known ≡ e)
known-get (Some i) e h = (i, refl, grind arith)
known-get None e h = absurd (grind arith)

pub closed-items : (is : List Item) → AreClosed is → ClosedItems is
closed-items is h = record {
  signed_bodies = record {
    closed = λ n p e. let (i, x, y) = body-get is n p e in subst (IsBelow 0) y (h n i x).1.0;
    earlier = λ n p e. let (i, x, y) = body-get is n p e in subst (NamesBelow n) y (h n i x).1.1;
  };
  closed_types = λ n a e. let (i, x, y) = known-get (slice_get is n) (term_of a) e in subst (λ z. IsBelow 0 (known_tree z)) y (h n i x).0;
  closed_kinds = λ n a e. let (i, x, y) = known-get (slice_get is n) (type_of a) e in subst (λ z. IsBelow 0 (known_tree z)) y (h n i x).0;
}

closed-snoc : (is : List Item) (i : Item) → AreClosed is → IsClosedItem (length is) i → AreClosed (is ++ (i ∷ []))
closed-snoc is i h k n j e = by_cases (get-snoc is i j n e)
  where
    by_cases : (slice_get is n ≡ Some j) ⊎ (n ≡ length is) × (i ≡ j) → IsClosedItem n j
    by_cases (inl x) = h n j x
    by_cases (inr x) = rw x.0 (subst (IsClosedItem (length is)) x.1 k)

closed-tree : (es : List Written) (c : TreeClass) (t : Tree) → Fits (within [] (item_sorts es)) c t → Inner 0 (length (signature es)) (erased t)
closed-tree es c t h = rw (← length-sorts es) (erased-inner 0 (length (item_sorts es)) t (fits-inner [] (item_sorts es) c t h))

closed-written : (es : List Written) (w : Written) → IsScopedOver es w → IsClosedItem (length (signature es)) (signed w)
closed-written es (def_item x a t) h = ((closed-tree es types a h.0).0, closed-tree es terms t h.1)
closed-written es (type_item x k a) h = ((closed-tree es kinds k h.0).0, closed-tree es types a h.1)

pub closed-more : (es : List Written) (w : Written) → AreClosed (signature es) → IsScopedOver es w → AreClosed (signature (es ++ (w ∷ [])))
closed-more es w h k = rw (signature-snoc es w) (closed-snoc (signature es) (signed w) h (closed-written es w k))

pub closed-none : AreClosed []
closed-none n i e = absurd (grind arith)
