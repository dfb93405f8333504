-- What is known of a variable or of an item.
use Rattle.std.proofs.Common.{◌≡◌, ℕ, zero, suc, ◌<◌, List, [], ◌∷◌, length, Result, Option, Some, ap, subst, slice_get, arith}
use Rattle.cdle_model.specs.declared.grammar.Sort.{Sort}
use Rattle.cdle_model.specs.Trees.{Tree}
use Rattle.cdle_model.specs.Forms.{Written}
use Rattle.cdle_model.specs.Classes.{item_sort, item_sorts}
use Rattle.cdle_model.specs.Derivation.{Entry, term_of, type_of, a_term, a_type, item, signature, signed}
use Rattle.cdle_model.specs.Fitting.{HaveErasures, ItemHasErasures}
use Rattle.cdle_model.specs.Check.{found}
use Rattle.core_rules.specs.Faults.{IsLimited}
use Rattle.core_rules.specs.declared.fault.Fault.{Fault}
use Rattle.core_rules.specs.Questions.{Meets}
use Rattle.core_rules.proofs.Results.{limited_meets}

pub have_erasures : (es : List Written) (n : ℕ) (w : Written) → HaveErasures es → slice_get es n ≡ Some w → ItemHasErasures w
have_erasures [] n w h e = absurd cc
have_erasures (v ∷ es) zero w h e = let f : v ≡ w = cc in subst ItemHasErasures f h.0
have_erasures (v ∷ es) (suc n) w h e = have_erasures es n w h.1 e

pub sort_below : (es : List Written) (n : ℕ) (x : Sort) → slice_get (item_sorts es) n ≡ Some x → n < length es
sort_below [] n x e = absurd cc
sort_below (v ∷ es) zero x e = omega arith
sort_below (v ∷ es) (suc n) x e = let l = sort_below es n x e in omega arith

pub item_sort_is : (es : List Written) (n : ℕ) (x : Sort) (w : Written) → slice_get (item_sorts es) n ≡ Some x → slice_get es n ≡ Some w → item_sort w ≡ x
item_sort_is [] n x w e f = absurd cc
item_sort_is (v ∷ es) zero x w e f = let g : v ≡ w = cc in let h : item_sort v ≡ x = cc in subst (λ z. item_sort z ≡ x) g h
item_sort_is (v ∷ es) (suc n) x w e f = item_sort_is es n x w e f

module _ (es : List Written) (n : ℕ) (c : List Entry) where
  pub known_term : (o : Option Entry) (a : Tree) (r : Result Tree Fault) → o ≡ Some (term_of a) → IsLimited a r → Meets es n (found a_term o) r
  known_term o a r e h = rw e (limited_meets es n a r h)

  pub known_type : (o : Option Entry) (a : Tree) (r : Result Tree Fault) → o ≡ Some (type_of a) → IsLimited a r → Meets es n (found a_type o) r
  known_type o a r e h = rw e (limited_meets es n a r h)

-- what is known of an item
pub known_item : (es : List Written) (n : ℕ) (w : Written) → slice_get es n ≡ Some w → item (signature es) n ≡ Some (signed w).known
known_item [] n w e = absurd cc
known_item (v ∷ es) zero w e = let f : v ≡ w = cc in ap (λ z. Some (signed z).known) f
known_item (v ∷ es) (suc n) w e = known_item es n w e
