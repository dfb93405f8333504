-- Where the parts of forms stand.
use Rattle.std.proofs.Common.{◌≡◌, ◌≤◌, List, ◌∷◌, length, refl, arith}
use Rattle.cdle_model.specs.declared.grammar.Sort.{Sort}
use Rattle.cdle_model.specs.Trees.{Tree, IsBelow, put}
use Rattle.cdle_model.specs.Classes.{TreeClass, Fits, UsedAs, within}
use Rattle.cdle_model.specs.Derivation.{Entry}
use Rattle.cdle_model.specs.Erasure.{HasErasure, erased}
use Rattle.cdle_model.specs.Fitting.{IsErased, class_of, entry_sorts, erased_class}
use Rattle.cdle_model.proofs.ClassErasure.{erased-fits}
use Rattle.cdle_model.proofs.ClassSubstitution.{fits-put}
use Rattle.cdle_model.proofs.Scoping.{scoped_used}
use Rattle.core_compare.specs.Answers.{ArePlaced}
use Rattle.core_reduce.specs.Sides.{IsPlaced}
use Rattle.cdle_model.proofs.Scopes.{fits_below_bound}
use Rattle.core_rules.proofs.Looked.{length_sorts}

module _ (es : List Entry) (xs : List Sort) (few : length es ≤ 4096) where
  pub placed : (c : TreeClass) (a : Tree) → Fits (within (entry_sorts es) xs) c a → IsPlaced 4250000000 xs c a
  placed c a h = let e = length_sorts es in record { sorts = entry_sorts es; few = omega arith; fits = h }

  pub both_placed : (c : TreeClass) (a b : Tree) → Fits (within (entry_sorts es) xs) c a → Fits (within (entry_sorts es) xs) c b → ArePlaced 4200000000 xs c a b
  both_placed c a b h k = let e = length_sorts es in record { sorts = entry_sorts es; few = omega arith; left = h; right = k }

  -- what is put for a variable
  pub below : (c : TreeClass) (a : Tree) → Fits (within (entry_sorts es) xs) c a → IsBelow 4290000000 a
  below c a h = let l = length_sorts es in fits_below_bound 4290000000 (entry_sorts es) xs c a (omega arith) h

  pub erased_below : (c : TreeClass) (t a : Tree) → Fits (within (entry_sorts es) xs) c t → HasErasure t → a ≡ erased t → IsBelow 4290000000 a
  erased_below c t a h k e = let l = length_sorts es in rw e (fits_below_bound 4290000000 (entry_sorts es) xs (erased_class c) (erased t) (omega arith) (erased-fits xs (entry_sorts es) c t h k))

-- each use of the variable of a binder
pub used : (vs xs : List Sort) (x : Sort) (c : TreeClass) (a : Tree) → Fits (within (x ∷ vs) xs) c a → UsedAs x 0 c a
used vs xs x c a h = scoped_used (x ∷ vs) xs x 0 c a refl h

-- what was erased, and what was put, is in its class
module _ (vs xs : List Sort) where
  pub erased_fit : (c : TreeClass) (t a : Tree) → Fits (within vs xs) c t → HasErasure t → a ≡ erased t → Fits (within vs xs) (erased_class c) a
  erased_fit c t a h k e = rw e (erased-fits xs vs c t h k)

  pub put_fit : (x : Sort) (c : TreeClass) (b a w : Tree) → IsErased c → Fits (within vs xs) (class_of x) a → Fits (within (x ∷ vs) xs) c b → w ≡ put 0 a b → Fits (within vs xs) c w
  put_fit x c b a w i h k e = rw e (fits-put xs vs x a h c b i k)
