-- The pairs of arguments that are put on the list one after the other.
use Rattle.std.proofs.Common.{◌≡◌, ℕ, zero, suc, ◌+◌, ◌<◌, ◌≤◌, true, List, [], ◌∷◌, length, get_or, drop, refl, sym, ap, ◌∙◌, subst, arith}
use Rattle.std.proofs.Math.Seq.{drop-cons}
use Rattle.cdle_model.specs.Comparison.{Pair}
use Rattle.elab_convert.specs.declared.side.Arg.{Arg}
use Rattle.elab_convert.specs.declared.side.SidePair.{SidePair}
use Rattle.elab_convert.specs.Sides.{arg_class, arg_tree, stack}
use Rattle.elab_convert.specs.Answers.{ArePut, classes, zipped}

-- the arguments that are left are to be put, and have the same classes exactly where all have
pub record AreLeft (xs ys : List Arg) (old : List Pair) (us vs : List Arg) (now : List Pair) : Type 0 where
  pub put : zipped now us vs ≡ zipped old xs ys
  pub all : classes us ≡ classes vs → classes xs ≡ classes ys
  pub left : classes xs ≡ classes ys → classes us ≡ classes vs

pub all_left : (xs ys : List Arg) (old : List Pair) → AreLeft xs ys old xs ys old
all_left xs ys old = record { put = refl; all = λ e. e; left = λ e. e }

one_less : (xs ys : List Arg) (old : List Pair) (x y : Arg) (us vs : List Arg) (now : List Pair) → arg_class x ≡ arg_class y → AreLeft xs ys old (x ∷ us) (y ∷ vs) now
    → AreLeft xs ys old us vs ((arg_tree x, arg_tree y) ∷ now)
one_less xs ys old x y us vs now e h = record {
  put = h.put;
  all = λ f. h.all (ap (λ k. k ∷ classes us) e ∙ ap (λ ks. arg_class y ∷ ks) f);
  left = λ f. let g : arg_class x ∷ classes us ≡ arg_class y ∷ classes vs = h.left f in cc;
}

module _ (xs ys : List Arg) (old : List Pair) where
  taken : (k : ℕ) (now : List Pair) (x y : Arg) → k < length xs → k < length ys → x ≡ get_or xs k x → y ≡ get_or ys k y → AreLeft xs ys old (drop k xs) (drop k ys) now
      → AreLeft xs ys old (x ∷ drop (suc k) xs) (y ∷ drop (suc k) ys) now
  taken k now x y i j f g h =
      let a : drop k xs ≡ x ∷ drop (suc k) xs = drop-cons xs k x i ∙ ap (λ z. z ∷ drop (suc k) xs) (sym f) in
      let b : drop k ys ≡ y ∷ drop (suc k) ys = drop-cons ys k y j ∙ ap (λ z. z ∷ drop (suc k) ys) (sym g) in
      subst (λ z. AreLeft xs ys old (x ∷ drop (suc k) xs) z now) b (subst (λ z. AreLeft xs ys old z (drop k ys) now) a h)

  pub put_more : (k next : ℕ) (now new : List SidePair) (x y : Arg) → next ≡ k + 1 → k < length xs → k < length ys → x ≡ get_or xs k x → y ≡ get_or ys k y → arg_class x ≡ arg_class y
      → stack [] new ≡ (arg_tree x, arg_tree y) ∷ stack [] now → AreLeft xs ys old (drop k xs) (drop k ys) (stack [] now) → AreLeft xs ys old (drop next xs) (drop next ys) (stack [] new)
  put_more k next now new x y n i j f g e p h =
      let m : next ≡ suc k = omega arith in
      rw (m, p) (one_less xs ys old x y (drop (suc k) xs) (drop (suc k) ys) (stack [] now) e (taken k (stack [] now) x y i j f g h))

  pub put_not : (k : ℕ) (now : List Pair) (x y : Arg) → k < length xs → k < length ys → x ≡ get_or xs k x → y ≡ get_or ys k y → (arg_class x ≡ arg_class y → ⊥)
      → AreLeft xs ys old (drop k xs) (drop k ys) now → classes xs ≡ classes ys → ⊥
  put_not k now x y i j f g e h c =
      let l = taken k now x y i j f g h in
      let m : arg_class x ∷ classes (drop (suc k) xs) ≡ arg_class y ∷ classes (drop (suc k) ys) = l.left c in
      let o : arg_class x ≡ arg_class y = cc in e o

drop_all : (xs : List Arg) (k : ℕ) → length xs ≤ k → drop k xs ≡ []
drop_all [] zero l = refl
drop_all [] (suc k) l = refl
drop_all (x ∷ xs) zero l = absurd (omega arith)
drop_all (x ∷ xs) (suc k) l = drop_all xs k (omega arith)

pub put_done : (xs ys : List Arg) (old now : List SidePair) (k : ℕ) → length xs ≤ k → length ys ≤ k → AreLeft xs ys (stack [] old) (drop k xs) (drop k ys) (stack [] now) → ArePut xs ys old now true
put_done xs ys old now k l m h = let a = drop_all xs k l in let b = drop_all ys k m in (
  h.all (ap classes a ∙ sym (ap classes b)),
  sym (ap (λ z. zipped (stack [] now) z (drop k ys)) a) ∙ h.put,
)

class_length : (xs : List Arg) → length (classes xs) ≡ length xs
class_length [] = refl
class_length (x ∷ xs) = ap suc (class_length xs)

pub other_lengths : (xs ys : List Arg) → (length xs ≡ length ys → ⊥) → classes xs ≡ classes ys → ⊥
other_lengths xs ys l e = l (sym (class_length xs) ∙ ap length e ∙ class_length ys)
