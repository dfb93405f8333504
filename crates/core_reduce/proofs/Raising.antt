-- A pure head form applied to a new variable.
use Rattle.std.proofs.Common.{◌≡◌, ℕ, zero, suc, ◌+◌, ◌<◌, ◌≤◌, ltb, false, List, [], ◌∷◌, ◌++◌, length, get_or, drop, sym, ◌∙◌, subst, refl, ap, arith}
use Rattle.std.proofs.lemmas.Bool.{le-ltb}
use Rattle.std.proofs.Math.Seq.{drop-cons, drop-length}
use Rattle.cdle_model.specs.Trees.{of_pure, Tree, var, apply, shift}
use Rattle.cdle_model.specs.Classes.{pure_terms, IsOf}
use Rattle.cdle_model.specs.Comparison.{applied}
use Rattle.core_reduce.specs.declared.root.Arg.{Arg}
use Rattle.core_reduce.specs.declared.root.Arg.TheVariants.{Ap, At, On}
use Rattle.core_reduce.specs.declared.side.SideClass.{SideClass}
use Rattle.core_reduce.specs.declared.side.SideClass.TheVariants.{OfPure, OfType, OfKind}
use Rattle.core_reduce.specs.Sides.{Sided, ArePure, arg_function, arg_tree, spine}
use Rattle.core_reduce.specs.Values.{applied_to, IsArgument, AreArguments}

pub pure_spine_of : (h : Tree) (xs : List Arg) → IsOf pure_terms h → ArePure xs → IsOf pure_terms (spine h xs)
pure_spine_of h [] g k = g
pure_spine_of h (Ap p ∷ xs) g k = (pure_spine_of h xs g k.1, k.0)
pure_spine_of h (At p ∷ xs) g k = absurd k
pure_spine_of h (On p ∷ xs) g k = absurd k

pure_push : (xs : List Arg) (p : Tree) → ArePure xs → IsOf pure_terms p → ArePure (xs ++ Ap p ∷ [])
pure_push [] p k g = (g, tt)
pure_push (Ap q ∷ xs) p k g = (k.0, pure_push xs p k.1 g)
pure_push (At q ∷ xs) p k g = absurd k
pure_push (On q ∷ xs) p k g = absurd k

spine_last : (h p : Tree) (xs : List Arg) → spine h (xs ++ Ap p ∷ []) ≡ spine (apply of_pure h p) xs
spine_last h p [] = refl
spine_last h p (y ∷ xs) = ap (λ t. apply (arg_function y) t (arg_tree y)) (spine_last h p xs)

pure_class : (c : SideClass) → IsArgument OfPure c → c ≡ OfPure
pure_class OfPure k = refl
pure_class OfType k = absurd k
pure_class OfKind k = absurd k

-- the arguments of a pure term are applied by `ap`
pub argument_class : (xs : List Sided) (n : ℕ) (x : Sided) → AreArguments OfPure xs → n < length xs → x ≡ get_or xs n x → x.class ≡ OfPure
argument_class [] n x h l e = absurd (omega arith)
argument_class (y ∷ xs) zero x h l e = ap (λ (z : Sided). z.class) e ∙ pure_class y.class h.0
argument_class (y ∷ xs) (suc n) x h l e = argument_class xs n x h.1 (omega arith) e

pub shift_applied : (h : Tree) (xs : List Sided) → Tree
shift_applied h [] = h
shift_applied h (x ∷ xs) = shift_applied (apply of_pure h (shift 0 1 x.tree)) xs

shifts : (h : Tree) (xs : List Sided) → shift_applied (shift 0 1 h) xs ≡ shift 0 1 (applied_to OfPure h xs)
unfolding shift_applied
shifts h [] = refl
shifts h (x ∷ xs) = shifts (apply of_pure h x.tree) xs

-- so far, the arguments from k on were raised and put on the list
pub record RaisedSo (xs : List Sided) (k : ℕ) (all : List Arg) : Type 0 where
  pub below : k ≤ length xs
  pub pure : ArePure all
  pub is : (h : Tree) → spine h all ≡ apply of_pure (shift_applied h (drop k xs)) (var 0)

pub raised_start : (xs : List Sided) (k : ℕ) → k ≡ length xs → RaisedSo xs k (Ap (var 0) ∷ [])
unfolding shift_applied
raised_start xs k e = record {
  below = omega arith;
  pure = (tt, tt);
  is = λ h. let q : drop k xs ≡ [] = ap (λ n. drop n xs) e ∙ drop-length xs in rw q refl;
}

pub raised_more : (xs : List Sided) (k less : ℕ) (all : List Arg) (x : Sided) (p : Tree) → RaisedSo xs k all → k ≡ suc less → x ≡ get_or xs less x → p ≡ shift 0 1 x.tree → IsOf pure_terms p
    → RaisedSo xs less (all ++ Ap p ∷ [])
unfolding shift_applied
raised_more xs k less all x p h e g q o = record {
  below = (let b = h.below in omega arith);
  pure = pure_push all p h.pure o;
  is = λ t.
      let b = h.below in
      let d : drop less xs ≡ x ∷ drop (suc less) xs = drop-cons xs less x (omega arith) ∙ ap (λ z. z ∷ drop (suc less) xs) (sym g) in
      let i : spine (apply of_pure t p) all ≡ apply of_pure (shift_applied (apply of_pure t p) (drop (suc less) xs)) (var 0) =
      subst (λ z. spine (apply of_pure t p) all ≡ apply of_pure (shift_applied (apply of_pure t p) (drop z xs)) (var 0)) e (h.is (apply of_pure t p)) in
      spine_last t p all ∙ (i ∙ (rw (d, q) refl));
}

pub raised_end : (i : ℕ) (xs : List Sided) (k : ℕ) (all : List Arg) → RaisedSo xs k all → k ≤ 0 → spine (var (i + 1)) all ≡ applied (applied_to OfPure (var i) xs)
raised_end i xs k all h l =
    let e : k ≡ 0 = omega arith in
    let q : ltb i 0 ≡ false = le-ltb i 0 (omega arith) in
    let s : var (i + 1) ≡ shift 0 1 (var i) = (rw q refl) in
    h.is (var (i + 1)) ∙ (rw (e, s) (ap (λ t. apply of_pure t (var 0)) (shifts (var i) xs)))
