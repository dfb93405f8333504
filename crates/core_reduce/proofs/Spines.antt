-- Trees with their arguments.
use Rattle.std.proofs.Common.{◌≡◌, ℕ, zero, suc, ◌+◌, ◌<◌, ◌≤◌, max, List, [], ◌∷◌, ◌++◌, length, get_or, drop, None, sym, ◌∙◌, subst, refl, ap, arith}
use Rattle.std.proofs.Math.Seq.{drop-cons}
use Rattle.cdle_model.specs.Trees.{of_pure, Tree, apply}
use Rattle.cdle_model.specs.Depth.{depth}
use Rattle.cdle_model.specs.Classes.{pure_terms, guides, guide_kinds, Scope, Fits}
use Rattle.core_reduce.specs.declared.root.Arg.{Arg}
use Rattle.core_reduce.specs.declared.root.Arg.TheVariants.{Ap, At, On}
use Rattle.core_reduce.specs.declared.side.SideClass.{SideClass}
use Rattle.core_reduce.specs.declared.side.SideClass.TheVariants.{OfPure, OfType, OfKind}
use Rattle.core_reduce.specs.Sides.{class_trees, arg_function, arg_tree, spine, name_of}

-- the argument fits a side of the class
abbrev pub ArgFits : Scope → SideClass → Arg → Type 0
ArgFits s OfPure (Ap p) = Fits s pure_terms p
ArgFits s OfType (At p) = Fits s pure_terms p
ArgFits s OfType (On p) = Fits s guides p
ArgFits s k x = ⊥

pub head_fits : (s : Scope) (k : SideClass) (h : Tree) (x : Arg) → Fits s (class_trees k) (apply (arg_function x) h (arg_tree x)) → Fits s (class_trees k) h × ArgFits s k x
head_fits s OfPure h (Ap p) g = g
head_fits s OfPure h (At p) g = absurd g
head_fits s OfPure h (On p) g = absurd g
head_fits s OfType h (Ap p) g = absurd g
head_fits s OfType h (At p) g = g
head_fits s OfType h (On p) g = g
head_fits s OfKind h (Ap p) g = absurd g
head_fits s OfKind h (At p) g = absurd g
head_fits s OfKind h (On p) g = absurd g

pub spine_head : (s : Scope) (k : SideClass) (h : Tree) (xs : List Arg) → Fits s (class_trees k) (spine h xs) → Fits s (class_trees k) h
spine_head s k h [] g = g
spine_head s k h (x ∷ xs) g = spine_head s k h xs (head_fits s k (spine h xs) x g).0

pub arg_fits : (s : Scope) (k : SideClass) (h : Tree) (xs : List Arg) (n : ℕ) (x : Arg) → Fits s (class_trees k) (spine h xs) → n < length xs → x ≡ get_or xs n x → ArgFits s k x
arg_fits s k h [] n x g l e = absurd (omega arith)
arg_fits s k h (y ∷ xs) zero x g l e = subst (ArgFits s k) (sym e) (head_fits s k (spine h xs) y g).1
arg_fits s k h (y ∷ xs) (suc n) x g l e = arg_fits s k h xs n x (head_fits s k (spine h xs) y g).0 (omega arith) e

-- no kind is applied
pub kind_alone : (s : Scope) (h : Tree) (xs : List Arg) → Fits s guide_kinds (spine h xs) → xs ≡ []
kind_alone s h [] g = refl
kind_alone s h (x ∷ xs) g = absurd (head_fits s OfKind (spine h xs) x g).1

-- ---- depths

pub spine_depth : (h : Tree) (xs : List Arg) (m n : ℕ) → m ≤ n → depth (spine h (drop n xs)) ≤ depth (spine h (drop m xs))
spine_depth h [] zero zero l = omega arith
spine_depth h [] zero (suc n) l = omega arith
spine_depth h [] (suc m) (suc n) l = omega arith
spine_depth h [] (suc m) zero l = absurd (omega arith)
spine_depth h (x ∷ xs) zero zero l = omega arith
spine_depth h (x ∷ xs) zero (suc n) l = let g : depth (spine h (drop n xs)) ≤ depth (spine h (drop 0 xs)) = spine_depth h xs 0 n (omega arith) in omega arith
spine_depth h (x ∷ xs) (suc m) zero l = absurd (omega arith)
spine_depth h (x ∷ xs) (suc m) (suc n) l = spine_depth h xs m n (omega arith)

pub head_depth : (h : Tree) (xs : List Arg) → depth h ≤ depth (spine h xs)
head_depth h [] = omega arith
head_depth h (x ∷ xs) = omega (arith, head_depth h xs)

pub spine_at : (h : Tree) (xs : List Arg) (n : ℕ) (x : Arg) → n < length xs → x ≡ get_or xs n x → spine h (drop n xs) ≡ apply (arg_function x) (spine h (drop (suc n) xs)) (arg_tree x)
spine_at h xs n x l e = ap (spine h) (drop-cons xs n x l ∙ ap (λ z. z ∷ drop (suc n) xs) (sym e))

pub applied_no_name : (h : Tree) (from : ℕ) (xs : List Arg) → from < length xs → name_of (spine h (drop from xs)) ≡ None
applied_no_name h from [] l = absurd (omega arith)
applied_no_name h zero (x ∷ xs) l = refl
applied_no_name h (suc from) (x ∷ xs) l = applied_no_name h from xs (omega arith)

-- where a part of what is built is too deep, so is the whole
pub too_deep_at : (h : Tree) (xs : List Arg) (from n : ℕ) (x : Arg) (t : Tree) → from ≤ n → n < length xs → x ≡ get_or xs n x → t ≡ spine h (drop (suc n) xs)
    → 4096 ≤ max (depth t) (depth (arg_tree x)) → 4096 < depth (spine h (drop from xs))
too_deep_at h xs from n x t b l e f g =
    let d : depth (spine h (drop n xs)) ≡ max (depth t) (depth (arg_tree x)) + 1 = (rw (spine_at h xs n x l e, f) refl) in
    omega (arith, spine_depth h xs from n b)

-- the argument at a place of those of a side
pub argument_fits : (s : Scope) (k : SideClass) (h : Tree) (xs : List Arg) (from n : ℕ) (x : Arg) → Fits s (class_trees k) (spine h (drop from xs)) → from ≤ n → n < length xs
    → x ≡ get_or xs n x → ArgFits s k x
argument_fits s k h xs zero n x g b l e = arg_fits s k h xs n x g l e
argument_fits s k h [] (suc from) n x g b l e = absurd (omega arith)
argument_fits s k h (y ∷ xs) (suc from) zero x g b l e = absurd (omega arith)
argument_fits s k h (y ∷ xs) (suc from) (suc n) x g b l e = argument_fits s k h xs from n x g (omega arith) (omega arith) e

-- a pure term is applied by `ap` alone, and a guide never is
pub pure_argument : (s : Scope) (h : Tree) (xs : List Arg) (from n : ℕ) (x : Arg) → Fits s pure_terms (spine h (drop from xs)) → from ≤ n → n < length xs → x ≡ get_or xs n x
    → ((p : Tree) → x ≡ Ap p → ⊥) → ⊥
pure_argument s h xs from n x g b l e k = by_arg x (argument_fits s OfPure h xs from n x g b l e) k
  where
    by_arg : (x : Arg) → ArgFits s OfPure x → ((p : Tree) → x ≡ Ap p → ⊥) → ⊥
    by_arg (Ap p) g k = k p refl
    by_arg (At p) g k = g
    by_arg (On p) g k = g

pub guide_argument : (s : Scope) (h : Tree) (xs : List Arg) (from n : ℕ) (x : Arg) → Fits s guides (spine h (drop from xs)) → from ≤ n → n < length xs → x ≡ get_or xs n x
    → arg_function x ≡ of_pure → ⊥
guide_argument s h xs from n x g b l e k = by_arg x (argument_fits s OfType h xs from n x g b l e) k
  where
    by_arg : (x : Arg) → ArgFits s OfType x → arg_function x ≡ of_pure → ⊥
    by_arg (Ap p) g k = g
    by_arg (At p) g k = cc
    by_arg (On p) g k = cc

-- the innermost argument is the last
pub spine_push : (h : Tree) (xs : List Arg) (x : Arg) → spine h (xs ++ x ∷ []) ≡ spine (apply (arg_function x) h (arg_tree x)) xs
spine_push h [] x = refl
spine_push h (y ∷ xs) x = ap (λ t. apply (arg_function y) t (arg_tree y)) (spine_push h xs x)

pub last_fits : (s : Scope) (k : SideClass) (h : Tree) (xs : List Arg) (x : Arg) → Fits s (class_trees k) (spine h (xs ++ x ∷ [])) → Fits s (class_trees k) h × ArgFits s k x
last_fits s k h xs x g = head_fits s k h x (spine_head s k (apply (arg_function x) h (arg_tree x)) xs (subst (Fits s (class_trees k)) (spine_push h xs x) g))
