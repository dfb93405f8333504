-- Trees with their arguments.
use Rattle.std.proofs.Common.{◌≡◌, ℕ, zero, suc, ◌+◌, ◌<◌, ◌≤◌, max, List, [], ◌∷◌, ◌++◌, length, get_or, drop, Some, sym, ◌∙◌, refl, ap, arith}
use Rattle.std.proofs.Math.Seq.{drop-cons}
use Rattle.cdle_model.specs.Trees.{Tree, apply}
use Rattle.cdle_model.specs.Depth.{depth}
use Rattle.elab_tree.specs.declared.items.EArg.{EArg}
use Rattle.elab_reduce.specs.Spines.{arg_tree, arg_function, spine, innermost}

spine_depth : (h : Tree) (xs : List EArg) (m n : ℕ) → m ≤ n → depth (spine h (drop n xs)) ≤ depth (spine h (drop m xs))
spine_depth h [] zero zero l = omega arith
spine_depth h [] zero (suc n) l = omega arith
spine_depth h [] (suc m) (suc n) l = omega arith
spine_depth h [] (suc m) zero l = absurd (omega arith)
spine_depth h (x ∷ xs) zero zero l = omega arith
spine_depth h (x ∷ xs) zero (suc n) l = let g : depth (spine h (drop n xs)) ≤ depth (spine h (drop 0 xs)) = spine_depth h xs 0 n (omega arith) in omega arith
spine_depth h (x ∷ xs) (suc m) zero l = absurd (omega arith)
spine_depth h (x ∷ xs) (suc m) (suc n) l = spine_depth h xs m n (omega arith)

pub head_depth : (h : Tree) (xs : List EArg) → depth h ≤ depth (spine h xs)
head_depth h [] = omega arith
head_depth h (x ∷ xs) = omega (arith, head_depth h xs)

pub spine_at : (h : Tree) (xs : List EArg) (n : ℕ) (x : EArg) → n < length xs → x ≡ get_or xs n x → spine h (drop n xs) ≡ apply (arg_function x) (spine h (drop (suc n) xs)) (arg_tree x)
spine_at h xs n x l e = ap (spine h) (drop-cons xs n x l ∙ ap (λ z. z ∷ drop (suc n) xs) (sym e))

-- where a part of what is built is too deep, so is the whole
pub too_deep_at : (h : Tree) (xs : List EArg) (n : ℕ) (x : EArg) (t : Tree) → n < length xs → x ≡ get_or xs n x → t ≡ spine h (drop (suc n) xs)
    → 4096 ≤ max (depth t) (depth (arg_tree x)) → 4096 < depth (spine h xs)
too_deep_at h xs n x t l e f g =
    let d : depth (spine h (drop n xs)) ≡ max (depth t) (depth (arg_tree x)) + 1 = (rw (spine_at h xs n x l e, f) refl) in
    let i : depth (spine h (drop n xs)) ≤ depth (spine h (drop 0 xs)) = spine_depth h xs 0 n (omega arith) in
    omega arith

-- the innermost argument is the last of the list
pub innermost_push : (xs : List EArg) (x : EArg) → innermost (xs ++ x ∷ []) ≡ Some x
innermost_push [] x = refl
innermost_push (y ∷ []) x = refl
innermost_push (y ∷ w ∷ xs) x = innermost_push (w ∷ xs) x

pub innermost_is : (xs : List EArg) (n : ℕ) (x : EArg) → suc n ≡ length xs → x ≡ get_or xs n x → innermost xs ≡ Some x
innermost_is [] n x e f = absurd (omega arith)
innermost_is (y ∷ []) zero x e f = ap Some (sym f)
innermost_is (y ∷ []) (suc n) x e f = absurd (omega arith)
innermost_is (y ∷ w ∷ xs) zero x e f = absurd (omega arith)
innermost_is (y ∷ w ∷ xs) (suc n) x e f = innermost_is (w ∷ xs) n x (omega arith) f
