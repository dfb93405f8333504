-- Variables with arguments as trees.
use Rattle.std.proofs.Common.{◌≡◌, ℕ, zero, suc, ◌<◌, ◌≤◌, List, [], ◌∷◌, length, get_or, drop, sym, ◌∙◌, subst, ap, arith}
use Rattle.std.proofs.Math.Seq.{drop-cons}
use Rattle.cdle_model.specs.Trees.{Tree, apply}
use Rattle.cdle_model.specs.Depth.{depth}
use Rattle.core_reduce.specs.declared.side.SideClass.{SideClass}
use Rattle.core_reduce.specs.Sides.{Sided}
use Rattle.core_reduce.specs.Values.{applied_by, applied_to, IsArgument, AreArguments}

pub argument_at : (c : SideClass) (xs : List Sided) (n : ℕ) (x : Sided) → AreArguments c xs → n < length xs → x ≡ get_or xs n x → IsArgument c x.class
argument_at c [] n x h l e = absurd (omega arith)
argument_at c (y ∷ xs) zero x h l e = subst (λ (z : Sided). IsArgument c z.class) (sym e) h.0
argument_at c (y ∷ xs) (suc n) x h l e = argument_at c xs n x h.1 (omega arith) e

head_depth : (c : SideClass) (h : Tree) (xs : List Sided) → depth h ≤ depth (applied_to c h xs)
head_depth c h [] = omega arith
head_depth c h (x ∷ xs) = omega (arith, head_depth c (apply (applied_by c x.class) h x.tree) xs)

-- where what is built is too deep with the next argument, so is the whole
pub too_deep_with : (c : SideClass) (h t : Tree) (xs : List Sided) (n : ℕ) (x : Sided) → applied_to c t (drop n xs) ≡ applied_to c h xs → n < length xs → x ≡ get_or xs n x
    → 4096 < depth (apply (applied_by c x.class) t x.tree) → 4096 < depth (applied_to c h xs)
too_deep_with c h t xs n x i l e g =
    let d : drop n xs ≡ x ∷ drop (suc n) xs = drop-cons xs n x l ∙ ap (λ z. z ∷ drop (suc n) xs) (sym e) in
    let q : applied_to c (apply (applied_by c x.class) t x.tree) (drop (suc n) xs) ≡ applied_to c h xs = sym (ap (applied_to c t) d) ∙ i in
    let m = head_depth c (apply (applied_by c x.class) t x.tree) (drop (suc n) xs) in
    subst (λ z. 4096 < depth z) q (omega arith)
