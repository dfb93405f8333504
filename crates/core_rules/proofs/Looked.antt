-- Looking up a variable in a context.
use Rattle.std.proofs.Common.{◌≡◌, ℕ, zero, suc, ◌+◌, ◌-◌, ◌<◌, ◌≤◌, List, [], ◌∷◌, length, Option, Some, None, option_map, refl, sym, ap, subst, ◌∙◌, arith, slice_get}
use Rattle.cdle_model.specs.declared.grammar.Sort.{Sort}
use Rattle.cdle_model.specs.Trees.{Tree, shift}
use Rattle.cdle_model.specs.Classes.{TreeClass, IsOf, Fits, within}
use Rattle.cdle_model.specs.Depth.{depth, ShiftFits}
use Rattle.cdle_model.specs.Derivation.{Entry, term_of, type_of, raised, entry}
use Rattle.cdle_model.specs.Fitting.{IsErased, entry_sorts}
use Rattle.cdle_model.proofs.Bounds.{fits_below}
use Rattle.cdle_model.proofs.ScopedTrees.{fits-inner}
use Rattle.cdle_model.proofs.Trees.{shift_shift, shift_zero}
use Rattle.core_rules.specs.Context.{lifted}

pub length_sorts : (es : List Entry) → length (entry_sorts es) ≡ length es
length_sorts [] = refl
length_sorts (e ∷ es) = ap suc (length_sorts es)

-- an entry can be raised by as many binders as a text has
pub raises : (c : TreeClass) (xs : List Sort) (es : List Entry) (by : ℕ) (t : Tree) → IsErased c → IsOf c t → Fits (within (entry_sorts es) xs) c t → suc (length es) + by ≤ 4096 → depth t ≤ 65535 → ShiftFits 0 (by + 1) t
raises c xs es by t i o h l m = let e = length_sorts es in fits_below c (length (entry_sorts es)) 0 (by + 1) t i o (fits-inner (entry_sorts es) xs c t h).0 (omega arith)

one_more : (by : ℕ) (t : Tree) → shift 0 by (shift 0 1 t) ≡ shift 0 (by + 1) t
one_more by t = shift_shift 0 1 by t ∙ ap (λ n. shift 0 n t) (omega arith)

lift_raised : (by : ℕ) (o : Option Entry) → option_map (lifted (by + 1)) o ≡ option_map (lifted by) (option_map raised o)
lift_raised by None = refl
lift_raised by (Some (term_of a)) = ap (λ b. Some (term_of b)) (sym (one_more by a))
lift_raised by (Some (type_of k)) = ap (λ b. Some (type_of b)) (sym (one_more by k))

-- the innermost variable
pub term_here : (by i : ℕ) (a r : Tree) (es : List Entry) → i ≡ 0 → r ≡ shift 0 (by + 1) a → option_map (lifted by) (entry (term_of a ∷ es) i) ≡ Some (term_of r)
term_here by i a r es e f = subst (λ (n : ℕ). option_map (lifted by) (entry (term_of a ∷ es) n) ≡ Some (term_of r)) (sym e) (ap (λ b. Some (term_of b)) (one_more by a ∙ sym f))

pub type_here : (by i : ℕ) (a r : Tree) (es : List Entry) → i ≡ 0 → r ≡ shift 0 (by + 1) a → option_map (lifted by) (entry (type_of a ∷ es) i) ≡ Some (type_of r)
type_here by i a r es e f = subst (λ (n : ℕ). option_map (lifted by) (entry (type_of a ∷ es) n) ≡ Some (type_of r)) (sym e) (ap (λ b. Some (type_of b)) (one_more by a ∙ sym f))

-- a variable of an outer binder stands under one binder more
pub further : (by i : ℕ) (e : Entry) (es : List Entry) → 0 < i → option_map (lifted (by + 1)) (entry es (i - 1)) ≡ option_map (lifted by) (entry (e ∷ es) i)
further by zero e es lt = absurd (omega arith)
further by (suc i) e es lt = let same : suc i - 1 ≡ i = omega arith in rw same (lift_raised by (entry es i))

pub not_innermost : (x y : Sort) (vs : List Sort) (i : ℕ) → (x ≡ y → ⊥) → slice_get (x ∷ vs) i ≡ Some y → 0 < i
not_innermost x y vs zero n e = let f : x ≡ y = cc in absurd (n f)
not_innermost x y vs (suc i) n e = omega arith

-- under no further binders
pub lift_none : (o : Option Entry) → option_map (lifted 0) o ≡ o
lift_none None = refl
lift_none (Some (term_of a)) = ap (λ b. Some (term_of b)) (shift_zero 0 a)
lift_none (Some (type_of k)) = ap (λ b. Some (type_of b)) (shift_zero 0 k)
