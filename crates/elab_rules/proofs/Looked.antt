-- What is known of a variable or of an item.
use Rattle.std.proofs.Common.{◌≡◌, ℕ, zero, suc, ltb, ◌+◌, List, [], ◌∷◌, length, Option, Some, None, option_map, refl, ap, ◌∙◌, arith, slice_get}
use Rattle.cdle_model.specs.HeadForms.{deepest}
use Rattle.cdle_model.specs.Depth.{depth}
use Rattle.cdle_model.specs.Trees.{Tree, shift}
use Rattle.cdle_model.specs.Derivation.{Entry, term_of, type_of, raised, entry}
use Rattle.cdle_model.proofs.Trees.{shift_shift}
use Rattle.cdle_model.specs.Forms.{Written}
use Rattle.source_model.specs.Source.{Span}
use Rattle.elab_model.specs.Questions.{gives, deep_at, then}
use Rattle.elab_model.specs.Rules.{found_term, found_type}
use Rattle.elab_model.specs.Spines.{known_of, spine, starting}
use Rattle.elab_tree.specs.Known.{Known, item_in, item_at}
use Rattle.elab_tree.specs.Known as items
use Rattle.elab_reduce.specs.Items.{items_of}
use Rattle.elab_rules.specs.declared.context.Binding.{Binding}
use Rattle.elab_rules.specs.Contexts.{known, stacked}
use Rattle.elab_rules.specs.Parts.{type_known, kind_known}
use Rattle.elab_rules.proofs.Endings.{then_cond}

-- ---- the list of binders, whose last is the innermost

pub stacked_past : (c : List Entry) (xs : List Binding) (i j : ℕ) → j ≡ length xs + i → slice_get (stacked c xs) j ≡ slice_get c i
stacked_past c [] i j e = ap (slice_get c) (e ∙ omega arith)
stacked_past c (x ∷ xs) i j e = stacked_past (known x ∷ c) xs (suc i) j (omega (arith, e))

pub stacked_at : (c : List Entry) (xs : List Binding) (i j : ℕ) (x : Binding) → slice_get xs j ≡ Some x → suc (j + i) ≡ length xs → slice_get (stacked c xs) i ≡ Some (known x)
stacked_at c [] i j x e l = absurd (omega (arith, l))
stacked_at c (y ∷ ys) i zero x e l = let f : y ≡ x = cc in stacked_past (known y ∷ c) ys 0 i (omega (arith, l)) ∙ ap (λ z. Some (known z)) f
stacked_at c (y ∷ ys) i (suc j) x e l = stacked_at (known y ∷ c) ys i j x e (omega (arith, l))

-- ---- as it stands under the binders over it

abbrev pub lifted : ℕ → Entry → Entry
lifted by (term_of a) = term_of (shift 0 by a)
lifted by (type_of k) = type_of (shift 0 by k)

raised_is : (x : Entry) → raised x ≡ lifted 1 x
raised_is (term_of a) = refl
raised_is (type_of k) = refl

one_more : (by : ℕ) (t : Tree) → shift 0 1 (shift 0 by t) ≡ shift 0 (suc by) t
one_more by t = shift_shift 0 by 1 t ∙ ap (λ n. shift 0 n t) (omega arith)

raised_lifted : (by : ℕ) (x : Entry) → raised (lifted by x) ≡ lifted (suc by) x
raised_lifted by (term_of a) = ap (λ b. term_of b) (one_more by a)
raised_lifted by (type_of k) = ap (λ b. type_of b) (one_more by k)

pub entry_is : (es : List Entry) (i : ℕ) (x : Entry) → slice_get es i ≡ Some x → entry es i ≡ Some (lifted (suc i) x)
entry_is [] i x e = absurd cc
entry_is (y ∷ es) zero x e = let f : y ≡ x = cc in ap (λ z. Some (raised z)) f ∙ ap (λ z. Some z) (raised_is x)
entry_is (y ∷ es) (suc i) x e = ap (option_map raised) (entry_is es i x e) ∙ ap (λ z. Some z) (raised_lifted (suc i) x)

-- ---- items

item_is : (es : List items.Entry) (n : ℕ) → slice_get (items_of es) n ≡ item_in (slice_get es n)
item_is [] n = refl
item_is (e ∷ es) zero = refl
item_is (e ∷ es) (suc n) = item_is es n

pub item_known : (k : Known) (n : ℕ) (w : Written) → item_at k n ≡ Some w → known_of (slice_get (items_of k.entries) n) ≡ known_of (Some w)
item_known k n w e = ap known_of (item_is k.entries n ∙ e)

-- ---- what is known, and then what a name gives

pub term_found : (s : Span) (t : Tree) (o : Option Entry) → then (type_known s o) (λ a. gives (spine (starting s t a))) ≡ found_term s t o
term_found s t (Some (term_of a)) = then_cond {A = Tree} (ltb deepest (depth a)) (deep_at s) (gives a) (λ x. gives (spine (starting s t x)))
term_found s t (Some (type_of k)) = refl
term_found s t None = refl

pub type_found : (s : Span) (t : Tree) (o : Option Entry) → then (kind_known s o) (λ k. gives (t, k)) ≡ found_type s t o
type_found s t (Some (type_of k)) = then_cond {A = Tree} (ltb deepest (depth k)) (deep_at s) (gives k) (λ x. gives (t, x))
type_found s t (Some (term_of a)) = refl
type_found s t None = refl
