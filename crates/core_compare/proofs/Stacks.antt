-- What is put on the list of pairs, and what is taken from it.
use Rattle.std.proofs.Common.{◌≡◌, ℕ, zero, suc, ◌+◌, ◌<◌, ◌≤◌, List, [], ◌∷◌, ◌++◌, length, get_or, take, drop, Option, Some, None, sym, ◌∙◌, subst, refl, ap, arith, append_assoc}
use Rattle.std.proofs.Math.Seq.{drop-cons}
use Rattle.cdle_model.specs.declared.grammar.Sort.{Sort}
use Rattle.cdle_model.specs.Classes.{within, Fits}
use Rattle.cdle_model.specs.Comparison.{Pair, pairs_of}
use Rattle.core_reduce.specs.Sides.{Sided, class_trees}
use Rattle.core_reduce.specs.Values.{classes}
use Rattle.core_compare.specs.declared.pairs.SidePair.{SidePair}
use Rattle.core_compare.specs.Pairs.{most, IsComparable, AreComparable, stack, part_pairs}
use Rattle.core_compare.proofs.Heads.{trees}

pub comparable_append : (zs : List Sort) (ds es : List SidePair) → AreComparable zs ds → AreComparable zs es → AreComparable zs (ds ++ es)
comparable_append zs [] es g h = h
comparable_append zs (d ∷ ds) es g h = (g.0, comparable_append zs ds es g.1 h)

pub comparable_pop : (zs : List Sort) (ds : List SidePair) (d : SidePair) → AreComparable zs (ds ++ d ∷ []) → AreComparable zs ds × IsComparable zs d
comparable_pop zs [] d g = (tt, g.0)
comparable_pop zs (e ∷ ds) d g = let r = comparable_pop zs ds d g.1 in ((g.0, r.0), r.1)

pub stack_append : (ps : List Pair) (ds es : List SidePair) → stack ps (ds ++ es) ≡ stack (stack ps ds) es
stack_append ps [] es = refl
stack_append ps (d ∷ ds) es = stack_append ((d.left.tree, d.right.tree) ∷ ps) ds es

parts_on : (n : ℕ) (qs : List Pair) (xs ys : List Sided) → stack qs (part_pairs n xs ys) ≡ pairs_of (trees xs) (trees ys) ++ qs
parts_on n qs [] ys = refl
parts_on n qs (x ∷ xs) [] = refl
parts_on n qs (x ∷ xs) (y ∷ ys) =
    stack_append qs (part_pairs n xs ys) (record { left = x; right = y; binders = n } ∷ []) ∙ ap (λ z. (x.tree, y.tree) ∷ z) (parts_on n qs xs ys)

-- the pairs of parts come before those that were on the list
pub parts_stacked : (n : ℕ) (xs ys : List Sided) (old new : List SidePair) → new ≡ old ++ part_pairs n xs ys → pairs_of (trees xs) (trees ys) ++ stack [] old ≡ stack [] new
parts_stacked n xs ys old new e = sym (ap (stack []) e ∙ (stack_append [] old (part_pairs n xs ys) ∙ parts_on n (stack [] old) xs ys))

-- ---- where the parts stand

-- the sorts under a binder of this sort, or under none
abbrev pub bound : Option Sort → List Sort → List Sort
bound None vs = vs
bound (Some v) vs = v ∷ vs

-- each part is of its class, under its binder; those past the table stand under none
abbrev pub PartsFit : List Sort → List Sort → List (Option Sort) → List Sided → Type 0
PartsFit vs zs os [] = Unit {0}
PartsFit vs zs [] (p ∷ ps) = Fits (within vs zs) (class_trees p.class) p.tree × PartsFit vs zs [] ps
PartsFit vs zs (o ∷ os) (p ∷ ps) = Fits (within (bound o vs) zs) (class_trees p.class) p.tree × PartsFit vs zs os ps

-- the binders under which a part may stand
abbrev pub binders_of : List (Option Sort) → ℕ
binders_of [] = 0
binders_of (o ∷ os) = 1

pub few_binders : (os : List (Option Sort)) → binders_of os ≤ 1
few_binders [] = omega arith
few_binders (o ∷ os) = omega arith

bound_length : (o : Option Sort) (vs : List Sort) → length (bound o vs) ≤ length vs + 1
bound_length None vs = omega arith
bound_length (Some v) vs = omega arith

pub part_comparable : (n : ℕ) (zs vs : List Sort) (x y : Sided) → length vs ≤ most n → n ≤ 40000000 → x.class ≡ y.class
    → Fits (within vs zs) (class_trees x.class) x.tree → Fits (within vs zs) (class_trees y.class) y.tree → IsComparable zs (record { left = x; right = y; binders = n })
part_comparable n zs vs x y l m e g h = record {
  class = e;
  few = m;
  placed = record { sorts = vs; few = l; left = g; right = subst (λ c. Fits (within vs zs) (class_trees c) y.tree) (sym e) h };
}

pub parts_comparable : (n : ℕ) (zs vs : List Sort) (os : List (Option Sort)) (xs ys : List Sided) → length vs + binders_of os ≤ most n → n ≤ 40000000 → classes xs ≡ classes ys
    → PartsFit vs zs os xs → PartsFit vs zs os ys → AreComparable zs (part_pairs n xs ys)
parts_comparable n zs vs os [] ys l m e g h = tt
parts_comparable n zs vs os (x ∷ xs) [] l m e g h = tt
parts_comparable n zs vs [] (x ∷ xs) (y ∷ ys) l m e g h =
    let c : x.class ≡ y.class = cc in let r : classes xs ≡ classes ys = cc in
    comparable_append zs (part_pairs n xs ys) (record { left = x; right = y; binders = n } ∷ []) (parts_comparable n zs vs [] xs ys l m r g.1 h.1)
    (part_comparable n zs vs x y (omega arith) m c g.0 h.0, tt)
parts_comparable n zs vs (o ∷ os) (x ∷ xs) (y ∷ ys) l m e g h =
    let c : x.class ≡ y.class = cc in let r : classes xs ≡ classes ys = cc in
    let f = few_binders os in let b = bound_length o vs in
    comparable_append zs (part_pairs n xs ys) (record { left = x; right = y; binders = n } ∷ []) (parts_comparable n zs vs os xs ys (omega arith) m r g.1 h.1)
    (part_comparable n zs (bound o vs) x y (omega arith) m c g.0 h.0, tt)

-- ---- what the loops over the parts keep

pub same_length : (xs ys : List Sided) → classes xs ≡ classes ys → length xs ≡ length ys
same_length [] [] e = refl
same_length [] (y ∷ ys) e = cc
same_length (x ∷ xs) [] e = cc
same_length (x ∷ xs) (y ∷ ys) e = let r : classes xs ≡ classes ys = cc in ap suc (same_length xs ys r)

pub class_at : (xs ys : List Sided) (k : ℕ) (x y : Sided) → classes xs ≡ classes ys → k < length xs → x ≡ get_or xs k x → y ≡ get_or ys k y → x.class ≡ y.class
class_at [] ys k x y e l g h = absurd (omega arith)
class_at (u ∷ xs) [] k x y e l g h = cc
class_at (u ∷ xs) (v ∷ ys) zero x y e l g h = let p : x ≡ u = g in let q : y ≡ v = h in let r : u.class ≡ v.class = cc in rw (p, q) r
class_at (u ∷ xs) (v ∷ ys) (suc k) x y e l g h = let r : classes xs ≡ classes ys = cc in class_at xs ys k x y r (omega arith) g h

pub classes_more : (xs ys : List Sided) (k n : ℕ) (x y : Sided) → n ≡ suc k → length xs ≡ length ys → k < length xs → x ≡ get_or xs k x → y ≡ get_or ys k y → x.class ≡ y.class
    → classes (take k xs) ≡ classes (take k ys) → classes (take n xs) ≡ classes (take n ys)
classes_more xs ys k n x y i e l g h c r = subst (λ z. classes (take z xs) ≡ classes (take z ys)) (sym i) (more xs ys k e l g h r)
  where
    more : (xs ys : List Sided) (k : ℕ) → length xs ≡ length ys → k < length xs → x ≡ get_or xs k x → y ≡ get_or ys k y → classes (take k xs) ≡ classes (take k ys)
        → classes (take (suc k) xs) ≡ classes (take (suc k) ys)
    more [] ys k e l g h r = absurd (omega arith)
    more (u ∷ xs) [] k e l g h r = absurd (omega arith)
    more (u ∷ xs) (v ∷ ys) zero e l g h r = let p : x ≡ u = g in let q : y ≡ v = h in let z : u.class ≡ v.class = (rw (p, q) at c) in ap (λ c. c ∷ []) z
    more (u ∷ xs) (v ∷ ys) (suc k) e l g h r =
        let z : u.class ≡ v.class = cc in
        let t : classes (take k xs) ≡ classes (take k ys) = cc in
        ap (λ c. c ∷ classes (take (suc k) xs)) z ∙ ap (λ cs. v.class ∷ cs) (more xs ys k (omega arith) (omega arith) g h t)

pub parts_more : (n : ℕ) (old now : List SidePair) (xs ys : List Sided) (k less : ℕ) (x y l r : Sided) → now ≡ old ++ part_pairs n (drop k xs) (drop k ys) → k ≡ suc less → k ≤ length xs
    → length xs ≡ length ys → x ≡ get_or xs less x → y ≡ get_or ys less y → l ≡ x → r ≡ y
    → now ++ record { left = l; right = r; binders = n } ∷ [] ≡ old ++ part_pairs n (drop less xs) (drop less ys)
parts_more n old now xs ys k less x y l r i e b c g h p q =
    let dx : drop less xs ≡ x ∷ drop (suc less) xs = drop-cons xs less x (omega arith) ∙ ap (λ z. z ∷ drop (suc less) xs) (sym g) in
    let dy : drop less ys ≡ y ∷ drop (suc less) ys = drop-cons ys less y (omega arith) ∙ ap (λ z. z ∷ drop (suc less) ys) (sym h) in
    let j : now ≡ old ++ part_pairs n (drop (suc less) xs) (drop (suc less) ys) = subst (λ z. now ≡ old ++ part_pairs n (drop z xs) (drop z ys)) e i in
    rw (j, dx, dy, p, q) (append_assoc old (part_pairs n (drop (suc less) xs) (drop (suc less) ys)) (record { left = x; right = y; binders = n } ∷ []))
