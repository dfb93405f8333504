-- Values as trees: their heads and their parts.
use Rattle.std.proofs.Common.{◌≡◌, ◌⊎◌, inl, inr, ℕ, suc, ◌+◌, List, [], ◌∷◌, ◌++◌, length, None, sym, ◌∙◌, subst, refl, ap, arith, append_assoc}
use Rattle.cdle_model.specs.Trees.{Function, of_term, of_type, eq_of, star_of, pi_of, all_of, allt_of, iota_of, kpi_of, kpit_of, Tree, var, apply}
use Rattle.cdle_model.specs.Comparison.{Head, variable, constant, argument, function, leaf_head, former, binary_head, stuck, applied_head, head_of, parts_by, parts_of, Pair, pairs_of, function_of, into, differ, same_heads, against, split}
use Rattle.cdle_model.proofs.HeadParts.{count, same_heads-cases}
use Rattle.core_reduce.specs.declared.side.SideClass.{SideClass}
use Rattle.core_reduce.specs.declared.side.SideClass.TheVariants.{OfPure, OfType, OfKind}
use Rattle.core_reduce.specs.declared.value.Former.{Former}
use Rattle.core_reduce.specs.declared.value.Former.TheVariants as f
use Rattle.core_reduce.specs.Sides.{Sided}
use Rattle.core_reduce.specs.Values.{applied_by, applied_to, former_parts, former_tree, classes, IsArgument, AreArguments, IsOfForm, IsStuck}

-- the trees of sides
abbrev pub trees : List Sided → List Tree
trees [] = []
trees (x ∷ xs) = x.tree ∷ trees xs

-- ---- two trees by their heads

pub split_same : (a b : Tree) → function_of a ≡ None → function_of b ≡ None → head_of a ≡ head_of b → split a b ≡ into (pairs_of (parts_of a) (parts_of b))
split_same a b e g h = rw (e, g) (by_cases (same_heads-cases (head_of a) (head_of b) (pairs_of (parts_of a) (parts_of b))))
  where
    by_cases : (head_of a ≡ head_of b) × (same_heads (head_of a) (head_of b) (pairs_of (parts_of a) (parts_of b)) ≡ into (pairs_of (parts_of a) (parts_of b)))
        ⊎ (head_of a ≡ head_of b → ⊥) × (same_heads (head_of a) (head_of b) (pairs_of (parts_of a) (parts_of b)) ≡ differ)
        → same_heads (head_of a) (head_of b) (pairs_of (parts_of a) (parts_of b)) ≡ into (pairs_of (parts_of a) (parts_of b))
    by_cases (inl u) = u.1
    by_cases (inr u) = absurd (u.0 h)

pub split_differ : (a b : Tree) → function_of a ≡ None → function_of b ≡ None → (head_of a ≡ head_of b → ⊥) → split a b ≡ differ
split_differ a b e g n = rw (e, g) (by_cases (same_heads-cases (head_of a) (head_of b) (pairs_of (parts_of a) (parts_of b))))
  where
    by_cases : (head_of a ≡ head_of b) × (same_heads (head_of a) (head_of b) (pairs_of (parts_of a) (parts_of b)) ≡ into (pairs_of (parts_of a) (parts_of b)))
        ⊎ (head_of a ≡ head_of b → ⊥) × (same_heads (head_of a) (head_of b) (pairs_of (parts_of a) (parts_of b)) ≡ differ)
        → same_heads (head_of a) (head_of b) (pairs_of (parts_of a) (parts_of b)) ≡ differ
    by_cases (inl u) = absurd (n u.0)
    by_cases (inr u) = u.1

-- ---- variables with arguments

-- the head of a variable with arguments
abbrev pub IsVariable : Head → Type 0
IsVariable (variable i) = Unit {0}
IsVariable (argument c h) = Unit {0}
IsVariable h = ⊥

variable_applied : (c : Function) (h : Head) → IsVariable h → applied_head c h ≡ argument c h
variable_applied c (variable i) k = refl
variable_applied c (argument d h) k = refl
variable_applied c h k = absurd k

variable_parts : (h : Head) (ps : List Tree) (p q : Tree) → IsVariable h → parts_by h ps p q ≡ ps ++ (q ∷ [])
variable_parts (variable i) ps p q k = refl
variable_parts (argument d h) ps p q k = refl
variable_parts h ps p q k = absurd k

pub variable_against : (h : Head) (qs : List Pair) → IsVariable h → against h qs ≡ into qs
variable_against (variable i) qs k = refl
variable_against (argument d h) qs k = refl
variable_against h qs k = absurd k

-- the head of a tree of this head with arguments
abbrev args_head : SideClass → Head → List Sided → Head
args_head k h [] = h
args_head k h (x ∷ xs) = args_head k (argument (applied_by k x.class) h) xs

args_variable : (k : SideClass) (h : Head) (xs : List Sided) → IsVariable h → IsVariable (args_head k h xs)
args_variable k h [] v = v
args_variable k h (x ∷ xs) v = args_variable k (argument (applied_by k x.class) h) xs tt

-- a tree of this head, with arguments
record ArgsSo (k : SideClass) (t : Tree) (xs : List Sided) : Type 0 where
  head : head_of (applied_to k t xs) ≡ args_head k (head_of t) xs
  parts : parts_of (applied_to k t xs) ≡ parts_of t ++ trees xs

append_none : (ps : List Tree) → ps ++ [] ≡ ps
append_none [] = refl
append_none (p ∷ ps) = ap (λ z. p ∷ z) (append_none ps)

args_so : (k : SideClass) (t : Tree) (xs : List Sided) → IsVariable (head_of t) → ArgsSo k t xs
args_so k t [] v = record { head = refl; parts = sym (append_none (parts_of t)) }
args_so k t (x ∷ xs) v =
    let c = applied_by k x.class in
    let e : head_of (apply c t x.tree) ≡ argument c (head_of t) = variable_applied c (head_of t) v in
    let g : parts_of (apply c t x.tree) ≡ parts_of t ++ (x.tree ∷ []) = variable_parts (head_of t) (parts_of t) t x.tree v in
    let r = args_so k (apply c t x.tree) xs (subst IsVariable (sym e) tt) in
    record {
      head = r.head ∙ ap (λ h. args_head k h xs) e;
      parts = r.parts ∙ (ap (λ z. z ++ trees xs) g ∙ append_assoc (parts_of t) (x.tree ∷ []) (trees xs));
    }

pub args_other : (k : SideClass) (t : Tree) (xs : List Sided) → function_of t ≡ None → function_of (applied_to k t xs) ≡ None
args_other k t [] e = e
args_other k t (x ∷ xs) e = args_other k (apply (applied_by k x.class) t x.tree) xs refl

pub variable_head : (k : SideClass) (i : ℕ) (xs : List Sided) → IsVariable (head_of (applied_to k (var i) xs))
variable_head k i xs = subst IsVariable (sym (args_so k (var i) xs tt).head) (args_variable k (variable i) xs tt)

pub variable_trees : (k : SideClass) (i : ℕ) (xs : List Sided) → parts_of (applied_to k (var i) xs) ≡ trees xs
variable_trees k i xs = (args_so k (var i) xs tt).parts

-- the classes of the arguments are told by the functions that take them
argument_one : (k c d : SideClass) → IsArgument k c → IsArgument k d → applied_by k c ≡ applied_by k d → c ≡ d
argument_one OfPure OfPure OfPure i j e = refl
argument_one OfPure OfPure OfType i j e = absurd j
argument_one OfPure OfPure OfKind i j e = absurd j
argument_one OfPure OfType d i j e = absurd i
argument_one OfPure OfKind d i j e = absurd i
argument_one OfType OfPure OfPure i j e = refl
argument_one OfType OfPure OfType i j e = cc
argument_one OfType OfPure OfKind i j e = absurd j
argument_one OfType OfType OfPure i j e = cc
argument_one OfType OfType OfType i j e = refl
argument_one OfType OfType OfKind i j e = absurd j
argument_one OfType OfKind d i j e = absurd i
argument_one OfKind c d i j e = absurd i

count_args : (k : SideClass) (h : Head) (xs : List Sided) → count (args_head k h xs) ≡ count h + length xs
count_args k h [] = omega arith
count_args k h (x ∷ xs) = let e = count_args k (argument (applied_by k x.class) h) xs in omega arith

args_one : (k : SideClass) (h g : Head) (xs ys : List Sided) → AreArguments k xs → AreArguments k ys → count h ≡ count g → args_head k h xs ≡ args_head k g ys → (h ≡ g) × (classes xs ≡ classes ys)
args_one k h g [] [] a b n e = (e, refl)
args_one k h g [] (y ∷ ys) a b n e = let m : count h ≡ count g + length (y ∷ ys) = ap count e ∙ count_args k g (y ∷ ys) in absurd (omega arith)
args_one k h g (x ∷ xs) [] a b n e = let m : count g ≡ count h + length (x ∷ xs) = ap count (sym e) ∙ count_args k h (x ∷ xs) in absurd (omega arith)
args_one k h g (x ∷ xs) (y ∷ ys) a b n e =
    let r = args_one k (argument (applied_by k x.class) h) (argument (applied_by k y.class) g) xs ys a.1 b.1 (ap suc n) e in
    let q = r.0 in
    let u : applied_by k x.class ≡ applied_by k y.class = cc in
    let w : h ≡ g = cc in
    let z : x.class ≡ y.class = argument_one k x.class y.class a.0 b.0 u in
    (w, ap (λ c. c ∷ classes xs) z ∙ ap (λ cs. y.class ∷ cs) r.1)

args_same : (k : SideClass) (h : Head) (xs ys : List Sided) → classes xs ≡ classes ys → args_head k h xs ≡ args_head k h ys
args_same k h [] [] e = refl
args_same k h [] (y ∷ ys) e = cc
args_same k h (x ∷ xs) [] e = cc
args_same k h (x ∷ xs) (y ∷ ys) e =
    let q : x.class ≡ y.class = cc in
    let r : classes xs ≡ classes ys = cc in
    ap (λ c. args_head k (argument (applied_by k c) h) xs) q ∙ args_same k (argument (applied_by k y.class) h) xs ys r

-- two variables with arguments have one head where the variables are one, and the classes of the arguments
pub variables_one : (k : SideClass) (i j : ℕ) (xs ys : List Sided) → AreArguments k xs → AreArguments k ys → head_of (applied_to k (var i) xs) ≡ head_of (applied_to k (var j) ys)
    → (i ≡ j) × (classes xs ≡ classes ys)
variables_one k i j xs ys a b e =
    let g = sym (args_so k (var i) xs tt).head ∙ (e ∙ (args_so k (var j) ys tt).head) in
    let r = args_one k (variable i) (variable j) xs ys a b refl g in
    let q = r.0 in
    ((let w : i ≡ j = cc in w), r.1)

pub variables_same : (k : SideClass) (i j : ℕ) (xs ys : List Sided) → i ≡ j → classes xs ≡ classes ys → head_of (applied_to k (var i) xs) ≡ head_of (applied_to k (var j) ys)
variables_same k i j xs ys e g =
    (args_so k (var i) xs tt).head ∙ (args_same k (variable i) xs ys g ∙ (ap (λ n. args_head k (variable n) ys) e ∙ sym (args_so k (var j) ys tt).head))

-- ---- formers

abbrev pub former_head : Former → Head
former_head f.Pi = former pi_of
former_head f.All = former all_of
former_head f.Allt = former allt_of
former_head f.Tlam = function of_term
former_head f.Xtlam = function of_type
former_head f.At = stuck of_term
former_head f.On = stuck of_type
former_head f.Iota = former iota_of
former_head f.Eq = binary_head eq_of
former_head f.Star = leaf_head star_of
former_head f.Kpi = former kpi_of
former_head f.Kpit = former kpit_of

former_back : Head → Former
former_back (former pi_of) = f.Pi
former_back (former all_of) = f.All
former_back (former allt_of) = f.Allt
former_back (former iota_of) = f.Iota
former_back (former kpi_of) = f.Kpi
former_back (former kpit_of) = f.Kpit
former_back (function of_term) = f.Tlam
former_back (function of_type) = f.Xtlam
former_back (stuck of_term) = f.At
former_back (stuck of_type) = f.On
former_back (binary_head j) = f.Eq
former_back h = f.Star

former_there : (x : Former) → former_back (former_head x) ≡ x
unfolding former_back
former_there f.Pi = refl
former_there f.All = refl
former_there f.Allt = refl
former_there f.Tlam = refl
former_there f.Xtlam = refl
former_there f.At = refl
former_there f.On = refl
former_there f.Iota = refl
former_there f.Eq = refl
former_there f.Star = refl
former_there f.Kpi = refl
former_there f.Kpit = refl

pub former_one : (x y : Former) → former_head x ≡ former_head y → x ≡ y
former_one x y e = sym (former_there x) ∙ (ap former_back e ∙ former_there y)

pub former_variable : (x : Former) → IsVariable (former_head x) → ⊥
former_variable f.Pi k = k
former_variable f.All k = k
former_variable f.Allt k = k
former_variable f.Tlam k = k
former_variable f.Xtlam k = k
former_variable f.At k = k
former_variable f.On k = k
former_variable f.Iota k = k
former_variable f.Eq k = k
former_variable f.Star k = k
former_variable f.Kpi k = k
former_variable f.Kpit k = k

-- the head and the parts of a former with its parts
pub record FormerSo (x : Former) (ps : List Sided) : Type 0 where
  pub head : head_of (former_tree x ps) ≡ former_head x
  pub parts : parts_of (former_tree x ps) ≡ trees ps
  pub other : function_of (former_tree x ps) ≡ None

stuck_head : (c : Function) (h : Head) → IsOfForm h → applied_head c h ≡ stuck c
stuck_head c (variable i) k = absurd k
stuck_head c (constant n) k = absurd k
stuck_head c (argument d h) k = absurd k
stuck_head c h k = refl

stuck_parts : (h : Head) (ps : List Tree) (p q : Tree) → IsOfForm h → parts_by h ps p q ≡ p ∷ q ∷ []
stuck_parts (variable i) ps p q k = absurd k
stuck_parts (constant n) ps p q k = absurd k
stuck_parts (argument d h) ps p q k = absurd k
stuck_parts h ps p q k = refl

pub former_so : (x : Former) (ps : List Sided) → classes ps ≡ former_parts x → IsStuck x ps → FormerSo x ps
former_so f.Pi (a ∷ b ∷ []) e k = record { head = refl; parts = refl; other = refl }
former_so f.All (a ∷ b ∷ []) e k = record { head = refl; parts = refl; other = refl }
former_so f.Allt (a ∷ b ∷ []) e k = record { head = refl; parts = refl; other = refl }
former_so f.Tlam (a ∷ []) e k = record { head = refl; parts = refl; other = refl }
former_so f.Xtlam (a ∷ []) e k = record { head = refl; parts = refl; other = refl }
former_so f.At (a ∷ b ∷ []) e k = record {
  head = stuck_head of_term (head_of a.tree) k;
  parts = stuck_parts (head_of a.tree) (parts_of a.tree) a.tree b.tree k;
  other = refl;
}
former_so f.On (a ∷ b ∷ []) e k = record {
  head = stuck_head of_type (head_of a.tree) k;
  parts = stuck_parts (head_of a.tree) (parts_of a.tree) a.tree b.tree k;
  other = refl;
}
former_so f.Iota (a ∷ b ∷ []) e k = record { head = refl; parts = refl; other = refl }
former_so f.Eq (a ∷ b ∷ []) e k = record { head = refl; parts = refl; other = refl }
former_so f.Star [] e k = record { head = refl; parts = refl; other = refl }
former_so f.Kpi (a ∷ b ∷ []) e k = record { head = refl; parts = refl; other = refl }
former_so f.Kpit (a ∷ b ∷ []) e k = record { head = refl; parts = refl; other = refl }
former_so x ps e k = absurd (let o : classes ps ≡ former_parts x = e in cc)
