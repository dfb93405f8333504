-- What the head and the parts of a tree say of it.
use Rattle.std.proofs.Common.{◌≡◌, ◌⊎◌, inl, inr, ℕ, suc, List, [], ◌∷◌, ◌++◌, length, Option, Some, None, refl, sym, ap, ◌∙◌, subst, arith}
use native.Mathlib.Decide.{ℕ_discrete}
use Rattle.cdle_model.specs.Trees.{Function, of_pure, of_term, of_type, Function-discrete, Leaf-discrete, Unary-discrete, Binary-discrete, Binder-discrete, Tree, var, name, leaf, unary, fun, apply, binary, bind}
use Rattle.cdle_model.specs.Steps.{eta, here, end, forth, Joined}
use Rattle.cdle_model.specs.Comparison.{Head, variable, constant, argument, function, leaf_head, unary_head, former, binary_head, stuck, Head-discrete, applied_head, head_of, parts_by, parts_of, Pair, pairs_of, function_of, applied, same_heads, split_by, split, into, differ, against}
use Rattle.cdle_model.proofs.Rewriting.{linked-join, linked-turn}
use Rattle.cdle_model.proofs.Equality.{joined_fun, joined_apply, joined_bind, joined_unary, joined_binary}

-- each pair is related
abbrev pub AllPairs : (Tree → Tree → Type 0) → List Pair → Type 0
AllPairs R [] = Unit {0}
AllPairs R (p ∷ ps) = R p.0 p.1 × AllPairs R ps

pub all-append : (R : Tree → Tree → Type 0) (ps qs : List Pair) → AllPairs R ps → AllPairs R qs → AllPairs R (ps ++ qs)
all-append R [] qs h k = k
all-append R (p ∷ ps) qs h k = (h.0, all-append R ps qs h.1 k)

all-snoc : (R : Tree → Tree → Type 0) (ps qs : List Tree) (p q : Tree) → length ps ≡ length qs → AllPairs R (pairs_of ps qs) → R p q → AllPairs R (pairs_of (ps ++ (p ∷ [])) (qs ++ (q ∷ [])))
all-snoc R [] [] p q e h k = (k, tt)
all-snoc R [] (_ ∷ qs) p q e h k = absurd (grind arith)
all-snoc R (_ ∷ ps) [] p q e h k = absurd (grind arith)
all-snoc R (a ∷ ps) (b ∷ qs) p q e h k = (h.0, all-snoc R ps qs p q (grind arith) h.1 k)

abbrev pub AllJoined : List Tree → List Pair → Type 0
AllJoined s = AllPairs (Joined s)

-- which constructor of trees has this head: 4 is a binder's form, 5 a form of two parts
abbrev form : Head → ℕ
form (variable i) = 0
form (constant n) = 1
form (leaf_head l) = 2
form (unary_head j) = 7
form (function c) = 3
form (former f) = 4
form (binary_head j) = 5
form (argument c h) = 6
form (stuck c) = 6

abbrev pub form_of : Tree → ℕ
form_of (var i) = 0
form_of (name n) = 1
form_of (leaf l) = 2
form_of (fun c p) = 3
form_of (bind f p q) = 4
form_of (binary j p q) = 5
form_of (unary j p) = 7
form_of (apply c p q) = 6

form-applied : (c : Function) (h : Head) → form (applied_head c h) ≡ 6
form-applied c (variable i) = refl
form-applied c h = refl

form-head : (p : Tree) → form (head_of p) ≡ form_of p
form-head (apply c p q) = form-applied c (head_of p)
form-head p = refl

pub same-form : (p q : Tree) → head_of p ≡ head_of q → form_of p ≡ form_of q
same-form p q e = sym (form-head p) ∙ ap form e ∙ form-head q

-- how many parts
abbrev pub count : Head → ℕ
count (variable i) = 0
count (constant n) = 0
count (leaf_head l) = 0
count (unary_head j) = 1
count (function c) = 1
count (former f) = 2
count (binary_head j) = 2
count (argument c h) = suc (count h)
count (stuck c) = 2

length-snoc : (ps : List Tree) (q : Tree) → length (ps ++ (q ∷ [])) ≡ suc (length ps)
length-snoc [] q = refl
length-snoc (p ∷ ps) q = ap suc (length-snoc ps q)

count-app : (c : Function) (h : Head) (ps : List Tree) (p q : Tree) → length ps ≡ count h → length (parts_by h ps p q) ≡ count (applied_head c h)
count-app c (variable i) ps p q e = length-snoc ps q ∙ ap suc e
count-app c (constant n) ps p q e = length-snoc ps q ∙ ap suc e
count-app c (argument d h) ps p q e = length-snoc ps q ∙ ap suc e
count-app c h ps p q e = refl

pub count-parts : (p : Tree) → length (parts_of p) ≡ count (head_of p)
count-parts (apply c p q) = count-app c (head_of p) (parts_of p) p q (count-parts p)
count-parts p = refl

-- pairs of lists with one more at the end
snoc-joined : (s : List Tree) (ps qs : List Tree) (p q : Tree) → length ps ≡ length qs → AllJoined s (pairs_of (ps ++ (p ∷ [])) (qs ++ (q ∷ [])))
    → AllJoined s (pairs_of ps qs) × Joined s p q
snoc-joined s [] [] p q e h = (tt, h.0)
snoc-joined s [] (_ ∷ qs) p q e h = absurd (grind arith)
snoc-joined s (_ ∷ ps) [] p q e h = absurd (grind arith)
snoc-joined s (a ∷ ps) (b ∷ qs) p q e h = let (x, y) = snoc-joined s ps qs p q (grind arith) h.1 in ((h.0, x), y)

-- an application of a variable, and a stuck one
abbrev pub IsNeutral : Head → Type 0
IsNeutral h = ((c : Function) → applied_head c h ≡ argument c h) × ((ps : List Tree) (p q : Tree) → parts_by h ps p q ≡ ps ++ (q ∷ []))

abbrev pub IsOther : Head → Type 0
IsOther h = ((c : Function) → applied_head c h ≡ stuck c) × ((ps : List Tree) (p q : Tree) → parts_by h ps p q ≡ p ∷ q ∷ [])

pub neutral-or : (h : Head) → IsNeutral h ⊎ IsOther h
neutral-or (variable i) = inl ((λ c. refl), (λ ps p q. refl))
neutral-or (constant n) = inl ((λ c. refl), (λ ps p q. refl))
neutral-or (argument d h) = inl ((λ c. refl), (λ ps p q. refl))
neutral-or h = inr ((λ c. refl), (λ ps p q. refl))

-- the parts of two applications with one head
pub all-applied : (R : Tree → Tree → Type 0) (c d : Function) (h k : Head) (p p' q q' : Tree) → applied_head c h ≡ applied_head d k
    → (h ≡ k → length (parts_of p) ≡ length (parts_of p')) → (c ≡ d → R p p' × R q q')
    → (h ≡ k → R p p' → AllPairs R (pairs_of (parts_of p) (parts_of p')))
    → AllPairs R (pairs_of (parts_by h (parts_of p) p q) (parts_by k (parts_of p') p' q'))
all-applied R c d h k p p' q q' e n g r = by_heads (neutral-or h) (neutral-or k)
  where
    by_heads : IsNeutral h ⊎ IsOther h → IsNeutral k ⊎ IsOther k → AllPairs R (pairs_of (parts_by h (parts_of p) p q) (parts_by k (parts_of p') p' q'))
    by_heads (inl u) (inl v) =
        let i : argument c h ≡ argument d k = sym (u.0 c) ∙ e ∙ v.0 d in
        let j : c ≡ d = grind arith in
        let l : h ≡ k = grind arith in
        rw (u.1 (parts_of p) p q, v.1 (parts_of p') p' q') (all-snoc R (parts_of p) (parts_of p') q q' (n l) (r l (g j).0) (g j).1)
    by_heads (inl u) (inr v) = let i : argument c h ≡ stuck d = sym (u.0 c) ∙ e ∙ v.0 d in absurd (grind arith)
    by_heads (inr u) (inl v) = let i : stuck c ≡ argument d k = sym (u.0 c) ∙ e ∙ v.0 d in absurd (grind arith)
    by_heads (inr u) (inr v) =
        let i : stuck c ≡ stuck d = sym (u.0 c) ∙ e ∙ v.0 d in
        let j : c ≡ d = grind arith in
        rw (u.1 (parts_of p) p q, v.1 (parts_of p') p' q') ((g j).0, ((g j).1, tt))

-- two applications with one head: of a variable, or stuck
app-joined : (s : List Tree) (c d : Function) (h k : Head) (p p' q q' : Tree) → applied_head c h ≡ applied_head d k
    → (h ≡ k → length (parts_of p) ≡ length (parts_of p'))
    → (h ≡ k → AllJoined s (pairs_of (parts_of p) (parts_of p')) → Joined s p p')
    → AllJoined s (pairs_of (parts_by h (parts_of p) p q) (parts_by k (parts_of p') p' q')) → Joined s (apply c p q) (apply d p' q')
app-joined s c d h k p p' q q' e n f x = by_heads (neutral-or h) (neutral-or k)
  where
    by_heads : IsNeutral h ⊎ IsOther h → IsNeutral k ⊎ IsOther k → Joined s (apply c p q) (apply d p' q')
    by_heads (inl u) (inl v) =
        let i : argument c h ≡ argument d k = sym (u.0 c) ∙ e ∙ v.0 d in
        let j : c ≡ d = grind arith in
        let l : h ≡ k = grind arith in
        let (y, z) = snoc-joined s (parts_of p) (parts_of p') q q' (n l) (rw (u.1 (parts_of p) p q, v.1 (parts_of p') p' q') at x) in
        rw j (joined_apply (f l y) z)
    by_heads (inl u) (inr v) = let i : argument c h ≡ stuck d = sym (u.0 c) ∙ e ∙ v.0 d in absurd (grind arith)
    by_heads (inr u) (inl v) = let i : stuck c ≡ argument d k = sym (u.0 c) ∙ e ∙ v.0 d in absurd (grind arith)
    by_heads (inr u) (inr v) =
        let i : stuck c ≡ stuck d = sym (u.0 c) ∙ e ∙ v.0 d in
        let j : c ≡ d = grind arith in
        let y : AllJoined s (pairs_of (p ∷ q ∷ []) (p' ∷ q' ∷ [])) = rw (u.1 (parts_of p) p q, v.1 (parts_of p') p' q') at x in
        rw j (joined_apply y.0 y.1.0)

pub head-joined : (s : List Tree) (a b : Tree) → head_of a ≡ head_of b → AllJoined s (pairs_of (parts_of a) (parts_of b)) → Joined s a b
head-joined s (var i) (var j) e h = let k : i ≡ j = grind arith in rw k end
head-joined s (name i) (name j) e h = let k : i ≡ j = grind arith in rw k end
head-joined s (leaf l) (leaf m) e h = let k : l ≡ m = grind arith in rw k end
head-joined s (unary j p) (unary i q) e h = let k : j ≡ i = grind arith in rw k (joined_unary h.0)
head-joined s (fun c p) (fun d q) e h = let k : c ≡ d = grind arith in rw k (joined_fun h.0)
head-joined s (bind f p q) (bind g p' q') e h = let k : f ≡ g = grind arith in rw k (joined_bind h.0 h.1.0)
head-joined s (binary j p q) (binary i p' q') e h = let k : j ≡ i = grind arith in rw k (joined_binary h.0 h.1.0)
head-joined s (apply c p q) (apply d p' q') e h = app-joined s c d (head_of p) (head_of p') p p' q q' e
    (λ i. count-parts p ∙ ap count i ∙ sym (count-parts p')) (λ i x. head-joined s p p' i x) h
head-joined s a b e h = let k : form_of a ≡ form_of b = same-form a b e in absurd (grind arith)

-- a pure function
pub function-is : (a p : Tree) → function_of a ≡ Some p → a ≡ fun of_pure p
function-is (fun of_pure q) p e = let k : q ≡ p = grind arith in rw k refl
function-is (fun of_term q) p e = absurd (grind arith)
function-is (fun of_type q) p e = absurd (grind arith)
function-is (var i) p e = absurd (grind arith)
function-is (name i) p e = absurd (grind arith)
function-is (leaf l) p e = absurd (grind arith)
function-is (apply c q r) p e = absurd (grind arith)
function-is (bind f q r) p e = absurd (grind arith)
function-is (binary j q r) p e = absurd (grind arith)
function-is (unary j q) p e = absurd (grind arith)

pub same_heads-cases : (h k : Head) (qs : List Pair) → (h ≡ k) × (same_heads h k qs ≡ into qs) ⊎ (h ≡ k → ⊥) × (same_heads h k qs ≡ differ)
same_heads-cases h k qs = by_test (Head-discrete ℕ_discrete Function-discrete (Leaf-discrete ℕ_discrete) Unary-discrete Binder-discrete Binary-discrete h k) refl
  where
    by_test : (d : Dec (h ≡ k)) → Head-discrete ℕ_discrete Function-discrete (Leaf-discrete ℕ_discrete) Unary-discrete Binder-discrete Binary-discrete h k ≡ d → (h ≡ k) × (same_heads h k qs ≡ into qs) ⊎ (h ≡ k → ⊥) × (same_heads h k qs ≡ differ)
    by_test (yes e) w = inl (e, rw (same_heads, w))
    by_test (no e) w = inr (e, rw (same_heads, w))

-- a pure function against another head form gives its pair or nothing
against-into : (h : Head) (ps qs : List Pair) → against h ps ≡ into qs → ps ≡ qs
against-into (variable i) ps qs e = grind arith
against-into (constant n) ps qs e = grind arith
against-into (argument c h) ps qs e = grind arith
against-into h ps qs e = absurd (grind arith)

pub eta-joined : (s : List Tree) (b : Tree) → Joined s (fun of_pure (applied b)) b
eta-joined s b = forth (here (inr eta)) end

-- where the pairs in place of two trees are joined, so are the trees
pub split-joined : (s : List Tree) (a b : Tree) (qs : List Pair) → split a b ≡ into qs → AllJoined s qs → Joined s a b
split-joined s a b qs e h = by_functions (function_of a) (function_of b) refl refl e
  where
    by_functions : (x y : Option Tree) → function_of a ≡ x → function_of b ≡ y → split_by x y a b ≡ into qs → Joined s a b
    by_functions (Some p) (Some q) i j e =
        let k : (p, q) ∷ [] ≡ qs = grind arith in
        let l : AllJoined s ((p, q) ∷ []) = subst (AllJoined s) (sym k) h in
        rw (function-is a p i, function-is b q j) (joined_fun l.0)
    by_functions (Some p) None i j e =
        let k : (p, applied b) ∷ [] ≡ qs = against-into (head_of b) ((p, applied b) ∷ []) qs e in
        let l : AllJoined s ((p, applied b) ∷ []) = subst (AllJoined s) (sym k) h in
        rw (function-is a p i) (linked-join (joined_fun l.0) (eta-joined s b))
    by_functions None (Some q) i j e =
        let k : (applied a, q) ∷ [] ≡ qs = against-into (head_of a) ((applied a, q) ∷ []) qs e in
        let l : AllJoined s ((applied a, q) ∷ []) = subst (AllJoined s) (sym k) h in
        rw (function-is b q j) (linked-join (linked-turn (eta-joined s a)) (joined_fun l.0))
    by_functions None None i j e = by_heads (same_heads-cases (head_of a) (head_of b) (pairs_of (parts_of a) (parts_of b)))
      where
        by_heads : (head_of a ≡ head_of b) × (same_heads (head_of a) (head_of b) (pairs_of (parts_of a) (parts_of b)) ≡ into (pairs_of (parts_of a) (parts_of b)))
            ⊎ (head_of a ≡ head_of b → ⊥) × (same_heads (head_of a) (head_of b) (pairs_of (parts_of a) (parts_of b)) ≡ differ) → Joined s a b
        by_heads (inl u) =
            let k : into (pairs_of (parts_of a) (parts_of b)) ≡ into qs = sym u.1 ∙ e in
            let l : pairs_of (parts_of a) (parts_of b) ≡ qs = grind arith in
            head-joined s a b u.0 (subst (AllJoined s) (sym l) h)
        by_heads (inr u) = let k : differ ≡ into qs = sym u.1 ∙ e in absurd (grind arith)
