-- The answer `same` of plain comparison comes only where the two are joined, and a head form is joined with its tree.
use Rattle.std.proofs.Common.{◌≡◌, inl, ℕ, zero, suc, Bool, true, false, cond, ltb, List, [], ◌∷◌, ◌++◌, Option, Some, None, slice_get, refl, sym, ap, ◌∙◌, subst, arith}
use Rattle.cdle_model.specs.Trees.{Function, of_pure, of_term, of_type, Tree, var, name, leaf, unary, fun, apply, binary, bind}
use Rattle.cdle_model.specs.Steps.{contract, unfold_name, here, in_head, Step, Joined, end, forth, back}
use Rattle.cdle_model.specs.Machine.{Move, stop, go, answered, spent, run}
use Rattle.cdle_model.specs.Depth.{depth}
use Rattle.cdle_model.specs.HeadForms.{deep, deepest, HeadStep, none, to, blocked, contraction, unfolding_of, step_under, if_same, ill_applied, head_step, at, fallen, value, no_value, head_move, head_form}
use Rattle.cdle_model.specs.Comparison.{Pair, Split, into, differ, classless, split, Answer, same, State, pairs, taken, past, same_name, move_pairs, move_split, move_taken, move, compare}
use Rattle.cdle_model.proofs.Rewriting.{linked-join}
use Rattle.cdle_model.proofs.Runs.{stops, goes}
use Rattle.cdle_model.proofs.HeadParts.{AllJoined, split-joined}

-- a step at the head is a step
pub if_same-cases : {A : Type 0} (P : A → Type 0) (c d : Function) (x y : A) → (c ≡ d → P x) → P y → P (if_same c d x y)
if_same-cases P of_pure of_pure x y h k = h refl
if_same-cases P of_term of_term x y h k = h refl
if_same-cases P of_type of_type x y h k = h refl
if_same-cases P c d x y h k = k

-- what is known where the step at the head is m
abbrev pub Moves : List Tree → Tree → HeadStep → Type 0
Moves s p (to q) = Step s p q
Moves s p m = Unit {0}

contraction-moves : (s : List Tree) (p q : Tree) → Step s p q → Moves s p (contraction q)
contraction-moves s p q h = by_test (ltb deepest (depth q))
  where
    by_test : (b : Bool) → Moves s p (cond b (blocked deep) (to q))
    by_test true = tt
    by_test false = h

ill_applied-moves : (s : List Tree) (p : Tree) (c : Function) → Moves s p (ill_applied c)
ill_applied-moves s p of_pure = tt
ill_applied-moves s p of_term = tt
ill_applied-moves s p of_type = tt

unfolding-moves : (s : List Tree) (n : ℕ) (o : Option Tree) → slice_get s n ≡ o → Moves s (name n) (unfolding_of o)
unfolding-moves s n (Some p) e = here (inl (unfold_name e))
unfolding-moves s n None e = tt

head-moves : (s : List Tree) (c : Function) (p q : Tree) (m : HeadStep) → Moves s p m → Moves s (apply c p q) (step_under c q m)
head-moves s c p q (to r) h = in_head h
head-moves s c p q none h = tt
head-moves s c p q (blocked z) h = tt

pub move-moves : (s : List Tree) (p : Tree) → Moves s p (head_step s p)
move-moves s (var i) = tt
move-moves s (name n) = unfolding-moves s n (slice_get s n) refl
move-moves s (leaf l) = tt
move-moves s (fun c p) = tt
move-moves s (apply c (fun d p) q) =
    if_same-cases (Moves s (apply c (fun d p) q)) c d _ _
    (λ e. contraction-moves s _ _ (rw e (here (inl contract)))) (ill_applied-moves s _ d)
move-moves s (apply c p q) = head-moves s c p q (head_step s p) (move-moves s p)
move-moves s (bind f p q) = tt
move-moves s (binary j p q) = tt
move-moves s (unary j p) = tt

-- the comparison stands where all that is left is joined
abbrev pub Good : List Tree → Type 0 → State → Type 0
Good s D (pairs ps) = AllJoined s ps
Good s D (taken a b ps) = Joined s a b × AllJoined s ps
Good s D (past z) = D

abbrev After : List Tree → Move Answer State → Type 0
After s (stop same) = Unit {0}
After s (stop x) = ⊥
After s (go t) = Good s ⊥ t

same_name-same : (a b : Tree) → same_name a b ≡ true → a ≡ b
same_name-same (name n) (name m) e = let k : n ≡ m = grind arith in ap name k
same_name-same a b e = absurd (grind arith)

pairs-good : (s : List Tree) (ps : List Pair) → After s (move_pairs ps) → AllJoined s ps
pairs-good s [] h = tt
pairs-good s (p ∷ ps) h = by_test (same_name p.0 p.1) refl h
  where
    by_test : (b : Bool) → same_name p.0 p.1 ≡ b → Good s ⊥ (cond b (pairs ps) (taken p.0 p.1 ps)) → AllJoined s (p ∷ ps)
    by_test true e h = (subst (Joined s p.0) (same_name-same p.0 p.1 e) end, h)
    by_test false e h = h

pub joined-append : (s : List Tree) (ps qs : List Pair) → AllJoined s (ps ++ qs) → AllJoined s ps × AllJoined s qs
joined-append s [] qs h = (tt, h)
joined-append s (p ∷ ps) qs h = let (x, y) = joined-append s ps qs h.1 in ((h.0, x), y)

split-good : (s : List Tree) (o : Split) (a b : Tree) (ps : List Pair) → split a b ≡ o → After s (move_split o a b ps) → Joined s a b × AllJoined s ps
split-good s (into qs) a b ps e h = let (x, y) = joined-append s qs ps (pairs-good s (qs ++ ps) h) in (split-joined s a b qs e x, y)
split-good s differ a b ps e h = absurd h
split-good s classless a b ps e h = absurd h

taken-good : (s : List Tree) (m n : HeadStep) (a b : Tree) (ps : List Pair) → Moves s a m → Moves s b n → After s (move_taken m n a b ps) → Joined s a b × AllJoined s ps
taken-good s (to a') n a b ps i j h = (forth i h.0, h.1)
taken-good s (blocked z) n a b ps i j h = absurd h
taken-good s none (to b') a b ps i j h = (linked-join h.0 (back j end), h.1)
taken-good s none (blocked z) a b ps i j h = absurd h
taken-good s none none a b ps i j h = split-good s (split a b) a b ps refl h

move-good : (s : List Tree) (t : State) → After s (move s t) → Good s ⊥ t
move-good s (pairs ps) h = pairs-good s ps h
move-good s (taken a b ps) h = taken-good s (head_step s a) (head_step s b) a b ps (move-moves s a) (move-moves s b) h
move-good s (past z) h = h

run-same : (s : List Tree) (n : ℕ) (t : State) (m : Move Answer State) → move s t ≡ m → (left : ℕ) → run (move s) n t ≡ answered same left → Good s ⊥ t
run-same s n t (stop a) e left h =
    let f : answered a n ≡ answered same left = sym (stops (move s) t a e n) ∙ h in let q : a ≡ same = cc in
    move-good s t (subst (After s) (sym e) (subst (λ x. After s (stop x)) (sym q) tt))
run-same s zero t (go u) e left h = let f : spent ≡ answered same left = (rw (e, run) at h) in cc
run-same s (suc n) t (go u) e left h =
    let f : run (move s) n u ≡ answered same left = sym (goes (move s) t u e n) ∙ h in
    move-good s t (subst (After s) (sym e) (run-same s n u (move s u) refl left f))

-- where the comparison at some budget says same, the two are joined
pub compare-joined : (s : List Tree) (n : ℕ) (a b : Tree) (left : ℕ) → compare s n a b ≡ answered same left → Joined s a b
compare-joined s n a b left e = (run-same s n (pairs ((a, b) ∷ [])) (move s (pairs ((a, b) ∷ []))) refl left e).0

-- a head form is joined with its tree, and has nothing to do at its head
head-is : (s : List Tree) (n : ℕ) (a : Tree) (x : HeadStep) → head_step s a ≡ x → (b : Tree) (left : ℕ) → head_form s n a ≡ answered (value b) left → Joined s a b × (head_step s b ≡ none)
head-is s n a none e b left h =
    let f : answered (value a) n ≡ answered (value b) left = sym (stops (head_move s) (at a) (value a) (rw e refl) n) ∙ h in
    let i : a ≡ b = cc in subst (λ z. Joined s a z × (head_step s z ≡ none)) i (end, e)
head-is s zero a (to c) e b left h = let f : spent ≡ answered (value b) left = (rw (e, run) at h) in cc
head-is s (suc n) a (to c) e b left h =
    let f : head_form s n c ≡ answered (value b) left = sym (goes (head_move s) (at a) (at c) (rw e refl) n) ∙ h in
    let (i, j) = head-is s n c (head_step s c) refl b left f in
    (forth (subst (Moves s a) e (move-moves s a)) i, j)
head-is s zero a (blocked z) e b left h = let f : spent ≡ answered (value b) left = (rw (e, run) at h) in cc
head-is s (suc n) a (blocked z) e b left h =
    let f : run (head_move s) n (fallen z) ≡ answered (value b) left = sym (goes (head_move s) (at a) (fallen z) (rw e refl) n) ∙ h in
    let g : answered (no_value z) n ≡ answered (value b) left = sym (stops (head_move s) (fallen z) (no_value z) refl n) ∙ f in cc

pub head-joins : (s : List Tree) (n : ℕ) (a b : Tree) (left : ℕ) → head_form s n a ≡ answered (value b) left → Joined s a b × (head_step s b ≡ none)
head-joins s n a = head-is s n a (head_step s a) refl
