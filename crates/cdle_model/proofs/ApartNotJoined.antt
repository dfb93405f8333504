-- Steps of a head form keep its head and step inside its parts, so what is apart is not joined.
use Rattle.std.proofs.Common.{◌≡◌, ◌⊎◌, inl, inr, ℕ, zero, suc, Bool, true, false, cond, ltb, List, [], ◌∷◌, ◌++◌, length, Option, Some, None, refl, sym, ap, ◌∙◌, subst, arith}
use Rattle.cdle_model.specs.Trees.{Function, of_pure, of_term, of_type, Tree, var, name, leaf, unary, fun, apply, binary, bind, shift}
use Rattle.cdle_model.specs.Steps.{IsSignature, contract, unfold_name, eta, here, in_fun, in_head, in_arg, in_domain, in_body, in_unary, in_left, in_right, Step, Chain, done, next, end, forth, back, Joined}
use Rattle.cdle_model.specs.Depth.{depth}
use Rattle.cdle_model.specs.Machine.{Move, stop, go, answered, spent, run}
use Rattle.cdle_model.specs.HeadForms.{deep, deepest, HeadStep, none, to, blocked, contraction, step_under, head_step}
use Rattle.cdle_model.specs.Comparison.{Head, variable, constant, argument, applied_head, head_of, parts_by, parts_of, Pair, pairs_of, function_of, applied, Split, into, differ, classless, same_heads, against, split_by, split, Answer, apart, State, pairs, taken, past, same_name, move_pairs, move_split, move_taken, move, compare}
use Rattle.cdle_model.proofs.Renaming.{up}
use Rattle.cdle_model.proofs.Shifts.{shift-up}
use Rattle.cdle_model.proofs.Rewriting.{linked-join, linked-turn}
use Rattle.cdle_model.proofs.Reflection.{is_ren}
use Rattle.cdle_model.proofs.Eta.{put-up}
use Rattle.cdle_model.proofs.Confluent.{joined-meets}
use Rattle.cdle_model.proofs.Equality.{joined_apply, joined-shift}
use Rattle.cdle_model.proofs.Runs.{stops, goes}
use Rattle.cdle_model.proofs.HeadParts.{all-append, AllJoined, all-applied, form_of, same-form, count, count-parts, function-is, same_heads-cases}
use Rattle.cdle_model.proofs.SameJoined.{Moves, move-moves, Good}

contraction-none : (p : Tree) → contraction p ≡ none → ⊥
contraction-none p e = by_test (ltb deepest (depth p)) e
  where
    by_test : (b : Bool) → cond b (blocked deep) (to p) ≡ none → ⊥
    by_test true e = grind arith
    by_test false e = grind arith

-- an applied function of another kind
fun-none : (s : List Tree) (c d : Function) (p q p' q' : Tree) → head_step s (apply c (fun d p) q) ≡ none → (head_step s (apply c (fun d p') q') ≡ none) × (function_of (fun d p') ≡ None)
fun-none s of_pure of_pure p q p' q' e = absurd (contraction-none _ e)
fun-none s of_term of_term p q p' q' e = absurd (contraction-none _ e)
fun-none s of_type of_type p q p' q' e = absurd (contraction-none _ e)
fun-none s c of_pure p q p' q' e = absurd (grind arith)
fun-none s c d p q p' q' e = (refl, refl)

step_under-none : (c : Function) (q : Tree) (m : HeadStep) → step_under c q m ≡ none → m ≡ none
step_under-none c q none e = refl
step_under-none c q (to p) e = absurd (grind arith)
step_under-none c q (blocked z) e = absurd (grind arith)

-- what is applied in a head form is a head form, and no pure function
pub app-value : (s : List Tree) (c : Function) (p q : Tree) → head_step s (apply c p q) ≡ none → (head_step s p ≡ none) × (function_of p ≡ None)
app-value s c (fun d p) q e = (refl, (fun-none s c d p q p q e).1)
app-value s c (var i) q e = (refl, refl)
app-value s c (name n) q e = (step_under-none c q _ e, refl)
app-value s c (leaf l) q e = (refl, refl)
app-value s c (apply d p r) q e = (step_under-none c q _ e, refl)
app-value s c (bind f p r) q e = (refl, refl)
app-value s c (binary j p r) q e = (refl, refl)
app-value s c (unary j p) q e = (refl, refl)

app-none : (s : List Tree) (c : Function) (p q a b : Tree) → head_of p ≡ head_of q → head_step s (apply c p a) ≡ none → head_step s q ≡ none → head_step s (apply c q b) ≡ none
app-none s c (fun d p) (fun d' q) a b e h k = let i : d ≡ d' = grind arith in rw (← i) (fun-none s c d p a q b h).0
app-none s c p (fun d q) a b e h k = let i : form_of p ≡ 3 = same-form p (fun d q) e in absurd (grind arith)
app-none s c p (var i) a b e h k = refl
app-none s c p (name n) a b e h k = ap (step_under c b) k
app-none s c p (leaf l) a b e h k = refl
app-none s c p (apply d q r) a b e h k = ap (step_under c b) k
app-none s c p (bind f q r) a b e h k = refl
app-none s c p (binary j q r) a b e h k = refl
app-none s c p (unary j q) a b e h k = refl

all_same : (s : List Tree) (ps : List Tree) → AllJoined s (pairs_of ps ps)
all_same s [] = tt
all_same s (p ∷ ps) = (end, all_same s ps)

-- the parts of two applications
app-pairs : (s : List Tree) (c : Function) (p q a b : Tree) → head_of p ≡ head_of q → AllJoined s (pairs_of (parts_of p) (parts_of q)) → Joined s p q → Joined s a b
    → AllJoined s (pairs_of (parts_by (head_of p) (parts_of p) p a) (parts_by (head_of q) (parts_of q) q b))
app-pairs s c p q a b e h k l = all-applied (Joined s) c c (head_of p) (head_of q) p q a b (ap (applied_head c) e)
    (λ i. count-parts p ∙ ap count e ∙ sym (count-parts q)) (λ i. (k, l)) (λ i j. h)

-- b is a head form with the head of a, and with joined parts
record Keeps (s : List Tree) (a b : Tree) : Type 0 where
  head : head_of a ≡ head_of b
  still : head_step s b ≡ none
  other : function_of b ≡ None
  parts : AllJoined s (pairs_of (parts_of a) (parts_of b))

fun-other : (c : Function) (p q : Tree) → function_of (fun c p) ≡ None → function_of (fun c q) ≡ None
fun-other of_pure p q e = absurd (grind arith)
fun-other of_term p q e = refl
fun-other of_type p q e = refl

redex-moves : (s : List Tree) (c : Function) (p q : Tree) → head_step s (apply c (fun c p) q) ≡ none → ⊥
redex-moves s of_pure p q e = contraction-none _ e
redex-moves s of_term p q e = contraction-none _ e
redex-moves s of_type p q e = contraction-none _ e

-- a step of a head form keeps the head and is inside one part
step-keeps : (s : List Tree) (a b : Tree) → Step s a b → head_step s a ≡ none → function_of a ≡ None → Keeps s a b
step-keeps s _ _ (here (inl (contract {c = c} {p = p} {q = q}))) e f = absurd (redex-moves s c p q e)
step-keeps s _ _ (here (inl (unfold_name {n = n} {p = p} h))) e f = let k : to p ≡ none = rw h at e in absurd (grind arith)
step-keeps s _ _ (here (inr eta)) e f = absurd (grind arith)
step-keeps s _ _ (in_fun {c = c} {p = p} {q = q} k) e f = record { head = refl; still = refl; other = fun-other c p q f; parts = (forth k end, tt) }
step-keeps s _ _ (in_head {c = c} {p = p} {q = q} {a = a} k) e f =
    let (x, y) = app-value s c p a e in
    let z : Keeps s p q = step-keeps s p q k x y in
    record { head = ap (applied_head c) z.head; still = app-none s c p q a a z.head e z.still; other = refl; parts = app-pairs s c p q a a z.head z.parts (forth k end) end }
step-keeps s _ _ (in_arg {c = c} {p = p} {a = a} {b = b} k) e f =
    record { head = refl; still = app-none s c p p a b refl e (app-value s c p a e).0; other = refl; parts = app-pairs s c p p a b refl (all_same s (parts_of p)) end (forth k end) }
step-keeps s _ _ (in_domain k) e f = record { head = refl; still = refl; other = refl; parts = (forth k end, (end, tt)) }
step-keeps s _ _ (in_body k) e f = record { head = refl; still = refl; other = refl; parts = (end, (forth k end, tt)) }
step-keeps s _ _ (in_unary k) e f = record { head = refl; still = refl; other = refl; parts = (forth k end, tt) }
step-keeps s _ _ (in_left k) e f = record { head = refl; still = refl; other = refl; parts = (forth k end, (end, tt)) }
step-keeps s _ _ (in_right k) e f = record { head = refl; still = refl; other = refl; parts = (end, (forth k end, tt)) }

pairs-join : (s : List Tree) (ps qs rs : List Tree) → length ps ≡ length qs → length qs ≡ length rs → AllJoined s (pairs_of ps qs) → AllJoined s (pairs_of qs rs) → AllJoined s (pairs_of ps rs)
pairs-join s [] qs rs e f h k = tt
pairs-join s (p ∷ ps) [] rs e f h k = absurd (grind arith)
pairs-join s (p ∷ ps) (q ∷ qs) [] e f h k = absurd (grind arith)
pairs-join s (p ∷ ps) (q ∷ qs) (r ∷ rs) e f h k = (linked-join h.0 k.0, pairs-join s ps qs rs (grind arith) (grind arith) h.1 k.1)

pairs-turn : (s : List Tree) (ps qs : List Tree) → length ps ≡ length qs → AllJoined s (pairs_of ps qs) → AllJoined s (pairs_of qs ps)
pairs-turn s [] [] e h = tt
pairs-turn s [] (_ ∷ qs) e h = absurd (grind arith)
pairs-turn s (_ ∷ ps) [] e h = absurd (grind arith)
pairs-turn s (p ∷ ps) (q ∷ qs) e h = (linked-turn h.0, pairs-turn s ps qs (grind arith) h.1)

same-length : (a b : Tree) → head_of a ≡ head_of b → length (parts_of a) ≡ length (parts_of b)
same-length a b e = count-parts a ∙ ap count e ∙ sym (count-parts b)

chain-keeps : (s : List Tree) {a b : Tree} → Chain (Step s) a b → head_step s a ≡ none → function_of a ≡ None → Keeps s a b
chain-keeps s {a = a} done e f = record { head = refl; still = e; other = f; parts = all_same s (parts_of a) }
chain-keeps s {a = a} {b = c} (next {b = b} k h) e f =
    let x : Keeps s a b = step-keeps s a b k e f in
    let y : Keeps s b c = chain-keeps s h x.still x.other in
    record {
      head = x.head ∙ y.head;
      still = y.still;
      other = y.other;
      parts = pairs-join s (parts_of a) (parts_of b) (parts_of c) (same-length a b x.head) (same-length b c y.head) x.parts y.parts;
    }

-- two head forms that are joined have one head and joined parts
pub heads-joined : (s : List Tree) → IsSignature s → (a b : Tree) → Joined s a b → head_step s a ≡ none → function_of a ≡ None → head_step s b ≡ none → function_of b ≡ None
    → (head_of a ≡ head_of b) × AllJoined s (pairs_of (parts_of a) (parts_of b))
heads-joined s g a b h e f e' f' =
    let (d, x, y) = joined-meets s g h in
    let u : Keeps s a d = chain-keeps s x e f in
    let v : Keeps s b d = chain-keeps s y e' f' in
    let l : length (parts_of b) ≡ length (parts_of d) = same-length b d v.head in
    (u.head ∙ sym v.head, pairs-join s (parts_of a) (parts_of d) (parts_of b) (same-length a d u.head) (sym l) u.parts (pairs-turn s (parts_of b) (parts_of d) l v.parts))

-- two pure functions, or one and another form
module _ (s : List Tree) (g : IsSignature s) where
  applied-joined : {a b : Tree} → Joined s a b → Joined s (applied a) (applied b)
  applied-joined h = joined_apply (joined-shift s g 0 1 h) end

  applied-fun : (p : Tree) → Joined s (applied (fun of_pure p)) p
  applied-fun p = subst (Joined s (applied (fun of_pure p))) (put-up {p = shift 1 1 p} (rw (shift-up p) (is_ren (up suc) p))) (forth (here (inl contract)) end)

  Fine : Split → Type 0
  Fine (into qs) = AllJoined s qs
  Fine differ = ⊥
  Fine classless = Unit {0}

  against-fine : (h : Head) (qs : List Pair) → AllJoined s qs → Fine (against h qs)
  unfolding Fine
  against-fine (variable i) qs k = k
  against-fine (constant n) qs k = k
  against-fine (argument c h) qs k = k
  against-fine h qs k = tt

  split-fine : (a b : Tree) → Joined s a b → head_step s a ≡ none → head_step s b ≡ none → Fine (split a b)
  unfolding Fine
  split-fine a b h e e' = by_functions (function_of a) (function_of b) refl refl
    where
      by_functions : (x y : Option Tree) → function_of a ≡ x → function_of b ≡ y → Fine (split_by x y a b)
      by_functions (Some p) (Some q) i j =
          let k : Joined s (fun of_pure p) (fun of_pure q) = rw (function-is a p i, function-is b q j) at h in
          (linked-join (linked-turn (applied-fun p)) (linked-join (applied-joined k) (applied-fun q)), tt)
      by_functions (Some p) None i j =
          let k : Joined s (fun of_pure p) b = rw (function-is a p i) at h in
          against-fine (head_of b) ((p, applied b) ∷ []) (linked-join (linked-turn (applied-fun p)) (applied-joined k), tt)
      by_functions None (Some q) i j =
          let k : Joined s a (fun of_pure q) = rw (function-is b q j) at h in
          against-fine (head_of a) ((applied a, q) ∷ []) (linked-join (applied-joined k) (applied-fun q), tt)
      by_functions None None i j =
          let (x, y) = heads-joined s g a b h e i e' j in
          by_heads x y (same_heads-cases (head_of a) (head_of b) (pairs_of (parts_of a) (parts_of b)))
        where
          by_heads : head_of a ≡ head_of b → AllJoined s (pairs_of (parts_of a) (parts_of b))
              → (head_of a ≡ head_of b) × (same_heads (head_of a) (head_of b) (pairs_of (parts_of a) (parts_of b)) ≡ into (pairs_of (parts_of a) (parts_of b)))
              ⊎ (head_of a ≡ head_of b → ⊥) × (same_heads (head_of a) (head_of b) (pairs_of (parts_of a) (parts_of b)) ≡ differ)
              → Fine (same_heads (head_of a) (head_of b) (pairs_of (parts_of a) (parts_of b)))
          by_heads x y (inl u) = rw u.1 y
          by_heads x y (inr u) = absurd (u.0 x)

  -- where all that is left is joined, the comparison is not apart, and goes on so
  Onward : Move Answer State → Type 0
  Onward (stop (apart a b)) = ⊥
  Onward (stop x) = Unit {0}
  Onward (go t) = Good s (Unit {0}) t

  pairs-onward : (ps : List Pair) → AllJoined s ps → Onward (move_pairs ps)
  unfolding Onward
  pairs-onward [] h = tt
  pairs-onward (p ∷ ps) h = by_test (same_name p.0 p.1)
    where
      by_test : (b : Bool) → Good s (Unit {0}) (cond b (pairs ps) (taken p.0 p.1 ps))
      by_test true = h.1
      by_test false = h

  split-onward : (o : Split) (a b : Tree) (ps : List Pair) → Fine o → AllJoined s ps → Onward (move_split o a b ps)
  unfolding Fine Onward
  split-onward (into qs) a b ps h k = pairs-onward (qs ++ ps) (all-append (Joined s) qs ps h k)
  split-onward differ a b ps h k = absurd h
  split-onward classless a b ps h k = tt

  taken-onward : (m n : HeadStep) (a b : Tree) (ps : List Pair) → Moves s a m → Moves s b n → head_step s a ≡ m → head_step s b ≡ n → Joined s a b → AllJoined s ps → Onward (move_taken m n a b ps)
  unfolding Onward
  taken-onward (to a') n a b ps i j e f h k = (back i h, k)
  taken-onward (blocked z) n a b ps i j e f h k = tt
  taken-onward none (to b') a b ps i j e f h k = (linked-join h (forth j end), k)
  taken-onward none (blocked z) a b ps i j e f h k = tt
  taken-onward none none a b ps i j e f h k = split-onward (split a b) a b ps (split-fine a b h e f) k

  move-onward : (t : State) → Good s (Unit {0}) t → Onward (move s t)
  unfolding Onward
  move-onward (pairs ps) h = pairs-onward ps h
  move-onward (taken a b ps) h = taken-onward (head_step s a) (head_step s b) a b ps (move-moves s a) (move-moves s b) refl refl h.0 h.1
  move-onward (past z) h = tt

  run-apart : (n : ℕ) (t : State) (m : Move Answer State) → move s t ≡ m → (a b : Tree) (left : ℕ) → Good s (Unit {0}) t → run (move s) n t ≡ answered (apart a b) left → ⊥
  unfolding Onward
  run-apart n t (stop x) e a b left g h =
      let f : answered x n ≡ answered (apart a b) left = sym (stops (move s) t x e n) ∙ h in
      let q : x ≡ apart a b = cc in
      let o : Onward (stop x) = subst Onward e (move-onward t g) in
      subst (λ y. Onward (stop y)) q o
  run-apart zero t (go u) e a b left g h = let f : spent ≡ answered (apart a b) left = (rw (e, run) at h) in cc
  run-apart (suc n) t (go u) e a b left g h =
      let f : run (move s) n u ≡ answered (apart a b) left = sym (goes (move s) t u e n) ∙ h in
      let o : Onward (go u) = subst Onward e (move-onward t g) in
      run-apart n u (move s u) refl a b left o f

-- where the comparison at some budget says apart, the two are not joined
pub compare-apart : (s : List Tree) → IsSignature s → (n : ℕ) (a b c d : Tree) (left : ℕ) → compare s n a b ≡ answered (apart c d) left → Joined s a b → ⊥
compare-apart s g n a b c d left e h = run-apart s g n (pairs ((a, b) ∷ [])) (move s (pairs ((a, b) ∷ []))) refl c d left (h, tt) e
