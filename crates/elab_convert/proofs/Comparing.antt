-- The moves of the comparison, by its definition.
use Rattle.std.proofs.Common.{◌≡◌, ℕ, zero, suc, ◌+◌, ◌<◌, ◌≤◌, Bool, true, false, eqb, List, [], ◌∷◌, ◌++◌, length, Option, Some, None, Result, Ok, Err, refl, sym, ap, ◌∙◌, subst, arith}
use Rattle.std.specs.Option.{IsSome}
use Rattle.cdle_model.specs.Trees.{Tree, var, name, leaf, unary, fun, apply, binary, bind}
use Rattle.cdle_model.specs.Machine.{Move, stop, go, run, answered, spent}
use Rattle.cdle_model.specs.HeadForms.{Halt, deep, HeadStep, none, to, blocked, at, fallen, value, no_value, head_step, head_move, head_form}
use Rattle.cdle_model.specs.Comparison.{Pair, into, differ, split, Answer, same, apart, halted, pairs, taken, past, State, same_name, take_pair, move_pairs, move}
use Rattle.cdle_model.proofs.Runs.{stops, spends, goes}
use Rattle.elab_convert.specs.declared.stop.ConvertStop.{ConvertStop}
use Rattle.elab_convert.specs.declared.stop.ConvertStop.TheVariants.{Spent, TooDeep, NoMemory}
use Rattle.elab_convert.specs.Heads.{IsNoHead}
use Rattle.elab_convert.specs.declared.side.SidePair.{SidePair}
use Rattle.elab_convert.specs.declared.side.Arg.{Arg}
use Rattle.elab_convert.specs.Sides.{item_of, pair_trees, spine, stack}
use Rattle.elab_convert.specs.Answers.{IsAnswer, IsCompared, IsMeeting, IsSettled, IsTurn}
use Rattle.elab_convert.proofs.Settling.{stack_push}

-- two states with one move have one run
one_move : (s : List Tree) (x y : State) (m : Move Answer State) → move s x ≡ m → move s y ≡ m → (n : ℕ) → run (move s) n x ≡ run (move s) n y
one_move s x y (stop a) e f n = stops (move s) x a e n ∙ sym (stops (move s) y a f n)
one_move s x y (go t) e f zero = spends (move s) x t e ∙ sym (spends (move s) y t f)
one_move s x y (go t) e f (suc n) = goes (move s) x t e n ∙ sym (goes (move s) y t f n)

-- the head form of the left is reached inside the comparison, with the units that it takes
pub head_left : (s : List Tree) (n : ℕ) (a : Tree) (m : HeadStep) → head_step s a ≡ m → (v : Tree) (left : ℕ) → head_form s n a ≡ answered (value v) left
    → (head_step s v ≡ none) × ((b : Tree) (ps : List Pair) → run (move s) n (taken a b ps) ≡ run (move s) left (taken v b ps))
head_left s n a none e v left h =
    let f : answered (value a) n ≡ answered (value v) left = sym (stops (head_move s) (at a) (value a) (rw e refl) n) ∙ h in
    let p : a ≡ v = cc in let q : n ≡ left = cc in
    rw (← p, ← q) (e, λ b ps. refl)
head_left s zero a (to c) e v left h =
    let f : spent ≡ answered (value v) left = sym (spends (head_move s) (at a) (at c) (rw e refl)) ∙ h in absurd (grind arith)
head_left s (suc n) a (to c) e v left h =
    let r = head_left s n c (head_step s c) refl v left (sym (goes (head_move s) (at a) (at c) (rw e refl) n) ∙ h) in
    (r.0, λ b ps. goes (move s) (taken a b ps) (taken c b ps) (rw e refl) n ∙ r.1 b ps)
head_left s zero a (blocked z) e v left h =
    let f : spent ≡ answered (value v) left = sym (spends (head_move s) (at a) (fallen z) (rw e refl)) ∙ h in absurd (grind arith)
head_left s (suc n) a (blocked z) e v left h =
    let f : answered (no_value z) n ≡ answered (value v) left =
    sym (goes (head_move s) (at a) (fallen z) (rw e refl) n ∙ stops (head_move s) (fallen z) (no_value z) refl n) ∙ h in absurd (grind arith)

-- the same of the right, once the left has no step
pub head_right : (s : List Tree) (n : ℕ) (l a : Tree) → head_step s l ≡ none → (m : HeadStep) → head_step s a ≡ m → (v : Tree) (left : ℕ) → head_form s n a ≡ answered (value v) left
    → (head_step s v ≡ none) × ((ps : List Pair) → run (move s) n (taken l a ps) ≡ run (move s) left (taken l v ps))
head_right s n l a k none e v left h =
    let f : answered (value a) n ≡ answered (value v) left = sym (stops (head_move s) (at a) (value a) (rw e refl) n) ∙ h in
    let p : a ≡ v = cc in let q : n ≡ left = cc in
    rw (← p, ← q) (e, λ ps. refl)
head_right s zero l a k (to c) e v left h =
    let f : spent ≡ answered (value v) left = sym (spends (head_move s) (at a) (at c) (rw e refl)) ∙ h in absurd (grind arith)
head_right s (suc n) l a k (to c) e v left h =
    let r = head_right s n l c k (head_step s c) refl v left (sym (goes (head_move s) (at a) (at c) (rw e refl) n) ∙ h) in
    (r.0, λ ps. goes (move s) (taken l a ps) (taken l c ps) (rw (k, e) refl) n ∙ r.1 ps)
head_right s zero l a k (blocked z) e v left h =
    let f : spent ≡ answered (value v) left = sym (spends (head_move s) (at a) (fallen z) (rw e refl)) ∙ h in absurd (grind arith)
head_right s (suc n) l a k (blocked z) e v left h =
    let f : answered (no_value z) n ≡ answered (value v) left =
    sym (goes (head_move s) (at a) (fallen z) (rw e refl) n ∙ stops (head_move s) (fallen z) (no_value z) refl n) ∙ h in absurd (grind arith)

-- where there is no head form, the comparison comes to that end; `st c` is the state at that side c
module _ (s : List Tree) (st : Tree → State) (on : (c d : Tree) → head_step s c ≡ to d → move s (st c) ≡ go (st d)) (out : (c : Tree) (z : Halt) → head_step s c ≡ blocked z → move s (st c) ≡ go (past z)) where
  spent_there : (n : ℕ) (a : Tree) (m : HeadStep) → head_step s a ≡ m → head_form s n a ≡ spent → run (move s) n (st a) ≡ spent
  spent_there n a none e h =
      let f : answered (value a) n ≡ spent = sym (stops (head_move s) (at a) (value a) (rw e refl) n) ∙ h in absurd (grind arith)
  spent_there zero a (to c) e h = spends (move s) (st a) (st c) (on a c e)
  spent_there (suc n) a (to c) e h =
      goes (move s) (st a) (st c) (on a c e) n ∙ spent_there n c (head_step s c) refl (sym (goes (head_move s) (at a) (at c) (rw e refl) n) ∙ h)
  spent_there zero a (blocked z) e h = spends (move s) (st a) (past z) (out a z e)
  spent_there (suc n) a (blocked z) e h =
      let f : answered (no_value z) n ≡ spent =
      sym (goes (head_move s) (at a) (fallen z) (rw e refl) n ∙ stops (head_move s) (fallen z) (no_value z) refl n) ∙ h in absurd (grind arith)

  halted_there : (n : ℕ) (a : Tree) (m : HeadStep) → head_step s a ≡ m → (y : Halt) (left : ℕ) → head_form s n a ≡ answered (no_value y) left → run (move s) n (st a) ≡ answered (halted y) left
  halted_there n a none e y left h =
      let f : answered (value a) n ≡ answered (no_value y) left = sym (stops (head_move s) (at a) (value a) (rw e refl) n) ∙ h in absurd (grind arith)
  halted_there zero a (to c) e y left h =
      let f : spent ≡ answered (no_value y) left = sym (spends (head_move s) (at a) (at c) (rw e refl)) ∙ h in absurd (grind arith)
  halted_there (suc n) a (to c) e y left h =
      goes (move s) (st a) (st c) (on a c e) n ∙ halted_there n c (head_step s c) refl y left (sym (goes (head_move s) (at a) (at c) (rw e refl) n) ∙ h)
  halted_there zero a (blocked z) e y left h =
      let f : spent ≡ answered (no_value y) left = sym (spends (head_move s) (at a) (fallen z) (rw e refl)) ∙ h in absurd (grind arith)
  halted_there (suc n) a (blocked z) e y left h =
      let f : answered (no_value z) n ≡ answered (no_value y) left =
      sym (goes (head_move s) (at a) (fallen z) (rw e refl) n ∙ stops (head_move s) (fallen z) (no_value z) refl n) ∙ h in
      let p : z ≡ y = cc in let q : n ≡ left = cc in
      goes (move s) (st a) (past z) (out a z e) n ∙ stops (move s) (past z) (halted z) refl n ∙ rw (p, q) refl

pub left_ends : (s : List Tree) (n : ℕ) (a b : Tree) (ps : List Pair) (e : ConvertStop) → IsNoHead s n a e → IsAnswer (run (move s) n (taken a b ps)) (Err e)
left_ends s n a b ps Spent h = spent_there s (λ c. taken c b ps) (λ c d e. rw e refl) (λ c z e. rw e refl) n a (head_step s a) refl h
left_ends s n a b ps TooDeep h = (h.0, halted_there s (λ c. taken c b ps) (λ c d e. rw e refl) (λ c z e. rw e refl) n a (head_step s a) refl deep h.0 h.1)
left_ends s n a b ps NoMemory h = tt

pub right_ends : (s : List Tree) (n : ℕ) (l a : Tree) (ps : List Pair) (e : ConvertStop) → head_step s l ≡ none → IsNoHead s n a e → IsAnswer (run (move s) n (taken l a ps)) (Err e)
right_ends s n l a ps Spent k h = spent_there s (λ c. taken l c ps) (λ c d e. rw (k, e) refl) (λ c z e. rw (k, e) refl) n a (head_step s a) refl h
right_ends s n l a ps TooDeep k h = (h.0, halted_there s (λ c. taken l c ps) (λ c d e. rw (k, e) refl) (λ c z e. rw (k, e) refl) n a (head_step s a) refl deep h.0 h.1)
right_ends s n l a ps NoMemory k h = tt

-- two head forms
pub split_into : (s : List Tree) (a b : Tree) (ps qs : List Pair) (n : ℕ) → head_step s a ≡ none → head_step s b ≡ none → split a b ≡ into qs
    → run (move s) n (taken a b ps) ≡ run (move s) n (pairs (qs ++ ps))
split_into s a b ps qs n e f g = one_move s (taken a b ps) (pairs (qs ++ ps)) (move_pairs (qs ++ ps)) (rw (e, f, g) refl) refl n

pub split_apart : (s : List Tree) (a b : Tree) (ps : List Pair) (n : ℕ) → head_step s a ≡ none → head_step s b ≡ none → split a b ≡ differ
    → run (move s) n (taken a b ps) ≡ answered (apart a b) n
split_apart s a b ps n e f g = stops (move s) (taken a b ps) (apart a b) (rw (e, f, g) refl) n

-- a pair is taken with one unit
pub pair_spent : (s : List Tree) (a b : Tree) (ps : List Pair) (old : ℕ) → old ≡ 0 → run (move s) old (pairs ((a, b) ∷ ps)) ≡ spent
pair_spent s a b ps old e = rw e (spends (move s) (pairs ((a, b) ∷ ps)) (take_pair a b ps) refl)

pub pair_named : (s : List Tree) (a b : Tree) (ps : List Pair) (old new : ℕ) → old ≡ new + 1 → same_name a b ≡ true → run (move s) old (pairs ((a, b) ∷ ps)) ≡ run (move s) new (pairs ps)
pair_named s a b ps old new e f = let i : old ≡ suc new = omega arith in rw i (goes (move s) (pairs ((a, b) ∷ ps)) (pairs ps) (rw f refl) new)

pub pair_taken : (s : List Tree) (a b : Tree) (ps : List Pair) (old new : ℕ) → old ≡ new + 1 → same_name a b ≡ false → run (move s) old (pairs ((a, b) ∷ ps)) ≡ run (move s) new (taken a b ps)
pair_taken s a b ps old new e f = let i : old ≡ suc new = omega arith in rw i (goes (move s) (pairs ((a, b) ∷ ps)) (taken a b ps) (rw f refl) new)

pub carried : (s : List Tree) (n m : ℕ) (ps qs : List Pair) (o : Result Bool ConvertStop) → run (move s) n (pairs ps) ≡ run (move s) m (pairs qs) → IsCompared s m qs o → IsCompared s n ps o
carried s n m ps qs (Ok true) e k = (k.0, e ∙ k.1)
carried s n m ps qs (Ok false) e k = (k.0, k.1, k.2, e ∙ k.3)
carried s n m ps qs (Err Spent) e k = e ∙ k
carried s n m ps qs (Err TooDeep) e k = (k.0, e ∙ k.1)
carried s n m ps qs (Err NoMemory) e k = tt

-- no pairs are left
pub all_same : (s : List Tree) (n : ℕ) → IsCompared s n [] (Ok true)
all_same s n = (n, stops (move s) (pairs []) same refl n)

-- a pair that was taken, to the head form of its left
module _ (s : List Tree) (a b : Tree) (ps : List Pair) (n : ℕ) (v : Tree) (m : ℕ) (h : (head_form s n a ≡ answered (value v) m) × (m ≤ n)) where
  pub left_still : head_step s v ≡ none
  left_still = (head_left s n a (head_step s a) refl v m h.0).0

  pub left_met : (left : ℕ) (qs : List Pair) (o : Result Bool ConvertStop) → IsMeeting s m (taken v b ps) left qs o → IsMeeting s n (taken a b ps) left qs o
  left_met left qs o k = met_from n m (taken a b ps) (taken v b ps) h.1 ((head_left s n a (head_step s a) refl v m h.0).1 b ps) left qs o k
    where
      met_from : (n m : ℕ) (x y : State) → m ≤ n → run (move s) n x ≡ run (move s) m y → (left : ℕ) (qs : List Pair) (o : Result Bool ConvertStop) → IsMeeting s m y left qs o → IsMeeting s n x left qs o
      met_from n m x y l e left qs (Ok true) k = (e ∙ k.0, (let i = k.1 in omega arith))
      met_from n m x y l e left qs (Ok false) k = (k.0, k.1, k.2, e ∙ k.3)
      met_from n m x y l e left qs (Err Spent) k = e ∙ k
      met_from n m x y l e left qs (Err TooDeep) k = (k.0, e ∙ k.1)
      met_from n m x y l e left qs (Err NoMemory) k = tt

-- and then to that of its right, in place of which stand the pairs of their parts
module _ (s : List Tree) (v b : Tree) (n : ℕ) (k : head_step s v ≡ none) (w : Tree) (m : ℕ) (h : (head_form s n b ≡ answered (value w) m) × (m ≤ n)) where
  both_met : (ps : List Pair) → run (move s) n (taken v b ps) ≡ run (move s) m (taken v w ps)
  both_met ps = (head_right s n v b k (head_step s b) refl w m h.0).1 ps

  right_still : head_step s w ≡ none
  right_still = (head_right s n v b k (head_step s b) refl w m h.0).0

  pub forms_settled : (before after : List SidePair) (o : Bool) → IsSettled v w before after o → IsMeeting s n (taken v b (stack [] before)) m (stack [] after) (Ok o)
  forms_settled before after true q = (
    both_met (stack [] before) ∙ split_into s v w (stack [] before) q.0 m k right_still q.1 ∙ ap (λ z. run (move s) m (pairs z)) (sym q.2),
    h.1,
  )
  forms_settled before after false q = (m, v, w, both_met (stack [] before) ∙ split_apart s v w (stack [] before) m k right_still q)

-- a whole turn, whose pair was no name on both sides
pub turn_met : (s : List Tree) (a b : Tree) (ps : List Pair) (old n : ℕ) → old ≡ n + 1 → same_name a b ≡ false → (left : ℕ) (qs : List Pair) (o : Result Bool ConvertStop)
    → IsMeeting s n (taken a b ps) left qs o → IsTurn s old ((a, b) ∷ ps) left qs o
turn_met s a b ps old n e f left qs (Ok true) k = (pair_taken s a b ps old n e f ∙ k.0, (let i = k.1 in omega arith))
turn_met s a b ps old n e f left qs (Ok false) k = (k.0, k.1, k.2, pair_taken s a b ps old n e f ∙ k.3)
turn_met s a b ps old n e f left qs (Err Spent) k = pair_taken s a b ps old n e f ∙ k
turn_met s a b ps old n e f left qs (Err TooDeep) k = (k.0, pair_taken s a b ps old n e f ∙ k.1)
turn_met s a b ps old n e f left qs (Err NoMemory) k = tt

-- one name on both sides, by the numbers of the items
pub both_names : (a b : Tree) (i j : ℕ) → Some i ≡ item_of a → Some j ≡ item_of b → same_name a b ≡ eqb i j
both_names (name m) (name n) i j e f = let p : i ≡ m = cc in let q : j ≡ n = cc in rw (p, q) refl
both_names (name m) (var n) i j e f = absurd (grind arith)
both_names (name m) (leaf l) i j e f = absurd (grind arith)
both_names (name m) (unary u p) i j e f = absurd (grind arith)
both_names (name m) (fun c p) i j e f = absurd (grind arith)
both_names (name m) (apply c p q) i j e f = absurd (grind arith)
both_names (name m) (binary u p q) i j e f = absurd (grind arith)
both_names (name m) (bind u p q) i j e f = absurd (grind arith)
both_names (var n) b i j e f = absurd (grind arith)
both_names (leaf l) b i j e f = absurd (grind arith)
both_names (unary u p) b i j e f = absurd (grind arith)
both_names (fun c p) b i j e f = absurd (grind arith)
both_names (apply c p q) b i j e f = absurd (grind arith)
both_names (binary u p q) b i j e f = absurd (grind arith)
both_names (bind u p q) b i j e f = absurd (grind arith)

pub no_names : (a b : Tree) → ((i j : ℕ) → item_of a ≡ Some i → item_of b ≡ Some j → ⊥) → same_name a b ≡ false
no_names (name m) (name n) h = absurd (h m n refl refl)
no_names (name m) (var n) h = refl
no_names (name m) (leaf l) h = refl
no_names (name m) (unary u p) h = refl
no_names (name m) (fun c p) h = refl
no_names (name m) (apply c p q) h = refl
no_names (name m) (binary u p q) h = refl
no_names (name m) (bind u p q) h = refl
no_names (var n) b h = refl
no_names (leaf l) b h = refl
no_names (unary u p) b h = refl
no_names (fun c p) b h = refl
no_names (apply c p q) b h = refl
no_names (binary u p q) b h = refl
no_names (bind u p q) b h = refl

pub applied_unnamed : (h : Tree) (xs : List Arg) → 0 < length xs → None ≡ item_of (spine h xs)
applied_unnamed h [] l = absurd (omega arith)
applied_unnamed h (x ∷ xs) l = refl

pub unapplied_named : (h : Tree) (xs : List Arg) (r : Option ℕ) → length xs ≡ 0 → r ≡ item_of h → r ≡ item_of (spine h xs)
unapplied_named h [] r l e = e
unapplied_named h (x ∷ xs) r l e = absurd (omega arith)

-- the next pair is taken from the list
module _ (s : List Tree) (first n : ℕ) (start : List Pair) (before rest : List SidePair) (d : SidePair) (e : run (move s) first (pairs start) ≡ run (move s) n (pairs (stack [] before))) (i : before ≡ rest ++ d ∷ []) where
  popped : run (move s) first (pairs start) ≡ run (move s) n (pairs (pair_trees d ∷ stack [] rest))
  popped = e ∙ ap (λ z. run (move s) n (pairs z)) (ap (stack []) i ∙ stack_push [] rest d)

  pub turned_on : (m : ℕ) (after : List Pair) (b : Bool) → b ≡ true → IsTurn s n (pair_trees d ∷ stack [] rest) m after (Ok b) → run (move s) first (pairs start) ≡ run (move s) m (pairs after)
  turned_on m after b j t = popped ∙ (subst (λ z. IsTurn s n (pair_trees d ∷ stack [] rest) m after (Ok z)) j t).0

  pub turned_apart : (m : ℕ) (after : List Pair) (b : Bool) → b ≡ false → IsTurn s n (pair_trees d ∷ stack [] rest) m after (Ok b) → IsCompared s first start (Ok false)
  turned_apart m after b j t = carried s first n start (pair_trees d ∷ stack [] rest) (Ok false) popped (subst (λ z. IsTurn s n (pair_trees d ∷ stack [] rest) m after (Ok z)) j t)

  pub turned_out : (x : ConvertStop) → IsCompared s n (pair_trees d ∷ stack [] rest) (Err x) → IsCompared s first start (Err x)
  turned_out x t = carried s first n start (pair_trees d ∷ stack [] rest) (Err x) popped t

pub all_done : (s : List Tree) (first n : ℕ) (start : List Pair) (ds : List SidePair) → run (move s) first (pairs start) ≡ run (move s) n (pairs (stack [] ds)) → length ds ≡ 0 → IsCompared s first start (Ok true)
all_done s first n start [] e l = carried s first n start [] (Ok true) e (all_same s n)
all_done s first n start (d ∷ ds) e l = absurd (omega arith)

pub no_more : (n : ℕ) (r : Option SidePair) → (0 < n → IsSome r) → ((x : SidePair) → r ≡ Some x → ⊥) → n ≡ 0
no_more zero r h f = refl
no_more (suc n) None h f = let l : 0 < suc n = omega arith in let o : Option SidePair = None in let k : IsSome o = h l in cc
no_more (suc n) (Some x) h f = absurd (f x refl)
