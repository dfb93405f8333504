-- Head reduction at a place of the comparison: where it comes to a head form, is spent or deep, so does the comparison.
use Rattle.std.proofs.Common.{◌≡◌, ℕ, zero, suc, ◌+◌, List, sym, ◌∙◌, subst, refl, arith}
use Rattle.cdle_model.specs.Trees.{Tree}
use Rattle.cdle_model.specs.Machine.{go, answered, spent, run}
use Rattle.cdle_model.specs.HeadForms.{Halt, deep, HeadStep, none, to, blocked, head_step, at, fallen, value, no_value, head_move, head_form}
use Rattle.cdle_model.specs.Comparison.{Pair, split, halted, State, taken, past, move_split, move}
use Rattle.cdle_model.proofs.Runs.{stops, goes}
use Rattle.cdle_model.proofs.Leads.{Leads, leads_none, leads_one, leads_on}

module _ (s : List Tree) where
  -- a place of a state at which head reduction goes on
  pub record Inject (f : Tree → State) : Type 0 where
    pub moves : (p q : Tree) → head_step s p ≡ to q → move s (f p) ≡ go (f q)
    pub falls : (p : Tree) (h : Halt) → head_step s p ≡ blocked h → move s (f p) ≡ go (past h)

  pub on_left : (b : Tree) (ps : List Pair) → Inject (λ p. taken p b ps)
  on_left b ps = record { moves = λ p q e. rw e refl; falls = λ p h e. rw e refl }

  pub on_right : (a : Tree) (ps : List Pair) → head_step s a ≡ none → Inject (λ p. taken a p ps)
  on_right a ps h = record { moves = λ p q e. rw (h, e) refl; falls = λ p z e. rw (h, e) refl }

  pub both_still : (a b : Tree) (ps : List Pair) → head_step s a ≡ none → head_step s b ≡ none → move s (taken a b ps) ≡ move_split (split a b) a b ps
  both_still a b ps e f = rw (e, f) refl

  -- a head form is reached by so many units
  pub record Reaches (p : Tree) (units : ℕ) (v : Tree) : Type 0 where
    pub is_still : head_step s v ≡ none
    pub within : (f : Tree → State) → Inject f → Leads (move s) (f p) units (f v)

  reaches_still : (p : Tree) → head_step s p ≡ none → Reaches p 0 p
  reaches_still p e = record { is_still = e; within = λ f i. leads_none (move s) (f p) }

  reaches_more : (p q v : Tree) (k : ℕ) → head_step s p ≡ to q → Reaches q k v → Reaches p (1 + k) v
  reaches_more p q v k e h = record {
    is_still = h.is_still;
    within = λ f i. leads_on (move s) _ _ _ 1 k (leads_one (move s) _ _ (i.moves p q e)) (h.within f i);
  }

  pub record HeadFound (p : Tree) (n rest : ℕ) (v : Tree) : Type 0 where
    pub used : ℕ
    pub total : n ≡ used + rest
    pub reaches : Reaches p used v

  -- what a head form within n units is
  head_found : (n : ℕ) (p : Tree) (m : HeadStep) → head_step s p ≡ m → (v : Tree) (rest : ℕ) → head_form s n p ≡ answered (value v) rest → HeadFound p n rest v
  head_found n p none e v rest h =
      let f : answered (value p) n ≡ answered (value v) rest = sym (stops (head_move s) (at p) (value p) (rw e refl) n) ∙ h in
      let k : p ≡ v = cc in let q : n ≡ rest = cc in
      record { used = 0; total = omega arith; reaches = subst (λ x. Reaches p 0 x) k (reaches_still p e) }
  head_found zero p (to x) e v rest h = let f : spent ≡ answered (value v) rest = (rw (e, run) at h) in cc
  head_found (suc n) p (to x) e v rest h =
      let f : head_form s n x ≡ answered (value v) rest = sym (goes (head_move s) (at p) (at x) (rw e refl) n) ∙ h in
      let r = head_found n x (head_step s x) refl v rest f in
      record { used = 1 + r.used; total = (let q = r.total in omega arith); reaches = reaches_more p x v r.used e r.reaches }
  head_found zero p (blocked z) e v rest h = let f : spent ≡ answered (value v) rest = (rw (e, run) at h) in cc
  head_found (suc n) p (blocked z) e v rest h =
      let f : run (head_move s) n (fallen z) ≡ answered (value v) rest = sym (goes (head_move s) (at p) (fallen z) (rw e refl) n) ∙ h in
      let g : answered (no_value z) n ≡ answered (value v) rest = sym (stops (head_move s) (fallen z) (no_value z) refl n) ∙ f in cc

  pub head_reaches : (n : ℕ) (p v : Tree) (rest : ℕ) → head_form s n p ≡ answered (value v) rest → HeadFound p n rest v
  head_reaches n p = head_found n p (head_step s p) refl

  -- where a head form is spent, so is the comparison at it
  spent_at : (n : ℕ) (p : Tree) (m : HeadStep) → head_step s p ≡ m → (f : Tree → State) → Inject f → head_form s n p ≡ spent → run (move s) n (f p) ≡ spent
  spent_at n p none e f i h =
      let g : answered (value p) n ≡ spent = sym (stops (head_move s) (at p) (value p) (rw e refl) n) ∙ h in cc
  spent_at zero p (to x) e f i h = let m = i.moves p x e in rw (m, run) refl
  spent_at (suc n) p (to x) e f i h =
      let g : head_form s n x ≡ spent = sym (goes (head_move s) (at p) (at x) (rw e refl) n) ∙ h in
      goes (move s) (f p) (f x) (i.moves p x e) n ∙ spent_at n x (head_step s x) refl f i g
  spent_at zero p (blocked z) e f i h = let m = i.falls p z e in rw (m, run) refl
  spent_at (suc n) p (blocked z) e f i h =
      let g : run (head_move s) n (fallen z) ≡ spent = sym (goes (head_move s) (at p) (fallen z) (rw e refl) n) ∙ h in
      let k : answered (no_value z) n ≡ spent = sym (stops (head_move s) (fallen z) (no_value z) refl n) ∙ g in cc

  pub head_spends : (n : ℕ) (p : Tree) (f : Tree → State) → Inject f → head_form s n p ≡ spent → run (move s) n (f p) ≡ spent
  head_spends n p = spent_at n p (head_step s p) refl

  -- where a head form is deep, so is the comparison at it
  deep_at : (n : ℕ) (p : Tree) (m : HeadStep) → head_step s p ≡ m → (f : Tree → State) → Inject f → (rest : ℕ) → head_form s n p ≡ answered (no_value deep) rest
      → run (move s) n (f p) ≡ answered (halted deep) rest
  deep_at n p none e f i rest h =
      let g : answered (value p) n ≡ answered (no_value deep) rest = sym (stops (head_move s) (at p) (value p) (rw e refl) n) ∙ h in cc
  deep_at zero p (to x) e f i rest h = let g : spent ≡ answered (no_value deep) rest = (rw (e, run) at h) in cc
  deep_at (suc n) p (to x) e f i rest h =
      let g : head_form s n x ≡ answered (no_value deep) rest = sym (goes (head_move s) (at p) (at x) (rw e refl) n) ∙ h in
      goes (move s) (f p) (f x) (i.moves p x e) n ∙ deep_at n x (head_step s x) refl f i rest g
  deep_at zero p (blocked z) e f i rest h = let g : spent ≡ answered (no_value deep) rest = (rw (e, run) at h) in cc
  deep_at (suc n) p (blocked z) e f i rest h =
      let g : run (head_move s) n (fallen z) ≡ answered (no_value deep) rest = sym (goes (head_move s) (at p) (fallen z) (rw e refl) n) ∙ h in
      let k : answered (no_value z) n ≡ answered (no_value deep) rest = sym (stops (head_move s) (fallen z) (no_value z) refl n) ∙ g in
      let q : n ≡ rest = cc in
      let y : z ≡ deep = cc in
      goes (move s) (f p) (past z) (i.falls p z e) n ∙ (stops (move s) (past z) (halted z) refl n ∙ (rw (q, y) refl))

  pub head_deepens : (n : ℕ) (p : Tree) (f : Tree → State) → Inject f → (rest : ℕ) → head_form s n p ≡ answered (no_value deep) rest
      → run (move s) n (f p) ≡ answered (halted deep) rest
  head_deepens n p = deep_at n p (head_step s p) refl
