-- Results of questions: of those that others lead to, and the faults.
use Rattle.std.proofs.Common.{◌≡◌, inl, ℕ, ◌+◌, true, false, ltb, List, Result, Ok, Err, refl, sym, ap, ◌∙◌, arith}
use Rattle.std.proofs.lemmas.Bool.{lt-ltb, le-ltb}
use Rattle.cdle_model.specs.Trees.{Tree}
use Rattle.cdle_model.specs.Forms.{Written}
use Rattle.cdle_model.specs.Depth.{depth}
use Rattle.cdle_model.specs.Machine.{answered, spent}
use Rattle.cdle_model.specs.HeadForms.{deep, deepest, value, no_value, head_form}
use Rattle.cdle_model.specs.Comparison.{same, apart, halted, compare}
use Rattle.cdle_model.specs.Derivation.{bodies, signature}
use Rattle.cdle_model.specs.Check.{Reason, Finding, gives, refused, halts, Questions, finds, refuse, ask_same, ask_head, at_part, unless_deep, limited, by_answer, by_head, answer}
use Rattle.core_rules.specs.declared.fault.Fault.{Fault}
use Rattle.core_rules.specs.declared.fault.Fault.TheVariants as f
use Rattle.core_rules.specs.Faults.{IsInside, IsRefusal, IsUndecidedAt, IsLimited}
use Rattle.core_reduce.specs.Sides.{Sided}
use Rattle.core_rules.specs.Questions.{FindsParts, Meets, Leads, Passes}
use Rattle.core_rules.proofs.Passing.{Passing, inside, answer_part, IsFirm, firm_more, spent_more, spent_inside, passes_part, passes_same, passes_head}

module _ (es : List Written) (n : ℕ) where
  raised : (m k : ℕ) (q q' : Questions) (x : Finding) → IsFirm x → Passing (bodies (signature es)) m q q' → answer (bodies (signature es)) k q' ≡ x → answer (bodies (signature es)) (m + k) q ≡ x
  raised m k q q' x i h e = let c : m + k ≡ k + m = omega arith in h.answers k ∙ rw c (firm_more (bodies (signature es)) k m q' x i e)

  passes_leads : (m : ℕ) (q q' : Questions) → Passing (bodies (signature es)) m q q' → Leads es n q q'
  unfolding Meets
  passes_leads m q q' h (Ok a) (k, e) = (m + k, raised m k q q' (gives a) tt h e)
  passes_leads m q q' h (Err (f.Refused p w)) (r, i, j) = (r, record { units = m + i.units; is = raised m i.units q q' (refused p.items r) tt h i.is }, j)
  passes_leads m q q' h (Err (f.Undecided p)) (k, e) =
      let c : n + k + m ≡ m + (n + k) = omega arith in let d : m + (n + k) ≡ n + (m + k) = omega arith in
      (m + k, rw (← d) (h.spent n (n + k) p.items (rw (← c) (spent_more (bodies (signature es)) n (n + k) m p.items q' e))))
  passes_leads m q q' h (Err f.TooDeep) (k, e) = (m + k, raised m k q q' (halts deep) tt h e)
  passes_leads m q q' h (Err f.NoMemory) e = tt

  -- the questions of a part, as seen from its form
  pub leads_part : (i : ℕ) (q : Questions) (k : Tree → Questions) (a : Tree) → Meets es n q (Ok a) → Leads es n (at_part i q k) (k a)
  unfolding Meets
  leads_part i q k a (m, e) = passes_leads m (at_part i q k) (k a) (passes_part (bodies (signature es)) m i q k a e)

  -- the parts of a form that is found in what a part has
  pub parts_at : (i : ℕ) (q : Questions) (a : Tree) (d : (Tree → Tree → Questions) → Tree → Questions) (r : Result (Sided × Sided) Fault)
      → ((k : Tree → Questions) → Leads es n (at_part i q k) (k a)) → FindsParts es n (λ k. d k a) r → FindsParts es n (λ k. at_part i q (d k)) r
  parts_at i q a d (Ok p) f g = λ k r h. f (d k) r (g k r h)
  parts_at i q a d (Err e) f g = λ k. f (d k) (Err e) (g k)

  -- what is asked of a tree, or of two parts, that was found first
  pub passes_found : {A : Type 0} (c : (Tree → Questions) → Questions) (d : Tree → Questions → Questions) (a : Tree) (r : Result A Fault)
      → ((k : Tree → Questions) → Leads es n (c k) (k a)) → Passes es n (d a) r → Passes es n (λ q. c (λ x. d x q)) r
  passes_found c d a (Ok x) f g = λ q r h. f (λ x. d x q) r (g q r h)
  passes_found c d a (Err e) f g = λ q. f (λ x. d x q) (Err e) (g q)

  pub passes_parts : {A : Type 0} (c : (Tree → Tree → Questions) → Questions) (d : Tree → Tree → Questions → Questions) (p : Sided × Sided) (r : Result A Fault)
      → FindsParts es n c (Ok p) → Passes es n (d p.0.tree p.1.tree) r → Passes es n (λ q. c (λ x y. d x y q)) r
  passes_parts c d p (Ok x) f g = λ q r h. f (λ x y. d x y q) r (g q r h)
  passes_parts c d p (Err e) f g = λ q. f (λ x y. d x y q) (Err e) (g q)

  pub passes_both : {A : Type 0} (c d : Questions → Questions) (r : Result A Fault) → ((q : Questions) → Leads es n (c q) q) → Passes es n d r → Passes es n (λ q. c (d q)) r
  passes_both c d (Ok x) f g = λ q r h. f (d q) r (g q r h)
  passes_both c d (Err e) f g = λ q. f (d q) (Err e) (g q)

  inside_is : (m i : ℕ) (q : Questions) (k : Tree → Questions) (x : Finding) → answer (bodies (signature es)) m q ≡ x → answer (bodies (signature es)) m (at_part i q k) ≡ inside i x (λ a. answer (bodies (signature es)) m (k a))
  inside_is m i q k x e = answer_part (bodies (signature es)) m i q k ∙ ap (λ z. inside i z (λ a. answer (bodies (signature es)) m (k a))) e

  pub faults_inside : (i : ℕ) (q : Questions) (k : Tree → Questions) (e e' : Fault) → IsInside i e e' → Meets es n q (Err e) → Meets es n (at_part i q k) (Err e')
  unfolding Meets
  faults_inside i q k e f.NoMemory g h = tt
  faults_inside i q k (f.Refused p w) (f.Refused p' w') (g, j) (r, l, o) = (r, record { units = l.units; is = rw g (inside_is l.units i q k (refused p.items r) l.is) }, rw j o)
  faults_inside i q k (f.Undecided p) (f.Undecided p') g (m, h) = (m, rw g (spent_inside (bodies (signature es)) n (n + m) i p.items q k h))
  faults_inside i q k f.TooDeep f.TooDeep g (m, e) = (m, inside_is m i q k (halts deep) e)
  faults_inside i q k (f.Refused p w) (f.Undecided p') g h = absurd g
  faults_inside i q k (f.Refused p w) f.TooDeep g h = absurd g
  faults_inside i q k (f.Undecided p) (f.Refused p' w) g h = absurd g
  faults_inside i q k (f.Undecided p) f.TooDeep g h = absurd g
  faults_inside i q k f.TooDeep (f.Refused p w) g h = absurd g
  faults_inside i q k f.TooDeep (f.Undecided p) g h = absurd g
  faults_inside i q k f.NoMemory (f.Refused p w) g h = absurd g
  faults_inside i q k f.NoMemory (f.Undecided p) g h = absurd g
  faults_inside i q k f.NoMemory f.TooDeep g h = absurd g

  pub no_memory : (q : Questions) → Meets es n q (Err f.NoMemory)
  unfolding Meets
  no_memory q = tt

  -- comparisons
  pub leads_same : (p : List ℕ) (w : Reason) (a b : Tree) (q : Questions) (m left : ℕ) → compare (bodies (signature es)) m a b ≡ answered same left → Leads es n (ask_same p w a b q) q
  leads_same p w a b q m left e = passes_leads m (ask_same p w a b q) q (passes_same (bodies (signature es)) m p w a b q left e)

  pub refuses : (p : List ℕ) (w : Reason) (e : Fault) → IsRefusal p w e → Meets es n (refuse p w) (Err e)
  unfolding Meets
  refuses p w (f.Refused p' v) (g, h) = (w, record { units = 0; is = ap (λ z. refused z w) (sym g) }, h)
  refuses p w (f.Undecided p') g = absurd g
  refuses p w f.TooDeep g = absurd g
  refuses p w f.NoMemory g = tt

  pub apart_refuses : (p : List ℕ) (w : Reason) (a b c d : Tree) (q : Questions) (m left : ℕ) → compare (bodies (signature es)) m a b ≡ answered (apart c d) left → (e : Fault) → IsRefusal p w e
      → Meets es n (ask_same p w a b q) (Err e)
  unfolding Meets
  apart_refuses p w a b c d q m left g (f.Refused p' v) (h, j) =
      (w, record { units = m; is = ap (λ z. by_answer p w z (answer (bodies (signature es)) m q)) g ∙ ap (λ z. refused z w) (sym h) }, j)
  apart_refuses p w a b c d q m left g (f.Undecided p') h = absurd h
  apart_refuses p w a b c d q m left g f.TooDeep h = absurd h
  apart_refuses p w a b c d q m left g f.NoMemory h = tt

  pub same_spent : (p : List ℕ) (w : Reason) (a b : Tree) (q : Questions) (e : Fault) → compare (bodies (signature es)) n a b ≡ spent → IsUndecidedAt p e → Meets es n (ask_same p w a b q) (Err e)
  unfolding Meets
  same_spent p w a b q (f.Undecided p') g h = (0, inl (sym h, g))
  same_spent p w a b q (f.Refused p' v) g h = absurd h
  same_spent p w a b q f.TooDeep g h = absurd h
  same_spent p w a b q f.NoMemory g h = tt

  pub same_deep : (p : List ℕ) (w : Reason) (a b : Tree) (q : Questions) (m left : ℕ) → compare (bodies (signature es)) m a b ≡ answered (halted deep) left → Meets es n (ask_same p w a b q) (Err f.TooDeep)
  unfolding Meets
  same_deep p w a b q m left g = (m, ap (λ z. by_answer p w z (answer (bodies (signature es)) m q)) g)

  -- head forms
  pub leads_head : (p : List ℕ) (a b : Tree) (k : Tree → Questions) (m left : ℕ) → head_form (bodies (signature es)) m a ≡ answered (value b) left → Leads es n (ask_head p a k) (k b)
  leads_head p a b k m left e = passes_leads m (ask_head p a k) (k b) (passes_head (bodies (signature es)) m p a k b left e)

  pub head_spent : (p : List ℕ) (a : Tree) (k : Tree → Questions) (e : Fault) → head_form (bodies (signature es)) n a ≡ spent → IsUndecidedAt p e → Meets es n (ask_head p a k) (Err e)
  unfolding Meets
  head_spent p a k (f.Undecided p') g h = (0, inl (sym h, g))
  head_spent p a k (f.Refused p' v) g h = absurd h
  head_spent p a k f.TooDeep g h = absurd h
  head_spent p a k f.NoMemory g h = tt

  pub head_deep : (p : List ℕ) (a : Tree) (k : Tree → Questions) (m left : ℕ) → head_form (bodies (signature es)) m a ≡ answered (no_value deep) left → Meets es n (ask_head p a k) (Err f.TooDeep)
  unfolding Meets
  head_deep p a k m left g = (m, ap (λ z. by_head p z (λ b. answer (bodies (signature es)) m (k b))) g)

  pub finds_meets : (a : Tree) → Meets es n (finds a) (Ok a)
  unfolding Meets
  finds_meets a = (0, refl)

  -- trees that may be too deep
  pub limited_fault : (a : Tree) (e : Fault) (q : Questions) → IsLimited a (Err e) → Meets es n (unless_deep a q) (Err e)
  unfolding Meets
  limited_fault a f.TooDeep q l = let e : ltb deepest (depth a) ≡ true = lt-ltb deepest (depth a) l in rw e (0, refl)
  limited_fault a f.NoMemory q l = tt
  limited_fault a (f.Refused p w) q l = absurd l
  limited_fault a (f.Undecided p) q l = absurd l

  pub limited_meets : (a : Tree) (r : Result Tree Fault) → IsLimited a r → Meets es n (limited a) r
  unfolding Meets
  limited_meets a (Ok b) (g, l) = let e : ltb deepest (depth a) ≡ false = le-ltb deepest (depth a) l in rw e (0, ap gives (sym g))
  limited_meets a (Err f.TooDeep) l = let e : ltb deepest (depth a) ≡ true = lt-ltb deepest (depth a) l in rw e (0, refl)
  limited_meets a (Err f.NoMemory) l = tt
  limited_meets a (Err (f.Refused p w)) l = absurd l
  limited_meets a (Err (f.Undecided p)) l = absurd l
