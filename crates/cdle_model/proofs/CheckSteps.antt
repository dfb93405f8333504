-- What each step of the plain check tells: what follows from what it gives, and from a refusal.
use Rattle.std.proofs.Common.{◌≡◌, ℕ, Bool, true, false, cond, ltb, List, None, refl, sym, subst, arith}
use Rattle.cdle_model.specs.Trees.{of_pure, of_term, of_type, Binary, eq_of, Binder, Binder-discrete, Tree, var, name, leaf, unary, fun, apply, binary, bind}
use Rattle.cdle_model.specs.Forms.{eq}
use Rattle.cdle_model.specs.Depth.{depth}
use Rattle.cdle_model.specs.Steps.{end, Joined}
use Rattle.cdle_model.specs.Machine.{Budgeted, answered, spent}
use Rattle.cdle_model.specs.HeadForms.{deep, deepest, none, head_step, HeadAnswer, value, no_value, head_form}
use Rattle.cdle_model.specs.Comparison.{former, binary_head, head_of, function_of, Answer, same, apart, halted, compare}
use Rattle.cdle_model.specs.Derivation.{Item, bodies}
use Rattle.cdle_model.specs.Check.{Reason, Finding, gives, refused, Questions, finds, refuse, halt, ask_same, ask_head, at_part, binder_parts, equation_parts, unless_deep, by_answer, by_head, answer}
use Rattle.cdle_model.proofs.Rewriting.{linked-join, linked-turn}
use Rattle.cdle_model.proofs.HeadParts.{form_of, same-form}
use Rattle.cdle_model.proofs.SameJoined.{compare-joined, head-joins}
use Rattle.cdle_model.proofs.ApartNotJoined.{heads-joined, compare-apart}
use Rattle.cdle_model.proofs.Signatures.{ClosedItems}

-- what is known of a finding: of what it gives, and of a refusal
abbrev pub FindingTells : (Tree → Type 0) → Type 0 → Finding → Type 0
FindingTells Y N (gives a) = Y a
FindingTells Y N (refused p w) = N
FindingTells Y N r = Unit {0}

-- the same of questions, whatever the units: two trees are joined or are not, and a head form is joined with its tree
abbrev pub Tells : List Tree → (Tree → Type 0) → Type 0 → Questions → Type 0
Tells s Y N (finds a) = Y a
Tells s Y N (refuse p w) = N
Tells s Y N (halt h) = Unit {0}
Tells s Y N (ask_same p w a b q) = ((Joined s a b → ⊥) → N) × (Joined s a b → Tells s Y N q)
Tells s Y N (ask_head p a k) = (b : Tree) → Joined s a b → head_step s b ≡ none → Tells s Y N (k b)

pub tells-part : (s : List Tree) (Y Y' : Tree → Type 0) (N N' : Type 0) (i : ℕ) (q : Questions) (f : Tree → Questions) → Tells s Y N q → (N → N') → ((a : Tree) → Y a → Tells s Y' N' (f a)) → Tells s Y' N' (at_part i q f)
tells-part s Y Y' N N' i (finds a) f h k l = l a h
tells-part s Y Y' N N' i (refuse p w) f h k l = k h
tells-part s Y Y' N N' i (halt z) f h k l = tt
tells-part s Y Y' N N' i (ask_same p w a b q) f h k l = ((λ x. k (h.0 x)), λ j. tells-part s Y Y' N N' i q f (h.1 j) k l)
tells-part s Y Y' N N' i (ask_head p a g) f h k l = λ b j e. tells-part s Y Y' N N' i (g b) f (h b j e) k l

pub tells-deep : (s : List Tree) (Y : Tree → Type 0) (N : Type 0) (a : Tree) (q : Questions) → Tells s Y N q → Tells s Y N (unless_deep a q)
tells-deep s Y N a q h = by_test (ltb deepest (depth a))
  where
    by_test : (b : Bool) → Tells s Y N (cond b (halt deep) q)
    by_test true = tt
    by_test false = h

pub true-false : false ≡ true → ⊥
true-false e = grind arith

former-same : {f h : Binder} → former h ≡ former f → f ≡ h
former-same e = grind arith

two-clash : {j : Binary} → binary_head j ≡ binary_head eq_of → j ≡ eq_of
two-clash e = grind arith

module _ (is : List Item) (g' : ClosedItems is) where
  -- a head form that is joined with a form of a binder has its head
  binder-head : (b x y : Tree) (f : Binder) → head_step (bodies is) b ≡ none → function_of b ≡ None → Joined (bodies is) b (bind f x y) → head_of b ≡ former f
  binder-head b x y f e i h = (heads-joined (bodies is) g'.signed_bodies b (bind f x y) h e i refl refl).0

  equation-head : (b x y : Tree) → head_step (bodies is) b ≡ none → function_of b ≡ None → Joined (bodies is) b (eq x y) → head_of b ≡ binary_head eq_of
  equation-head b x y e i h = (heads-joined (bodies is) g'.signed_bodies b (eq x y) h e i refl refl).0

  -- else it is not joined with one
  binder-not : (b : Tree) (f : Binder) → head_step (bodies is) b ≡ none → function_of b ≡ None → (form_of b ≡ 4 → ⊥) → (x y : Tree) → Joined (bodies is) b (bind f x y) → ⊥
  binder-not b f e i z x y h = z (same-form b (bind f x y) (binder-head b x y f e i h))

  equation-not : (b : Tree) → head_step (bodies is) b ≡ none → function_of b ≡ None → (form_of b ≡ 5 → ⊥) → (x y : Tree) → Joined (bodies is) b (eq x y) → ⊥
  equation-not b e i z x y h = z (same-form b (eq x y) (equation-head b x y e i h))

  by_binder : (Y : Tree → Type 0) (N : Type 0) (f : Binder) (k : Tree → Tree → Questions) (p : List ℕ) (w : Reason) (b : Tree) → head_step (bodies is) b ≡ none
      → (((x y : Tree) → Joined (bodies is) b (bind f x y) → ⊥) → N) → ((x y : Tree) → Joined (bodies is) b (bind f x y) → Tells (bodies is) Y N (k x y)) → Tells (bodies is) Y N (binder_parts f b k (refuse p w))
  by_binder Y N f k p w (bind h x y) e u v = by_test (Binder-discrete f h)
    where
      by_test : (d : Dec (f ≡ h)) → Tells (bodies is) Y N (elim d [ yes e ↦ k x y | no e ↦ refuse p w ])
      by_test (yes i) = v x y (subst (λ z. Joined (bodies is) (bind h x y) (bind z x y)) (sym i) end)
      by_test (no i) = u (λ x' y' j. i (former-same (binder-head (bind h x y) x' y' f e refl j)))
  by_binder Y N f k p w (fun of_pure q) e u v = tt
  by_binder Y N f k p w (fun of_term q) e u v = u (binder-not (fun of_term q) f e refl (λ i. grind arith))
  by_binder Y N f k p w (fun of_type q) e u v = u (binder-not (fun of_type q) f e refl (λ i. grind arith))
  by_binder Y N f k p w (var i) e u v = u (binder-not (var i) f e refl (λ i. grind arith))
  by_binder Y N f k p w (name i) e u v = u (binder-not (name i) f e refl (λ i. grind arith))
  by_binder Y N f k p w (leaf l) e u v = u (binder-not (leaf l) f e refl (λ i. grind arith))
  by_binder Y N f k p w (unary j q) e u v = u (binder-not (unary j q) f e refl (λ i. grind arith))
  by_binder Y N f k p w (apply c q r) e u v = u (binder-not (apply c q r) f e refl (λ i. grind arith))
  by_binder Y N f k p w (binary j q r) e u v = u (binder-not (binary j q r) f e refl (λ i. grind arith))

  pub tells-binder : (Y : Tree → Type 0) (N : Type 0) (f : Binder) (p : List ℕ) (w : Tree → Reason) (a : Tree) (k : Tree → Tree → Questions)
      → (((x y : Tree) → Joined (bodies is) a (bind f x y) → ⊥) → N) → ((x y : Tree) → Joined (bodies is) a (bind f x y) → Tells (bodies is) Y N (k x y)) → Tells (bodies is) Y N (ask_head p a (λ b. binder_parts f b k (refuse p (w b))))
  tells-binder Y N f p w a k u v = λ b j e. by_binder Y N f k p (w b) b e (λ z. u (λ x y i. z x y (linked-join (linked-turn j) i))) (λ x y i. v x y (linked-join j i))

  by_equation : (Y : Tree → Type 0) (N : Type 0) (k : Tree → Tree → Questions) (p : List ℕ) (w : Reason) (b : Tree) → head_step (bodies is) b ≡ none
      → (((x y : Tree) → Joined (bodies is) b (eq x y) → ⊥) → N) → ((x y : Tree) → Joined (bodies is) b (eq x y) → Tells (bodies is) Y N (k x y)) → Tells (bodies is) Y N (equation_parts b k (refuse p w))
  by_equation Y N k p w (binary eq_of x y) e u v = v x y end
  by_equation Y N k p w (binary j x y) e u v = u (λ x' y' z. let i : j ≡ eq_of = two-clash (equation-head (binary j x y) x' y' e refl z) in grind arith)
  by_equation Y N k p w (fun of_pure q) e u v = tt
  by_equation Y N k p w (fun of_term q) e u v = u (equation-not (fun of_term q) e refl (λ i. grind arith))
  by_equation Y N k p w (fun of_type q) e u v = u (equation-not (fun of_type q) e refl (λ i. grind arith))
  by_equation Y N k p w (var i) e u v = u (equation-not (var i) e refl (λ i. grind arith))
  by_equation Y N k p w (name i) e u v = u (equation-not (name i) e refl (λ i. grind arith))
  by_equation Y N k p w (leaf l) e u v = u (equation-not (leaf l) e refl (λ i. grind arith))
  by_equation Y N k p w (unary j q) e u v = u (equation-not (unary j q) e refl (λ i. grind arith))
  by_equation Y N k p w (apply c q r) e u v = u (equation-not (apply c q r) e refl (λ i. grind arith))
  by_equation Y N k p w (bind f q r) e u v = u (equation-not (bind f q r) e refl (λ i. grind arith))

  pub tells-equation : (Y : Tree → Type 0) (N : Type 0) (p : List ℕ) (w : Tree → Reason) (a : Tree) (k : Tree → Tree → Questions)
      → (((x y : Tree) → Joined (bodies is) a (eq x y) → ⊥) → N) → ((x y : Tree) → Joined (bodies is) a (eq x y) → Tells (bodies is) Y N (k x y)) → Tells (bodies is) Y N (ask_head p a (λ b. equation_parts b k (refuse p (w b))))
  tells-equation Y N p w a k u v = λ b j e. by_equation Y N k p (w b) b e (λ z. u (λ x y i. z x y (linked-join (linked-turn j) i))) (λ x y i. v x y (linked-join j i))

  -- the answers
  pub answer-tells : (n : ℕ) (Y : Tree → Type 0) (N : Type 0) (q : Questions) → Tells (bodies is) Y N q → FindingTells Y N (answer (bodies is) n q)
  answer-tells n Y N (finds a) h = h
  answer-tells n Y N (refuse p w) h = h
  answer-tells n Y N (halt z) h = tt
  answer-tells n Y N (ask_same p w a b q) h = by_compare (λ j. answer-tells n Y N q (h.1 j)) (compare (bodies is) n a b) refl
    where
      by_compare : (Joined (bodies is) a b → FindingTells Y N (answer (bodies is) n q)) → (z : Budgeted Answer) → compare (bodies is) n a b ≡ z → FindingTells Y N (by_answer p w z (answer (bodies is) n q))
      by_compare f (answered same left) e = f (compare-joined (bodies is) n a b left e)
      by_compare f (answered (apart c d) left) e = h.0 (compare-apart (bodies is) g'.signed_bodies n a b c d left e)
      by_compare f (answered (halted z) left) e = tt
      by_compare f spent e = tt
  answer-tells n Y N (ask_head p a k) h = by_headed (λ b j e. answer-tells n Y N (k b) (h b j e)) (head_form (bodies is) n a) refl
    where
      by_headed : ((b : Tree) → Joined (bodies is) a b → head_step (bodies is) b ≡ none → FindingTells Y N (answer (bodies is) n (k b))) → (x : Budgeted HeadAnswer) → head_form (bodies is) n a ≡ x → FindingTells Y N (by_head p x (λ b. answer (bodies is) n (k b)))
      by_headed f (answered (value b) left) e = let (i, j) = head-joins (bodies is) n a b left e in f b i j
      by_headed f (answered (no_value z) left) e = tt
      by_headed f spent e = tt
