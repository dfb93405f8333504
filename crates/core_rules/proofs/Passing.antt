-- Questions that pass up to others, and those of a part as seen from its form.
use Rattle.std.proofs.Common.{◌≡◌, inl, inr, ℕ, ◌+◌, List, ◌∷◌, refl, sym, ap, ◌∙◌, subst, arith}
use Rattle.cdle_model.specs.Trees.{Tree}
use Rattle.cdle_model.specs.Machine.{Budgeted, answered, spent}
use Rattle.cdle_model.specs.HeadForms.{HeadAnswer, value, no_value, head_form}
use Rattle.cdle_model.specs.Comparison.{Answer, same, apart, halted, compare}
use Rattle.cdle_model.specs.Check.{Reason, Finding, gives, refused, spent_at, halts, Questions, finds, refuse, halt, ask_same, ask_head, at_part, by_answer, by_head, answer, SpentAfter}
use Rattle.cdle_model.proofs.LargerBudget.{head_form_more, compare_more}
use Rattle.cdle_model.proofs.CheckLargerBudget.{Firm, firm-answer}

-- from m units on, the questions of q pass up to those of q'
pub record Passing (s : List Tree) (m : ℕ) (q q' : Questions) : Type 0 where
  pub answers : (j : ℕ) → answer s (m + j) q ≡ answer s (m + j) q'
  pub spent : (n j : ℕ) (p : List ℕ) → SpentAfter s n (m + j) p q' → SpentAfter s n (m + j) p q

-- the finding of a part, as seen from its form
abbrev pub inside : ℕ → Finding → (Tree → Finding) → Finding
inside i (gives a) k = k a
inside i (refused p w) k = refused (i ∷ p) w
inside i (spent_at p) k = spent_at (i ∷ p)
inside i (halts h) k = halts h

inside_answer : (i : ℕ) (p : List ℕ) (w : Reason) (x : Budgeted Answer) (y z : Finding) (k : Tree → Finding) → y ≡ inside i z k → by_answer (i ∷ p) w x y ≡ inside i (by_answer p w x z) k
inside_answer i p w (answered same left) y z k e = e
inside_answer i p w (answered (apart a b) left) y z k e = refl
inside_answer i p w (answered (halted h) left) y z k e = refl
inside_answer i p w spent y z k e = refl

inside_head : (i : ℕ) (p : List ℕ) (x : Budgeted HeadAnswer) (y z : Tree → Finding) (k : Tree → Finding) → ((b : Tree) → y b ≡ inside i (z b) k) → by_head (i ∷ p) x y ≡ inside i (by_head p x z) k
inside_head i p (answered (value b) left) y z k e = e b
inside_head i p (answered (no_value h) left) y z k e = refl
inside_head i p spent y z k e = refl

pub answer_part : (s : List Tree) (n i : ℕ) (q : Questions) (f : Tree → Questions) → answer s n (at_part i q f) ≡ inside i (answer s n q) (λ a. answer s n (f a))
answer_part s n i (finds a) f = refl
answer_part s n i (refuse p w) f = refl
answer_part s n i (halt h) f = refl
answer_part s n i (ask_same p w a b q) f = inside_answer i p w (compare s n a b) _ _ _ (answer_part s n i q f)
answer_part s n i (ask_head p a k) f = inside_head i p (head_form s n a) _ _ _ (λ b. answer_part s n i (k b) f)

-- an answer that is not spent
abbrev pub IsFirm : Finding → Type 0
IsFirm (spent_at p) = ⊥
IsFirm r = Unit {0}

-- it stays with more units
pub firm_more : (s : List Tree) (n m : ℕ) (q : Questions) (x : Finding) → IsFirm x → answer s n q ≡ x → answer s (n + m) q ≡ x
firm_more s n m q (gives a) i e = sym (subst (λ z. Firm z (answer s (n + m) q)) e (firm-answer s n m q))
firm_more s n m q (refused p w) i e = sym (subst (λ z. Firm z (answer s (n + m) q)) e (firm-answer s n m q))
firm_more s n m q (halts h) i e = sym (subst (λ z. Firm z (answer s (n + m) q)) e (firm-answer s n m q))
firm_more s n m q (spent_at p) i e = absurd i

-- with more units before it, a spent question is still spent
pub spent_more : (s : List Tree) (n m k : ℕ) (p : List ℕ) (q : Questions) → SpentAfter s n m p q → SpentAfter s n (m + k) p q
spent_more s n m k p (finds a) h = absurd h
spent_more s n m k p (refuse p' w) h = absurd h
spent_more s n m k p (halt z) h = absurd h
spent_more s n m k p (ask_same p' w a b q) (inl h) = inl h
spent_more s n m k p (ask_same p' w a b q) (inr ((left, e), h)) = inr ((left + k, compare_more s m a b same left k e), spent_more s n m k p q h)
spent_more s n m k p (ask_head p' a f) (inl h) = inl h
spent_more s n m k p (ask_head p' a f) (inr (b, left, e, h)) = inr (b, left + k, head_form_more s m a (value b) left k e, spent_more s n m k p (f b) h)

-- a question that is spent in a part
pub spent_inside : (s : List Tree) (n m i : ℕ) (p : List ℕ) (q : Questions) (f : Tree → Questions) → SpentAfter s n m p q → SpentAfter s n m (i ∷ p) (at_part i q f)
spent_inside s n m i p (finds a) f h = absurd h
spent_inside s n m i p (refuse p' w) f h = absurd h
spent_inside s n m i p (halt z) f h = absurd h
spent_inside s n m i p (ask_same p' w a b q) f (inl h) = inl (ap (λ z. i ∷ z) h.0, h.1)
spent_inside s n m i p (ask_same p' w a b q) f (inr h) = inr (h.0, spent_inside s n m i p q f h.1)
spent_inside s n m i p (ask_head p' a k) f (inl h) = inl (ap (λ z. i ∷ z) h.0, h.1)
spent_inside s n m i p (ask_head p' a k) f (inr (b, left, e, h)) = inr (b, left, e, spent_inside s n m i p (k b) f h)

-- a question that is spent after the part
spent_later : (s : List Tree) (n m i : ℕ) (p : List ℕ) (q : Questions) (f : Tree → Questions) (a : Tree) → answer s m q ≡ gives a → SpentAfter s n m p (f a) → SpentAfter s n m p (at_part i q f)
spent_later s n m i p (finds b) f a e h = let l : b ≡ a = cc in subst (λ z. SpentAfter s n m p (f z)) (sym l) h
spent_later s n m i p (refuse p' w) f a e h = absurd (grind arith)
spent_later s n m i p (halt z) f a e h = absurd (grind arith)
spent_later s n m i p (ask_same p' w x y q) f a e h = by_compare (λ g. spent_later s n m i p q f a g h) (compare s m x y) refl e
  where
    by_compare : (answer s m q ≡ gives a → SpentAfter s n m p (at_part i q f)) → (o : Budgeted Answer) → compare s m x y ≡ o → by_answer p' w o (answer s m q) ≡ gives a → SpentAfter s n m p (at_part i (ask_same p' w x y q) f)
    by_compare k (answered same left) g l = inr ((left, g), k l)
    by_compare k (answered (apart c d) left) g l = absurd (grind arith)
    by_compare k (answered (halted z) left) g l = absurd (grind arith)
    by_compare k spent g l = absurd (grind arith)
spent_later s n m i p (ask_head p' x k) f a e h = by_headed (λ b g. spent_later s n m i p (k b) f a g h) (head_form s m x) refl e
  where
    by_headed : ((b : Tree) → answer s m (k b) ≡ gives a → SpentAfter s n m p (at_part i (k b) f)) → (o : Budgeted HeadAnswer) → head_form s m x ≡ o → by_head p' o (λ b. answer s m (k b)) ≡ gives a
        → SpentAfter s n m p (at_part i (ask_head p' x k) f)
    by_headed g (answered (value b) left) j l = inr (b, left, j, g b l)
    by_headed g (answered (no_value z) left) j l = absurd (grind arith)
    by_headed g spent j l = absurd (grind arith)

pub passes_part : (s : List Tree) (m i : ℕ) (q : Questions) (f : Tree → Questions) (a : Tree) → answer s m q ≡ gives a → Passing s m (at_part i q f) (f a)
passes_part s m i q f a e = record {
  answers = λ j. answer_part s (m + j) i q f ∙ ap (λ z. inside i z (λ b. answer s (m + j) (f b))) (firm_more s m j q (gives a) tt e);
  spent = λ n j p. spent_later s n (m + j) i p q f a (firm_more s m j q (gives a) tt e);
}

pub passes_same : (s : List Tree) (m : ℕ) (p : List ℕ) (w : Reason) (a b : Tree) (q : Questions) (left : ℕ) → compare s m a b ≡ answered same left → Passing s m (ask_same p w a b q) q
passes_same s m p w a b q left e = record {
  answers = λ j. ap (λ z. by_answer p w z (answer s (m + j) q)) (compare_more s m a b same left j e);
  spent = λ n j p' h. inr ((left + j, compare_more s m a b same left j e), h);
}

pub passes_head : (s : List Tree) (m : ℕ) (p : List ℕ) (a : Tree) (k : Tree → Questions) (b : Tree) (left : ℕ) → head_form s m a ≡ answered (value b) left → Passing s m (ask_head p a k) (k b)
passes_head s m p a k b left e = record {
  answers = λ j. ap (λ z. by_head p z (λ c. answer s (m + j) (k c))) (head_form_more s m a (value b) left j e);
  spent = λ n j p' h. inr (b, left + j, head_form_more s m a (value b) left j e, h);
}
