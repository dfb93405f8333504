-- An answer of the surface rules other than spent stays with more units.
use Rattle.std.proofs.Common.{◌≡◌, ℕ, ◌+◌, Bool, refl, sym, ◌∙◌}
use Rattle.cdle_model.specs.Trees.{Tree}
use Rattle.cdle_model.specs.Machine.{Budgeted, answered, spent}
use Rattle.cdle_model.specs.HeadForms.{HeadAnswer, value, no_value}
use Rattle.cdle_model.specs.Comparison.{Answer, same, apart, halted}
use Rattle.cdle_model.specs.Derivation.{bodies, signature}
use Rattle.cdle_model.proofs.LargerBudget.{compare_more}
use Rattle.elab_model.specs.declared.codes.Code.{Code}
use Rattle.elab_model.specs.HeadWritten.{all_but}
use Rattle.source_model.specs.Source.{Span}
use Rattle.elab_model.specs.Questions.{Questions, gives, rejects, deep_at, astray, ask_same, ask_head, Env, Finding, found, rejected, spent_at, too_deep, out_of_scope, by_answer, by_head, kept_names, head_in, answer}
use Rattle.elab_model.proofs.HeadBudgets.{head_written_more}

-- the second is the first, unless the first is spent
abbrev pub Firm : {A : Type 0} → Finding A → Finding A → Type 0
Firm (spent_at p) r = Unit {0}
Firm q r = q ≡ r

-- an answer of the first is one of the second
abbrev Keeps : {A : Type 0} → Budgeted A → Budgeted A → Type 0
Keeps {A = A} x y = (z : A) (left : ℕ) → x ≡ answered z left → (more : ℕ) × (y ≡ answered z more)

firm-itself : {A : Type 0} (r : Finding A) → Firm r r
firm-itself (found x) = refl
firm-itself (rejected p w) = refl
firm-itself (spent_at p) = tt
firm-itself (too_deep f) = refl
firm-itself out_of_scope = refl

firm-verdict : {A : Type 0} (f p : Span) (w : Code) (x y : Budgeted Answer) (k l : Finding A) → Keeps x y → Firm k l → Firm (by_answer f p w x k) (by_answer f p w y l)
firm-verdict f p w (answered same i) y k l h z = let (j, e) = h same i refl in rw e z
firm-verdict f p w (answered (apart a b) i) y k l h z = let (j, e) = h (apart a b) i refl in rw e refl
firm-verdict f p w (answered (halted u) i) y k l h z = let (j, e) = h (halted u) i refl in rw e (firm-itself _)
firm-verdict f p w spent y k l h z = tt

firm-head : {A : Type 0} (f p : Span) (x y : Budgeted HeadAnswer) (k l : Tree → Finding A) → Keeps x y → ((a : Tree) → Firm (k a) (l a)) → Firm (by_head f p x k) (by_head f p y l)
firm-head f p (answered (value a) i) y k l h z = let (j, e) = h (value a) i refl in rw e (z a)
firm-head f p (answered (no_value u) i) y k l h z = let (j, e) = h (no_value u) i refl in rw e (firm-itself _)
firm-head f p spent y k l h z = tt

head-stays : (e : Env) (d : Bool) (n m : ℕ) (a : Tree) → Keeps (head_in e d n a) (head_in e d (n + m) a)
head-stays e d n m a z i x = (i + m, head_written_more (all_but (kept_names e d) e.items) n a z i m x)

pub firm-answer : {A : Type 0} (e : Env) (n m : ℕ) (q : Questions A) → Firm (answer e n q) (answer e (n + m) q)
firm-answer e n m (gives x) = refl
firm-answer e n m (rejects p w) = refl
firm-answer e n m (deep_at f) = refl
firm-answer e n m astray = refl
firm-answer e n m (ask_same f p w a b q) = firm-verdict f p w _ _ _ _ (λ z i x. (i + m, compare_more (bodies (signature e.items)) n a b z i m x)) (firm-answer e n m q)
firm-answer e n m (ask_head f p d a k) = firm-head f p _ _ _ _ (head-stays e d n m a) (λ b. firm-answer e n m (k b))

-- what is not spent stays
pub firm-stays : {A : Type 0} (x y r : Finding A) → Firm x y → x ≡ r → ((p : Span) → r ≡ spent_at p → ⊥) → y ≡ r
firm-stays (found z) y r f i h = sym f ∙ i
firm-stays (rejected p w) y r f i h = sym f ∙ i
firm-stays (spent_at p) y r f i h = absurd (h p (sym i))
firm-stays (too_deep p) y r f i h = sym f ∙ i
firm-stays out_of_scope y r f i h = sym f ∙ i

pub answer-stays : {A : Type 0} (e : Env) (n m : ℕ) (q : Questions A) (r : Finding A) → answer e n q ≡ r → ((p : Span) → r ≡ spent_at p → ⊥) → answer e (n + m) q ≡ r
answer-stays e n m q r x h = firm-stays (answer e n q) (answer e (n + m) q) r (firm-answer e n m q) x h
