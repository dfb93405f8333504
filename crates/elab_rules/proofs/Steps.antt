-- How answers go on: what is found leads to the questions that follow, and a fault ends all.
use Rattle.std.proofs.Common.{◌≡◌, ℕ, ◌≤◌, Bool, true, false, ltb, Result, Ok, Err, refl, sym, ap, ◌∙◌, subst}
use Rattle.std.proofs.lemmas.Bool.{lt-ltb, le-ltb}
use Rattle.cdle_model.specs.Trees.{Tree}
use Rattle.cdle_model.specs.Depth.{depth}
use Rattle.cdle_model.specs.HeadForms.{deepest, HeadAnswer, value, no_value, deep, ill_classed, Halt}
use Rattle.cdle_model.specs.Machine.{Budgeted, answered, spent}
use Rattle.cdle_model.specs.Comparison.{Answer, same, apart, halted, compare}
use Rattle.cdle_model.specs.Derivation.{bodies, signature}
use Rattle.elab_model.specs.declared.codes.Code.{Code}
use Rattle.source_model.specs.Source.{Span}
use Rattle.elab_model.specs.Questions.{Env, Questions, Finding, too_deep, gives, rejects, deep_at, astray, ask_same, ask_head, then, unless_deep, answer, by_answer, by_head, by_halt, head_in}
use Rattle.elab_model.specs.Items.{found_then}
use Rattle.elab_tree.specs.Known.{Known}
use Rattle.elab_reduce.specs.Items.{env_of}
use Rattle.elab_rules.specs.declared.fault.Fault.{Fault}
use Rattle.elab_rules.specs.declared.fault.Fault.TheVariants as f
use Rattle.elab_rules.specs.Answers.{IsFault, IsFound, IsLow, Meets}

module _ {A B : Type 0} (e : Env) (n : ℕ) where
  halt_then : (f : Span) (h : Halt) (k : A → Questions B) → by_halt f h ≡ found_then (by_halt f h) (λ x. answer e n (k x))
  halt_then f deep k = refl
  halt_then f ill_classed k = refl

  same_then : (f p : Span) (w : Code) (o : Budgeted Answer) (r : Finding B) (s : Finding A) (k : A → Questions B) → r ≡ found_then s (λ x. answer e n (k x))
      → by_answer f p w o r ≡ found_then (by_answer f p w o s) (λ x. answer e n (k x))
  same_then f p w (answered same i) r s k h = h
  same_then f p w (answered (apart a b) i) r s k h = refl
  same_then f p w (answered (halted u) i) r s k h = halt_then f u k
  same_then f p w spent r s k h = refl

  head_then : (f p : Span) (o : Budgeted HeadAnswer) (r : Tree → Finding B) (s : Tree → Finding A) (k : A → Questions B) → ((b : Tree) → r b ≡ found_then (s b) (λ x. answer e n (k x)))
      → by_head f p o r ≡ found_then (by_head f p o s) (λ x. answer e n (k x))
  head_then f p (answered (value a) i) r s k h = h a
  head_then f p (answered (no_value u) i) r s k h = halt_then f u k
  head_then f p spent r s k h = refl

  -- the answer of questions one after the other
  pub answer_then : (q : Questions A) (k : A → Questions B) → answer e n (then q k) ≡ found_then (answer e n q) (λ x. answer e n (k x))
  answer_then (gives x) k = refl
  answer_then (rejects p w) k = refl
  answer_then (deep_at f) k = refl
  answer_then astray k = refl
  answer_then (ask_same f p w a b q) k = same_then f p w (compare (bodies (signature e.items)) n a b) (answer e n (then q k)) (answer e n q) k (answer_then q k)
  answer_then (ask_head f p d a g) k = head_then f p (head_in e d n a) (λ b. answer e n (then (g b) k)) (λ b. answer e n (g b)) k (λ b. answer_then (g b) k)

module _ {A B : Type 0} (e : Known) (n : ℕ) where
  -- the first questions gave something, and those that follow from it are answered so
  pub goes_on : (q : Questions A) (k : A → Questions B) (x : A) (r : Result B Fault) → Meets e n q (Ok x) → Meets e n (k x) r → Meets e n (then q k) r
  unfolding Meets
  goes_on q k x (Ok y) h g = answer_then (env_of e) n q k ∙ ap (λ z. found_then z (λ x. answer (env_of e) n (k x))) h ∙ g
  goes_on q k x (Err d) h g = subst (λ z. IsFault z d) (sym (answer_then (env_of e) n q k ∙ ap (λ z. found_then z (λ x. answer (env_of e) n (k x))) h)) g

  -- the first questions ended
  pub ends : (q : Questions A) (k : A → Questions B) (d : Fault) → Meets e n q (Err d) → Meets e n (then q k) (Err d)
  unfolding Meets
  ends q k (f.Rejected p w) h = answer_then (env_of e) n q k ∙ ap (λ z. found_then z (λ x. answer (env_of e) n (k x))) h
  ends q k (f.Undecided p) h = answer_then (env_of e) n q k ∙ ap (λ z. found_then z (λ x. answer (env_of e) n (k x))) h
  ends q k (f.TooDeep p) h = answer_then (env_of e) n q k ∙ ap (λ z. found_then z (λ x. answer (env_of e) n (k x))) h
  ends q k f.NoMemory h = tt

module _ {A : Type 0} (e : Known) (n : ℕ) where
  pub no_memory : (q : Questions A) → Meets e n q (Err f.NoMemory)
  unfolding Meets
  no_memory q = tt

  pub given : (x : A) → Meets e n (gives x) (Ok x)
  unfolding Meets
  given x = refl

  -- a tree that is not too deep, and one that is
  pub is_low : (p : Span) (a : Tree) (q : Questions A) (r : Result A Fault) → depth a ≤ 4096 → Meets e n q r → Meets e n (unless_deep p a q) r
  is_low p a q r l h = let c : ltb deepest (depth a) ≡ false = le-ltb deepest (depth a) l in rw c h

  pub is_deep : (p : Span) (a : Tree) (q : Questions A) (d : Fault) → IsLow p (depth a) (Err d) → Meets e n (unless_deep p a q) (Err d)
  unfolding Meets
  is_deep p a q (f.TooDeep s) (g, l) = let c : ltb deepest (depth a) ≡ true = lt-ltb deepest (depth a) l in rw c (ap too_deep (sym g))
  is_deep p a q (f.Rejected s w) h = absurd h
  is_deep p a q (f.Undecided s) h = absurd h
  is_deep p a q f.NoMemory h = absurd h

  -- a comparison, and the rest
  pub same_on : (f p : Span) (w : Code) (a b : Tree) (q : Questions A) (r : Result A Fault) → Meets e n (ask_same f p w a b (gives (tt {0}))) (Ok (tt {0})) → Meets e n q r → Meets e n (ask_same f p w a b q) r
  same_on f p w a b q r m l = goes_on e n (ask_same f p w a b (gives (tt {0}))) (λ _. q) (tt {0}) r m l

  pub same_ends : (f p : Span) (w : Code) (a b : Tree) (q : Questions A) (d : Fault) → Meets e n (ask_same f p w a b (gives (tt {0}))) (Err d) → Meets e n (ask_same f p w a b q) (Err d)
  same_ends f p w a b q d m = ends e n (ask_same f p w a b (gives (tt {0}))) (λ _. q) d m

  -- a head form, and the rest
  pub head_on : (f p : Span) (d : Bool) (a : Tree) (k : Tree → Questions A) (h : Tree) (r : Result A Fault) → Meets e n (ask_head f p d a (λ h. gives h)) (Ok h) → Meets e n (k h) r → Meets e n (ask_head f p d a k) r
  head_on f p d a k h r m l = goes_on e n (ask_head f p d a (λ h. gives h)) k h r m l

  pub head_ends : (f p : Span) (d : Bool) (a : Tree) (k : Tree → Questions A) (x : Fault) → Meets e n (ask_head f p d a (λ h. gives h)) (Err x) → Meets e n (ask_head f p d a k) (Err x)
  head_ends f p d a k x m = ends e n (ask_head f p d a (λ h. gives h)) k x m

  -- questions with one answer are met alike
  pub alike : (q q' : Questions A) (r : Result A Fault) → answer (env_of e) n q ≡ answer (env_of e) n q' → Meets e n q r → Meets e n q' r
  unfolding Meets
  alike q q' r h m = subst (λ z. IsFound z r) h m
