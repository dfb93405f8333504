-- What is found at some budget is what the questions ensure, and there is always an answer: a head form ends early by depth alone, and so does a comparison of two trees of one class.
use Rattle.std.proofs.Common.{◌≡◌, ℕ, zero, suc, Bool, true, false, cond, ltb, List, Option, Some, None, refl, sym, ◌∙◌, subst}
use Rattle.cdle_model.specs.Trees.{of_term, of_type, Tree, name}
use Rattle.cdle_model.specs.Forms.{at_, on, tlam, xtlam}
use Rattle.cdle_model.specs.Substitution.{put_written}
use Rattle.cdle_model.specs.Classes.{item_sorts}
use Rattle.cdle_model.specs.Depth.{depth}
use Rattle.cdle_model.specs.Machine.{Budgeted, answered, spent}
use Rattle.cdle_model.specs.HeadForms.{Halt, deep, ill_classed, deepest, HeadStep, none, to, blocked, contraction, unfolding_of, step_under, at, fallen, HeadAnswer, value, no_value}
use Rattle.cdle_model.specs.Comparison.{Answer, same, apart, halted, compare}
use Rattle.cdle_model.specs.Derivation.{bodies, signature}
use Rattle.cdle_model.proofs.Runs.{stops, spends, goes}
use Rattle.cdle_model.proofs.SameJoined.{compare-joined}
use Rattle.cdle_model.proofs.ClassSteps.{compare-halts}
use Rattle.cdle_model.proofs.ClassItems.{items-fit}
use Rattle.source_model.specs.Source.{Span}
use Rattle.elab_model.specs.HeadWritten.{Unfolding, all_but, written_step, limited, written_move, head_written}
use Rattle.elab_model.specs.Questions.{Questions, gives, rejects, deep_at, astray, ask_same, ask_head, Env, Finding, found, out_of_scope, by_halt, by_answer, by_head, kept_names, head_in, answer}
use Rattle.elab_model.specs.Soundness.{EnvSound}
use Rattle.elab_model.proofs.Ensures.{Each, Ensures}

-- a head form ends for good by depth alone
abbrev StepDeep : HeadStep → Type 0
StepDeep (blocked h) = h ≡ deep
StepDeep m = Unit {0}

contraction-deep : (q : Tree) → StepDeep (contraction q)
contraction-deep q = by_test (ltb deepest (depth q))
  where
    by_test : (b : Bool) → StepDeep (cond b (blocked deep) (to q))
    by_test true = refl
    by_test false = tt

unfolding-deep : (o : Option Tree) → StepDeep (unfolding_of o)
unfolding-deep (Some p) = tt
unfolding-deep None = tt

at-deep : (q : Tree) (m : HeadStep) → StepDeep m → StepDeep (step_under of_term q m)
at-deep q (to r) h = tt
at-deep q none h = tt
at-deep q (blocked z) h = h

on-deep : (q : Tree) (m : HeadStep) → StepDeep m → StepDeep (step_under of_type q m)
on-deep q (to r) h = tt
on-deep q none h = tt
on-deep q (blocked z) h = h

step-deep : (u : Unfolding) (p : Tree) → StepDeep (written_step u p)
step-deep u (name n) = unfolding-deep (u n)
step-deep u (at_ (tlam a b) t) = contraction-deep (put_written 0 t b)
step-deep u (on (xtlam a b) t) = contraction-deep (put_written 0 t b)
step-deep u (at_ a t) = at-deep t (written_step u a) (step-deep u a)
step-deep u (on a t) = on-deep t (written_step u a) (step-deep u a)
step-deep u p = tt

abbrev EndsDeep : Budgeted HeadAnswer → Type 0
EndsDeep (answered (no_value h) left) = h ≡ deep
EndsDeep o = Unit {0}

limited-deep : (p : Tree) (n : ℕ) → EndsDeep (answered (limited p) n)
limited-deep p n = by_test (ltb deepest (depth p))
  where
    by_test : (b : Bool) → EndsDeep (answered (cond b (no_value deep) (value p)) n)
    by_test true = refl
    by_test false = tt

head-deep : (u : Unfolding) (n : ℕ) (t : Tree) → EndsDeep (head_written u n t)
head-deep u n t = by_step n t (written_step u t) refl (step-deep u t)
  where
    by_step : (n : ℕ) (a : Tree) (x : HeadStep) → written_step u a ≡ x → StepDeep x → EndsDeep (head_written u n a)
    by_step n a none e h = subst EndsDeep (sym (stops (written_move u) (at a) (limited a) (rw e refl) n)) (limited-deep a n)
    by_step zero a (to b) e h = subst EndsDeep (sym (spends (written_move u) (at a) (at b) (rw e refl))) tt
    by_step (suc n) a (to b) e h = subst EndsDeep (sym (goes (written_move u) (at a) (at b) (rw e refl) n)) (by_step n b (written_step u b) refl (step-deep u b))
    by_step zero a (blocked z) e h = subst EndsDeep (sym (spends (written_move u) (at a) (fallen z) (rw e refl))) tt
    by_step (suc n) a (blocked z) e h = subst EndsDeep (sym (goes (written_move u) (at a) (fallen z) (rw e refl) n ∙ stops (written_move u) (fallen z) (no_value z) refl n)) h

-- ---- what is found at some budget, which is something

abbrev FoundHolds : {A : Type 0} → (A → Type 0) → Finding A → Type 0
FoundHolds P (found x) = P x
FoundHolds P out_of_scope = ⊥
FoundHolds P r = Unit {0}

halt-holds : {A : Type 0} (P : A → Type 0) (f : Span) (h : Halt) → h ≡ deep → FoundHolds P (by_halt f h)
halt-holds P f deep i = tt
halt-holds P f ill_classed i = absurd cc

answer-holds : {A : Type 0} (e : Env) → EnvSound e → (n : ℕ) (P : A → Type 0) (q : Questions A) → Each e P q → FoundHolds P (answer e n q)
answer-holds e g n P (gives x) h = h
answer-holds e g n P (rejects p w) h = tt
answer-holds e g n P (deep_at f) h = tt
answer-holds e g n P astray h = h
answer-holds e g n P (ask_same f p w a b q) ((vs, c, k, x, y), h) =
    by_compare (compare is n a b) (λ z j l. compare-halts (item_sorts e.items) is (items-fit e.items g.items g.erasures).bodies_fit n vs c a b z j k x y l)
    (λ j l. answer-holds e g n P q (h (compare-joined is n a b j l)))
  where
    is : List Tree
    is = bodies (signature e.items)

    by_compare : (o : Budgeted Answer) → ((z : Halt) (j : ℕ) → o ≡ answered (halted z) j → z ≡ deep) → ((j : ℕ) → o ≡ answered same j → FoundHolds P (answer e n q))
        → FoundHolds P (by_answer f p w o (answer e n q))
    by_compare (answered same j) u v = v j refl
    by_compare (answered (apart x y) j) u v = tt
    by_compare (answered (halted z) j) u v = halt-holds P f z (u z j refl)
    by_compare spent u v = tt
answer-holds e g n P (ask_head f p d a k) h =
    by_form (head_in e d n a) (head-deep (all_but (kept_names e d) e.items) n a) (λ b j l. answer-holds e g n P (k b) (h b (record { units = n; left = j; is = l })))
  where
    by_form : (o : Budgeted HeadAnswer) → EndsDeep o → ((b : Tree) (j : ℕ) → o ≡ answered (value b) j → FoundHolds P (answer e n (k b))) → FoundHolds P (by_head f p o (λ b. answer e n (k b)))
    by_form (answered (value b) j) u v = v b j refl
    by_form (answered (no_value z) j) u v = halt-holds P f z u
    by_form spent u v = tt

pub ensured : {A : Type 0} {e : Env} {P : A → Type 0} {q : Questions A} {x : A} → EnvSound e → (n : ℕ) → Ensures e P q → answer e n q ≡ found x → P x
ensured {e = e} {P = P} {q = q} g n h i = subst (FoundHolds P) i (answer-holds e g n P q h.each)

pub is-answered : {A : Type 0} {e : Env} {P : A → Type 0} {q : Questions A} → EnvSound e → (n : ℕ) → Ensures e P q → answer e n q ≡ out_of_scope → ⊥
is-answered {e = e} {P = P} {q = q} g n h i = subst (FoundHolds P) i (answer-holds e g n P q h.each)
