-- Head reduction of annotated types as a chain of steps at the head; their erasures step so too, and types may be put for unknowns first.
use Rattle.std.proofs.Common.{◌≡◌, inl, ℕ, zero, suc, ◌≤◌, Bool, true, false, cond, ltb, List, Option, Some, None, refl, sym, ◌∙◌, subst, arith}
use Rattle.cdle_model.specs.Trees.{of_term, of_type, Tree, name}
use Rattle.cdle_model.specs.Forms.{at_, on, tlam, xtlam}
use Rattle.cdle_model.specs.Erasure.{erased}
use Rattle.cdle_model.specs.Substitution.{put_written}
use Rattle.cdle_model.specs.Depth.{depth}
use Rattle.cdle_model.specs.Steps.{contract, unfold_name, here, in_head, Step, Chain, done, next, end, forth, Joined}
use Rattle.cdle_model.specs.Machine.{Budgeted, answered, spent}
use Rattle.cdle_model.specs.HeadForms.{deep, deepest, HeadStep, none, to, blocked, contraction, unfolding_of, step_under, at, fallen, HeadAnswer, value, no_value}
use Rattle.cdle_model.proofs.ErasedSubstitution.{erased-put}
use Rattle.cdle_model.proofs.Runs.{stops, spends, goes}
use Rattle.elab_model.specs.HeadWritten.{Unfolding, written_step, limited, written_move, head_written}
use Rattle.elab_model.specs.HeadSteps.{AtHead, unfolded, at_contracted, on_contracted, under_at, under_on}
use Rattle.elab_model.specs.Unknowns.{Types, fill_written}
use Rattle.elab_model.specs.Unfoldings.{IsSigned}
use Rattle.elab_model.proofs.FilledWritten.{fill_written-put}

-- what is known where the step at the head is m
abbrev pub Stepped : Unfolding → Tree → HeadStep → Type 0
Stepped u p (to q) = AtHead u p q
Stepped u p m = Unit {0}

contraction-stepped : (u : Unfolding) (p q : Tree) → AtHead u p q → Stepped u p (contraction q)
contraction-stepped u p q h = by_test (ltb deepest (depth q))
  where
    by_test : (b : Bool) → Stepped u p (cond b (blocked deep) (to q))
    by_test true = tt
    by_test false = h

unfolding-stepped : (u : Unfolding) (n : ℕ) (o : Option Tree) → u n ≡ o → Stepped u (name n) (unfolding_of o)
unfolding-stepped u n (Some p) e = unfolded e
unfolding-stepped u n None e = tt

at-stepped : (u : Unfolding) (p q : Tree) (m : HeadStep) → Stepped u p m → Stepped u (at_ p q) (step_under of_term q m)
at-stepped u p q (to r) h = under_at h
at-stepped u p q none h = tt
at-stepped u p q (blocked z) h = tt

on-stepped : (u : Unfolding) (p q : Tree) (m : HeadStep) → Stepped u p m → Stepped u (on p q) (step_under of_type q m)
on-stepped u p q (to r) h = under_on h
on-stepped u p q none h = tt
on-stepped u p q (blocked z) h = tt

pub step-stepped : (u : Unfolding) (p : Tree) → Stepped u p (written_step u p)
step-stepped u (name n) = unfolding-stepped u n (u n) refl
step-stepped u (at_ (tlam a b) t) = contraction-stepped u _ (put_written 0 t b) at_contracted
step-stepped u (on (xtlam a b) t) = contraction-stepped u _ (put_written 0 t b) on_contracted
step-stepped u (at_ a t) = at-stepped u a t (written_step u a) (step-stepped u a)
step-stepped u (on a t) = on-stepped u a t (written_step u a) (step-stepped u a)
step-stepped u p = tt

-- a head form is reached by steps at the head
abbrev pub Reached : Unfolding → Tree → Budgeted HeadAnswer → Type 0
Reached u t (answered (value h) left) = Chain (AtHead u) t h
Reached u t o = Unit {0}

reached-next : (u : Unfolding) (t a : Tree) → AtHead u t a → (o : Budgeted HeadAnswer) → Reached u a o → Reached u t o
reached-next u t a h (answered (value b) left) k = next h k
reached-next u t a h (answered (no_value z) left) k = tt
reached-next u t a h spent k = tt

limited-reached : (u : Unfolding) (p : Tree) (n : ℕ) → Reached u p (answered (limited p) n)
limited-reached u p n = by_test (ltb deepest (depth p))
  where
    by_test : (b : Bool) → Reached u p (answered (cond b (no_value deep) (value p)) n)
    by_test true = tt
    by_test false = done

pub head-reached : (u : Unfolding) (n : ℕ) (t : Tree) → Reached u t (head_written u n t)
head-reached u n t = by_step n t (written_step u t) refl (step-stepped u t)
  where
    by_step : (n : ℕ) (a : Tree) (x : HeadStep) → written_step u a ≡ x → Stepped u a x → Reached u a (head_written u n a)
    by_step n a none e h = subst (Reached u a) (sym (stops (written_move u) (at a) (limited a) (rw e refl) n)) (limited-reached u a n)
    by_step zero a (to b) e h = subst (Reached u a) (sym (spends (written_move u) (at a) (at b) (rw e refl))) tt
    by_step (suc n) a (to b) e h =
        subst (Reached u a) (sym (goes (written_move u) (at a) (at b) (rw e refl) n)) (reached-next u a b h (head_written u n b) (by_step n b (written_step u b) refl (step-stepped u b)))
    by_step zero a (blocked z) e h = subst (Reached u a) (sym (spends (written_move u) (at a) (fallen z) (rw e refl))) tt
    by_step (suc n) a (blocked z) e h =
        subst (Reached u a) (sym (goes (written_move u) (at a) (fallen z) (rw e refl) n ∙ stops (written_move u) (fallen z) (no_value z) refl n)) tt

pub head-chain : (u : Unfolding) (n : ℕ) (t h : Tree) (left : ℕ) → head_written u n t ≡ answered (value h) left → Chain (AtHead u) t h
head-chain u n t h left e = subst (Reached u t) e (head-reached u n t)

-- a head form has no step at its head, and is not too deep
abbrev pub Stopped : Unfolding → Budgeted HeadAnswer → Type 0
Stopped u (answered (value h) left) = (written_step u h ≡ none) × (depth h ≤ deepest)
Stopped u o = Unit {0}

limited-stopped : (u : Unfolding) (p : Tree) (n : ℕ) → written_step u p ≡ none → Stopped u (answered (limited p) n)
limited-stopped u p n e = by_test (ltb deepest (depth p)) refl
  where
    by_test : (b : Bool) → ltb deepest (depth p) ≡ b → Stopped u (answered (cond b (no_value deep) (value p)) n)
    by_test true f = tt
    by_test false f = (e, grind arith)

pub head-stopped : (u : Unfolding) (n : ℕ) (t : Tree) → Stopped u (head_written u n t)
head-stopped u n t = by_step n t (written_step u t) refl
  where
    by_step : (n : ℕ) (a : Tree) (x : HeadStep) → written_step u a ≡ x → Stopped u (head_written u n a)
    by_step n a none e = subst (Stopped u) (sym (stops (written_move u) (at a) (limited a) (rw e refl) n)) (limited-stopped u a n e)
    by_step zero a (to b) e = subst (Stopped u) (sym (spends (written_move u) (at a) (at b) (rw e refl))) tt
    by_step (suc n) a (to b) e = subst (Stopped u) (sym (goes (written_move u) (at a) (at b) (rw e refl) n)) (by_step n b (written_step u b) refl)
    by_step zero a (blocked z) e = subst (Stopped u) (sym (spends (written_move u) (at a) (fallen z) (rw e refl))) tt
    by_step (suc n) a (blocked z) e =
        subst (Stopped u) (sym (goes (written_move u) (at a) (fallen z) (rw e refl) n ∙ stops (written_move u) (fallen z) (no_value z) refl n)) tt

module _ (s : List Tree) (u : Unfolding) (w : IsSigned s u) where
  -- the erasures step so
  pub step-erased : (p q : Tree) → AtHead u p q → Step s (erased p) (erased q)
  step-erased _ _ (unfolded {n = n} {p = p} e) = here (inl (unfold_name (w.erases n p e)))
  step-erased _ _ (at_contracted {b = b} {t = t}) = rw (erased-put 0 t b) (here (inl contract))
  step-erased _ _ (on_contracted {b = b} {a = a}) = rw (erased-put 0 a b) (here (inl contract))
  step-erased _ _ (under_at h) = in_head (step-erased _ _ h)
  step-erased _ _ (under_on h) = in_head (step-erased _ _ h)

  pub chain-joined : {p q : Tree} → Chain (AtHead u) p q → Joined s (erased p) (erased q)
  chain-joined done = end
  chain-joined (next h k) = forth (step-erased _ _ h) (chain-joined k)

  -- types may be put for unknowns before or after
  pub step-filled : (f : Types) (p q : Tree) → AtHead u p q → AtHead u (fill_written f p) (fill_written f q)
  step-filled f _ _ (unfolded {n = n} {p = p} e) = rw (w.whole n p e f) (unfolded e)
  step-filled f _ _ (at_contracted {b = b} {t = t}) = rw (fill_written-put f t b) at_contracted
  step-filled f _ _ (on_contracted {b = b} {a = a}) = rw (fill_written-put f a b) on_contracted
  step-filled f _ _ (under_at h) = under_at (step-filled f _ _ h)
  step-filled f _ _ (under_on h) = under_on (step-filled f _ _ h)

  pub chain-filled : (f : Types) {p q : Tree} → Chain (AtHead u) p q → Chain (AtHead u) (fill_written f p) (fill_written f q)
  chain-filled f done = done
  chain-filled f (next h k) = next (step-filled f _ _ h) (chain-filled f k)
