-- Head reduction of annotated types is that of their erasures, step by step, each for one unit.
use Rattle.std.proofs.Common.{◌≡◌, ◌⊎◌, inl, inr, ℕ, zero, suc, ◌+◌, Bool, true, false, cond, ltb, List, Option, Some, None, slice_get, refl, sym, ap, ◌∙◌, subst, arith}
use Rattle.cdle_model.specs.declared.grammar.Sort.{Sort}
use Rattle.cdle_model.specs.declared.grammar.Sort.TheVariants.{OfType}
use Rattle.cdle_model.specs.Trees.{Function, of_term, of_type, Tree, var, name, leaf, fun, apply}
use Rattle.cdle_model.specs.Forms.{pi, all, allt, iota, eq, at_, on, tlam, xtlam}
use Rattle.cdle_model.specs.Classes.{types, within, Scope}
use Rattle.cdle_model.specs.Erasure.{erased}
use Rattle.cdle_model.specs.Substitution.{put_written}
use Rattle.cdle_model.specs.Depth.{depth}
use Rattle.cdle_model.specs.Machine.{Budgeted, answered, spent}
use Rattle.cdle_model.specs.HeadForms.{deep, deepest, HeadStep, none, to, blocked, contraction, unfolding_of, step_under, head_step, at, fallen, HeadAnswer, value, no_value, head_move, head_form}
use Rattle.cdle_model.proofs.HeadParts.{form_of}
use Rattle.cdle_model.proofs.ErasedSubstitution.{erased-put}
use Rattle.cdle_model.proofs.Runs.{stops, spends, goes}
use Rattle.elab_model.specs.HeadWritten.{Unfolding, written_step, limited, written_move, head_written}
use Rattle.elab_model.specs.Unknowns.{FitsOpen}
use Rattle.elab_model.specs.Unfoldings.{IsSigned, UnfoldsSound}
use Rattle.elab_model.proofs.ErasedDepth.{erased-depth}
use Rattle.elab_model.proofs.HeadChains.{Stepped, step-stepped}
use Rattle.elab_model.proofs.HeadClasses.{OpenWell, step-open}

-- an applied tree that is no function takes the step of what is applied
applied-step : (s : List Tree) (c : Function) (e x : Tree) → (form_of e ≡ 3 → ⊥) → head_step s (apply c e x) ≡ step_under c x (head_step s e)
applied-step s c (fun d p) x h = absurd (h refl)
applied-step s c e x h = refl

at-under : (u : Unfolding) (a t : Tree) → (form_of (erased a) ≡ 3 → ⊥) → written_step u (at_ a t) ≡ step_under of_term t (written_step u a)
at-under u (tlam a b) t h = absurd (h refl)
at-under u a t h = refl

on-under : (u : Unfolding) (a t : Tree) → (form_of (erased a) ≡ 3 → ⊥) → written_step u (on a t) ≡ step_under of_type t (written_step u a)
on-under u (xtlam a b) t h = absurd (h refl)
on-under u a t h = refl

-- a type erases to a function only where it is one
types-form : (s : Scope) (a : Tree) → FitsOpen s types a → (form_of (erased a) ≡ 3 → ⊥) ⊎ ((d b : Tree) × (a ≡ tlam d b)) ⊎ ((k b : Tree) × (a ≡ xtlam k b))
types-form s (var i) h = inl (λ e. grind arith)
types-form s (name n) h = inl (λ e. grind arith)
types-form s (leaf l) h = inl (λ e. grind arith)
types-form s (at_ a t) h = inl (λ e. grind arith)
types-form s (on a t) h = inl (λ e. grind arith)
types-form s (pi a b) h = inl (λ e. grind arith)
types-form s (all a b) h = inl (λ e. grind arith)
types-form s (allt a b) h = inl (λ e. grind arith)
types-form s (iota a b) h = inl (λ e. grind arith)
types-form s (eq p q) h = inl (λ e. grind arith)
types-form s (tlam a b) h = inr (inl (a, b, refl))
types-form s (xtlam a b) h = inr (inr (a, b, refl))
types-form s a h = absurd h

-- a head form's erasure is on the way to the erasure's head form, with as many units left; and where more units are needed, the erasure needs them
abbrev pub HeadErases : List Tree → ℕ → Tree → Budgeted HeadAnswer → Type 0
HeadErases s n t (answered (value h) left) = (more : ℕ) → head_form s (n + more) (erased t) ≡ head_form s (left + more) (erased h)
HeadErases s n t (answered (no_value z) left) = z ≡ deep
HeadErases s n t spent = head_form s n (erased t) ≡ spent

module _ (s : List Tree) (u : Unfolding) (w : IsSigned s u) where
  -- what the step of the erasure is, where that of the type is m: nothing is known where the type is a head form, since its name may be kept
  abbrev Erases : Tree → HeadStep → Type 0
  Erases p (to q) = head_step s (erased p) ≡ to (erased q)
  Erases p none = Unit {0}
  Erases p (blocked h) = (h ≡ deep) × (head_step s (erased p) ≡ none → ⊥)

  contraction-some : (q : Tree) → contraction q ≡ none → ⊥
  contraction-some q e = by_test (ltb deepest (depth q)) e
    where
      by_test : (b : Bool) → cond b (blocked deep) (to q) ≡ none → ⊥
      by_test true e = grind arith
      by_test false e = grind arith

  contraction-erases : (p q : Tree) → head_step s (erased p) ≡ contraction (erased q) → Erases p (contraction q)
  contraction-erases p q e = by_test (ltb deepest (depth q)) refl
    where
      shallow : ltb deepest (depth q) ≡ false → ltb deepest (depth (erased q)) ≡ false
      shallow f = let h = erased-depth q in grind arith

      by_test : (b : Bool) → ltb deepest (depth q) ≡ b → Erases p (cond b (blocked deep) (to q))
      by_test true f = (refl, λ h. contraction-some (erased q) (sym e ∙ h))
      by_test false f = e ∙ ap (λ b. cond b (blocked deep) (to (erased q))) (shallow f)

  unfolding-erases : (n : ℕ) (o : Option Tree) → u n ≡ o → Erases (name n) (unfolding_of o)
  unfolding-erases n (Some p) e = ap unfolding_of (w.erases n p e)
  unfolding-erases n None e = tt

  step_under-some : (c : Function) (x : Tree) (m : HeadStep) → (m ≡ none → ⊥) → step_under c x m ≡ none → ⊥
  step_under-some c x none h e = h refl
  step_under-some c x (to q) h e = grind arith
  step_under-some c x (blocked z) h e = grind arith

  at-erases : (a t : Tree) (m : HeadStep) → (form_of (erased a) ≡ 3 → ⊥) → Erases a m → Erases (at_ a t) (step_under of_term t m)
  at-erases a t (to q) f h = applied-step s of_term (erased a) (erased t) f ∙ ap (step_under of_term (erased t)) h
  at-erases a t none f h = tt
  at-erases a t (blocked z) f h = (h.0, λ e. step_under-some of_term (erased t) (head_step s (erased a)) h.1 (sym (applied-step s of_term (erased a) (erased t) f) ∙ e))

  on-erases : (a t : Tree) (m : HeadStep) → (form_of (erased a) ≡ 3 → ⊥) → Erases a m → Erases (on a t) (step_under of_type t m)
  on-erases a t (to q) f h = applied-step s of_type (erased a) (erased t) f ∙ ap (step_under of_type (erased t)) h
  on-erases a t none f h = tt
  on-erases a t (blocked z) f h = (h.0, λ e. step_under-some of_type (erased t) (head_step s (erased a)) h.1 (sym (applied-step s of_type (erased a) (erased t) f) ∙ e))

  step-erases : (z : Scope) (p : Tree) → FitsOpen z types p → Erases p (written_step u p)
  step-erases z (name n) h = unfolding-erases n (u n) refl
  step-erases z (at_ a t) h = by_form (types-form z a h.0) (step-erases z a h.0)
    where
      by_form : (form_of (erased a) ≡ 3 → ⊥) ⊎ ((d b : Tree) × (a ≡ tlam d b)) ⊎ ((k b : Tree) × (a ≡ xtlam k b)) → Erases a (written_step u a) → Erases (at_ a t) (written_step u (at_ a t))
      by_form (inl f) g = rw (at-under u a t f) (at-erases a t (written_step u a) f g)
      by_form (inr (inl (d, b, e))) g = rw e (contraction-erases (at_ (tlam d b) t) (put_written 0 t b) (ap contraction (sym (erased-put 0 t b))))
      by_form (inr (inr (k, b, e))) g = rw e tt
  step-erases z (on a t) h = by_form (types-form z a h.0) (step-erases z a h.0)
    where
      by_form : (form_of (erased a) ≡ 3 → ⊥) ⊎ ((d b : Tree) × (a ≡ tlam d b)) ⊎ ((k b : Tree) × (a ≡ xtlam k b)) → Erases a (written_step u a) → Erases (on a t) (written_step u (on a t))
      by_form (inl f) g = rw (on-under u a t f) (on-erases a t (written_step u a) f g)
      by_form (inr (inl (d, b, e))) g = rw e tt
      by_form (inr (inr (k, b, e))) g = rw e (contraction-erases (on (xtlam k b) t) (put_written 0 t b) (ap contraction (sym (erased-put 0 t b))))
  step-erases z p h = tt

  limited-erases : (n : ℕ) (t : Tree) → HeadErases s n t (answered (limited t) n)
  limited-erases n t = by_test (ltb deepest (depth t))
    where
      by_test : (b : Bool) → HeadErases s n t (answered (cond b (no_value deep) (value t)) n)
      by_test true = refl
      by_test false = λ more. refl

  next-erases : (n : ℕ) (t q : Tree) → head_step s (erased t) ≡ to (erased q) → (o : Budgeted HeadAnswer) → HeadErases s n q o → HeadErases s (suc n) t o
  next-erases n t q e (answered (value h) left) k = λ more. (let i : suc n + more ≡ suc (n + more) = omega arith in
      subst (λ m. head_form s m (erased t) ≡ head_form s (left + more) (erased h)) (sym i) (goes (head_move s) (at (erased t)) (at (erased q)) (rw e refl) (n + more) ∙ k more))
  next-erases n t q e (answered (no_value z) left) k = k
  next-erases n t q e spent k = goes (head_move s) (at (erased t)) (at (erased q)) (rw e refl) n ∙ k

  -- a tree with a step needs a unit
  blocked-spent : (a : Tree) (m : HeadStep) → head_step s a ≡ m → (m ≡ none → ⊥) → head_form s 0 a ≡ spent
  blocked-spent a none e h = absurd (h refl)
  blocked-spent a (to b) e h = spends (head_move s) (at a) (at b) (rw e refl)
  blocked-spent a (blocked z) e h = spends (head_move s) (at a) (fallen z) (rw e refl)

  module _ (xs : List Sort) (v : UnfoldsSound xs u) (vs : List Sort) where
    pub head-erases : (n : ℕ) (t : Tree) → OpenWell xs u v vs t → HeadErases s n t (head_written u n t)
    head-erases n t g = by_step n t (written_step u t) refl (step-stepped u t) (step-erases (within vs xs) t g.0) g
      where
        by_step : (n : ℕ) (a : Tree) (x : HeadStep) → written_step u a ≡ x → Stepped u a x → Erases a x → OpenWell xs u v vs a → HeadErases s n a (head_written u n a)
        by_step n a none e r h g = subst (HeadErases s n a) (sym (stops (written_move u) (at a) (limited a) (rw e refl) n)) (limited-erases n a)
        by_step zero a (to b) e r h g = subst (HeadErases s 0 a) (sym (spends (written_move u) (at a) (at b) (rw e refl))) (spends (head_move s) (at (erased a)) (at (erased b)) (rw h refl))
        by_step (suc n) a (to b) e r h g =
            let k : OpenWell xs u v vs b = step-open xs u v s w vs a b r g in
            subst (HeadErases s (suc n) a) (sym (goes (written_move u) (at a) (at b) (rw e refl) n))
            (next-erases n a b h (head_written u n b) (by_step n b (written_step u b) refl (step-stepped u b) (step-erases (within vs xs) b k.0) k))
        by_step zero a (blocked z) e r h g = subst (HeadErases s 0 a) (sym (spends (written_move u) (at a) (fallen z) (rw e refl))) (blocked-spent (erased a) (head_step s (erased a)) refl h.1)
        by_step (suc n) a (blocked z) e r h g =
            subst (HeadErases s (suc n) a) (sym (goes (written_move u) (at a) (fallen z) (rw e refl) n ∙ stops (written_move u) (fallen z) (no_value z) refl n)) h.0

-- where every name unfolds, a head form's erasure is a head form
module _ (xs : List Sort) (s : List Tree) (u : Unfolding) (full : (n : ℕ) → slice_get xs n ≡ Some OfType → u n ≡ None → slice_get s n ≡ None) where
  step_under-none : (c : Function) (x : Tree) (m : HeadStep) → step_under c x m ≡ none → m ≡ none
  step_under-none c x none h = refl
  step_under-none c x (to q) h = absurd (grind arith)
  step_under-none c x (blocked z) h = absurd (grind arith)

  contraction-goes : (q : Tree) → contraction q ≡ none → ⊥
  contraction-goes q e = by_test (ltb deepest (depth q)) e
    where
      by_test : (b : Bool) → cond b (blocked deep) (to q) ≡ none → ⊥
      by_test true e = grind arith
      by_test false e = grind arith

  unfolding-none : (n : ℕ) (o : Option Tree) → slice_get xs n ≡ Some OfType → u n ≡ o → unfolding_of o ≡ none → unfolding_of (slice_get s n) ≡ none
  unfolding-none n (Some p) i e h = absurd (grind arith)
  unfolding-none n None i e h = ap unfolding_of (full n i e)

  pub none-erases : (vs : List Sort) (p : Tree) → FitsOpen (within vs xs) types p → written_step u p ≡ none → head_step s (erased p) ≡ none
  none-erases vs (name n) h e = unfolding-none n (u n) h refl e
  none-erases vs (var i) h e = refl
  none-erases vs (leaf l) h e = refl
  none-erases vs (pi a b) h e = refl
  none-erases vs (all a b) h e = refl
  none-erases vs (allt a b) h e = refl
  none-erases vs (iota a b) h e = refl
  none-erases vs (eq a b) h e = refl
  none-erases vs (tlam a b) h e = refl
  none-erases vs (xtlam a b) h e = refl
  none-erases vs (at_ a t) h e = by_form (λ i. none-erases vs a h.0 i) (types-form (within vs xs) a h.0)
    where
      by_form : (written_step u a ≡ none → head_step s (erased a) ≡ none) → (form_of (erased a) ≡ 3 → ⊥) ⊎ ((d b : Tree) × (a ≡ tlam d b)) ⊎ ((k b : Tree) × (a ≡ xtlam k b))
          → head_step s (erased (at_ a t)) ≡ none
      by_form g (inl f) =
          let i : written_step u a ≡ none = step_under-none of_term t (written_step u a) (sym (at-under u a t f) ∙ e) in
          applied-step s of_term (erased a) (erased t) f ∙ ap (step_under of_term (erased t)) (g i)
      by_form g (inr (inl (d, b, x))) = absurd (contraction-goes (put_written 0 t b) (subst (λ y. written_step u (at_ y t) ≡ none) x e))
      by_form g (inr (inr (k, b, x))) = rw x refl
  none-erases vs (on a t) h e = by_form (λ i. none-erases vs a h.0 i) (types-form (within vs xs) a h.0)
    where
      by_form : (written_step u a ≡ none → head_step s (erased a) ≡ none) → (form_of (erased a) ≡ 3 → ⊥) ⊎ ((d b : Tree) × (a ≡ tlam d b)) ⊎ ((k b : Tree) × (a ≡ xtlam k b))
          → head_step s (erased (on a t)) ≡ none
      by_form g (inl f) =
          let i : written_step u a ≡ none = step_under-none of_type t (written_step u a) (sym (on-under u a t f) ∙ e) in
          applied-step s of_type (erased a) (erased t) f ∙ ap (step_under of_type (erased t)) (g i)
      by_form g (inr (inl (d, b, x))) = rw x refl
      by_form g (inr (inr (k, b, x))) = absurd (contraction-goes (put_written 0 t b) (subst (λ y. written_step u (on y t) ≡ none) x e))
  none-erases vs p h e = absurd h
