-- The moves of the code at a head with its arguments, by the definition of head forms.
use Rattle.std.proofs.Common.{◌≡◌, ◌⊎◌, inl, inr, ℕ, suc, ◌+◌, ◌<◌, ◌≤◌, Bool, true, false, cond, ltb, List, [], ◌∷◌, ◌++◌, Some, Result, Ok, Err, refl, sym, ap, ◌∙◌, subst, arith}
use Rattle.std.proofs.lemmas.Bool.{lt-ltb, le-ltb}
use Rattle.cdle_model.specs.Trees.{of_term, of_type, Tree, name, apply}
use Rattle.cdle_model.specs.Forms.{at_, on, tlam, xtlam}
use Rattle.cdle_model.specs.Depth.{depth}
use Rattle.cdle_model.specs.Machine.{answered, spent}
use Rattle.cdle_model.specs.HeadForms.{Halt, deep, deepest, HeadStep, none, to, blocked, contraction, step_under, at, fallen, value, no_value}
use Rattle.cdle_model.proofs.Runs.{stops, spends, goes}
use Rattle.elab_model.specs.HeadWritten.{Unfolding, written_step, limited, written_move, head_written}
use Rattle.elab_tree.specs.declared.stop.TreeStop.{TreeStop}
use Rattle.elab_tree.specs.declared.stop.TreeStop.TheVariants as z
use Rattle.elab_tree.specs.Answers.{Gives}
use Rattle.elab_tree.specs.declared.items.EArg.{EArg}
use Rattle.elab_tree.specs.declared.items.EArg.TheVariants as v
use Rattle.elab_reduce.specs.declared.stop.ElabStop.{ElabStop}
use Rattle.elab_reduce.specs.declared.stop.ElabStop.TheVariants.{Spent, TooDeep, NoMemory}
use Rattle.elab_reduce.specs.Spines.{arg_tree, arg_function, spine, innermost}
use Rattle.elab_reduce.specs.Heads.{IsHead, IsStill, IsStep, stop_of}
use Rattle.elab_reduce.proofs.Spines.{innermost_push}

pub spine_push : (h : Tree) (xs : List EArg) (x : EArg) → spine h (xs ++ (x ∷ [])) ≡ spine (apply (arg_function x) h (arg_tree x)) xs
spine_push h [] x = refl
spine_push h (y ∷ xs) x = ap (λ z. apply (arg_function y) z (arg_tree y)) (spine_push h xs x)

contraction_deep : (t : Tree) → 4096 < depth t → contraction t ≡ blocked deep
contraction_deep t h = let e : ltb deepest (depth t) ≡ true = lt-ltb deepest (depth t) h in rw e refl

contraction_low : (t : Tree) → depth t ≤ 4096 → contraction t ≡ to t
contraction_low t h = let e : ltb deepest (depth t) ≡ false = le-ltb deepest (depth t) h in rw e refl

limited_deep : (t : Tree) → 4096 < depth t → limited t ≡ no_value deep
limited_deep t h = let e : ltb deepest (depth t) ≡ true = lt-ltb deepest (depth t) h in rw e refl

limited_low : (t : Tree) → depth t ≤ 4096 → limited t ≡ value t
limited_low t h = let e : ltb deepest (depth t) ≡ false = le-ltb deepest (depth t) h in rw e refl

-- what is no function of types
abbrev IsPlain : Tree → Type 0
IsPlain (tlam a b) = ⊥
IsPlain (xtlam a b) = ⊥
IsPlain t = Unit {0}

module _ (u : Unfolding) where
  at_plain : (p q : Tree) → IsPlain p → written_step u (at_ p q) ≡ step_under of_term q (written_step u p)
  at_plain (tlam a b) q h = absurd h
  at_plain p q h = refl

  on_plain : (p q : Tree) → IsPlain p → written_step u (on p q) ≡ step_under of_type q (written_step u p)
  on_plain (xtlam a b) q h = absurd h
  on_plain p q h = refl

  app_plain : (x : EArg) (p : Tree) → IsPlain p → written_step u (apply (arg_function x) p (arg_tree x)) ≡ step_under (arg_function x) (arg_tree x) (written_step u p)
  app_plain (v.Term t) p h = at_plain p t h
  app_plain (v.OfType t) p h = on_plain p t h

  spine_plain : (h : Tree) (xs : List EArg) → IsPlain h → IsPlain (spine h xs)
  spine_plain h [] k = k
  spine_plain h (x ∷ xs) k = tt

  -- the step of a head is that of the head with its arguments
  under : List EArg → HeadStep → HeadStep
  under [] m = m
  under (x ∷ xs) m = step_under (arg_function x) (arg_tree x) (under xs m)

  spine_step : (h : Tree) (xs : List EArg) → IsPlain h → written_step u (spine h xs) ≡ under xs (written_step u h)
  unfolding under
  spine_step h [] k = refl
  spine_step h (x ∷ xs) k = app_plain x (spine h xs) (spine_plain h xs k) ∙ ap (step_under (arg_function x) (arg_tree x)) (spine_step h xs k)

  under_to : (xs : List EArg) (t : Tree) → under xs (to t) ≡ to (spine t xs)
  unfolding under
  under_to [] t = refl
  under_to (x ∷ xs) t = ap (step_under (arg_function x) (arg_tree x)) (under_to xs t)

  under_blocked : (xs : List EArg) (h : Halt) → under xs (blocked h) ≡ blocked h
  unfolding under
  under_blocked [] h = refl
  under_blocked (x ∷ xs) h = ap (step_under (arg_function x) (arg_tree x)) (under_blocked xs h)

  under_none : (xs : List EArg) → under xs none ≡ none
  unfolding under
  under_none [] = refl
  under_none (x ∷ xs) = ap (step_under (arg_function x) (arg_tree x)) (under_none xs)

  -- by the step, what the head form is
  step_on : (t t' : Tree) (old new : ℕ) → written_step u t ≡ to t' → old ≡ new + 1 → head_written u old t ≡ head_written u new t'
  step_on t t' old new e l = let i : old ≡ suc new = omega arith in rw i (goes (written_move u) (at t) (at t') (rw e refl) new)

  step_deep : (t : Tree) (old new : ℕ) → written_step u t ≡ blocked deep → old ≡ new + 1 → head_written u old t ≡ answered (no_value deep) new
  step_deep t old new e l = let i : old ≡ suc new = omega arith in
      rw i (goes (written_move u) (at t) (fallen deep) (rw e refl) new ∙ stops (written_move u) (fallen deep) (no_value deep) refl new)

  step_spent : (t : Tree) (m : HeadStep) (old : ℕ) → written_step u t ≡ m → (m ≡ none → ⊥) → old ≡ 0 → head_written u old t ≡ spent
  step_spent t none old e h l = absurd (h refl)
  step_spent t (to q) old e h l = rw l (spends (written_move u) (at t) (at q) (rw e refl))
  step_spent t (blocked z) old e h l = rw l (spends (written_move u) (at t) (fallen z) (rw e refl))

  step_none : (t : Tree) (n : ℕ) → written_step u t ≡ none → head_written u n t ≡ answered (limited t) n
  step_none t n e = stops (written_move u) (at t) (limited t) (rw e refl) n

  -- an unfolding
  name_step : (n : ℕ) (xs : List EArg) (b : Tree) → u n ≡ Some b → written_step u (spine (name n) xs) ≡ to (spine b xs)
  name_step n xs b e = spine_step (name n) xs tt ∙ ap (under xs) (rw e refl) ∙ under_to xs b

  pub unfolds_to : (n : ℕ) (xs : List EArg) (b r : Tree) (old new : ℕ) → u n ≡ Some b → r ≡ b → depth b ≤ 32768 → old ≡ new + 1 → IsStep u (name n) xs old xs new (Ok r)
  unfolds_to n xs b r old new e i l k = (
    rw i (step_on (spine (name n) xs) (spine b xs) old new (name_step n xs b e) k),
    rw i l,
    inl (omega arith),
  )

  pub unfolds_spent : (n : ℕ) (xs ys : List EArg) (b : Tree) (old new : ℕ) (s : ElabStop) → u n ≡ Some b → s ≡ Spent → old ≡ 0 → IsStep u (name n) xs old ys new (Err s)
  unfolds_spent n xs ys b old new s e i l = rw i (step_spent (spine (name n) xs) (to (spine b xs)) old (name_step n xs b e) (λ i. grind arith) l)

  -- a contraction
  contraction_some : (t : Tree) → contraction t ≡ none → ⊥
  contraction_some t e = by_test (ltb deepest (depth t)) e
    where
      by_test : (b : Bool) → cond b (blocked deep) (to t) ≡ none → ⊥
      by_test true e = grind arith
      by_test false e = grind arith

  -- the head is a function, and with its innermost argument it has the step of a contraction
  module _ (h q : Tree) (x : EArg) (e : written_step u (apply (arg_function x) h (arg_tree x)) ≡ contraction q) (xs : List EArg) where
    redex : written_step u (spine h (xs ++ (x ∷ []))) ≡ under xs (contraction q)
    redex = ap (written_step u) (spine_push h xs x) ∙ spine_step (apply (arg_function x) h (arg_tree x)) xs tt ∙ ap (under xs) e

    under_some : (ys : List EArg) (m : HeadStep) → (m ≡ none → ⊥) → under ys m ≡ none → ⊥
    under_some ys none k i = k refl
    under_some ys (to t) k i = let j : to (spine t ys) ≡ none = sym (under_to ys t) ∙ i in grind arith
    under_some ys (blocked z) k i = let j : blocked z ≡ none = sym (under_blocked ys z) ∙ i in grind arith

    pub contracts_spent : (ys : List EArg) (old new : ℕ) (e : ElabStop) → e ≡ Spent → old ≡ 0 → IsStep u h (xs ++ (x ∷ [])) old ys new (Err e)
    contracts_spent ys old new e i l = rw i (step_spent (spine h (xs ++ (x ∷ []))) (under xs (contraction q)) old redex (under_some xs (contraction q) (contraction_some q)) l)

    pub contracts_to : (r : Tree) (old new : ℕ) → old ≡ new + 1 → Gives q (Ok r) → IsStep u h (xs ++ (x ∷ [])) old xs new (Ok r)
    contracts_to r old new l g = (
      rw (g.0) (step_on (spine h (xs ++ (x ∷ []))) (spine q xs) old new (redex ∙ ap (under xs) (contraction_low q g.1) ∙ under_to xs q) l),
      (let k = g.1 in rw (g.0) (omega arith)),
      inl (omega arith),
    )

    pub contracts_stopped : (ys : List EArg) (old new : ℕ) (cause : TreeStop) → old ≡ new + 1 → Gives q (Err cause) → IsStep u h (xs ++ (x ∷ [])) old ys new (Err (stop_of cause))
    contracts_stopped ys old new z.TooDeep l g = (new, step_deep (spine h (xs ++ (x ∷ []))) old new (redex ∙ ap (under xs) (contraction_deep q g) ∙ under_blocked xs deep) l)
    contracts_stopped ys old new z.NoMemory l g = tt

  -- an argument of the head is put on the list
  unwinds : (p : Tree) (xs : List EArg) (x : EArg) (r : Tree) (units : ℕ) → r ≡ p → depth (apply (arg_function x) p (arg_tree x)) ≤ 32768
      → IsStep u (apply (arg_function x) p (arg_tree x)) xs units (xs ++ (x ∷ [])) units (Ok r)
  unwinds p xs x r units e l = (
    rw e (ap (head_written u units) (sym (spine_push p xs x))),
    rw e (omega arith),
    inr (refl, rw e (omega arith)),
  )

  -- a head without a step
  function_none : (p : Tree) (x : EArg) (ys : List EArg) → written_step u (apply (arg_function x) p (arg_tree x)) ≡ none → written_step u (spine p (ys ++ (x ∷ []))) ≡ none
  function_none p x ys e = ap (written_step u) (spine_push p ys x) ∙ spine_step (apply (arg_function x) p (arg_tree x)) ys tt ∙ ap (under ys) e ∙ under_none ys

  -- a list is empty, or has an innermost argument
  ends_with : (xs : List EArg) → (xs ≡ []) ⊎ ((ys : List EArg) × (x : EArg) × (xs ≡ ys ++ (x ∷ [])) × (innermost xs ≡ Some x))
  ends_with [] = inl refl
  ends_with (x ∷ []) = inr ([], x, refl, refl)
  ends_with (x ∷ y ∷ xs) = more (ends_with (y ∷ xs))
    where
      more : ((y ∷ xs) ≡ []) ⊎ ((ys : List EArg) × (v : EArg) × ((y ∷ xs) ≡ ys ++ (v ∷ [])) × (innermost (y ∷ xs) ≡ Some v))
          → ((x ∷ y ∷ xs) ≡ []) ⊎ ((ys : List EArg) × (v : EArg) × ((x ∷ y ∷ xs) ≡ ys ++ (v ∷ [])) × (innermost (x ∷ y ∷ xs) ≡ Some v))
      more (inl e) = absurd (grind arith)
      more (inr (ys, v, e, f)) = inr (x ∷ ys, v, ap (◌∷◌ x) e, f)

  plain_none : (h : Tree) (xs : List EArg) → IsPlain h → written_step u h ≡ none → written_step u (spine h xs) ≡ none
  plain_none h xs k e = spine_step h xs k ∙ ap (under xs) e ∙ under_none xs

  tlam_none : (p q : Tree) (xs : List EArg) → IsStill u (tlam p q) (innermost xs) → written_step u (spine (tlam p q) xs) ≡ none
  tlam_none p q xs h = by_end (ends_with xs)
    where
      of_innermost : (x : EArg) → IsStill u (tlam p q) (Some x) → written_step u (apply (arg_function x) (tlam p q) (arg_tree x)) ≡ none
      of_innermost (v.Term t) k = absurd k
      of_innermost (v.OfType t) k = refl

      by_end : (xs ≡ []) ⊎ ((ys : List EArg) × (x : EArg) × (xs ≡ ys ++ (x ∷ [])) × (innermost xs ≡ Some x)) → written_step u (spine (tlam p q) xs) ≡ none
      by_end (inl e) = rw e refl
      by_end (inr (ys, x, e, f)) = ap (λ l. written_step u (spine (tlam p q) l)) e ∙ function_none (tlam p q) x ys (of_innermost x (subst (IsStill u (tlam p q)) f h))

  xtlam_none : (p q : Tree) (xs : List EArg) → IsStill u (xtlam p q) (innermost xs) → written_step u (spine (xtlam p q) xs) ≡ none
  xtlam_none p q xs h = by_end (ends_with xs)
    where
      of_innermost : (x : EArg) → IsStill u (xtlam p q) (Some x) → written_step u (apply (arg_function x) (xtlam p q) (arg_tree x)) ≡ none
      of_innermost (v.OfType t) k = absurd k
      of_innermost (v.Term t) k = refl

      by_end : (xs ≡ []) ⊎ ((ys : List EArg) × (x : EArg) × (xs ≡ ys ++ (x ∷ [])) × (innermost xs ≡ Some x)) → written_step u (spine (xtlam p q) xs) ≡ none
      by_end (inl e) = rw e refl
      by_end (inr (ys, x, e, f)) = ap (λ l. written_step u (spine (xtlam p q) l)) e ∙ function_none (xtlam p q) x ys (of_innermost x (subst (IsStill u (xtlam p q)) f h))

  pub still_none : (h : Tree) (xs : List EArg) → IsStill u h (innermost xs) → written_step u (spine h xs) ≡ none
  still_none (name n) xs k = plain_none (name n) xs tt (rw k refl)
  still_none (at_ p q) xs k = absurd k
  still_none (on p q) xs k = absurd k
  still_none (tlam p q) xs k = tlam_none p q xs k
  still_none (xtlam p q) xs k = xtlam_none p q xs k
  still_none h xs k = plain_none h xs tt refl

  -- the head form is the whole tree, or that is too deep
  pub whole_is : (h : Tree) (xs : List EArg) (n : ℕ) (r : Tree) → IsStill u h (innermost xs) → r ≡ spine h xs → depth (spine h xs) ≤ 4096 → IsHead (head_written u n (spine h xs)) (Ok r)
  whole_is h xs n r k e l = (n, step_none (spine h xs) n (still_none h xs k) ∙ rw e (ap (λ z. answered z n) (limited_low (spine h xs) l)))

  pub whole_deep : (h : Tree) (xs : List EArg) (n : ℕ) → IsStill u h (innermost xs) → 4096 < depth (spine h xs) → IsHead (head_written u n (spine h xs)) (Err TooDeep)
  whole_deep h xs n k l = (n, step_none (spine h xs) n (still_none h xs k) ∙ ap (λ z. answered z n) (limited_deep (spine h xs) l))

  -- what is answered after a move is answered before
  pub carried : (t t' : Tree) (old new : ℕ) (o : Result Tree ElabStop) → head_written u old t ≡ head_written u new t' → IsHead (head_written u new t') o → IsHead (head_written u old t) o
  carried t t' old new (Ok h) e k = (k.0, e ∙ k.1)
  carried t t' old new (Err Spent) e k = e ∙ k
  carried t t' old new (Err TooDeep) e k = (k.0, e ∙ k.1)
  carried t t' old new (Err NoMemory) e k = tt

  -- the same of a tree that is so applied
  pub unwound : (h p : Tree) (xs : List EArg) (x : EArg) (r : Tree) (units : ℕ) → h ≡ apply (arg_function x) p (arg_tree x) → r ≡ p → depth h ≤ 32768
      → IsStep u h xs units (xs ++ (x ∷ [])) units (Ok r)
  unwound h p xs x r units e f l =
      subst (λ z. IsStep u z xs units (xs ++ (x ∷ [])) units (Ok r)) (sym e) (unwinds p xs x r units f (subst (λ z. depth z ≤ 32768) e l))

  -- the same of a head that is written otherwise, and with the innermost argument apart
  pub of_same : {h k : Tree} (xs ys : List EArg) (old new : ℕ) (r : Result Tree ElabStop) → h ≡ k → IsStep u k xs old ys new r → IsStep u h xs old ys new r
  of_same xs ys old new r e = subst (λ z. IsStep u z xs old ys new r) (sym e)

  pub of_popped : {h k : Tree} {xs : List EArg} (ys : List EArg) {x y : EArg} (old new : ℕ) (r : Result Tree ElabStop) → h ≡ k → xs ≡ ys ++ (x ∷ []) → x ≡ y
      → IsStep u k (ys ++ (y ∷ [])) old ys new r → IsStep u h xs old ys new r
  of_popped {k = k} {xs = xs} ys {y = y} old new r e f g s =
      subst (λ z. IsStep u z xs old ys new r) (sym e) (subst (λ z. IsStep u k z old ys new r) (sym (f ∙ ap (λ z. ys ++ (z ∷ [])) g)) s)

  -- a head that is a function moves only with an argument of its kind
  pub moving : {h k : Tree} {xs : List EArg} (ys : List EArg) {x y : EArg} → h ≡ k → xs ≡ ys ++ (x ∷ []) → x ≡ y → (IsStill u h (innermost xs) → ⊥) → IsStill u k (Some y) → ⊥
  moving {k = k} {xs = xs} ys {x = x} e f g m i =
      m (subst (λ z. IsStill u z (innermost xs)) (sym e) (subst (IsStill u k) (sym (ap innermost f ∙ innermost_push ys x ∙ ap Some g)) i))
