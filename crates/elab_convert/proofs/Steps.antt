-- The moves of the code at a head with its arguments, by the definition of head forms.
use Rattle.std.proofs.Common.{◌≡◌, ◌⊎◌, inl, inr, ℕ, zero, suc, ◌+◌, ◌<◌, ◌≤◌, Bool, true, false, cond, ltb, List, [], ◌∷◌, ◌++◌, length, Some, None, slice_get, Ok, Err, refl, sym, ap, ◌∙◌, subst, arith}
use Rattle.std.proofs.lemmas.Bool.{lt-ltb, le-ltb}
use Rattle.cdle_model.specs.Trees.{Function, of_pure, of_term, of_type, Tree, var, name, leaf, unary, fun, apply, binary, bind, put}
use Rattle.cdle_model.specs.Forms.{fn, Written, def_item, type_item}
use Rattle.cdle_model.specs.Depth.{depth}
use Rattle.cdle_model.specs.Machine.{answered, spent}
use Rattle.cdle_model.specs.HeadForms.{Halt, deep, deepest, HeadStep, none, to, blocked, contraction, step_under, if_same, ill_applied, at, fallen, value, no_value, head_step, head_move, head_form}
use Rattle.cdle_model.proofs.Runs.{stops, spends, goes}
use Rattle.elab_tree.specs.Answers.{Gives}
use Rattle.elab_tree.specs.Items.{IsErasedBody}
use Rattle.elab_tree.specs.Known.{Entry, HasErasedBody, item_in}
use Rattle.elab_tree.specs.declared.items.ErasedBody.{ErasedBody}
use Rattle.elab_tree.specs.declared.items.ErasedBody.TheVariants as b
use Rattle.elab_tree.specs.declared.stop.TreeStop.{TreeStop}
use Rattle.elab_tree.specs.declared.stop.TreeStop.TheVariants as z
use Rattle.elab_convert.specs.declared.side.Arg.{Arg}
use Rattle.elab_convert.specs.declared.side.Arg.TheVariants as a
use Rattle.elab_convert.specs.declared.side.Erased.{Erased}
use Rattle.elab_convert.specs.declared.head.HeadMove.TheVariants as m
use Rattle.elab_convert.specs.declared.side.Root.TheVariants as r
use Rattle.elab_convert.specs.declared.stop.ConvertStop.TheVariants.{Spent}
use Rattle.elab_convert.specs.Bodies.{body_of, body_tree, bodies_of}
use Rattle.elab_convert.specs.Formers.{IsFormer}
use Rattle.elab_convert.specs.Sides.{arg_function, arg_tree, erased_tree, spine}
use Rattle.elab_convert.specs.Heads.{IsMove, convert_stop}

pub spine_push : (h : Tree) (xs : List Arg) (x : Arg) → spine h (xs ++ (x ∷ [])) ≡ spine (apply (arg_function x) h (arg_tree x)) xs
spine_push h [] x = refl
spine_push h (y ∷ xs) x = ap (λ t. apply (arg_function y) t (arg_tree y)) (spine_push h xs x)

contraction_deep : (t : Tree) → 4096 < depth t → contraction t ≡ blocked deep
contraction_deep t h = let e : ltb deepest (depth t) ≡ true = lt-ltb deepest (depth t) h in rw e refl

contraction_low : (t : Tree) → depth t ≤ 4096 → contraction t ≡ to t
contraction_low t h = let e : ltb deepest (depth t) ≡ false = le-ltb deepest (depth t) h in rw e refl

-- what is no function
abbrev pub IsPlain : Tree → Type 0
IsPlain (fun c p) = ⊥
IsPlain t = Unit {0}

-- the bodies of the items, by their numbers
same_body : (w : Written) (e : ErasedBody) → IsErasedBody w e → body_of w ≡ body_tree e
same_body (def_item x k t) (b.OfTerm p) h = sym h
same_body (def_item x k t) (b.OfType p) h = absurd h
same_body (type_item x k t) (b.OfTerm p) h = absurd h
same_body (type_item x k t) (b.OfType p) h = sym h

pub body_at : (es : List Entry) (n : ℕ) (e : ErasedBody) → HasErasedBody (item_in (slice_get es n)) e → slice_get (bodies_of es) n ≡ Some (body_tree e)
body_at [] n e h = absurd h
body_at (d ∷ es) zero e h = ap Some (same_body d.item e h)
body_at (d ∷ es) (suc n) e h = body_at es n e h

pub no_body : (es : List Entry) (n : ℕ) → length es ≤ n → slice_get (bodies_of es) n ≡ None
no_body [] n l = refl
no_body (d ∷ es) zero l = absurd (omega arith)
no_body (d ∷ es) (suc n) l = no_body es n (omega arith)

pub some_body : (es : List Entry) (n : ℕ) → n < length es → (t : Tree) × (slice_get (bodies_of es) n ≡ Some t)
some_body [] n l = absurd (omega arith)
some_body (d ∷ es) zero l = (body_of d.item, refl)
some_body (d ∷ es) (suc n) l = some_body es n (omega arith)

module _ (s : List Tree) where
  plain_step : (c : Function) (p q : Tree) → IsPlain p → head_step s (apply c p q) ≡ step_under c q (head_step s p)
  plain_step c (fun d p) q h = absurd h
  plain_step c p q h = refl

  spine_plain : (h : Tree) (xs : List Arg) → IsPlain h → IsPlain (spine h xs)
  spine_plain h [] k = k
  spine_plain h (x ∷ xs) k = tt

  -- the step of a head is that of the head with its arguments
  under : List Arg → HeadStep → HeadStep
  under [] m = m
  under (x ∷ xs) m = step_under (arg_function x) (arg_tree x) (under xs m)

  spine_step : (h : Tree) (xs : List Arg) → IsPlain h → head_step s (spine h xs) ≡ under xs (head_step s h)
  unfolding under
  spine_step h [] k = refl
  spine_step h (x ∷ xs) k = plain_step (arg_function x) (spine h xs) (arg_tree x) (spine_plain h xs k) ∙ ap (step_under (arg_function x) (arg_tree x)) (spine_step h xs k)

  under_to : (xs : List Arg) (t : Tree) → under xs (to t) ≡ to (spine t xs)
  unfolding under
  under_to [] t = refl
  under_to (x ∷ xs) t = ap (step_under (arg_function x) (arg_tree x)) (under_to xs t)

  under_blocked : (xs : List Arg) (h : Halt) → under xs (blocked h) ≡ blocked h
  unfolding under
  under_blocked [] h = refl
  under_blocked (x ∷ xs) h = ap (step_under (arg_function x) (arg_tree x)) (under_blocked xs h)

  under_none : (xs : List Arg) → under xs none ≡ none
  unfolding under
  under_none [] = refl
  under_none (x ∷ xs) = ap (step_under (arg_function x) (arg_tree x)) (under_none xs)

  -- by the step, what the head form is
  step_on : (t t' : Tree) (old new : ℕ) → head_step s t ≡ to t' → old ≡ new + 1 → head_form s old t ≡ head_form s new t'
  step_on t t' old new e l = let i : old ≡ suc new = omega arith in rw i (goes (head_move s) (at t) (at t') (rw e refl) new)

  step_deep : (t : Tree) (old new : ℕ) → head_step s t ≡ blocked deep → old ≡ new + 1 → head_form s old t ≡ answered (no_value deep) new
  step_deep t old new e l = let i : old ≡ suc new = omega arith in
      rw i (goes (head_move s) (at t) (fallen deep) (rw e refl) new ∙ stops (head_move s) (fallen deep) (no_value deep) refl new)

  step_spent : (t : Tree) (m : HeadStep) (old : ℕ) → head_step s t ≡ m → (m ≡ none → ⊥) → old ≡ 0 → head_form s old t ≡ spent
  step_spent t none old e h l = absurd (h refl)
  step_spent t (to q) old e h l = rw l (spends (head_move s) (at t) (at q) (rw e refl))
  step_spent t (blocked z) old e h l = rw l (spends (head_move s) (at t) (fallen z) (rw e refl))

  step_none : (t : Tree) (n : ℕ) → head_step s t ≡ none → head_form s n t ≡ answered (value t) n
  step_none t n e = stops (head_move s) (at t) (value t) (rw e refl) n

  plain_none : (h : Tree) (xs : List Arg) → IsPlain h → head_step s h ≡ none → head_step s (spine h xs) ≡ none
  plain_none h xs k e = spine_step h xs k ∙ ap (under xs) e ∙ under_none xs

  -- heads without a step
  pub variable_still : (i : ℕ) (xs : List Arg) (n : ℕ) → IsMove s (var i) xs n xs n (Ok (m.Root (r.Variable i)))
  variable_still i xs n = (step_none (spine (var i) xs) n (plain_none (var i) xs tt refl), refl)

  pub constant_still : (k : ℕ) (xs : List Arg) (n : ℕ) → slice_get s k ≡ None → IsMove s (name k) xs n xs n (Ok (m.Root (r.Constant k)))
  constant_still k xs n e = (step_none (spine (name k) xs) n (plain_none (name k) xs tt (rw e refl)), refl)

  pub function_still : (b t : Tree) (n : ℕ) → t ≡ b → IsMove s (fn b) [] n [] n (Ok (m.Function t))
  function_still b t n e = rw e (step_none (fn b) n refl, refl)

  pub former_still : (h : Tree) (xs : List Arg) (n : ℕ) → IsFormer h → (xs ≡ []) ⊎ IsPlain h → IsMove s h xs n xs n (Ok m.Former)
  former_still h xs n f k = ((step_none (spine h xs) n (still h xs f k), refl), f)
    where
      no_step : (h : Tree) → IsFormer h → head_step s h ≡ none
      no_step (var i) f = absurd f
      no_step (name i) f = absurd f
      no_step (leaf l) f = refl
      no_step (unary j p) f = refl
      no_step (fun c p) f = refl
      no_step (apply c p q) f = absurd f
      no_step (binary j p q) f = refl
      no_step (bind j p q) f = refl

      still : (h : Tree) (xs : List Arg) → IsFormer h → (xs ≡ []) ⊎ IsPlain h → head_step s (spine h xs) ≡ none
      still h xs f (inl e) = ap (λ ys. head_step s (spine h ys)) e ∙ no_step h f
      still h xs f (inr k) = plain_none h xs k (no_step h f)

  -- an unfolding
  name_step : (n : ℕ) (xs : List Arg) (b : Tree) → slice_get s n ≡ Some b → head_step s (spine (name n) xs) ≡ to (spine b xs)
  name_step n xs b e = spine_step (name n) xs tt ∙ ap (under xs) (rw e refl) ∙ under_to xs b

  pub unfolds_to : (n : ℕ) (xs : List Arg) (b : Tree) (t : Erased) (old new : ℕ) → slice_get s n ≡ Some b → erased_tree t ≡ b → depth (erased_tree t) ≤ 32768 → old ≡ new + 1 → IsMove s (name n) xs old xs new (Ok (m.To t))
  unfolds_to n xs b t old new e i l k = (
    rw i (step_on (spine (name n) xs) (spine b xs) old new (name_step n xs b e) k),
    inl (omega arith, l),
  )

  pub unfolds_spent : (n : ℕ) (xs ys : List Arg) (b : Tree) (old new : ℕ) → slice_get s n ≡ Some b → old ≡ 0 → IsMove s (name n) xs old ys new (Err Spent)
  unfolds_spent n xs ys b old new e l = step_spent (spine (name n) xs) (to (spine b xs)) old (name_step n xs b e) (λ i. grind arith) l

  -- a contraction
  contraction_some : (t : Tree) → contraction t ≡ none → ⊥
  contraction_some t e = by_test (ltb deepest (depth t)) e
    where
      by_test : (b : Bool) → cond b (blocked deep) (to t) ≡ none → ⊥
      by_test true e = grind arith
      by_test false e = grind arith

  under_some : (ys : List Arg) (m : HeadStep) → (m ≡ none → ⊥) → under ys m ≡ none → ⊥
  under_some ys none k i = k refl
  under_some ys (to t) k i = let j : to (spine t ys) ≡ none = sym (under_to ys t) ∙ i in grind arith
  under_some ys (blocked z) k i = let j : blocked z ≡ none = sym (under_blocked ys z) ∙ i in grind arith

  one_function : {A : Type 0} (c : Function) (p q : A) → if_same c c p q ≡ p
  one_function of_pure p q = refl
  one_function of_term p q = refl
  one_function of_type p q = refl

  module _ (b : Tree) (x : Arg) (xs : List Arg) where
    redex : head_step s (spine (fun (arg_function x) b) (xs ++ (x ∷ []))) ≡ under xs (contraction (put 0 (arg_tree x) b))
    redex =
        ap (head_step s) (spine_push (fun (arg_function x) b) xs x) ∙ spine_step (apply (arg_function x) (fun (arg_function x) b) (arg_tree x)) xs tt
        ∙ ap (under xs) (one_function (arg_function x) (contraction (put 0 (arg_tree x) b)) (ill_applied (arg_function x)))

    pub contracts_spent : (ys : List Arg) (old new : ℕ) → old ≡ 0 → IsMove s (fun (arg_function x) b) (xs ++ (x ∷ [])) old ys new (Err Spent)
    contracts_spent ys old new l =
        step_spent (spine (fun (arg_function x) b) (xs ++ (x ∷ []))) (under xs (contraction (put 0 (arg_tree x) b))) old redex (under_some xs (contraction (put 0 (arg_tree x) b)) (contraction_some (put 0 (arg_tree x) b))) l

    pub contracts_to : (t : Erased) (old new : ℕ) → old ≡ new + 1 → Gives (put 0 (arg_tree x) b) (Ok (erased_tree t)) → IsMove s (fun (arg_function x) b) (xs ++ (x ∷ [])) old xs new (Ok (m.To t))
    contracts_to t old new l g = (
      rw (g.0) (step_on (spine (fun (arg_function x) b) (xs ++ (x ∷ []))) (spine (put 0 (arg_tree x) b) xs) old new (redex ∙ ap (under xs) (contraction_low (put 0 (arg_tree x) b) g.1) ∙ under_to xs (put 0 (arg_tree x) b)) l),
      inl (omega arith, (let k = g.1 in rw (g.0) (omega arith))),
    )

    pub contracts_not : (ys : List Arg) (old new : ℕ) (e : TreeStop) → old ≡ new + 1 → Gives (put 0 (arg_tree x) b) (Err e) → IsMove s (fun (arg_function x) b) (xs ++ (x ∷ [])) old ys new (Err (convert_stop e))
    contracts_not ys old new z.TooDeep l g =
        (new, step_deep (spine (fun (arg_function x) b) (xs ++ (x ∷ []))) old new (redex ∙ ap (under xs) (contraction_deep (put 0 (arg_tree x) b) g) ∙ under_blocked xs deep) l)
    contracts_not ys old new z.NoMemory l g = tt

    -- a function of types under an argument that is not its own is stuck
    pub stuck_at : ((t : Tree) → x ≡ a.OfTerm t → ⊥) → (n : ℕ) → IsMove s (fun of_term b) (xs ++ (x ∷ [])) n (xs ++ (x ∷ [])) n (Ok m.Former)
    stuck_at h n = (
      (
        step_none (spine (fun of_term b) (xs ++ (x ∷ []))) n (
            ap (head_step s) (spine_push (fun of_term b) xs x) ∙ spine_step (apply (arg_function x) (fun of_term b) (arg_tree x)) xs tt ∙ ap (under xs) (other x h) ∙ under_none xs
            ),
        refl,
      ),
      tt,
    )
      where
        other : (x : Arg) → ((t : Tree) → x ≡ a.OfTerm t → ⊥) → head_step s (apply (arg_function x) (fun of_term b) (arg_tree x)) ≡ none
        other (a.OfPure t) h = refl
        other (a.OfTerm t) h = absurd (h t refl)
        other (a.OfType t) h = refl

    pub stuck_on : ((t : Tree) → x ≡ a.OfType t → ⊥) → (n : ℕ) → IsMove s (fun of_type b) (xs ++ (x ∷ [])) n (xs ++ (x ∷ [])) n (Ok m.Former)
    stuck_on h n = (
      (
        step_none (spine (fun of_type b) (xs ++ (x ∷ []))) n (
            ap (head_step s) (spine_push (fun of_type b) xs x) ∙ spine_step (apply (arg_function x) (fun of_type b) (arg_tree x)) xs tt ∙ ap (under xs) (other x h) ∙ under_none xs
            ),
        refl,
      ),
      tt,
    )
      where
        other : (x : Arg) → ((t : Tree) → x ≡ a.OfType t → ⊥) → head_step s (apply (arg_function x) (fun of_type b) (arg_tree x)) ≡ none
        other (a.OfPure t) h = refl
        other (a.OfTerm t) h = refl
        other (a.OfType t) h = absurd (h t refl)

  -- an argument of the head is put on the list
  pub unwinds : (h : Tree) (x : Arg) (xs : List Arg) (t : Erased) (units : ℕ) → h ≡ apply (arg_function x) (erased_tree t) (arg_tree x)
      → IsMove s h xs units (xs ++ (x ∷ [])) units (Ok (m.To t))
  unwinds h x xs t units e = subst (λ k. IsMove s k xs units (xs ++ (x ∷ [])) units (Ok (m.To t))) (sym e) (
    ap (head_form s units) (sym (spine_push (erased_tree t) xs x)),
    inr (refl, omega arith),
  )
