-- One step at the head of a tree with arguments.
use Rattle.std.proofs.Common.{◌≡◌, inl, inr, ℕ, zero, suc, ◌+◌, ◌<◌, ◌≤◌, Bool, true, false, cond, ltb, List, [], ◌∷◌, ◌++◌, Some, Ok, Err, slice_get, sym, ◌∙◌, subst, refl, ap, arith}
use Rattle.std.proofs.lemmas.Bool.{lt-ltb, le-ltb}
use Rattle.cdle_model.specs.Trees.{Function, of_pure, of_term, of_type, Tree, var, name, leaf, unary, fun, apply, binary, bind, put}
use Rattle.cdle_model.specs.Depth.{depth}
use Rattle.cdle_model.specs.Classes.{Scope, Fits}
use Rattle.cdle_model.specs.HeadForms.{deep, Halt, deepest, HeadStep, none, to, blocked, contraction, if_same, ill_applied, head_step}
use Rattle.core_tree.specs.declared.stop.PutStop.{PutStop}
use Rattle.core_tree.specs.declared.stop.PutStop.TheVariants as z
use Rattle.core_tree.specs.Nodes.{PutGives}
use Rattle.core_reduce.specs.declared.root.Root.{Root}
use Rattle.core_reduce.specs.declared.root.Arg.{Arg}
use Rattle.core_reduce.specs.declared.side.SideClass.{SideClass}
use Rattle.core_reduce.specs.declared.side.SideClass.TheVariants.{OfPure, OfType, OfKind}
use Rattle.core_reduce.specs.Sides.{class_trees, root_class, root_tree, arg_function, arg_tree, spine}
use Rattle.core_reduce.specs.Heads.{innermost, IsStill, Halts, MeetsStep, put_stop_of}
use Rattle.core_reduce.proofs.Spines.{spine_push, spine_head}
use Rattle.core_reduce.proofs.Values.{function_alone}

-- no unit is left where none could be taken
pub none_left : (left : ℕ) (r : Bool) → (0 < left → r ≡ true) → r ≡ false → left ≡ 0
none_left zero r f e = refl
none_left (suc n) r f e = let l : 0 < suc n = omega arith in let g : r ≡ true = f l in cc

if_same_one : {A : Type 0} (c : Function) (x y : A) → if_same c c x y ≡ x
if_same_one of_pure x y = refl
if_same_one of_term x y = refl
if_same_one of_type x y = refl

if_same_other : {A : Type 0} (c d : Function) (x y : A) → (c ≡ d → ⊥) → if_same c d x y ≡ y
if_same_other of_pure of_pure x y n = absurd (n refl)
if_same_other of_pure of_term x y n = refl
if_same_other of_pure of_type x y n = refl
if_same_other of_term of_pure x y n = refl
if_same_other of_term of_term x y n = absurd (n refl)
if_same_other of_term of_type x y n = refl
if_same_other of_type of_pure x y n = refl
if_same_other of_type of_term x y n = refl
if_same_other of_type of_type x y n = absurd (n refl)

contraction_deep : (t : Tree) → 4096 < depth t → contraction t ≡ blocked deep
contraction_deep t h = let e : ltb deepest (depth t) ≡ true = lt-ltb deepest (depth t) h in rw e refl

contraction_low : (t : Tree) → depth t ≤ 4096 → contraction t ≡ to t
contraction_low t h = let e : ltb deepest (depth t) ≡ false = le-ltb deepest (depth t) h in rw e refl

contraction_moves : (t : Tree) → contraction t ≡ none → ⊥
contraction_moves t e = by_test (ltb deepest (depth t)) e
  where
    by_test : (b : Bool) → cond b (blocked deep) (to t) ≡ none → ⊥
    by_test true e = cc
    by_test false e = cc

module _ (s : List Tree) where
  app_to : (c : Function) (p q u : Tree) → head_step s p ≡ to u → head_step s (apply c p q) ≡ to (apply c u q)
  app_to c (var i) q u e = cc
  app_to c (name n) q u e = rw e refl
  app_to c (leaf l) q u e = cc
  app_to c (unary j p) q u e = cc
  app_to c (fun d p) q u e = cc
  app_to c (apply d p r) q u e = rw e refl
  app_to c (binary j p r) q u e = cc
  app_to c (bind f p r) q u e = cc

  app_blocked : (c : Function) (p q : Tree) (h : Halt) → head_step s p ≡ blocked h → head_step s (apply c p q) ≡ blocked h
  app_blocked c (var i) q h e = cc
  app_blocked c (name n) q h e = rw e refl
  app_blocked c (leaf l) q h e = cc
  app_blocked c (unary j p) q h e = cc
  app_blocked c (fun d p) q h e = cc
  app_blocked c (apply d p r) q h e = rw e refl
  app_blocked c (binary j p r) q h e = cc
  app_blocked c (bind f p r) q h e = cc

  -- what is no function
  abbrev IsPlain : Tree → Type 0
  IsPlain (fun c p) = ⊥
  IsPlain t = Unit {0}

  app_none : (c : Function) (p q : Tree) → IsPlain p → head_step s p ≡ none → head_step s (apply c p q) ≡ none
  app_none c (var i) q k e = refl
  app_none c (name n) q k e = rw e refl
  app_none c (leaf l) q k e = refl
  app_none c (unary j p) q k e = refl
  app_none c (fun d p) q k e = absurd k
  app_none c (apply d p r) q k e = rw e refl
  app_none c (binary j p r) q k e = refl
  app_none c (bind f p r) q k e = refl

  spine_to : (h u : Tree) (xs : List Arg) → head_step s h ≡ to u → head_step s (spine h xs) ≡ to (spine u xs)
  spine_to h u [] e = e
  spine_to h u (x ∷ xs) e = app_to (arg_function x) (spine h xs) (arg_tree x) (spine u xs) (spine_to h u xs e)

  spine_blocked : (h : Tree) (z : Halt) (xs : List Arg) → head_step s h ≡ blocked z → head_step s (spine h xs) ≡ blocked z
  spine_blocked h z [] e = e
  spine_blocked h z (x ∷ xs) e = app_blocked (arg_function x) (spine h xs) (arg_tree x) z (spine_blocked h z xs e)

  spine_plain : (h : Tree) (xs : List Arg) → IsPlain h → IsPlain (spine h xs)
  spine_plain h [] k = k
  spine_plain h (x ∷ xs) k = tt

  spine_none : (h : Tree) (xs : List Arg) → IsPlain h → head_step s h ≡ none → head_step s (spine h xs) ≡ none
  spine_none h [] k e = e
  spine_none h (x ∷ xs) k e = app_none (arg_function x) (spine h xs) (arg_tree x) (spine_plain h xs k) (spine_none h xs k e)

  -- ---- heads without a step

  function_none : (c : Function) (p : Tree) (xs : List Arg) → ill_applied c ≡ none → IsStill (fun c p) (innermost xs) → head_step s (spine (fun c p) xs) ≡ none
  function_none c p [] m i = refl
  function_none c p (x ∷ []) m i = if_same_other (arg_function x) c (contraction (put 0 (arg_tree x) p)) (ill_applied c) i ∙ m
  function_none c p (x ∷ y ∷ ys) m i = app_none (arg_function x) (spine (fun c p) (y ∷ ys)) (arg_tree x) tt (function_none c p (y ∷ ys) m i)

  pure_class : (z : Scope) (k : SideClass) (p : Tree) → Fits z (class_trees k) (fun of_pure p) → k ≡ OfPure
  pure_class z OfPure p h = refl
  pure_class z OfType p h = absurd h
  pure_class z OfKind p h = absurd h

  pub still_none : (z : Scope) (k : SideClass) (h : Tree) (xs : List Arg) → Fits z (class_trees k) (spine h xs) → IsStill h (innermost xs) → head_step s (spine h xs) ≡ none
  still_none z k (var i) xs f g = spine_none (var i) xs tt refl
  still_none z k (name n) xs f g = absurd g
  still_none z k (leaf l) xs f g = spine_none (leaf l) xs tt refl
  still_none z k (unary j p) xs f g = spine_none (unary j p) xs tt refl
  still_none z k (fun of_pure p) xs f g =
      let e : k ≡ OfPure = pure_class z k p (spine_head z k (fun of_pure p) xs f) in
      let a : xs ≡ [] = function_alone z p xs (subst (λ y. Fits z (class_trees y) (spine (fun of_pure p) xs)) e f) g in
      subst (λ y. head_step s (spine (fun of_pure p) y) ≡ none) (sym a) refl
  still_none z k (fun of_term p) xs f g = function_none of_term p xs refl g
  still_none z k (fun of_type p) xs f g = function_none of_type p xs refl g
  still_none z k (apply c p q) xs f g = absurd g
  still_none z k (binary j p q) xs f g = spine_none (binary j p q) xs tt refl
  still_none z k (bind b p q) xs f g = spine_none (bind b p q) xs tt refl

  -- ---- an argument put on the list

  pub app_unwinds : (k : SideClass) (c : Function) (p q : Tree) (xs : List Arg) (x : Arg) (units : ℕ) (r : Root) → arg_function x ≡ c → arg_tree x ≡ q → root_tree r ≡ p → root_class r ≡ k
      → MeetsStep s k (apply c p q) xs units (xs ++ x ∷ []) units (Ok r)
  app_unwinds k c p q xs x units r e f g h = (
    h,
    inl (record {
      is = rw (g, ← e, ← f) (spine_push p xs x);
      units = refl;
      smaller = rw g (omega arith);
    }),
  )

  -- ---- an unfolding

  pub unfolds : (k : SideClass) (n : ℕ) (xs : List Arg) (units left : ℕ) (u : Tree) (r : Root) → slice_get s n ≡ Some u → units ≡ left + 1 → depth u ≤ 65535 → root_class r ≡ k → root_tree r ≡ u
      → MeetsStep s k (name n) xs units xs left (Ok r)
  unfolds k n xs units left u r e t l h g = (
    h,
    inr (record {
      is = rw g (spine_to (name n) u xs (rw e refl));
      units = t;
      low = rw g l;
    }),
  )

  pub name_halts : (n : ℕ) (xs : List Arg) (units : ℕ) (u : Tree) → slice_get s n ≡ Some u → units ≡ 0 → Halts s (name n) xs units
  name_halts n xs units u e t = record {
    is = λ f. (let g : head_step s (spine (name n) xs) ≡ to (spine u xs) = spine_to (name n) u xs (rw e refl) in let h : to (spine u xs) ≡ none = sym g ∙ f in cc);
    units = t;
  }

  -- ---- a contraction with the innermost argument

  module _ (b : Tree) (xs : List Arg) (x : Arg) where
    redex : head_step s (spine (fun (arg_function x) b) (xs ++ x ∷ [])) ≡ head_step s (spine (apply (arg_function x) (fun (arg_function x) b) (arg_tree x)) xs)
    redex = ap (head_step s) (spine_push (fun (arg_function x) b) xs x)

    applied_step : head_step s (apply (arg_function x) (fun (arg_function x) b) (arg_tree x)) ≡ contraction (put 0 (arg_tree x) b)
    applied_step = if_same_one (arg_function x) (contraction (put 0 (arg_tree x) b)) (ill_applied (arg_function x))

    redex_step : (m : HeadStep) → contraction (put 0 (arg_tree x) b) ≡ m → (m ≡ none → ⊥) → head_step s (spine (fun (arg_function x) b) (xs ++ x ∷ [])) ≡ none → ⊥
    redex_step none e n h = n refl
    redex_step (to u) e n h = let f = redex ∙ spine_to _ u xs (applied_step ∙ e) in let g : to (spine u xs) ≡ none = sym f ∙ h in cc
    redex_step (blocked z) e n h = let f = redex ∙ spine_blocked _ z xs (applied_step ∙ e) in let g : blocked z ≡ none = sym f ∙ h in cc

    pub redex_halts : (units : ℕ) → units ≡ 0 → Halts s (fun (arg_function x) b) (xs ++ x ∷ []) units
    redex_halts units z = record { is = redex_step (contraction (put 0 (arg_tree x) b)) refl (contraction_moves (put 0 (arg_tree x) b)); units = z }

    pub redex_steps : (k : SideClass) (units left : ℕ) (r : Root) → root_class r ≡ k → units ≡ left + 1 → (root_tree r ≡ put 0 (arg_tree x) b) × (depth (put 0 (arg_tree x) b) ≤ 4096)
        → MeetsStep s k (fun (arg_function x) b) (xs ++ x ∷ []) units xs left (Ok r)
    redex_steps k units left r h t g = (
      h,
      inr (record {
        is = rw (g.0) (redex ∙ spine_to _ (put 0 (arg_tree x) b) xs (applied_step ∙ contraction_low (put 0 (arg_tree x) b) g.1));
        units = t;
        low = (let l = g.1 in rw (g.0) (omega arith));
      }),
    )

    pub redex_stops : (k : SideClass) (units left : ℕ) (e : PutStop) → units ≡ left + 1 → PutGives (put 0 (arg_tree x) b) (Err e)
        → MeetsStep s k (fun (arg_function x) b) (xs ++ x ∷ []) units xs left (Err (put_stop_of e))
    redex_stops k units left z.TooDeep t g = (redex ∙ spine_blocked _ deep xs (applied_step ∙ contraction_deep (put 0 (arg_tree x) b) g), t)
    redex_stops k units left z.NoMemory t g = tt
