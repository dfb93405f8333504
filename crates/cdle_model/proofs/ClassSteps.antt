-- Head forms and comparison of erased trees of a class: their moves, parts and pairs stay in a class, so they never end as ill classed.
use Rattle.std.proofs.Common.{◌≡◌, ◌⊎◌, inl, inr, ℕ, zero, suc, Bool, true, false, cond, ltb, List, [], ◌∷◌, ◌++◌, Option, Some, None, slice_get, refl, sym, ap, ◌∙◌, subst, arith}
use Rattle.cdle_model.specs.declared.grammar.Sort.{Sort}
use Rattle.cdle_model.specs.declared.grammar.Sort.TheVariants.{OfTerm, OfType}
use Rattle.cdle_model.specs.Trees.{Function, of_pure, of_term, of_type, Binary, Binder, Tree, var, name, leaf, unary, fun, apply, binary, bind, put}
use Rattle.cdle_model.specs.Depth.{depth}
use Rattle.cdle_model.specs.Classes.{TreeClass, pure_terms, guides, guide_kinds, within, fun_places, apply_places, binary_places, bind_places, Fits}
use Rattle.cdle_model.specs.Machine.{Move, stop, go, Budgeted, answered, spent, run}
use Rattle.cdle_model.specs.HeadForms.{Halt, deep, deepest, HeadStep, none, to, blocked, contraction, unfolding_of, step_under, head_step, at, fallen, HeadAnswer, value, no_value, head_move, head_form}
use Rattle.cdle_model.specs.Comparison.{Head, variable, constant, argument, applied_head, head_of, parts_of, Pair, pairs_of, function_of, applied, Split, into, differ, classless, same_heads, against, split_by, split, Answer, halted, State, pairs, taken, past, same_name, move_pairs, move_split, move_taken, move, compare}
use Rattle.cdle_model.specs.Fitting.{IsErased, class_of, BodiesFit}
use Rattle.cdle_model.proofs.Placed.{body_to, parts_to, domain_to, body_both, parts_both, domain_both, no_unary, fun_erased, apply_erased, binary_erased, bind_erased}
use Rattle.cdle_model.proofs.Runs.{stops, spends, goes}
use Rattle.cdle_model.proofs.HeadParts.{AllPairs, all-append, all-applied, form_of, same-form, count, count-parts, function-is, same_heads-cases}
use Rattle.cdle_model.proofs.ApartNotJoined.{app-value}
use Rattle.cdle_model.proofs.ClassSubstitution.{fits-put, fits-shift, fits-closed}

module _ (zs : List Sort) (s : List Tree) (w : BodiesFit zs s) where
  abbrev MoveFits : List Sort → TreeClass → HeadStep → Type 0
  MoveFits vs c none = Unit {0}
  MoveFits vs c (to b) = Fits (within vs zs) c b
  MoveFits vs c (blocked h) = h ≡ deep

  contraction-fits : (vs : List Sort) (c : TreeClass) (p : Tree) → Fits (within vs zs) c p → MoveFits vs c (contraction p)
  contraction-fits vs c p h = by_test (ltb deepest (depth p))
    where
      by_test : (b : Bool) → MoveFits vs c (cond b (blocked deep) (to p))
      by_test true = refl
      by_test false = h

  unfolding-fits : (vs : List Sort) (n : ℕ) (x : Sort) (o : Option Tree) → slice_get s n ≡ o → slice_get zs n ≡ Some x → MoveFits vs (class_of x) (unfolding_of o)
  unfolding-fits vs n x (Some p) e h = fits-closed zs zs vs (λ m y k. k) (class_of x) p (w n p x e h)
  unfolding-fits vs n x None e h = tt

  step_under-fits : (vs : List Sort) (c d : TreeClass) (f : Function) (q : Tree) (m : HeadStep) → MoveFits vs c m → ((b : Tree) → Fits (within vs zs) c b → Fits (within vs zs) d (apply f b q)) → MoveFits vs d (step_under f q m)
  step_under-fits vs c d f q none h k = tt
  step_under-fits vs c d f q (to b) h k = k b h
  step_under-fits vs c d f q (blocked z) h k = h

  move-pure : (vs : List Sort) (a : Tree) → Fits (within vs zs) pure_terms a → MoveFits vs pure_terms (head_step s a)
  move-pure vs (name n) h = unfolding-fits vs n OfTerm (slice_get s n) refl h
  move-pure vs (apply of_pure (fun of_pure p) q) h = contraction-fits vs pure_terms (put 0 q p) (fits-put zs vs OfTerm q h.1 pure_terms p tt h.0)
  move-pure vs (apply of_pure (fun of_term p) q) h = absurd h.0
  move-pure vs (apply of_pure (fun of_type p) q) h = absurd h.0
  move-pure vs (apply of_pure p q) h = step_under-fits vs pure_terms pure_terms of_pure q (head_step s p) (move-pure vs p h.0) (λ b k. (k, h.1))
  move-pure vs (apply f p q) h = absurd h
  move-pure vs a h = tt

  move-guide : (vs : List Sort) (a : Tree) → Fits (within vs zs) guides a → MoveFits vs guides (head_step s a)
  move-guide vs (name n) h = unfolding-fits vs n OfType (slice_get s n) refl h
  move-guide vs (apply of_term (fun of_pure p) q) h = absurd h.0
  move-guide vs (apply of_term (fun of_term p) q) h = contraction-fits vs guides (put 0 q p) (fits-put zs vs OfTerm q h.1 guides p tt h.0)
  move-guide vs (apply of_term (fun of_type p) q) h = tt
  move-guide vs (apply of_type (fun of_pure p) q) h = absurd h.0
  move-guide vs (apply of_type (fun of_term p) q) h = tt
  move-guide vs (apply of_type (fun of_type p) q) h = contraction-fits vs guides (put 0 q p) (fits-put zs vs OfType q h.1 guides p tt h.0)
  move-guide vs (apply of_term p q) h = step_under-fits vs guides guides of_term q (head_step s p) (move-guide vs p h.0) (λ b k. (k, h.1))
  move-guide vs (apply of_type p q) h = step_under-fits vs guides guides of_type q (head_step s p) (move-guide vs p h.0) (λ b k. (k, h.1))
  move-guide vs (apply of_pure p q) h = absurd h
  move-guide vs a h = tt

  move-fits : (vs : List Sort) (c : TreeClass) (a : Tree) → IsErased c → Fits (within vs zs) c a → MoveFits vs c (head_step s a)
  move-fits vs pure_terms a g h = move-pure vs a h
  move-fits vs guides a g h = move-guide vs a h
  move-fits vs guide_kinds (name n) g h = absurd h
  move-fits vs guide_kinds (apply f p q) g h = absurd h
  move-fits vs guide_kinds a g h = tt
  move-fits vs c a g h = absurd g

  abbrev pub HeadFits : List Sort → TreeClass → Budgeted HeadAnswer → Type 0
  HeadFits vs c (answered (value b) left) = Fits (within vs zs) c b
  HeadFits vs c (answered (no_value h) left) = h ≡ deep
  HeadFits vs c spent = Unit {0}

  pub head-fits : (n : ℕ) (vs : List Sort) (c : TreeClass) (a : Tree) → IsErased c → Fits (within vs zs) c a → HeadFits vs c (head_form s n a)
  head-fits n vs c a g h = by_step n a (head_step s a) refl h (move-fits vs c a g h)
    where
      by_step : (n : ℕ) (a : Tree) (x : HeadStep) → head_step s a ≡ x → Fits (within vs zs) c a → MoveFits vs c x → HeadFits vs c (head_form s n a)
      by_step n a none e h k = subst (HeadFits vs c) (sym (stops (head_move s) (at a) (value a) (rw e refl) n)) h
      by_step zero a (to b) e h k = subst (HeadFits vs c) (sym (spends (head_move s) (at a) (at b) (rw e refl))) tt
      by_step (suc n) a (to b) e h k = subst (HeadFits vs c) (sym (goes (head_move s) (at a) (at b) (rw e refl) n)) (by_step n b (head_step s b) refl k (move-fits vs c b g k))
      by_step zero a (blocked z) e h k = subst (HeadFits vs c) (sym (spends (head_move s) (at a) (fallen z) (rw e refl))) tt
      by_step (suc n) a (blocked z) e h k =
          subst (HeadFits vs c) (sym (goes (head_move s) (at a) (fallen z) (rw e refl) n ∙ stops (head_move s) (fallen z) (no_value z) refl n)) k

  -- two trees of one class in one context
  abbrev pub PairFits : Tree → Tree → Type 0
  PairFits a b = (vs : List Sort) × (c : TreeClass) × IsErased c × Fits (within vs zs) c a × Fits (within vs zs) c b

  abbrev AllFit : List Pair → Type 0
  AllFit = AllPairs PairFits

  pair-fits : (vs : List Sort) (x : TreeClass) (p q : Tree) → (IsErased x × Fits (within vs zs) x p) × Fits (within vs zs) x q → PairFits p q
  pair-fits vs x p q h = (vs, x, h.0.0, h.0.1, h.1)

  fun-parts : (vs : List Sort) (c : TreeClass) (f : Function) (p q : Tree) → Fits (within vs zs) c (fun f p) → Fits (within vs zs) c (fun f q) → IsErased c → PairFits p q
  fun-parts vs c f p q h k g = body_to (fun_places c f) _ (λ v x. pair-fits (v ∷ vs) x p q) (body_both (fun_places c f) _ _ (fun_erased c f _ g h) k)

  apply-parts : (vs : List Sort) (c : TreeClass) (f : Function) (p q p' q' : Tree) → Fits (within vs zs) c (apply f p q) → Fits (within vs zs) c (apply f p' q') → IsErased c → PairFits p p' × PairFits q q'
  apply-parts vs c f p q p' q' h k g = parts_to (apply_places c f) _ _ (λ x. pair-fits vs x p p') (λ x. pair-fits vs x q q') (parts_both (apply_places c f) _ _ _ _ (apply_erased c f _ _ g h) k)

  binary-parts : (vs : List Sort) (c : TreeClass) (j : Binary) (p q p' q' : Tree) → Fits (within vs zs) c (binary j p q) → Fits (within vs zs) c (binary j p' q') → IsErased c → PairFits p p' × PairFits q q'
  binary-parts vs c j p q p' q' h k g = parts_to (binary_places c j) _ _ (λ x. pair-fits vs x p p') (λ x. pair-fits vs x q q') (parts_both (binary_places c j) _ _ _ _ (binary_erased c j _ _ g h) k)

  binder-parts : (vs : List Sort) (c : TreeClass) (f : Binder) (p q p' q' : Tree) → Fits (within vs zs) c (bind f p q) → Fits (within vs zs) c (bind f p' q') → IsErased c → PairFits p p' × PairFits q q'
  binder-parts vs c f p q p' q' h k g =
      domain_to (bind_places c f) _ _ (λ x. pair-fits vs x p p') (λ v x. pair-fits (v ∷ vs) x q q') (domain_both (bind_places c f) _ _ _ _ (bind_erased c f _ _ g h) k)

  parts-fit : (a b : Tree) → PairFits a b → head_of a ≡ head_of b → AllFit (pairs_of (parts_of a) (parts_of b))
  parts-fit (var i) (var j) x e = tt
  parts-fit (name i) (name j) x e = tt
  parts-fit (leaf l) (leaf m) x e = tt
  parts-fit (unary j p) b (vs, c, g, h, k) e = absurd (no_unary c j _ g h)
  parts-fit (fun f p) (fun f' q) (vs, c, g, h, k) e =
      let i : f ≡ f' = grind arith in (fun-parts vs c f p q h (rw i k) g, tt)
  parts-fit (bind f p q) (bind f' p' q') (vs, c, g, h, k) e =
      let i : f ≡ f' = grind arith in let (x, y) = binder-parts vs c f p q p' q' h (rw i k) g in (x, (y, tt))
  parts-fit (binary f p q) (binary f' p' q') (vs, c, g, h, k) e =
      let i : f ≡ f' = grind arith in let (x, y) = binary-parts vs c f p q p' q' h (rw i k) g in (x, (y, tt))
  parts-fit (apply f p q) (apply f' p' q') (vs, c, g, h, k) e =
      all-applied PairFits f f' (head_of p) (head_of p') p p' q q' e (λ i. count-parts p ∙ ap count i ∙ sym (count-parts p'))
      (λ i. apply-parts vs c f p q p' q' h (rw i k) g) (λ i x. parts-fit p p' x i)
  parts-fit a b x e = let k : form_of a ≡ form_of b = same-form a b e in absurd (grind arith)

  fn-fits : (vs : List Sort) (c : TreeClass) (p b : Tree) → IsErased c → Fits (within vs zs) c (fun of_pure p) → Fits (within vs zs) c b → Fits (within (OfTerm ∷ vs) zs) pure_terms p × Fits (within vs zs) pure_terms b
  fn-fits vs pure_terms p b g h k = (h, k)
  fn-fits vs c p b g h k = absurd h

  applied-fits : (vs : List Sort) (b : Tree) → Fits (within vs zs) pure_terms b → Fits (within (OfTerm ∷ vs) zs) pure_terms (applied b)
  applied-fits vs b h = (fits-shift zs vs OfTerm pure_terms b h, refl)

  -- a pure term that is a head form and no function is a variable with arguments
  against-applied : (c : Function) (h : Head) (qs : List Pair) → against h qs ≡ into qs → against (applied_head c h) qs ≡ into qs
  against-applied c (variable i) qs e = refl
  against-applied c (constant n) qs e = refl
  against-applied c (argument d h) qs e = refl
  against-applied c h qs e = absurd (grind arith)

  against-pure : (vs : List Sort) (b : Tree) → Fits (within vs zs) pure_terms b → head_step s b ≡ none → function_of b ≡ None → (qs : List Pair) → against (head_of b) qs ≡ into qs
  against-pure vs (var i) h e f qs = refl
  against-pure vs (name n) h e f qs = refl
  against-pure vs (fun of_pure p) h e f qs = absurd (grind arith)
  against-pure vs (apply of_pure p q) h e f qs = let (i, j) = app-value s of_pure p q e in against-applied of_pure (head_of p) qs (against-pure vs p h.0 i j qs)
  against-pure vs b h e f qs = absurd h

  SplitFits : Split → Type 0
  SplitFits (into qs) = AllFit qs
  SplitFits differ = Unit {0}
  SplitFits classless = ⊥

  split-fits : (a b : Tree) → PairFits a b → head_step s a ≡ none → head_step s b ≡ none → SplitFits (split a b)
  unfolding SplitFits
  split-fits a b (vs, c, g, h, k) e e' = by_functions (function_of a) (function_of b) refl refl
    where
      by_functions : (x y : Option Tree) → function_of a ≡ x → function_of b ≡ y → SplitFits (split_by x y a b)
      by_functions (Some p) (Some q) i j =
          let (m, n) = fn-fits vs c p (fun of_pure q) g (rw (function-is a p i) at h) (rw (function-is b q j) at k) in
          ((OfTerm ∷ vs, pure_terms, tt, m, n), tt)
      by_functions (Some p) None i j =
          let (m, n) = fn-fits vs c p b g (rw (function-is a p i) at h) k in
          rw (against-pure vs b n e' j ((p, applied b) ∷ [])) ((OfTerm ∷ vs, pure_terms, tt, m, applied-fits vs b n), tt)
      by_functions None (Some q) i j =
          let (m, n) = fn-fits vs c q a g (rw (function-is b q j) at k) h in
          rw (against-pure vs a n e i ((applied a, q) ∷ [])) ((OfTerm ∷ vs, pure_terms, tt, applied-fits vs a n, m), tt)
      by_functions None None i j = by_heads (same_heads-cases (head_of a) (head_of b) (pairs_of (parts_of a) (parts_of b)))
        where
          by_heads : (head_of a ≡ head_of b) × (same_heads (head_of a) (head_of b) (pairs_of (parts_of a) (parts_of b)) ≡ into (pairs_of (parts_of a) (parts_of b)))
              ⊎ (head_of a ≡ head_of b → ⊥) × (same_heads (head_of a) (head_of b) (pairs_of (parts_of a) (parts_of b)) ≡ differ)
              → SplitFits (same_heads (head_of a) (head_of b) (pairs_of (parts_of a) (parts_of b)))
          by_heads (inl u) = rw u.1 (parts-fit a b (vs, c, g, h, k) u.0)
          by_heads (inr u) = rw u.1 tt

  StateFits : State → Type 0
  StateFits (pairs ps) = AllFit ps
  StateFits (taken a b ps) = PairFits a b × AllFit ps
  StateFits (past h) = h ≡ deep

  NextFits : Move Answer State → Type 0
  NextFits (stop (halted h)) = h ≡ deep
  NextFits (stop x) = Unit {0}
  NextFits (go t) = StateFits t

  pairs-fit : (ps : List Pair) → AllFit ps → NextFits (move_pairs ps)
  unfolding NextFits StateFits
  pairs-fit [] h = tt
  pairs-fit (p ∷ ps) h = by_test (same_name p.0 p.1)
    where
      by_test : (b : Bool) → StateFits (cond b (pairs ps) (taken p.0 p.1 ps))
      by_test true = h.1
      by_test false = h

  move_split-fits : (o : Split) (a b : Tree) (ps : List Pair) → SplitFits o → AllFit ps → NextFits (move_split o a b ps)
  unfolding NextFits SplitFits
  move_split-fits (into qs) a b ps h k = pairs-fit (qs ++ ps) (all-append PairFits qs ps h k)
  move_split-fits differ a b ps h k = tt
  move_split-fits classless a b ps h k = absurd h

  taken-fits : (vs : List Sort) (c : TreeClass) (m n : HeadStep) (a b : Tree) (ps : List Pair) → IsErased c → Fits (within vs zs) c a → Fits (within vs zs) c b
      → MoveFits vs c m → MoveFits vs c n → head_step s a ≡ m → head_step s b ≡ n → AllFit ps → NextFits (move_taken m n a b ps)
  unfolding NextFits StateFits
  taken-fits vs c (to a') n a b ps g h k i j e f l = ((vs, c, g, i, k), l)
  taken-fits vs c (blocked z) n a b ps g h k i j e f l = i
  taken-fits vs c none (to b') a b ps g h k i j e f l = ((vs, c, g, h, j), l)
  taken-fits vs c none (blocked z) a b ps g h k i j e f l = j
  taken-fits vs c none none a b ps g h k i j e f l = move_split-fits (split a b) a b ps (split-fits a b (vs, c, g, h, k) e f) l

  next-fits : (t : State) → StateFits t → NextFits (move s t)
  unfolding NextFits StateFits
  next-fits (pairs ps) h = pairs-fit ps h
  next-fits (taken a b ps) ((vs, c, g, h, k), l) =
      taken-fits vs c (head_step s a) (head_step s b) a b ps g h k (move-fits vs c a g h) (move-fits vs c b g k) refl refl l
  next-fits (past z) h = h

  run-fits : (n : ℕ) (t : State) (m : Move Answer State) → move s t ≡ m → (z : Halt) (left : ℕ) → StateFits t → run (move s) n t ≡ answered (halted z) left → z ≡ deep
  unfolding NextFits
  run-fits n t (stop x) e z left g h =
      let f : answered x n ≡ answered (halted z) left = sym (stops (move s) t x e n) ∙ h in
      let q : x ≡ halted z = cc in
      let o : NextFits (stop x) = subst NextFits e (next-fits t g) in
      subst (λ y. NextFits (stop y)) q o
  run-fits zero t (go u) e z left g h = let f : spent ≡ answered (halted z) left = sym (spends (move s) t u e) ∙ h in cc
  run-fits (suc n) t (go u) e z left g h =
      let f : run (move s) n u ≡ answered (halted z) left = sym (goes (move s) t u e n) ∙ h in
      let o : NextFits (go u) = subst NextFits e (next-fits t g) in
      run-fits n u (move s u) refl z left o f

  pub compare-halts : (n : ℕ) (vs : List Sort) (c : TreeClass) (a b : Tree) (z : Halt) (left : ℕ) → IsErased c → Fits (within vs zs) c a → Fits (within vs zs) c b
      → compare s n a b ≡ answered (halted z) left → z ≡ deep
  unfolding StateFits
  compare-halts n vs c a b z left g h k e = run-fits n (pairs ((a, b) ∷ [])) (move s (pairs ((a, b) ∷ []))) refl z left ((vs, c, g, h, k), tt) e
