-- Putting a part into a pure term that is read where places were passed.
use Rattle.std.proofs.Common.{◌≡◌, ℕ, suc, ◌+◌, ◌<◌, ◌≤◌, List, Result, Ok, Err, sym, ap, ap₂, ◌∙◌, subst, arith}
use Rattle.cdle_model.specs.Trees.{Tree, var, name, shift, put}
use Rattle.cdle_model.specs.Forms.{fn, ap as apply_to}
use Rattle.cdle_model.specs.Depth.{depth, free_bound}
use Rattle.cdle_model.proofs.Trees.{depth_put, depth_shift, shift_shift, shift_zero, put_above}
use Rattle.core_tree.specs.declared.stop.PutStop.{PutStop}
use Rattle.core_tree.specs.Nodes.{PutGives}
use Rattle.core_tree.proofs.Puts.{fits_pure, fits_guide, stop_above}
use Rattle.core_view.specs.Passed.{Place, renumbered}
use Rattle.core_view.proofs.Numbers.{renumbered_depth}
use Rattle.core_view.proofs.Parts.{function_is, apply_is, name_is, identity_is}

-- the part p, raised by the u binders over its place, put for the variable under them
abbrev placed : ℕ → Tree → Tree → Tree
placed u p t = put u (shift 0 u p) t

placed_fn : (u : ℕ) (p x : Tree) → fn (placed (u + 1) p x) ≡ placed u p (fn x)
placed_fn u p x =
    let e : u + 1 ≡ suc u = omega arith in
    ap fn (ap₂ (λ a b. put a b x) e (sym (shift_shift 0 u 1 p)))

module _ (from : ℕ) (ps : List Place) (t : Tree) (u : ℕ) (p : Tree) where
  function_put : (x : Tree) → fn x ≡ t → fn (placed (u + 1) p (renumbered (from + 1) ps x)) ≡ placed u p (renumbered from ps t)
  function_put x e = placed_fn u p (renumbered (from + 1) ps x) ∙ ap (placed u p) (function_is from ps t x e)

  apply_put : (x y : Tree) → apply_to x y ≡ t → apply_to (placed u p (renumbered from ps x)) (placed u p (renumbered from ps y)) ≡ placed u p (renumbered from ps t)
  apply_put x y e = ap (placed u p) (apply_is from ps t x y e)

  pub put_function : (x y : Tree) (r : Result Tree PutStop) → fn x ≡ t
      → PutGives (put (u + 1) (shift 0 (u + 1) p) (renumbered (from + 1) ps x)) (Ok y) → PutGives (fn y) r → PutGives (put u (shift 0 u p) (renumbered from ps t)) r
  put_function x y r e g h = subst (λ z. PutGives z r) (ap fn g.0 ∙ function_put x e) h

  pub put_function_stops : (x : Tree) (s : PutStop) → fn x ≡ t
      → PutGives (put (u + 1) (shift 0 (u + 1) p) (renumbered (from + 1) ps x)) (Err s) → PutGives (put u (shift 0 u p) (renumbered from ps t)) (Err s)
  put_function_stops x s e g = let d = ap depth (function_put x e) in stop_above _ _ s g (omega arith)

  pub put_apply : (x y a b : Tree) (r : Result Tree PutStop) → apply_to x y ≡ t
      → PutGives (put u (shift 0 u p) (renumbered from ps x)) (Ok a) → PutGives (put u (shift 0 u p) (renumbered from ps y)) (Ok b) → PutGives (apply_to a b) r
      → PutGives (put u (shift 0 u p) (renumbered from ps t)) r
  put_apply x y a b r e g h k = subst (λ z. PutGives z r) (ap₂ apply_to g.0 h.0 ∙ apply_put x y e) k

  pub put_head_stops : (x y : Tree) (s : PutStop) → apply_to x y ≡ t → PutGives (put u (shift 0 u p) (renumbered from ps x)) (Err s) → PutGives (put u (shift 0 u p) (renumbered from ps t)) (Err s)
  put_head_stops x y s e g = let d = ap depth (apply_put x y e) in stop_above _ _ s g (omega arith)

  pub put_arg_stops : (x y : Tree) (s : PutStop) → apply_to x y ≡ t → PutGives (put u (shift 0 u p) (renumbered from ps y)) (Err s) → PutGives (put u (shift 0 u p) (renumbered from ps t)) (Err s)
  put_arg_stops x y s e g = let d = ap depth (apply_put x y e) in stop_above _ _ s g (omega arith)

  pub put_name : (n : ℕ) (r : Result Tree PutStop) → name n ≡ t → PutGives (name n) r → PutGives (put u (shift 0 u p) (renumbered from ps t)) r
  put_name n r e h = subst (λ z. PutGives z r) (ap (placed u p) (name_is from ps t n e)) h

  pub put_identity : (r : Result Tree PutStop) → fn (var 0) ≡ t → PutGives (fn (var 0)) r → PutGives (put u (shift 0 u p) (renumbered from ps t)) r
  put_identity r e h =
      let i : fn (var 0) ≡ placed u p (fn (var 0)) = grind arith in
      subst (λ z. PutGives z r) (i ∙ ap (placed u p) (identity_is from ps t e)) h

  pub put_spared : (r : Result Tree PutStop) → free_bound t ≤ u → renumbered from ps t ≡ t → PutGives t r → PutGives (put u (shift 0 u p) (renumbered from ps t)) r
  put_spared r l e h = subst (λ z. PutGives z r) (sym (ap (placed u p) e ∙ put_above u (shift 0 u p) t l)) h

pub too_deep_read : (p : Tree) (ps : List Place) (t : Tree) → 4096 < depth t → 4096 < depth (put 0 p (renumbered 0 ps t))
too_deep_read p ps t h = omega (arith, depth_put 0 p (renumbered 0 ps t), renumbered_depth 0 ps t)

pub ruleset putting = (fits_pure, fits_guide, depth_shift, shift_shift, shift_zero, put_above, stop_above)

pub ruleset entering = (shift_zero, too_deep_read)
