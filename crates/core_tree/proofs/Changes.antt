-- Shifting, lowering and putting are what a change makes of a tree.
use Rattle.std.proofs.Common.{◌≡◌, ℕ, suc, ◌+◌, ◌<◌, ◌≤◌, Bool, true, false, cond, ltb, eqb, Result, Err, refl, sym, ap, ap₂, ◌∙◌, subst, arith}
use Rattle.cdle_model.specs.Trees.{Tree, var, name, leaf, unary, fun, apply, binary, bind, shift, put_var, put}
use Rattle.cdle_model.specs.Forms.{star}
use Rattle.cdle_model.specs.Depth.{depth, free_bound}
use Rattle.cdle_model.specs.Erasure.{lowered}
use Rattle.cdle_model.proofs.Trees.{depth_shift, shift_shift, shift_zero}
use Rattle.core_tree.specs.Parts.{part_tree}
use Rattle.core_tree.specs.declared.part.Part.{Part}
use Rattle.core_tree.specs.declared.change.Change.{Change}
use Rattle.core_tree.specs.declared.change.Change.TheVariants.{Raise, Lower, Put}
use Rattle.core_tree.specs.declared.stop.PutStop.{PutStop}
use Rattle.core_tree.specs.declared.stop.PutStop.TheVariants.{TooDeep, NoMemory}
use Rattle.core_tree.specs.Changes.{replaced, first_of, raise_of, part_of, stands, leaves, ChangeGives}

-- what a change does not concern stays as it is
still : (s : ℕ → ℕ → Tree) (at : ℕ) → ((k i : ℕ) → i < at + k → s k i ≡ var i) → (k : ℕ) (t : Tree) → free_bound t ≤ at + k → replaced s k t ≡ t
still s at e k (var i) h = e k i (omega arith)
still s at e k (name n) h = refl
still s at e k (leaf l) h = refl
still s at e k (unary j p) h = ap (unary j) (still s at e k p h)
still s at e k (fun c p) h = ap (fun c) (still s at e (suc k) p (omega arith))
still s at e k (apply c p q) h = ap₂ (apply c) (still s at e k p (omega arith)) (still s at e k q (omega arith))
still s at e k (binary j p q) h = ap₂ (binary j) (still s at e k p (omega arith)) (still s at e k q (omega arith))
still s at e k (bind f p q) h = ap₂ (bind f) (still s at e k p (omega arith)) (still s at e (suc k) q (omega arith))

-- raising is a shift
raised_var : (from by k m i : ℕ) → m ≡ from + k → stands (Raise from by) k i ≡ var (cond (ltb i m) i (i + by))
raised_var from by k m i e = rw e refl

raised_under : (from by k m : ℕ) (t : Tree) → m ≡ from + k → replaced (stands (Raise from by)) k t ≡ shift m by t
raised_under from by k m (var i) e = raised_var from by k m i e
raised_under from by k m (name n) e = refl
raised_under from by k m (leaf l) e = refl
raised_under from by k m (unary j p) e = ap (unary j) (raised_under from by k m p e)
raised_under from by k m (fun c p) e = ap (fun c) (raised_under from by (suc k) (suc m) p (omega arith))
raised_under from by k m (apply c p q) e = ap₂ (apply c) (raised_under from by k m p e) (raised_under from by k m q e)
raised_under from by k m (binary j p q) e = ap₂ (binary j) (raised_under from by k m p e) (raised_under from by k m q e)
raised_under from by k m (bind f p q) e = ap₂ (bind f) (raised_under from by k m p e) (raised_under from by (suc k) (suc m) q (omega arith))

pub raised : (from by : ℕ) (t : Tree) → replaced (stands (Raise from by)) 0 t ≡ shift from by t
raised from by t = raised_under from by 0 from t (omega arith)

-- a part that is put is raised by the binders over it
raised_again : (k : ℕ) (a : Tree) → shift 0 1 (shift 0 k a) ≡ shift 0 (suc k) a
raised_again k a = shift_shift 0 k 1 a ∙ ap (λ n. shift 0 n a) (let e : k + 1 ≡ suc k = omega arith in e)

put_under : (s : ℕ → ℕ → Tree) (at : ℕ) (a : Tree) → ((k m i : ℕ) → m ≡ at + k → s k i ≡ put_var m (shift 0 k a) i) → (k m : ℕ) (t : Tree) → m ≡ at + k → replaced s k t ≡ put m (shift 0 k a) t
put_under s at a e k m (var i) h = e k m i h
put_under s at a e k m (name n) h = refl
put_under s at a e k m (leaf l) h = refl
put_under s at a e k m (unary j p) h = ap (unary j) (put_under s at a e k m p h)
put_under s at a e k m (fun c p) h = ap (fun c) (put_under s at a e (suc k) (suc m) p (omega arith) ∙ ap (λ x. put (suc m) x p) (sym (raised_again k a)))
put_under s at a e k m (apply c p q) h = ap₂ (apply c) (put_under s at a e k m p h) (put_under s at a e k m q h)
put_under s at a e k m (binary j p q) h = ap₂ (binary j) (put_under s at a e k m p h) (put_under s at a e k m q h)
put_under s at a e k m (bind f p q) h = ap₂ (bind f) (put_under s at a e k m p h) (put_under s at a e (suc k) (suc m) q (omega arith) ∙ ap (λ x. put (suc m) x q) (sym (raised_again k a)))

put_here : (at k m i : ℕ) (a : Tree) → m ≡ at + k → put_var (at + k) (shift 0 k a) i ≡ put_var m (shift 0 k a) i
put_here at k m i a h = rw h refl

pub lower_is : (t : Tree) → replaced (stands Lower) 0 t ≡ lowered t
lower_is t = put_under (stands Lower) 0 star (λ k m i. put_here 0 k m i star) 0 0 t (omega arith)

pub put_is : (at : ℕ) (p : Part) (t : Tree) → replaced (stands (Put at p)) 0 t ≡ put at (part_tree p) t
put_is at p t = put_under (stands (Put at p)) at (part_tree p) (λ k m i. put_here at k m i (part_tree p)) 0 at t (omega arith) ∙ ap (λ a. put at a t) (shift_zero 0 (part_tree p))

-- what lies below the first variable that a change concerns stays, and all stays where nothing is raised
stands_below : (c : Change) (k i : ℕ) → i < first_of c + k → stands c k i ≡ var i
stands_below (Raise from by) k i h = grind arith
stands_below Lower k i h = grind arith
stands_below (Put at p) k i h = grind arith

none_raised : (c : Change) (k : ℕ) (t : Tree) → eqb (raise_of c) 0 ≡ true → replaced (stands c) k t ≡ t
none_raised (Raise from by) k t h = let z : by ≡ 0 = grind arith in raised_under from by k (from + k) t refl ∙ ap (λ n. shift (from + k) n t) z ∙ shift_zero (from + k) t
none_raised Lower k t h = absurd cc
none_raised (Put at p) k t h = absurd cc

pub left : (c : Change) (k : ℕ) (t : Tree) → leaves c (free_bound t) k ≡ true → replaced (stands c) k t ≡ t
left c k t h = by_test (ltb (first_of c + k) (free_bound t)) refl h
  where
    by_test : (x : Bool) → ltb (first_of c + k) (free_bound t) ≡ x → cond x (eqb (raise_of c) 0) true ≡ true → replaced (stands c) k t ≡ t
    by_test true e h = none_raised c k t h
    by_test false e h = still (stands c) (first_of c) (stands_below c) k t (grind arith)

-- a part that is too deep makes the whole too deep
pub change_stops : (t u : Tree) (e : PutStop) → ChangeGives t (Err e) → depth t ≤ depth u → ChangeGives u (Err e)
change_stops t u TooDeep h below = omega arith
change_stops t u NoMemory h below = tt

-- a part that was raised by a change is the shifted part
pub raised_part : (by : ℕ) (p q : Tree) (r : Result Tree PutStop) → p ≡ q → ChangeGives (replaced (stands (Raise 0 by)) 0 p) r → ChangeGives (shift 0 by q) r
raised_part by p q r e h = subst (λ t. ChangeGives t r) (raised 0 by p ∙ ap (shift 0 by) e) h

pub ruleset changing = (left, change_stops, depth_shift)

-- a change makes no tree less deep
depth_replaced : (s : ℕ → ℕ → Tree) (k : ℕ) (t : Tree) → depth t ≤ depth (replaced s k t)
depth_replaced s k (var i) = omega arith
depth_replaced s k (name n) = omega arith
depth_replaced s k (leaf l) = omega arith
depth_replaced s k (unary j p) = omega (arith, depth_replaced s k p)
depth_replaced s k (fun c p) = omega (arith, depth_replaced s (suc k) p)
depth_replaced s k (apply c p q) = omega (arith, depth_replaced s k p, depth_replaced s k q)
depth_replaced s k (binary j p q) = omega (arith, depth_replaced s k p, depth_replaced s k q)
depth_replaced s k (bind f p q) = omega (arith, depth_replaced s k p, depth_replaced s (suc k) q)

pub no_less_deep : (s : ℕ → ℕ → Tree) (k : ℕ) (t : Tree) → 4096 < depth t → 4096 < depth (replaced s k t)
no_less_deep s k t h = omega (arith, depth_replaced s k t)
