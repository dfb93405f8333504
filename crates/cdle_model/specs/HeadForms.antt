-- Plain head forms of erased trees: each contraction and each unfolding takes one unit.
use Rattle.std.specs.Prelude.{ℕ, cond, ltb, List, Option, Some, None, slice_get}
use Rattle.cdle_model.specs.Trees.{Function, of_pure, of_term, of_type, Tree, name, fun, apply, put}
use Rattle.cdle_model.specs.Depth.{depth}
use Rattle.cdle_model.specs.Machine.{Move, stop, go, Budgeted, run}

-- why the work ends for good without a result: a tree that was built is too deep; or a pure function is applied as a type is, or stands
-- against a type's form. No tree of a class comes to the second, and no other answer would be true there: `λx. p x` of a type `p` is of no
-- class, and yet it steps to `p`
pub data Halt : Type 0 where
  deep ill_classed : Halt

-- the greatest depth of a tree that is built
abbrev pub deepest : ℕ
deepest = 4096

-- what is done at the head of a tree: nothing, since it is a head form; one contraction or unfolding, which gives the tree; or the end
pub data HeadStep : Type 0 where
  none : HeadStep
  to : Tree → HeadStep
  blocked : Halt → HeadStep

-- a contraction is deep where the body with the argument put is; further arguments are not counted
abbrev pub contraction : Tree → HeadStep
contraction p = cond (ltb deepest (depth p)) (blocked deep) (to p)

abbrev pub unfolding_of : Option Tree → HeadStep
unfolding_of (Some p) = to p
unfolding_of None = none

-- the step of an application, by the step of what is applied
abbrev pub step_under : Function → Tree → HeadStep → HeadStep
step_under c q (to p) = to (apply c p q)
step_under c q m = m

-- the first where the function is applied by its own application, else the second
abbrev pub if_same {ℓ} : {A : Type ℓ} → Function → Function → A → A → A
if_same of_pure of_pure x y = x
if_same of_term of_term x y = x
if_same of_type of_type x y = x
if_same c d x y = y

-- a function of types under another application is stuck
abbrev pub ill_applied : Function → HeadStep
ill_applied of_pure = blocked ill_classed
ill_applied d = none

-- the step at the head of a tree, over the erased bodies of a signature
abbrev pub head_step : List Tree → Tree → HeadStep
head_step s (name n) = unfolding_of (slice_get s n)
head_step s (apply c (fun d p) q) = if_same c d (contraction (put 0 q p)) (ill_applied d)
head_step s (apply c p q) = step_under c q (head_step s p)
head_step s p = none

-- where head reduction stands: at a tree, or past a unit after which it ends
pub data HeadState : Type 0 where
  at : Tree → HeadState
  fallen : Halt → HeadState

pub data HeadAnswer : Type 0 where
  value : Tree → HeadAnswer
  no_value : Halt → HeadAnswer

abbrev pub head_after : Tree → HeadStep → Move HeadAnswer HeadState
head_after p none = stop (value p)
head_after p (to q) = go (at q)
head_after p (blocked h) = go (fallen h)

abbrev pub head_move : List Tree → HeadState → Move HeadAnswer HeadState
head_move s (at p) = head_after p (head_step s p)
head_move s (fallen h) = stop (no_value h)

-- the head form with n units
abbrev pub head_form : List Tree → ℕ → Tree → Budgeted HeadAnswer
head_form s n p = run (head_move s) n (at p)
