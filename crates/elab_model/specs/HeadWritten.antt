-- Head forms of annotated types: the steps are those of plain head reduction of erased types, in their order, and each contraction and each
-- unfolding takes one unit. An unknown is a head form, and so is what applies one.
use Rattle.std.specs.Prelude.{ℕ, Bool, cond, ltb, List, Option, Some, None, slice_get}
use Rattle.cdle_model.specs.Trees.{of_term, of_type, Tree, name}
use Rattle.cdle_model.specs.Forms.{at_, on, tlam, xtlam, Written, type_item}
use Rattle.cdle_model.specs.Substitution.{put_written}
use Rattle.cdle_model.specs.Depth.{depth}
use Rattle.cdle_model.specs.Machine.{Move, stop, go, Budgeted, run}
use Rattle.cdle_model.specs.HeadForms.{deep, deepest, HeadStep, none, to, blocked, contraction, unfolding_of, step_under, HeadState, at, fallen, HeadAnswer, value, no_value}

-- what each name unfolds to: the annotated body of its type's item, or nothing where the name is kept (a term's name is at no head of a type)
abbrev pub Unfolding : Type 0
Unfolding = ℕ → Option Tree

abbrev pub type_body : Option Written → Option Tree
type_body (Some (type_item x k a)) = Some a
type_body o = None

abbrev pub all_names : List Written → Unfolding
all_names ws n = type_body (slice_get ws n)

-- the same, but the names of datatypes are kept
abbrev pub all_but : (ℕ → Bool) → List Written → Unfolding
all_but kept ws n = cond (kept n) None (all_names ws n)

-- the step at the head of an annotated type; a contraction is deep where the body with the argument put is
abbrev pub written_step : Unfolding → Tree → HeadStep
written_step u (name n) = unfolding_of (u n)
written_step u (at_ (tlam a b) t) = contraction (put_written 0 t b)
written_step u (on (xtlam k b) a) = contraction (put_written 0 a b)
written_step u (at_ a t) = step_under of_term t (written_step u a)
written_step u (on a b) = step_under of_type b (written_step u a)
written_step u p = none

-- a head form is limited as a whole too
abbrev pub limited : Tree → HeadAnswer
limited p = cond (ltb deepest (depth p)) (no_value deep) (value p)

abbrev pub written_after : Tree → HeadStep → Move HeadAnswer HeadState
written_after p none = stop (limited p)
written_after p (to q) = go (at q)
written_after p (blocked h) = go (fallen h)

abbrev pub written_move : Unfolding → HeadState → Move HeadAnswer HeadState
written_move u (at p) = written_after p (written_step u p)
written_move u (fallen h) = stop (no_value h)

-- the head form with n units
abbrev pub head_written : Unfolding → ℕ → Tree → Budgeted HeadAnswer
head_written u n p = run (written_move u) n (at p)
