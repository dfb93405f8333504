-- The plain comparison of erased trees: each pair that is taken, each contraction and each unfolding takes one unit.
use Rattle.std.specs.Prelude.{ℕ, eqb, cond, Bool, false, List, [], ◌∷◌, ◌++◌, Option, Some, None}
use native.Mathlib.Decide.{ℕ_discrete}
use Rattle.cdle_model.specs.Trees.{Function, of_pure, Function-discrete, Leaf, Leaf-discrete, Unary, Unary-discrete, Binary, Binary-discrete, Binder, Binder-discrete, Tree, var, name, leaf, unary, fun, apply, binary, bind, shift}
use Rattle.cdle_model.specs.Machine.{Move, stop, go, Budgeted, run}
use Rattle.cdle_model.specs.HeadForms.{Halt, ill_classed, HeadStep, none, to, blocked, head_step}

-- what a head form has at its head: a variable with the classes of its arguments, or a former
-- (a name is there only where the signature does not have it)
pub data Head : Type 0 where
  variable : ℕ → Head
  constant : ℕ → Head
  argument : Function → Head → Head
  function : Function → Head
  leaf_head : Leaf → Head
  unary_head : Unary → Head
  former : Binder → Head
  binary_head : Binary → Head
  stuck : Function → Head
  deriving Discrete as Head-discrete

-- the head of an application, by the head of what is applied
abbrev pub applied_head : Function → Head → Head
applied_head c (variable i) = argument c (variable i)
applied_head c (constant n) = argument c (constant n)
applied_head c (argument d h) = argument c (argument d h)
applied_head c h = stuck c

abbrev pub head_of : Tree → Head
head_of (var i) = variable i
head_of (name n) = constant n
head_of (leaf l) = leaf_head l
head_of (unary j p) = unary_head j
head_of (fun c p) = function c
head_of (apply c p q) = applied_head c (head_of p)
head_of (binary j p q) = binary_head j
head_of (bind f p q) = former f

-- the parts of an application, by the head of what is applied: the arguments of a variable from left to right, else its two parts
abbrev pub parts_by : Head → List Tree → Tree → Tree → List Tree
parts_by (variable i) ps p q = ps ++ (q ∷ [])
parts_by (constant n) ps p q = ps ++ (q ∷ [])
parts_by (argument d h) ps p q = ps ++ (q ∷ [])
parts_by h ps p q = p ∷ q ∷ []

-- the arguments or parts of a head form
abbrev pub parts_of : Tree → List Tree
parts_of (var i) = []
parts_of (name n) = []
parts_of (leaf l) = []
parts_of (unary j p) = p ∷ []
parts_of (fun c p) = p ∷ []
parts_of (apply c p q) = parts_by (head_of p) (parts_of p) p q
parts_of (binary j p q) = p ∷ q ∷ []
parts_of (bind f p q) = p ∷ q ∷ []

abbrev pub Pair : Type 0
Pair = Tree × Tree

-- the parts of two trees side by side
abbrev pub pairs_of : List Tree → List Tree → List Pair
pairs_of [] qs = []
pairs_of (p ∷ ps) [] = []
pairs_of (p ∷ ps) (q ∷ qs) = (p, q) ∷ pairs_of ps qs

-- the body of a pure function
abbrev pub function_of : Tree → Option Tree
function_of (fun of_pure p) = Some p
function_of p = None

-- a pure term applied to a new variable
abbrev pub applied : Tree → Tree
applied p = apply of_pure (shift 0 1 p) (var 0)

-- pairs; nothing, since the two are apart; or nothing, since one is of no class
pub data Split : Type 0 where
  into : List Pair → Split
  differ : Split
  classless : Split

-- the pairs where the heads are one
abbrev pub same_heads : Head → Head → List Pair → Split
same_heads h k qs = elim (Head-discrete ℕ_discrete Function-discrete (Leaf-discrete ℕ_discrete) Unary-discrete Binder-discrete Binary-discrete h k) [ yes e ↦ into qs | no e ↦ differ ]

-- a pure function against another head form, which is a variable with arguments
abbrev pub against : Head → List Pair → Split
against (variable i) qs = into qs
against (constant n) qs = into qs
against (argument c h) qs = into qs
against h qs = classless

abbrev pub split_by : Option Tree → Option Tree → Tree → Tree → Split
split_by (Some p) (Some q) a b = into ((p, q) ∷ [])
split_by (Some p) None a b = against (head_of b) ((p, applied b) ∷ [])
split_by None (Some q) a b = against (head_of a) ((applied a, q) ∷ [])
split_by None None a b = same_heads (head_of a) (head_of b) (pairs_of (parts_of a) (parts_of b))

-- two functions: their bodies; a function against another form: its body against that form applied; else the parts, where the heads are one
abbrev pub split : Tree → Tree → Split
split a b = split_by (function_of a) (function_of b) a b

-- the two are the same; they are apart at this pair of head forms; or the end
pub data Answer : Type 0 where
  same : Answer
  apart : Tree → Tree → Answer
  halted : Halt → Answer

-- where the comparison stands: before the first of its pairs, at a pair that was taken, or past a unit after which it ends
pub data State : Type 0 where
  pairs : List Pair → State
  taken : Tree → Tree → List Pair → State
  past : Halt → State

-- one name on both sides needs no head form
abbrev pub same_name : Tree → Tree → Bool
same_name (name n) (name m) = eqb n m
same_name p q = false

-- a pair is taken
abbrev pub take_pair : Tree → Tree → List Pair → State
take_pair a b ps = cond (same_name a b) (pairs ps) (taken a b ps)

abbrev pub move_pairs : List Pair → Move Answer State
move_pairs [] = stop same
move_pairs (p ∷ ps) = go (take_pair p.0 p.1 ps)

-- in place of a pair of head forms the pairs of its parts, or an answer
abbrev pub move_split : Split → Tree → Tree → List Pair → Move Answer State
move_split (into qs) a b ps = move_pairs (qs ++ ps)
move_split differ a b ps = stop (apart a b)
move_split classless a b ps = stop (halted ill_classed)

-- the left is brought to head form, and then the right
abbrev pub move_taken : HeadStep → HeadStep → Tree → Tree → List Pair → Move Answer State
move_taken (to a') m a b ps = go (taken a' b ps)
move_taken (blocked h) m a b ps = go (past h)
move_taken none (to b') a b ps = go (taken a b' ps)
move_taken none (blocked h) a b ps = go (past h)
move_taken none none a b ps = move_split (split a b) a b ps

abbrev pub move : List Tree → State → Move Answer State
move s (pairs ps) = move_pairs ps
move s (taken a b ps) = move_taken (head_step s a) (head_step s b) a b ps
move s (past h) = stop (halted h)

-- the comparison of a and b, left and right, with n units
abbrev pub compare : List Tree → ℕ → Tree → Tree → Budgeted Answer
compare s n a b = run (move s) n (pairs ((a, b) ∷ []))
