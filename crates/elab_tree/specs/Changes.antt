-- What becomes of a tree where something stands for each of its free variables, and for each of its unknowns.
use Rattle.std.specs.Prelude.{ℕ, suc, ◌+◌, Bool, true, false, cond, ltb, eqb, Option, None, Some}
use Rattle.cdle_model.specs.Trees.{of_pure, Function, eq_of, beta_of, phi_of, Binary, guide_of, Binder, star_of, unknown, Tree, var, name, leaf, unary, fun, apply, binary, bind, shift, put_var}
use Rattle.cdle_model.specs.Forms.{star}
use Rattle.cdle_model.specs.Erasure.{erased}
use Rattle.elab_tree.specs.Solved.{solution_at}
use Rattle.elab_tree.specs.declared.change.Change.{Change}
use Rattle.elab_tree.specs.declared.change.Change.TheVariants.{Raise, Lower, PutPure, PutGuide, PutTerm, PutType, Solve}

-- whether a part of a tree is annotated, or erased, as are sides and guides
pub data Stage : Type 0 where
  annotated unannotated : Stage
  deriving Discrete as Stage-discrete

-- the stage of the parts of a form, and where two parts differ, of each
abbrev pub of_function : Stage → Function → Stage
of_function unannotated c = unannotated
of_function annotated of_pure = unannotated
of_function annotated c = annotated

abbrev pub of_left : Stage → Binary → Stage
of_left unannotated j = unannotated
of_left annotated eq_of = unannotated
of_left annotated beta_of = unannotated
of_left annotated j = annotated

abbrev pub of_right : Stage → Binary → Stage
of_right unannotated j = unannotated
of_right annotated eq_of = unannotated
of_right annotated beta_of = unannotated
of_right annotated phi_of = unannotated
of_right annotated j = annotated

abbrev pub of_body : Stage → Binder → Stage
of_body unannotated f = unannotated
of_body annotated guide_of = unannotated
of_body annotated f = annotated

-- an annotated tree, as it stands at a stage
abbrev pub staged : Stage → Tree → Tree
staged annotated a = a
staged unannotated a = erased a

-- what stands for a number at a stage and under so many binders
abbrev pub Standing : Type 0
Standing = Stage → ℕ → ℕ → Tree

-- `s b k i` stands for the variable i where it is used at the stage b under k binders, and `u b k n` for the unknown n
abbrev pub replaced : Standing → Standing → Stage → ℕ → Tree → Tree
replaced s u b k (var i) = s b k i
replaced s u b k (name n) = name n
replaced s u b k (leaf star_of) = leaf star_of
replaced s u b k (leaf (unknown n)) = u b k n
replaced s u b k (unary j p) = unary j (replaced s u b k p)
replaced s u b k (fun c p) = fun c (replaced s u unannotated (suc k) p)
replaced s u b k (apply c p q) = apply c (replaced s u (of_function b c) k p) (replaced s u (of_function b c) k q)
replaced s u b k (binary j p q) = binary j (replaced s u (of_left b j) k p) (replaced s u (of_right b j) k q)
replaced s u b k (bind f p q) = bind f (replaced s u b k p) (replaced s u (of_body b f) (suc k) q)

-- the part that a change puts for a variable
abbrev pub part_of : Change → Stage → Tree
part_of (PutPure at p) b = p.now
part_of (PutGuide at g) b = g.now
part_of (PutTerm at t p) annotated = t.now
part_of (PutTerm at t p) unannotated = p.now
part_of (PutType at a g) annotated = a.now
part_of (PutType at a g) unannotated = g.now
part_of c b = star

-- the first variable that a change concerns
abbrev pub first_of : Change → ℕ
first_of (Raise from by) = from
first_of Lower = 0
first_of (PutPure at p) = at
first_of (PutGuide at g) = at
first_of (PutTerm at t p) = at
first_of (PutType at a g) = at
first_of (Solve os) = 0

-- what a change makes of a variable
abbrev pub stands : Change → Standing
stands (Raise from by) b k i = var (cond (ltb i (from + k)) i (i + by))
stands (Solve os) b k i = var i
stands c b k i = put_var (first_of c + k) (shift 0 k (part_of c b)) i

-- the type that a change has for an unknown
abbrev pub solution_in : Change → ℕ → Option Tree
solution_in (Solve os) n = solution_at os.now n
solution_in c n = None

abbrev pub put_for : Option Tree → Standing
put_for (Some a) b k n = shift 0 k (staged b a)
put_for None b k n = leaf (unknown n)

-- what a change makes of an unknown
abbrev pub fills : Change → Standing
fills c b k n = put_for (solution_in c n) b k n

-- what a change makes of a tree
abbrev pub changed : Change → Stage → ℕ → Tree → Tree
changed c = replaced (stands c) (fills c)

-- a tree whose free variables are below f, and in which an unknown is or is not, stays as it is under k binders
abbrev pub leaves : Change → ℕ → Bool → ℕ → Bool
leaves (Raise from by) f u k = cond (ltb (from + k) f) (eqb by 0) true
leaves (Solve os) f u k = cond u false true
leaves c f u k = cond (ltb (first_of c + k) f) false true

-- more than three times the depth of a part that may still be gone into
abbrev pub weight : Change → ℕ
weight (Raise from by) = 0
weight Lower = 0
weight c = 12292
