-- What becomes of a tree where something stands for each of its free variables.
use Rattle.std.specs.Prelude.{◌≡◌, ℕ, suc, ◌+◌, ◌*◌, ◌<◌, Bool, true, cond, ltb, eqb, Result, Ok, Err}
use Rattle.cdle_model.specs.Trees.{Tree, var, name, leaf, unary, fun, apply, binary, bind, shift, put_var}
use Rattle.cdle_model.specs.Forms.{star}
use Rattle.cdle_model.specs.Depth.{depth}
use Rattle.core_tree.specs.Parts.{part_tree}
use Rattle.core_tree.specs.declared.change.Change.{Change}
use Rattle.core_tree.specs.declared.change.Change.TheVariants.{Raise, Lower, Put}
use Rattle.core_tree.specs.declared.stop.PutStop.{PutStop}
use Rattle.core_tree.specs.declared.stop.PutStop.TheVariants.{TooDeep, NoMemory}

-- `s k i` stands for the variable i under k binders
abbrev pub replaced : (ℕ → ℕ → Tree) → ℕ → Tree → Tree
replaced s k (var i) = s k i
replaced s k (name n) = name n
replaced s k (leaf l) = leaf l
replaced s k (unary j p) = unary j (replaced s k p)
replaced s k (fun c p) = fun c (replaced s (suc k) p)
replaced s k (apply c p q) = apply c (replaced s k p) (replaced s k q)
replaced s k (binary j p q) = binary j (replaced s k p) (replaced s k q)
replaced s k (bind f p q) = bind f (replaced s k p) (replaced s (suc k) q)

-- the part that a change puts
abbrev pub part_of : Change → Tree
part_of (Put at p) = part_tree p
part_of c = star

-- the first variable that a change concerns
abbrev pub first_of : Change → ℕ
first_of (Raise from by) = from
first_of (Put at p) = at
first_of Lower = 0

-- how far free variables are raised
abbrev pub raise_of : Change → ℕ
raise_of (Raise from by) = by
raise_of c = 1

-- what a change makes of a variable
abbrev pub stands : Change → ℕ → ℕ → Tree
stands (Raise from by) k i = var (cond (ltb i (from + k)) i (i + by))
stands c k i = put_var (first_of c + k) (shift 0 k (part_of c)) i

-- a tree whose free variables are below f stays as it is under k binders
abbrev pub leaves : Change → ℕ → ℕ → Bool
leaves c f k = cond (ltb (first_of c + k) f) (eqb (raise_of c) 0) true

-- more than twice the depth of the part that may still be gone into
abbrev pub weight : Change → ℕ
weight (Put at p) = 2 * depth (part_tree p) + 3
weight c = 0

-- a change answers the tree t, or that the part which is put is too deep
abbrev pub ChangeGives : Tree → Result Tree PutStop → Type 0
ChangeGives t (Ok r) = r ≡ t
ChangeGives t (Err TooDeep) = 4096 < depth t
ChangeGives t (Err NoMemory) = Unit {0}
