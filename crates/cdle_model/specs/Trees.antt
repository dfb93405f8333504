-- Nameless trees: one type for Core's terms, types and kinds, for pure terms, and for erased types and kinds.
use Rattle.std.specs.Prelude.{ℕ, suc, ◌+◌, ◌<◌, pred, Bool, true, false, cond, ltb, eqb}

-- what a function takes, and what it is: a pure term over a pure term, a type over a term, a type over a type
pub data Function : Type 0 where
  of_pure of_term of_type : Function
  deriving Discrete as Function-discrete

-- the forms without parts; an unknown is a type that the elaborator has still to find, and no Core tree has one
pub data Leaf : Type 0 where
  star_of : Leaf
  unknown : ℕ → Leaf
  deriving Discrete as Leaf-discrete

-- the forms of one part
pub data Unary : Type 0 where
  fst_of snd_of : Unary
  deriving Discrete as Unary-discrete

-- the forms of two parts; `group_of` is no form by itself, it holds two parts of a form that has more
pub data Binary : Type 0 where
  eq_of app_of eapp_of tapp_of group_of beta_of rho_of phi_of delta_of : Binary
  deriving Discrete as Binary-discrete

-- the forms of two parts of which the second stands under one binder; `guide_of` holds two parts of `rho`
pub data Binder : Type 0 where
  pi_of all_of allt_of iota_of kpi_of kpit_of tlam_of xtlam_of lam_of elam_of xlam_of pair_of guide_of : Binder
  deriving Discrete as Binder-discrete

-- a variable is the number of binders between it and its own; a name is the number of an item;
-- `fun` is a function without a written domain, whose part stands under one binder, and `apply` what such a function is applied by
pub data Tree : Type 0 where
  var : ℕ → Tree
  name : ℕ → Tree
  leaf : Leaf → Tree
  unary : Unary → Tree → Tree
  fun : Function → Tree → Tree
  apply : Function → Tree → Tree → Tree
  binary : Binary → Tree → Tree → Tree
  bind : Binder → Tree → Tree → Tree
  deriving Discrete as Tree-discrete

-- raises by `by` each free variable that is not below `from`
abbrev pub shift : ℕ → ℕ → Tree → Tree
shift from by (var i) = var (cond (ltb i from) i (i + by))
shift from by (name n) = name n
shift from by (leaf l) = leaf l
shift from by (unary j p) = unary j (shift from by p)
shift from by (fun c p) = fun c (shift (suc from) by p)
shift from by (apply c p q) = apply c (shift from by p) (shift from by q)
shift from by (binary j p q) = binary j (shift from by p) (shift from by q)
shift from by (bind f p q) = bind f (shift from by p) (shift (suc from) by q)

-- the variable `i` after `part` was put for the variable `at`
abbrev pub put_var : ℕ → Tree → ℕ → Tree
put_var at part i = cond (ltb i at) (var i) (cond (eqb i at) part (var (pred i)))

-- puts `part` for the variable `at` and lowers the free variables above it by one
abbrev pub put : ℕ → Tree → Tree → Tree
put at part (var i) = put_var at part i
put at part (name n) = name n
put at part (leaf l) = leaf l
put at part (unary j p) = unary j (put at part p)
put at part (fun c p) = fun c (put (suc at) (shift 0 1 part) p)
put at part (apply c p q) = apply c (put at part p) (put at part q)
put at part (binary j p q) = binary j (put at part p) (put at part q)
put at part (bind f p q) = bind f (put at part p) (put (suc at) (shift 0 1 part) q)

-- the variable k is not in the tree
abbrev pub lacks : ℕ → Tree → Bool
lacks k (var i) = cond (eqb i k) false true
lacks k (name n) = true
lacks k (leaf l) = true
lacks k (unary j p) = lacks k p
lacks k (fun c p) = lacks (suc k) p
lacks k (apply c p q) = cond (lacks k p) (lacks k q) false
lacks k (binary j p q) = cond (lacks k p) (lacks k q) false
lacks k (bind f p q) = cond (lacks k p) (lacks (suc k) q) false

-- every free variable is below `k`; the tree is closed where k is 0
abbrev pub IsBelow : ℕ → Tree → Type 0
IsBelow k (var i) = i < k
IsBelow k (name n) = Unit {0}
IsBelow k (leaf l) = Unit {0}
IsBelow k (unary j p) = IsBelow k p
IsBelow k (fun c p) = IsBelow (suc k) p
IsBelow k (apply c p q) = IsBelow k p × IsBelow k q
IsBelow k (binary j p q) = IsBelow k p × IsBelow k q
IsBelow k (bind f p q) = IsBelow k p × IsBelow (suc k) q

-- every name is below `n`: it is one of the first n items
abbrev pub NamesBelow : ℕ → Tree → Type 0
NamesBelow n (var i) = Unit {0}
NamesBelow n (name m) = m < n
NamesBelow n (leaf l) = Unit {0}
NamesBelow n (unary j p) = NamesBelow n p
NamesBelow n (fun c p) = NamesBelow n p
NamesBelow n (apply c p q) = NamesBelow n p × NamesBelow n q
NamesBelow n (binary j p q) = NamesBelow n p × NamesBelow n q
NamesBelow n (bind f p q) = NamesBelow n p × NamesBelow n q
