-- What each node keeps, and what a put answers.
use Rattle.std.specs.Prelude.{◌≡◌, ℕ, ◌≤◌, ◌<◌, Result, Ok, Err}
use Rattle.cdle_model.specs.Trees.{Tree}
use Rattle.cdle_model.specs.Depth.{depth, free_bound}
use Rattle.cdle_model.specs.Classes.{TreeClass, IsOf}
use Rattle.core_tree.specs.declared.stop.PutStop.{PutStop}
use Rattle.core_tree.specs.declared.stop.PutStop.TheVariants.{TooDeep, NoMemory}

-- a tree of the class, and its depth as the node keeps it, which is at most the limit
pub record IsNode (c : TreeClass) (limit : ℕ) (kept : ℕ) (t : Tree) : Type 0 where
  pub is : kept ≡ depth t
  pub bounded : kept ≤ limit
  pub class : IsOf c t

-- the same of a node that keeps also one more than its largest free variable
pub record IsOpenNode (c : TreeClass) (limit : ℕ) (kept : ℕ) (free : ℕ) (t : Tree) : Type 0 where
  pub is : kept ≡ depth t
  pub bounded : kept ≤ limit
  pub above : free ≡ free_bound t
  pub class : IsOf c t

-- a put answers the tree t, or that it would be too deep
abbrev pub PutGives : Tree → Result Tree PutStop → Type 0
PutGives t (Ok r) = (r ≡ t) × (depth t ≤ 4096)
PutGives t (Err TooDeep) = 4096 < depth t
PutGives t (Err NoMemory) = Unit {0}

-- whether a put may give a tree of this depth
abbrev pub HasRoom : ℕ → Result (Unit {0}) PutStop → Type 0
HasRoom d (Ok _) = d ≤ 4096
HasRoom d (Err TooDeep) = 4096 < d
HasRoom d (Err NoMemory) = ⊥
