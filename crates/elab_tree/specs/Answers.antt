-- What a change of a tree answers.
use Rattle.std.specs.Prelude.{◌≡◌, ℕ, ◌≤◌, ◌<◌, max, Result, Ok, Err}
use Rattle.cdle_model.specs.Trees.{Tree}
use Rattle.cdle_model.specs.Depth.{depth}
use Rattle.elab_tree.specs.declared.stop.TreeStop.{TreeStop}
use Rattle.elab_tree.specs.declared.stop.TreeStop.TheVariants.{TooDeep, NoMemory}

-- the tree t, or that it would be too deep
abbrev pub Gives : Tree → Result Tree TreeStop → Type 0
Gives t (Ok r) = (r ≡ t) × (depth t ≤ 4096)
Gives t (Err TooDeep) = 4096 < depth t
Gives t (Err NoMemory) = Unit {0}

-- the tree t, however deep, or that a part which stands in it is too deep
abbrev pub Makes : Tree → Result Tree TreeStop → Type 0
Makes t (Ok r) = r ≡ t
Makes t (Err TooDeep) = 4096 < depth t
Makes t (Err NoMemory) = Unit {0}

-- the same of two trees
abbrev pub MakesBoth : Tree → Tree → Result (Tree × Tree) TreeStop → Type 0
MakesBoth t u (Ok r) = (r.0 ≡ t) × (r.1 ≡ u)
MakesBoth t u (Err TooDeep) = 4096 < max (depth t) (depth u)
MakesBoth t u (Err NoMemory) = Unit {0}

-- whether a change may give a tree of this depth
abbrev pub HasRoom : ℕ → Result (Unit {0}) TreeStop → Type 0
HasRoom d (Ok _) = d ≤ 4096
HasRoom d (Err TooDeep) = 4096 < d
HasRoom d (Err NoMemory) = ⊥
