-- What a refusal keeps.
use Rattle.std.specs.Prelude.{◌≡◌, ◌<◌, ◌≤◌}
use Rattle.cdle_model.specs.Depth.{depth}
use Rattle.cdle_model.specs.Trees.{Tree}
use Rattle.core_tree.specs.declared.faults.Kept.{Kept}
use Rattle.core_tree.specs.declared.faults.Kept.TheVariants.{Whole, Deep}

-- the tree is kept whole, or is deeper than 4,096
abbrev pub IsKept : Tree → Kept Tree → Type 0
IsKept t (Whole k) = (k ≡ t) × (depth t ≤ 4096)
IsKept t Deep = 4096 < depth t
