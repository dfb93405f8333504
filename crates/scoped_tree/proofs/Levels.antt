-- Levels of branches.
use Rattle.std.proofs.Common.{◌≡◌, ◌≤◌, List, [], ◌∷◌, max, refl, arith}
use Rattle.scoped_tree.specs.Trees.{chain, levels}
use Rattle.scoped_tree.specs.declared.node.ScopedBranch.{ScopedBranch}

one_level : (bs : List ScopedBranch) → 1 ≤ levels (chain bs)
one_level [] = omega arith
one_level (b ∷ bs) = omega (arith, one_level bs)

pub none_yet : (bs : List ScopedBranch) → max 1 (levels (chain bs)) ≡ levels (chain bs)
none_yet bs = omega (arith, one_level bs)
