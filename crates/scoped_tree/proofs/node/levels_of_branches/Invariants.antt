use Rattle.std.proofs.Common.{◌≡◌, ◌≤◌, max, length}
use Rattle.scoped_tree.specs.Trees.{chain, levels}
use Rattle.scoped_tree.proofs.node.levels_of_branches.Given as goal

-- what was looked at, and what is left
abbrev pub invariant-branches : goal.invariant-branches
invariant-branches l = record { same : max l.most (levels (chain l.rest)) ≡ levels (chain l.branches.items); least : 1 ≤ l.most; bounded : l.most ≤ 16384 }

abbrev pub decreases-branches : goal.decreases-branches
decreases-branches l = length l.rest
