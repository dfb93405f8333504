use Rattle.std.proofs.Common.{◌≤◌, []}
use Rattle.cdle_model.specs.Classes.{item_sorts}
use Rattle.cdle_model.specs.Derivation.{bodies, signature}
use Rattle.core_compare.specs.Pairs.{stack}
use Rattle.core_compare.proofs.Comparing.{Comparing}
use Rattle.core_compare.proofs.comparison.compare_pairs.Given as goal

abbrev pub invariant-pairs : goal.invariant-pairs
invariant-pairs l = record {
  so_far : Comparing (item_sorts l.items) (bodies (signature l.items)) (stack [] l.fn.pairs.items) l.fn.budget.left l.pairs.items l.budget.left;
  less : l.budget.left ≤ l.fn.budget.left;
}

abbrev pub decreases-pairs : goal.decreases-pairs
decreases-pairs l = l.budget.left
