use Rattle.cdle_model.specs.Erasure.{HasErasure}
use Rattle.core_tree_stack.proofs.deep_type.Given as goal

abbrev pub invariant-loop : goal.invariant-loop
invariant-loop l = HasErasure l.tree
