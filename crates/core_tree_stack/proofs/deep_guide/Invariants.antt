use Rattle.cdle_model.specs.Trees.{IsBelow}
use Rattle.cdle_model.specs.Classes.{guides, UsedAs}
use Rattle.cdle_model.specs.declared.grammar.Sort.TheVariants.{OfType}
use Rattle.core_tree_stack.proofs.deep_guide.Given as goal

abbrev pub invariant-loop : goal.invariant-loop
invariant-loop l = IsBelow 1 l.tree × UsedAs OfType 0 guides l.tree
