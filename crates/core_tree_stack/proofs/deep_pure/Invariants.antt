use Rattle.cdle_model.specs.Trees.{IsBelow}
use Rattle.cdle_model.specs.Classes.{pure_terms, UsedAs}
use Rattle.cdle_model.specs.declared.grammar.Sort.TheVariants.{OfTerm}
use Rattle.core_tree_stack.proofs.deep_pure.Given as goal

abbrev pub invariant-loop : goal.invariant-loop
invariant-loop l = IsBelow 1 l.tree × UsedAs OfTerm 0 pure_terms l.tree
