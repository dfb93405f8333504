use Rattle.std.specs.Prelude.{[], ◌∷◌}
use Rattle.cdle_model.specs.declared.grammar.Sort.TheVariants.{OfType}
use Rattle.cdle_model.specs.Classes.{guides}
use Rattle.core_compare_rows.specs.Closed.{IsUnder}
use Rattle.core_compare_rows.proofs.types.repeated.Given as goal

abbrev pub invariant-loop : goal.invariant-loop
invariant-loop l = IsUnder (OfType ∷ OfType ∷ OfType ∷ []) guides l.tree
