use Rattle.std.specs.Prelude.{◌≡◌, List, Some, slice_get}
use Rattle.cdle_model.specs.declared.grammar.Sort.{Sort}
use Rattle.cdle_model.specs.declared.grammar.Sort.TheVariants.{OfType}
use Rattle.cdle_model.specs.Classes.{guides}
use Rattle.core_compare_rows.specs.Closed.{IsUnder}
use Rattle.core_compare_rows.proofs.types.doubled.Given as goal

abbrev pub invariant-loop : goal.invariant-loop
invariant-loop l = (vs : List Sort) → slice_get vs l.variable ≡ Some OfType → IsUnder vs guides l.tree
