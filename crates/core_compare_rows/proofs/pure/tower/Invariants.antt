use Rattle.cdle_model.specs.Classes.{pure_terms}
use Rattle.core_compare_rows.specs.Closed.{IsClosed}
use Rattle.core_compare_rows.proofs.pure.tower.Given as goal

abbrev pub invariant-loop : goal.invariant-loop
invariant-loop l = IsClosed pure_terms l.tree
