use Rattle.std.proofs.Common.{map, take}
use Rattle.surf_tree.specs.Items.{module_of}
use Rattle.plan_model.proofs.Numbered.{Numbers}
use Rattle.build_plan.specs.Tables.{names_in, needs_of}
use Rattle.build_plan.proofs.numbers.all_numbers.Given as goal

abbrev pub invariant-loop-module : goal.invariant-loop-module
invariant-loop-module l = Numbers (names_in l.modules) (map module_of (take l.module-index l.modules)) (needs_of l.needs.items)
