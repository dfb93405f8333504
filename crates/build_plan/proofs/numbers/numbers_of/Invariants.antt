use Rattle.std.proofs.Common.{map, take}
use Rattle.std.specs.List.{AllZip}
use Rattle.plan_model.specs.Reading.{IsCalled}
use Rattle.build_plan.specs.Tables.{names_in}
use Rattle.build_plan.proofs.numbers.numbers_of.Given as goal

abbrev pub invariant-loop-import : goal.invariant-loop-import
invariant-loop-import l = AllZip (IsCalled (names_in l.modules)) l.numbers.items (map (λ i. i.0.0) (take l.import-index l.imports))
