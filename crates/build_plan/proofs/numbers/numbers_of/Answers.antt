use Rattle.std.proofs.Common.{map, take, ◌+◌, sym, subst}
use Rattle.std.specs.List.{AllZip}
use Rattle.plan_model.specs.Reading.{IsCalled}
use Rattle.build_plan.specs.Tables.{names_in}
use Rattle.build_plan.proofs.Named.{Imported, import_more}
use Rattle.build_plan.proofs.numbers.numbers_of.Goals as goal

pub loop-import-preserved : goal.loop-import-preserved
loop-import-preserved c =
    subst (λ js. AllZip (IsCalled (names_in c.args.modules.now)) js (map (λ (i : Imported). i.0.0) (take (c.loop-import.import-index + 1) c.args.imports.now))) (sym c.in_ok-push.ensures.items)
    (import_more (names_in c.args.modules.now) c.loop-import.numbers.items c.args.imports.now c.loop-import.import-index _ c.in-Some.number c.loop-import.invariant c.loop-import-test.true c.in-Some.ensures)
