use Rattle.std.proofs.Common.{map, take, ◌+◌, sym, subst}
use Rattle.std.specs.List.{AllZip}
use Rattle.surf_tree.specs.Items.{module_of}
use Rattle.plan_model.specs.Reading.{IsCalled}
use Rattle.plan_model.proofs.Numbered.{Numbers}
use Rattle.build_plan.specs.Tables.{names_in, needs_of}
use Rattle.build_plan.proofs.Named.{Imported, module_more}
use Rattle.build_plan.proofs.numbers.all_numbers.Goals as goal

pub loop-module-preserved : goal.loop-module-preserved
loop-module-preserved c =
    let names = names_in c.args.modules.now in
    subst (λ ns. Numbers names (map module_of (take (c.loop-module.module-index + 1) c.args.modules.now)) (needs_of ns)) (sym c.in_ok-push.ensures.items)
    (module_more names c.args.modules.now c.loop-module.needs.items c.loop-module.module-index c.module-item.result c.in_ok-numbers.numbers c.loop-module.invariant c.loop-module-test.true c.module-item.is
    (subst (λ is. AllZip (IsCalled names) c.in_ok-numbers.numbers.items (map (λ (i : Imported). i.0.0) is)) c.as_slice.ensures.value c.in_ok-numbers.ensures))
