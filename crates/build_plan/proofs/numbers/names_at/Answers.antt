use Rattle.std.proofs.Common.{◌≡◌, Some, ◌+◌, map, slice_get, take, sym, subst}
use Rattle.std.specs.List.{AllZip}
use Rattle.std.proofs.lemmas.List.Elements.{Contains-get_or}
use Rattle.cdle_names.specs.declared.table.NameId as table
use Rattle.build_plan.specs.Tables.{names_in}
use Rattle.build_plan.proofs.Named.{names_more}
use Rattle.build_plan.proofs.numbers.names_at.Goals as goal

pub name_at-requires : goal.name_at-requires
name_at-requires c = c.requires _ (Contains-get_or c.args.numbers.now c.loop-number.number-index 0 c.loop-number-test.true)

pub loop-number-preserved : goal.loop-number-preserved
loop-number-preserved c =
    subst (λ xs. AllZip (λ k x. slice_get (names_in c.args.modules.now) k ≡ Some x) (take (c.loop-number.number-index + 1) c.args.numbers.now) (map (λ (x : table.NameId). x.0) xs)) (sym c.in_ok-push.ensures.items)
    (names_more c.args.modules.now c.args.numbers.now c.loop-number.names.items c.loop-number.number-index c.name_at.result c.loop-number.invariant c.loop-number-test.true c.name_at.ensures)
