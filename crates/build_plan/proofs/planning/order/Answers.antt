use Rattle.std.proofs.Common.{◌≡◌, ℕ, ◌<◌, List, Contains, Some, length, map, slice_get, sym, subst}
use Rattle.std.specs.Global.{Vec}
use Rattle.std.specs.List.{AllZip}
use Rattle.cdle_names.specs.declared.table.NameId as table
use Rattle.plan_model.specs.Orders.{Imports}
use Rattle.plan_model.specs.Cycles.{IsCycleOf}
use Rattle.build_plan.specs.Tables.{names_in, needs_of}
use Rattle.build_plan.proofs.Named.{cycle_below, cycle_named, imports_below}
use Rattle.build_plan.proofs.planning.order.Goals as goal

pub cycle-requires-clause-below : goal.cycle-requires-clause-below
cycle-requires-clause-below c =
    subst (λ (ns : List (Vec ℕ)). (i j : ℕ) → Imports (needs_of ns) i j → j < length ns) (sym c.as_slice-in-Some.ensures.value) (imports_below c.args.modules.now c.in_ok-needs.needs.items c.in_ok-needs.ensures)

pub names_at-requires : goal.names_at-requires
names_at-requires c =
    subst (λ (ks : List ℕ). (k : ℕ) → Contains ks k → k < length c.args.modules.now) (sym c.as_slice-in-Some-3.ensures.value)
    (cycle_below c.args.modules.now c.in_ok-needs.needs.items c.in_ok-numbers-in-Some.numbers.items c.in_ok-needs.ensures
    (subst (λ (ns : List (Vec ℕ)). IsCycleOf (needs_of ns) c.in_ok-numbers-in-Some.numbers.items) c.as_slice-in-Some.ensures.value c.in_ok-numbers-in-Some.ensures))

pub returns : goal.returns
returns c =
    let names = map (λ (x : table.NameId). x.0) c.in_ok-names-in-Some.names.items in
    cycle_named c.args.modules.now c.in_ok-needs.needs.items c.in_ok-numbers-in-Some.numbers.items names c.in_ok-needs.ensures
    (subst (λ (ns : List (Vec ℕ)). IsCycleOf (needs_of ns) c.in_ok-numbers-in-Some.numbers.items) c.as_slice-in-Some.ensures.value c.in_ok-numbers-in-Some.ensures)
    (subst (λ (ks : List ℕ). AllZip (λ k x. slice_get (names_in c.args.modules.now) k ≡ Some x) ks names) c.as_slice-in-Some-3.ensures.value c.in_ok-names-in-Some.ensures)
