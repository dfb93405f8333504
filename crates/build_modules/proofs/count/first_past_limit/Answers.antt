use Rattle.std.proofs.Common.{arith, map}
use Rattle.surf_scope.specs.Modules.{spelled_module}
use Rattle.surf_tree.specs.Items.{item_of, module_of}
use Rattle.build_modules.proofs.Counting.{counted, counting_goes_on, counting_stops}
use Rattle.build_modules.proofs.InOrder.{next_in_order}
use Rattle.build_modules.proofs.count.first_past_limit.Goals as goal

pub returns-in-None : goal.returns-in-None
returns-in-None c = λ names.
    counting_stops _ _ _ (spelled_module names (module_of c.in_ok-module.module.now)) c.modules.left c.modules.place _ (c.modules.invariant.same names)
    (next_in_order (λ m. spelled_module names (module_of m)) c.args.modules.now c.in-Some.number.now c.in_ok-module.module.now c.modules.rest.now c.in-Some.others.now c.in-Some.ensures.cases.0 c.in_ok-module.ensures)
    (counted names (map item_of c.in_ok-module.module.now.items.items)) (rw (← c.deref.ensures.value) c.in-None.ensures)

pub modules-preserved : goal.modules-preserved
modules-preserved c = record {
  same = λ names.
      counting_goes_on _ _ _ (spelled_module names (module_of c.in_ok-module.module.now)) c.modules.left c.in-Some-left_behind_all.fewer c.modules.place _ (c.modules.invariant.same names)
      (next_in_order (λ m. spelled_module names (module_of m)) c.args.modules.now c.in-Some.number.now c.in_ok-module.module.now c.modules.rest.now c.in-Some.others.now c.in-Some.ensures.cases.0 c.in_ok-module.ensures)
      (counted names (map item_of c.in_ok-module.module.now.items.items)) (rw (← c.deref.ensures.value) c.in-Some-left_behind_all.ensures);
  at = let more = c.in-Some.ensures.cases.1 in let was = c.modules.invariant.at in omega (arith, more, was);
}
