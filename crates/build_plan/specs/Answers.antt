-- What `order` answers.
use Rattle.std.specs.Prelude.{ℕ, List, Result, Ok, Err, map}
use Rattle.std.specs.Global.{Vec}
use Rattle.surf_tree.specs.Items.{module_of}
use Rattle.surf_tree.specs.declared.items.SrcModule.{SrcModule}
use Rattle.plan_model.specs.Orders.{IsFirstOrder}
use Rattle.plan_model.specs.Cycles.{IsCycle}
use Rattle.build_plan.specs.declared.fault.PlanFault.{PlanFault}
use Rattle.build_plan.specs.declared.fault.PlanFault.TheVariants as faults

-- the first order of the modules, by their numbers, or the names of their cycle; of want of memory nothing is said
abbrev pub IsPlan : List SrcModule → Result (Vec ℕ) PlanFault → Type 0
IsPlan ms (Ok o) = IsFirstOrder (map module_of ms) o.items
IsPlan ms (Err (faults.Cycle names)) = IsCycle (map module_of ms) (map (λ x. x.0) names.items)
IsPlan ms (Err faults.NoMemory) = Unit {0}
