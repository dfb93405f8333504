-- What `resolve` answers: a module whose scope is known, or the first fault of scope in the text.
use Rattle.std.specs.Prelude.{◌≡◌, List, Result, Ok, Err}
use Rattle.source_model.specs.Source.{Module}
use Rattle.scope_model.specs.Scope.{Unbound, WrongClass, Twice, all_names, count, scoped_module}
use Rattle.scope_model.specs.ScopeNames.{Text, Exported}
use Rattle.scoped_tree.specs.Items.{AreNumbered, exported_of, module_of}
use Rattle.scoped_tree.specs.Trees.{place}
use Rattle.scoped_tree.specs.declared.items.ScopedModule.{ScopedModule}
use Rattle.scope_part.specs.declared.fault.ScopeFault.{ScopeFault}
use Rattle.scope_part.specs.declared.fault.ScopeFault.TheVariants as faults

-- the module as those behind it know it: with its name, the number of its first Core item, and the names of these in order
abbrev pub exported_by : List Exported → Module Text → Exported
exported_by known m = record { name = m.name; first = count known; items = all_names m.items }

-- A module that is answered is the one that the definitions give, tells those behind it what they say, and keeps in each datatype its number.
pub record IsScoped (known : List Exported) (m : Module Text) (r : ScopedModule) : Type 0 where
  pub scope : scoped_module known m ≡ Ok (module_of r)
  pub exported : exported_of r ≡ exported_by known m
  pub numbers : AreNumbered r.first r.items.items

-- Of a module behind those that are known. Memory may run out anywhere.
abbrev pub IsResolved : List Exported → Module Text → Result ScopedModule ScopeFault → Type 0
IsResolved known m (Ok r) = IsScoped known m r
IsResolved known m (Err faults.NoMemory) = Unit {0}
IsResolved known m (Err (faults.Unbound span)) = scoped_module known m ≡ Err (Unbound (place span))
IsResolved known m (Err (faults.WrongClass span)) = scoped_module known m ≡ Err (WrongClass (place span))
IsResolved known m (Err (faults.Twice span)) = scoped_module known m ≡ Err (Twice (place span))
