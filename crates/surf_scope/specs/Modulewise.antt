-- The steps of the scope of a module.
use Rattle.std.specs.Prelude.{◌≡◌, List, map, Result, Ok, Err}
use Rattle.cdle_model.specs.CoreNames.{Name}
use Rattle.source_model.specs.Source.{Module}
use Rattle.scope_model.specs.Scope.{all_names, around, count, scoped_items}
use Rattle.scope_model.specs.ScopeNames.{Text, Around, Exported}
use Rattle.scoped_tree.specs.Items.{AreNumbered, item_of}
use Rattle.scope_part.specs.Index.{names_of}
use Rattle.scope_part.specs.Results.{Fails}
use Rattle.scope_part.specs.declared.fault.ScopeFault as code
use Rattle.surf_scope.specs.declared.modules.Passed.{Passed}

-- what is known in the module behind these items of its own
abbrev pub around_behind : List Exported → Module Text → List Name → Around
around_behind known m own = record (around known m) { own = own }

abbrev pub GivesItems : List Exported → Module Text → Result Passed code.ScopeFault → Type 0
GivesItems known m (Ok r) = (scoped_items (around known m) m.items ≡ Ok (map item_of r.items.items)) × (names_of r.own ≡ all_names m.items) × AreNumbered (count known) r.items.items
GivesItems known m (Err e) = Fails e (scoped_items (around known m) m.items)
