-- Modules in an order that is told by their numbers.
use Rattle.std.specs.Prelude.{ℕ, List, [], ◌∷◌, Option, Some, None, map, slice_get}
use Rattle.scope_model.specs.ScopeNames.{Text}
use Rattle.source_model.specs.Source.{Module}
use Rattle.surf_scope.specs.Modules.{spelled_module}
use Rattle.surf_tree.specs.Items.{module_of}
use Rattle.surf_tree.specs.declared.items.SrcModule.{SrcModule}

-- one before others, where it is there
abbrev pub before : {A : Type 0} → Option A → List A → List A
before (Some x) xs = x ∷ xs
before None xs = xs

-- the entries of these numbers in their order; a number of none is passed over
abbrev pub in_order : {A : Type 0} → List A → List ℕ → List A
in_order xs [] = []
in_order xs (i ∷ is) = before (slice_get xs i) (in_order xs is)

-- the modules with the texts of their names
abbrev pub spelled_modules : List Text → List SrcModule → List (Module Text)
spelled_modules names ms = map (λ m. spelled_module names (module_of m)) ms
