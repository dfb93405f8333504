-- The order in which the modules of a build are read.
use Rattle.std.specs.Prelude.{◌≡◌, ℕ, List, [], ◌∷◌, Option, Some, length, map, slice_get, take}
use Rattle.cdle_names.specs.Texts.{with_text}
use Rattle.scope_model.specs.ScopeNames.{Text}
use Rattle.source_model.specs.Source.{Module}

-- the names with these behind them, each where it is not there yet
abbrev pub with_new : List Text → List Text → List Text
with_new known [] = known
with_new known (w ∷ ws) = with_new (with_text w known) ws

-- the names of a module's imports, in order
abbrev pub imports_of : Module Text → List Text
imports_of m = map (λ i. i.0) m.imports

-- the names with the imports of these modules behind them, of one module after the other
abbrev pub with_imports : List Text → List (Module Text) → List Text
with_imports known [] = known
with_imports known (m ∷ ms) = with_imports (with_new known (imports_of m)) ms

-- the names that are wanted: the root's, and behind it those of the imports of these modules, where they are new
abbrev pub wanted : Text → List (Module Text) → List Text
wanted root ms = with_imports (root ∷ []) ms

-- the name of the module to be read behind these; none where all are read
abbrev pub next_wanted : Text → List (Module Text) → Option Text
next_wanted root ms = slice_get (wanted root ms) (length ms)

-- each of these modules is, by its name, the next that those before it want
abbrev pub AreInReadingOrder : Text → List (Module Text) → Type 0
AreInReadingOrder root ms = (i : ℕ) (m : Module Text) → slice_get ms i ≡ Some m → slice_get (wanted root (take i ms)) i ≡ Some m.name
