-- The written names of modules that are known.
use Rattle.std.specs.Prelude.{◌==◌, Bool, List, [], ◌∷◌, ◌++◌, codes, map}
use Rattle.std.specs.List.{list_any}
use Rattle.scope_model.specs.ScopeNames.{Text, Exported}

-- a text with `.`
abbrev pub has_dot : Text → Bool
has_dot w = list_any (λ b. b == 46) w

-- the names of the Core items of all of them, as written
abbrev pub known_names : List Exported → List Text
known_names [] = []
known_names (x ∷ xs) = map (λ y. x.name ++ (codes "." ++ y.text)) x.items ++ known_names xs
