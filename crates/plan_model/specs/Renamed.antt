-- Modules with other names.
use Rattle.std.specs.Prelude.{◌≡◌, ◌++◌, List, Contains, flat_map, map}
use Rattle.std.specs.List.{AllZip}
use Rattle.source_model.specs.Source.{Module}
use Rattle.plan_model.specs.Reading.{imported, names_of}

-- all names of the modules and of what they import
abbrev pub occurring : {A : Type 0} → List (Module A) → List A
occurring ms = names_of ms ++ flat_map imported ms

-- the second modules are called as the first, and import as they do, with f of each name; and f is another name for another name
pub record AreRenamed {A B : Type 0} (f : A → B) (ms : List (Module A)) (ns : List (Module B)) : Type 0 where
  pub each : AllZip (λ m n. (n.name ≡ f m.name) × (imported n ≡ map f (imported m))) ms ns
  pub apart : (x y : A) → Contains (occurring ms) x → Contains (occurring ms) y → f x ≡ f y → x ≡ y
