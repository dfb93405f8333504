-- Modules in the order in which they are read, the root first; and their numbers, which count from 0 in that order.
use Rattle.std.specs.Prelude.{◌≡◌, ◌<◌, ℕ, List, [], ◌∷◌, ◌++◌, Contains, Some, flat_map, map, slice_get}
use Rattle.std.specs.List.{AllZip}
use Rattle.source_model.specs.Source.{Module}

-- the names of the modules
abbrev pub names_of : {A : Type 0} → List (Module A) → List A
names_of ms = map (λ m. m.name) ms

-- the names that a module imports, in their order
abbrev pub imported : {A : Type 0} → Module A → List A
imported m = map (λ i. i.0) m.imports

-- all names that are mentioned: that of the root, and behind it those that are imported, module after module
abbrev pub mentioned : {A : Type 0} → List (Module A) → List A
mentioned [] = []
mentioned (m ∷ ms) = m.name ∷ flat_map imported (m ∷ ms)

-- Where the names of the first list are known, the new ones of the second are those of the third, each where it comes first.
pub data AreNew {A : Type 0} : List A → List A → List A → Type 0 where
  no_more : (known : List A) → AreNew known [] []
  known_name : (known xs ys : List A) (x : A) → Contains known x → AreNew known xs ys → AreNew known (x ∷ xs) ys
  new_name : (known xs ys : List A) (x : A) → (Contains known x → ⊥) → AreNew (known ++ x ∷ []) xs ys → AreNew known (x ∷ xs) (x ∷ ys)

-- the modules stand as they are read: their names are those that are mentioned, each where it comes first, and each but the root's is imported by a module before it
pub record IsReading {A : Type 0} (ms : List (Module A)) : Type 0 where
  pub new : AreNew [] (mentioned ms) (names_of ms)
  pub reached : (root m : Module A) (before after : List (Module A)) → ms ≡ root ∷ (before ++ m ∷ after) → Contains (flat_map imported (root ∷ before)) m.name

-- ---- numbers

-- the module of that number is the first one that has this name
pub record IsCalled {A : Type 0} (names : List A) (i : ℕ) (x : A) : Type 0 where
  pub called : slice_get names i ≡ Some x
  pub first : (j : ℕ) → j < i → slice_get names j ≡ Some x → ⊥

-- for each module the numbers of the modules that it imports, in the order of its imports
abbrev pub Needs : Type 0
Needs = List (List ℕ)

-- these are the numbers of what the modules import; where an import is of no module of the list there are none
abbrev pub AreNumbered : {A : Type 0} → List (Module A) → Needs → Type 0
AreNumbered ms needs = AllZip (λ m js. AllZip (IsCalled (names_of ms)) js (imported m)) ms needs
