-- The orders in which modules can be taken, each behind what it imports, and the first of these orders.
use Rattle.std.specs.Prelude.{◌≡◌, ◌<◌, ◌⊎◌, ◌↔◌, ℕ, List, [], ◌∷◌, ◌++◌, Contains, get_or, length}
use Rattle.source_model.specs.Source.{Module}
use Rattle.plan_model.specs.Reading.{AreNumbered, Needs}

-- module i imports module j
abbrev pub Imports : Needs → ℕ → ℕ → Type 0
Imports needs i j = Contains (get_or needs i []) j

-- nothing comes twice
abbrev pub Differ : {A : Type 0} → List A → Type 0
Differ {A} xs = (before : List A) (x : A) (after : List A) → xs ≡ before ++ x ∷ after → Contains before x → ⊥

-- each module stands there once, and all that it imports stands before it
pub record IsOrderOf (needs : Needs) (o : List ℕ) : Type 0 where
  pub each : (i : ℕ) → Contains o i ↔ (i < length needs)
  pub once : Differ o
  pub earlier : (before : List ℕ) (i : ℕ) (after : List ℕ) → o ≡ before ++ i ∷ after → (j : ℕ) → Imports needs i j → Contains before j

-- the first list is the second, or comes before it in the order of a dictionary
abbrev pub AtMost : List ℕ → List ℕ → Type 0
AtMost [] js = Unit {0}
AtMost (i ∷ is) [] = ⊥
AtMost (i ∷ is) (j ∷ js) = (i < j) ⊎ ((i ≡ j) × AtMost is js)

-- an order, and at most each order there is
pub record IsFirstOrderOf (needs : Needs) (o : List ℕ) : Type 0 where
  pub order : IsOrderOf needs o
  pub first : (p : List ℕ) → IsOrderOf needs p → AtMost o p

-- ---- of modules

-- an order of the modules, by their numbers; where an import is of no module of the list there is none
pub record IsOrder {A : Type 0} (ms : List (Module A)) (o : List ℕ) : Type 0 where
  pub needs : Needs
  pub numbered : AreNumbered ms needs
  pub order : IsOrderOf needs o

-- the first of them
pub record IsFirstOrder {A : Type 0} (ms : List (Module A)) (o : List ℕ) : Type 0 where
  pub needs : Needs
  pub numbered : AreNumbered ms needs
  pub first : IsFirstOrderOf needs o
