-- Modules that no order can have, and the cycle that is told of them.
use Rattle.std.specs.Prelude.{◌≡◌, ◌<◌, ℕ, List, [], ◌∷◌, ◌++◌, Contains, get_or, length}
use Rattle.std.specs.List.{AllZip}
use Rattle.source_model.specs.Source.{Module}
use Rattle.plan_model.specs.Reading.{AreNumbered, IsCalled, Needs, names_of}
use Rattle.plan_model.specs.Orders.{Differ, Imports}

-- a module can be taken where all that it imports can be
pub data CanBeTaken (needs : Needs) : ℕ → Type 0 where
  can_be_taken : (i : ℕ) → i < length needs → ((j : ℕ) → Imports needs i j → CanBeTaken needs j) → CanBeTaken needs i

-- a module that cannot be taken
pub record IsStuck (needs : Needs) (i : ℕ) : Type 0 where
  pub there : i < length needs
  pub never : CanBeTaken needs i → ⊥

-- the first module that cannot be taken
pub record IsFirstStuck (needs : Needs) (i : ℕ) : Type 0 where
  pub stuck : IsStuck needs i
  pub first : (j : ℕ) → j < i → CanBeTaken needs j

-- module j is the first import of module i that cannot be taken
pub record IsStuckAt (needs : Needs) (i j : ℕ) : Type 0 where
  pub before : List ℕ
  pub after : List ℕ
  pub imports : get_or needs i [] ≡ before ++ j ∷ after
  pub stuck : IsStuck needs j
  pub first : (k : ℕ) → Contains before k → CanBeTaken needs k

-- The walk from the first stuck module, always to the first import that is stuck: behind what leads there, from the first module that comes twice to where it comes again.
pub record IsCycleOf (needs : Needs) (cycle : List ℕ) : Type 0 where
  pub lead : List ℕ
  pub turn : ℕ
  pub round : List ℕ
  pub is : cycle ≡ turn ∷ (round ++ turn ∷ [])
  pub starts : (i : ℕ) (after : List ℕ) → lead ++ cycle ≡ i ∷ after → IsFirstStuck needs i
  pub steps : (before after : List ℕ) (i j : ℕ) → lead ++ cycle ≡ before ++ i ∷ (j ∷ after) → IsStuckAt needs i j
  pub once : Differ (lead ++ turn ∷ round)

-- ---- of modules

-- the names of the modules of that cycle
pub record IsCycle {A : Type 0} (ms : List (Module A)) (names : List A) : Type 0 where
  pub needs : Needs
  pub numbered : AreNumbered ms needs
  pub numbers : List ℕ
  pub cycle : IsCycleOf needs numbers
  pub called : AllZip (IsCalled (names_of ms)) numbers names
