-- What the code holds: the numbers of imports, and for each module whether it is taken.
use Rattle.std.specs.Prelude.{◌≡◌, ◌<◌, ◌++◌, ◌∷◌, ℕ, Bool, false, true, List, Contains, get_or, length, map}
use Rattle.std.specs.Global.{Vec}
use Rattle.surf_tree.specs.Items.{module_of}
use Rattle.surf_tree.specs.declared.items.SrcModule.{SrcModule}
use Rattle.plan_model.specs.Reading.{Needs, names_of}
use Rattle.plan_model.specs.Orders.{Imports, IsFirstOrderOf}
use Rattle.plan_model.specs.Cycles.{CanBeTaken, IsStuck}

-- the numbers of the names of the modules
abbrev pub names_in : List SrcModule → List ℕ
names_in ms = names_of (map module_of ms)

-- the imports of each module, by their numbers
abbrev pub needs_of : List (Vec ℕ) → Needs
needs_of needs = map (λ js. js.items) needs

-- the table has it that the module is taken
abbrev pub IsTaken : List Bool → ℕ → Type 0
IsTaken taken i = get_or taken i false ≡ true

-- by the table the module is not taken, and all that it imports is
pub record CanBeNext (needs : Needs) (taken : List Bool) (i : ℕ) : Type 0 where
  pub there : i < length needs
  pub left : IsTaken taken i → ⊥
  pub ready : (j : ℕ) → Imports needs i j → IsTaken taken j

-- the first number of which the table does not have that it is taken
pub record IsFirstLeft (taken : List Bool) (js : List ℕ) (j : ℕ) : Type 0 where
  pub before : List ℕ
  pub after : List ℕ
  pub is : js ≡ before ++ j ∷ after
  pub left : IsTaken taken j → ⊥
  pub first : (k : ℕ) → Contains before k → IsTaken taken k

-- the modules that can be taken are taken, in this order
pub record AllTaken (needs : Needs) (order : List ℕ) (taken : List Bool) : Type 0 where
  pub each : length taken ≡ length needs
  pub can : (i : ℕ) → IsTaken taken i → CanBeTaken needs i
  pub stuck : (i : ℕ) → i < length needs → (IsTaken taken i → ⊥) → IsStuck needs i
  pub first : ((i : ℕ) → i < length needs → IsTaken taken i) → IsFirstOrderOf needs order
