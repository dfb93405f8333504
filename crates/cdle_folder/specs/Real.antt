-- The path of a real file, and what is taken of it.
use Rattle.std.specs.Prelude.{◌≤◌, ◌<◌, ◌==◌, ◌++◌, ℕ, Bool, false, List, [], ◌∷◌, Option, Result, Ok, Err, Vec, if◌then◌else◌, length}
use Rattle.std.specs.Io.KnownBytes.{Consumes, IsAtEnd}
use Rattle.cdle_folder.specs.declared.outside.ReadStop.{ReadStop}
use Rattle.cdle_folder.specs.declared.outside.ReadStop.TheVariants.{TooLong}

-- the name begins with `/`
abbrev pub is_absolute : List ℕ → Bool
is_absolute [] = false
is_absolute (b ∷ name) = b == 47

-- where a folder has its file of that name; an absolute name stays as it is, and so does each in a folder without a name
abbrev pub path_in : List ℕ → List ℕ → List ℕ
path_in [] name = name
path_in (b ∷ dir) name = if is_absolute name then name else (b ∷ dir) ++ 47 ∷ name

-- more bytes than the limit were taken of the reader
abbrev pub TakesMore : ℕ → Option (List ℕ) → Option (List ℕ) → Type 0
TakesMore limit old new = (bytes : List ℕ) × (limit < length bytes) × Consumes old new bytes

-- what a reader has left before and after, where it tells that: bytes that are given are all that it had, and at most so many
abbrev pub TakesAll : {Z : Type 0} → ℕ → Option (List ℕ) → Option (List ℕ) → Result (Vec ℕ Z) ReadStop → Type 0
TakesAll limit old new (Ok bytes) = (length bytes.items ≤ limit) × Consumes old new bytes.items × IsAtEnd new
TakesAll limit old new (Err TooLong) = TakesMore limit old new
TakesAll limit old new (Err _) = Unit {0}
