-- The files of a folder, and what the calls of a folder and a sink leave.
use Rattle.std.specs.Prelude.{◌≡◌, ◌++◌, ◌<◌, ℕ, List, [], ◌∷◌, Option, Some, None, if◌then◌else◌, option_map, take, length}
use Rattle.std.specs.Str.{bytes_eq}

abbrev pub Bytes : Type 0
Bytes = List ℕ

-- what stands under each name
abbrev pub Files : Type 0
Files = Bytes → Option Bytes

-- nothing stands under any name
abbrev pub no_files : Files
no_files name = None

-- the files with these bytes under this name
abbrev pub with_file : Bytes → Bytes → Files → Files
with_file name bytes files other = if bytes_eq name other then Some bytes else files other

-- what stands under the name; none where the files are not told
abbrev pub told : Option Files → Bytes → Option (Option Bytes)
told files name = option_map (λ f. f name) files

-- the files are told as before, and each other name has what it had
abbrev pub IsOtherwiseSame : Bytes → Option Files → Option Files → Type 0
IsOtherwiseSame name None None = Unit {0}
IsOtherwiseSame name (Some old) (Some new) = (other : Bytes) → (other ≡ name → ⊥) → new other ≡ old other
IsOtherwiseSame name old new = ⊥

-- a file is there, and is longer
abbrev pub IsLonger : ℕ → Option Bytes → Type 0
IsLonger limit None = ⊥
IsLonger limit (Some bytes) = limit < length bytes

-- the names and the bytes that reads gave, in their order
abbrev pub Reads : Type 0
Reads = List (Bytes × Bytes)

-- one more read at the end, where reads are told
abbrev pub with_read : Bytes → Bytes → Option Reads → Option Reads
with_read name bytes = option_map (λ reads. reads ++ (name, bytes) ∷ [])

-- what is written, with more at its end
abbrev pub with_bytes : Bytes → Option Bytes → Option Bytes
with_bytes bytes = option_map (λ written. written ++ bytes)

-- a prefix of the bytes went out
abbrev pub PutsPrefix : Bytes → Option Bytes → Option Bytes → Type 0
PutsPrefix bytes old new = (n : ℕ) × (new ≡ with_bytes (take n bytes) old)
