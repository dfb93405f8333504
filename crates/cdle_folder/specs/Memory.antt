-- What the folders in memory hold, and what they give.
use Rattle.std.specs.Prelude.{ℕ, Bool, ◌==◌, List, [], ◌∷◌, Option, Some, None, if◌then◌else◌, map, option_map, slice_set, String, string_bytes, Vec}
use Rattle.std.specs.List.{list_any}
use Rattle.std.specs.BTreeMap.{BTreeMap, get_by_text}
use Rattle.cdle_folder.specs.Files.{Bytes, Files, Reads}
use Rattle.cdle_folder.specs.declared.memory.ChangeRead.{ChangeRead}
use Rattle.cdle_folder.specs.declared.memory.Reading.{Reading}

-- what a map of files has under each name
abbrev pub files_in : {Z Y : Type 0} → BTreeMap (String Z) (Vec ℕ Y) → Files
files_in m name = option_map (λ v. v.items) (get_by_text m name)

-- what the reads that are kept gave
abbrev pub reads_in : List Reading → Reads
reads_in = map (λ r. (string_bytes r.name, r.bytes.items))

-- the number of a call is in the list
abbrev pub is_in : List ℕ → ℕ → Bool
is_in list call = list_any (λ n. n == call) list

-- the files, which are told where no read is to be altered
abbrev pub files_told : List ChangeRead → Files → Option Files
files_told [] files = Some files
files_told (c ∷ changes) files = None

-- what a change makes of the bytes of the call of that number; past their end it does nothing
abbrev pub changed : ChangeRead → ℕ → Bytes → Bytes
changed c call bytes = if c.call == call then slice_set bytes c.at c.byte else bytes

-- what all changes make of them, in their order
abbrev pub altered : List ChangeRead → ℕ → Bytes → Bytes
altered [] call bytes = bytes
altered (c ∷ changes) call bytes = altered changes call (changed c call bytes)
