-- The reading of the modules of a build: what was read, and how that ends.
use Rattle.std.specs.Prelude.{◌≡◌, ◌≤◌, ◌<◌, ◌++◌, ℕ, List, [], ◌∷◌, Option, Some, None, length, map, option_map}
use Rattle.std.specs.List.{AllByRecursion}
use Rattle.cdle_folder.specs.Files.{Bytes, Files, Reads}
use Rattle.scope_model.specs.ScopeNames.{Text}
use Rattle.source_model.specs.Source.{Module}
use Rattle.build_model.specs.SourceFiles.{IsSource, IsFirstSourceFault, SourceFault}
use Rattle.build_outcome.specs.Changes.{FolderChange, most_bytes}
use Rattle.build_reading.specs.Files.{Unread, IsNeverRead, IsThere, IsUnread, IsUntouched, source_file}
use Rattle.build_reading.specs.Order.{AreInReadingOrder, next_wanted}

-- the most modules of a build
abbrev pub most_modules : ℕ
most_modules = 500

-- a module's file that was read: its bytes, and what they say
pub record FileRead : Type 0 where
  pub bytes : Bytes
  pub parsed : Module Text

-- the modules of files
abbrev pub modules_of : List FileRead → List (Module Text)
modules_of = map (λ r. r.parsed)

-- All modules are read. Or the next one would be one too many; or its file gave nothing; or it was read, and its bytes are no module, and this is their first
-- fault.
pub data ReadingEnd : Type 0 where
  all_read : ReadingEnd
  one_too_many : Text → ReadingEnd
  unread : Text → Unread → ReadingEnd
  no_module : Text → Bytes → SourceFault → ReadingEnd

-- the file has these bytes, and they are the module of its name
abbrev pub IsFileRead : Option Files → FileRead → Type 0
IsFileRead files r = IsThere files most_bytes (source_file r.parsed.name) r.bytes × IsSource r.bytes r.parsed.name r.parsed

-- the modules' files are there, in reading order, and not more of them than may be
pub record AreRead (files : Option Files) (root : Text) (rs : List FileRead) : Type 0 where
  pub each : AllByRecursion (IsFileRead files) rs
  pub order : AreInReadingOrder root (modules_of rs)
  pub few : length rs ≤ most_modules

-- reading ends so where so many modules are read and this name is the next, and a file gives nothing for a reason by Stops
abbrev pub EndsBehind : (Bytes → Unread → Type 0) → Option Files → ℕ → Option Text → ReadingEnd → Type 0
EndsBehind Stops files n next all_read = next ≡ None
EndsBehind Stops files n next (one_too_many name) = (next ≡ Some name) × (n ≡ most_modules)
EndsBehind Stops files n next (unread name u) = (next ≡ Some name) × (n < most_modules) × Stops (source_file name) u
EndsBehind Stops files n next (no_module name bytes e) = (next ≡ Some name) × (n < most_modules) × IsThere files most_bytes (source_file name) bytes × IsFirstSourceFault bytes name e

-- what the reads of these files gave, and what the last read gave where its bytes are no module
abbrev pub reads_of : List FileRead → Reads
reads_of = map (λ r. (source_file r.parsed.name, r.bytes))

abbrev pub last_read : ReadingEnd → Reads
last_read (no_module name bytes e) = (source_file name, bytes) ∷ []
last_read end = []

-- more reads at the end, where reads are told
abbrev pub with_reads : Reads → Option Reads → Option Reads
with_reads more = option_map (λ reads. reads ++ more)

-- These modules were read from the root on, and reading ended so: the folder gave just these files, in this order, and it has them where it tells its files; a
-- fault or an absence at the end was counted in this call; no count fell, and no file was written.
pub record IsReading (v : FolderChange) (root : Text) (rs : List FileRead) (end : ReadingEnd) : Type 0 where
  pub files : AreRead v.before.files root rs
  pub ended : EndsBehind (IsUnread v v.before.files most_bytes) v.before.files (length rs) (next_wanted root (modules_of rs)) end
  pub given : v.after.given ≡ with_reads (reads_of rs ++ last_read end) v.before.given
  pub untouched : IsUntouched v
  pub read_faults : v.before.read_faults ≤ v.after.read_faults
  pub absences : v.before.absences ≤ v.after.absences

-- likewise this is the reading over these files, where nothing fails
pub record IsFaultlessReading (f : Files) (root : Text) (rs : List FileRead) (end : ReadingEnd) : Type 0 where
  pub files : AreRead (Some f) root rs
  pub ended : EndsBehind (IsNeverRead f most_bytes) (Some f) (length rs) (next_wanted root (modules_of rs)) end
