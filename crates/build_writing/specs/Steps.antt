-- What the parts of the work come to, file by file.
use Rattle.std.specs.Prelude.{◌≡◌, ◌≤◌, ℕ, List, [], ◌∷◌}
use Rattle.cdle_folder.specs.Causes.{Rose}
use Rattle.cdle_folder.specs.Files.{Bytes, IsOtherwiseSame}
use Rattle.build_outcome.specs.Changes.{FolderChange}
use Rattle.build_writing.specs.Files.{IsUnread, DifferAt}
use Rattle.build_writing.specs.Writing.{Output, HasReadNothing, HaveRead, HaveWritten, most_core_bytes, unread_of}
use Rattle.build_writing.specs.declared.fault.WritingFault.{WritingFault}
use Rattle.build_writing.specs.declared.fault.WritingFault.TheVariants as fault

-- no count has fallen
pub record CountsStand (v : FolderChange) : Type 0 where
  pub read_faults : v.before.read_faults ≤ v.after.read_faults
  pub write_faults : v.before.write_faults ≤ v.after.write_faults
  pub absences : v.before.absences ≤ v.after.absences

-- these files were written, one behind the other, and nothing was read
pub record AreWritten (v : FolderChange) (files : List Output) : Type 0 where
  pub written : HaveWritten v files
  pub nothing_read : HasReadNothing v
  pub write_faults : v.before.write_faults ≤ v.after.write_faults

-- the writing of the file of that number and that name ended with this fault
abbrev pub EndsWriting : FolderChange → ℕ → Bytes → WritingFault → Type 0
EndsWriting v i name (fault.Unwritten file) = (file ≡ i) × Rose v.before.write_faults v.after.write_faults × IsOtherwiseSame name v.before.files v.after.files
EndsWriting v i name fault.NoMemory = v.after.files ≡ v.before.files
EndsWriting v i name x = ⊥

-- these files were read back, and none was written
pub record AreReadBack (v : FolderChange) (files : List Output) : Type 0 where
  pub read : HaveRead v files
  pub kept : v.after.files ≡ v.before.files
  pub write_faults : v.after.write_faults ≡ v.before.write_faults
  pub read_faults : v.before.read_faults ≤ v.after.read_faults
  pub absences : v.before.absences ≤ v.after.absences

-- the bytes of the file of that number that were read are not those that were written
abbrev pub EndsComparing : ℕ → Bytes → Bytes → WritingFault → Type 0
EndsComparing i wrote read (fault.Differs file at w r) = (file ≡ i) × DifferAt wrote read at w r
EndsComparing i wrote read x = ⊥

-- the reading back of the file of that number ended with this fault, unless memory ran out
abbrev pub EndsReading : FolderChange → ℕ → Output → WritingFault → Type 0
EndsReading v i file (fault.Unwritten n) = ⊥
EndsReading v i file (fault.Unread n why) = (n ≡ i) × (v.after.given ≡ v.before.given) × IsUnread v v.after.files most_core_bytes file.0 (unread_of why)
EndsReading v i file (fault.Differs n at w r) = (n ≡ i) × (read : Bytes) × HaveRead v ((file.0, read) ∷ []) × DifferAt file.1 read at w r
EndsReading v i file fault.NoMemory = Unit {0}
