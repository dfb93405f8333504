-- Writing files one behind the other, and then reading them back: what each end of that means.
use Rattle.std.specs.Prelude.{◌≡◌, ◌⊎◌, ◌≤◌, ◌<◌, ◌++◌, ℕ, List, [], ◌∷◌, Option, Some, None, All, length, option_map, slice_get, string_bytes, take}
use Rattle.cdle_folder.specs.Causes.{Rose}
use Rattle.cdle_folder.specs.Files.{Bytes, Files, Reads, IsOtherwiseSame, with_file}
use Rattle.build_outcome.specs.Changes.{FolderChange}
use Rattle.build_writing.specs.Files.{Unread, absent, too_long, failed, IsThere, IsUnread, DifferAt}
use Rattle.build_writing.specs.declared.fault.OutputFile.{OutputFile}
use Rattle.build_writing.specs.declared.fault.Unread.{Unread as UnreadBy}
use Rattle.build_writing.specs.declared.fault.Unread.TheVariants as why
use Rattle.build_writing.specs.declared.fault.WritingFault.{WritingFault}
use Rattle.build_writing.specs.declared.fault.WritingFault.TheVariants as fault

-- the most bytes of a Core file that is read back
abbrev pub most_core_bytes : ℕ
most_core_bytes = 67108864

-- a file that is to be written: its name, and its bytes
abbrev pub Output : Type 0
Output = Bytes × Bytes

abbrev pub output_of : OutputFile → Output
output_of file = (string_bytes file.name, file.bytes.items)

-- no two of the files have one name
abbrev pub NamesDiffer : List Output → Type 0
NamesDiffer [] = Unit {0}
NamesDiffer (file ∷ files) = All (λ other. other.0 ≡ file.0 → ⊥) files × NamesDiffer files

-- ---- what is written and what is read

-- the files of a folder when these have been written, one behind the other
abbrev pub with_files : List Output → Files → Files
with_files [] f = f
with_files (file ∷ files) f = with_files files (with_file file.0 file.1 f)

-- what the reads of a folder gave, with these behind, where it tells that
abbrev pub with_reads : Reads → Option Reads → Option Reads
with_reads more = option_map (λ reads. reads ++ more)

-- these files were written, and no other
abbrev pub HaveWritten : FolderChange → List Output → Type 0
HaveWritten v files = v.after.files ≡ option_map (with_files files) v.before.files

-- these files were written; then the writing of one of that name failed, which was counted in this call: it may have any bytes, and no other has changed
abbrev pub HaveWrittenUpTo : FolderChange → List Output → Bytes → Type 0
HaveWrittenUpTo v files name = Rose v.before.write_faults v.after.write_faults × IsOtherwiseSame name (option_map (with_files files) v.before.files) v.after.files

-- the reads gave these files in their order, each of which is what the folder has there, where it tells, and no longer than may be
pub record HaveRead (v : FolderChange) (files : List Output) : Type 0 where
  pub given : v.after.given ≡ with_reads files v.before.given
  pub there : All (λ file. IsThere v.after.files most_core_bytes file.0 file.1) files

-- no read was asked for
pub record HasReadNothing (v : FolderChange) : Type 0 where
  pub given : v.after.given ≡ v.before.given
  pub read_faults : v.after.read_faults ≡ v.before.read_faults
  pub absences : v.after.absences ≡ v.before.absences

-- ---- how it ends

-- All files were read back as they were written; or the file of that number was not written; or it was not read back, and why; or it was read back with other
-- bytes, the first of them at that place, where this was written and this was read.
pub data WritingEnd : Type 0 where
  all_same : WritingEnd
  unwritten : ℕ → WritingEnd
  unread : ℕ → Unread → WritingEnd
  differs : ℕ → ℕ → Option ℕ → Option ℕ → WritingEnd

-- Reading these files back came to this end. All before the file at which it ended were read back as they were written, and none behind it was read.
abbrev pub IsReadingBack : FolderChange → List Output → WritingEnd → Type 0
IsReadingBack v files all_same = HaveRead v files
IsReadingBack v files (unwritten i) = ⊥
IsReadingBack v files (unread i u) = (file : Output) × (slice_get files i ≡ Some file) × HaveRead v (take i files) × IsUnread v v.after.files most_core_bytes file.0 u
IsReadingBack v files (differs i at w r) = (file : Output) × (read : Bytes) × (slice_get files i ≡ Some file) × HaveRead v (take i files ++ (file.0, read) ∷ []) × DifferAt file.1 read at w r

-- Writing these files and reading them back came to this end: at a file that could not be written, and then nothing was read; or all were written, and what
-- reading them back came to.
abbrev pub IsWriting : FolderChange → List Output → WritingEnd → Type 0
IsWriting v files (unwritten i) = (file : Output) × (slice_get files i ≡ Some file) × HaveWrittenUpTo v (take i files) file.0 × HasReadNothing v
IsWriting v files end = HaveWritten v files × IsReadingBack v files end

-- what any call leaves of the files: the first ones are written, so many, and no other; or the writing of the next one has failed as well
abbrev pub IsLeft : FolderChange → List Output → Type 0
IsLeft v files = (k : ℕ) × (HaveWritten v (take k files) ⊎ (file : Output) × (slice_get files k ≡ Some file) × HaveWrittenUpTo v (take k files) file.0)

-- What this comes to where nothing fails, what is written is what is there, and no two files have one name: all are read back as they were written, or the first one that is longer than may be is
-- too long.
abbrev pub IsFaultlessWriting : List Output → WritingEnd → Type 0
IsFaultlessWriting files all_same = All (λ file. length file.1 ≤ most_core_bytes) files
IsFaultlessWriting files (unread i too_long) = (file : Output) × (slice_get files i ≡ Some file) × (most_core_bytes < length file.1) × All (λ other. length other.1 ≤ most_core_bytes) (take i files)
IsFaultlessWriting files end = ⊥

-- ---- what the answers of the call say

abbrev pub unread_of : UnreadBy → Unread
unread_of why.Absent = absent
unread_of why.TooLong = too_long
unread_of why.Failed = failed

-- the end that a fault tells of; none where memory ran out
abbrev pub end_of : WritingFault → Option WritingEnd
end_of (fault.Unwritten file) = Some (unwritten file)
end_of (fault.Unread file why) = Some (unread file (unread_of why))
end_of (fault.Differs file at wrote read) = Some (differs file at wrote read)
end_of fault.NoMemory = None
