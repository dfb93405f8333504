-- From file to file, and over the whole call. The folder is seen before, at a moment in between and after.
use Rattle.std.proofs.Common.{◌≡◌, ◌∙◌, inl, inr, ◌+◌, ◌<◌, ◌≤◌, ◌++◌, ℕ, List, [], ◌∷◌, Option, Some, None, IfSome, All, append_assoc, ap, ap₂, arith, get_or, length, map, option_map, refl, subst, sym, take}
use Rattle.std.specs.Prelude.{Vec, slice_get}
use Rattle.std.proofs.lemmas.List.{map_more, map_push, take_more}
use Rattle.std.proofs.lemmas.List.Elements.{All-append}
use Rattle.std.proofs.lemmas.Option.{get_or_from_slice_get, slice_get-map, slice_get_read, slice_get_within}
use Rattle.cdle_folder.specs.Causes.{Rose}
use Rattle.cdle_folder.specs.Files.{Bytes, Files, Reads, IsOtherwiseSame, with_file}
use Rattle.cdle_folder.specs.States.{FolderState}
use Rattle.build_outcome.specs.Changes.{FolderChange}
use Rattle.build_writing.specs.Files.{Unread, absent, too_long, failed, IsThere, IsUnread}
use Rattle.build_writing.specs.Steps.{AreReadBack, AreWritten, EndsReading, EndsWriting}
use Rattle.build_writing.specs.Writing.{HasReadNothing, HaveRead, HaveWrittenUpTo, IsLeft, IsReadingBack, IsWriting, Output, differs, end_of, most_core_bytes, output_of, unread, unread_of, unwritten, with_files, with_reads}
use Rattle.build_writing.specs.declared.fault.OutputFile.{OutputFile}
use Rattle.build_writing.specs.declared.fault.WritingFault.{WritingFault}
use Rattle.build_writing.specs.declared.fault.WritingFault.TheVariants as fault

abbrev Change : FolderState → FolderState → FolderChange
Change before after = record { before = before; after = after }

-- ---- the file of a number

pub output_at : (files : List OutputFile) (i : ℕ) (file : OutputFile) → i < length files → file ≡ get_or files i file → slice_get (map output_of files) i ≡ Some (output_of file)
output_at files i file within is = slice_get-map output_of files i ∙ ap (option_map output_of) (slice_get_read files (length files) i file refl within is)

pub take_next : (files : List Output) (i : ℕ) (file : Output) → slice_get files i ≡ Some file → take (i + 1) files ≡ take i files ++ file ∷ []
take_next files i file e = take_more files i file (slice_get_within files i file e) ∙ ap (λ (x : Output). take i files ++ x ∷ []) (get_or_from_slice_get files i file file e)

-- ---- writing

with_files-append : (xs ys : List Output) (f : Files) → with_files (xs ++ ys) f ≡ with_files ys (with_files xs f)
with_files-append [] ys f = refl
with_files-append (x ∷ xs) ys f = with_files-append xs ys (with_file x.0 x.1 f)

written-append : (xs ys : List Output) (o : Option Files) → option_map (with_files (xs ++ ys)) o ≡ option_map (with_files ys) (option_map (with_files xs) o)
written-append xs ys None = refl
written-append xs ys (Some f) = ap Some (with_files-append xs ys f)

pub read_nothing : (before mid after : FolderState) → HasReadNothing (Change before mid) → HasReadNothing (Change mid after) → HasReadNothing (Change before after)
read_nothing before mid after h g = record { given = g.given ∙ h.given; read_faults = g.read_faults ∙ h.read_faults; absences = g.absences ∙ h.absences }

-- more files were written
pub write_more : (before mid after : FolderState) (xs ys : List Output) → AreWritten (Change before mid) xs → AreWritten (Change mid after) ys → AreWritten (Change before after) (xs ++ ys)
write_more before mid after xs ys h g = record {
  written = g.written ∙ ap (option_map (with_files ys)) h.written ∙ sym (written-append xs ys before.files);
  nothing_read = read_nothing before mid after h.nothing_read g.nothing_read;
  write_faults = omega (arith, h.write_faults, g.write_faults);
}

pub rose : (a b c : ℕ) → a ≤ b → Rose b c → Rose a c
rose a b c le h = omega (arith, le, h)

-- the folder's files when the last of the writes was asked for, which may have failed
failed_write : (before mid after : FolderState) (files : List Output) (name : Bytes) → AreWritten (Change before mid) files → Rose mid.write_faults after.write_faults × IsOtherwiseSame name mid.files after.files
    → HaveWrittenUpTo (Change before after) files name
failed_write before mid after files name h g = (
  rose before.write_faults mid.write_faults after.write_faults h.write_faults g.0,
  subst (λ (o : Option Files). IsOtherwiseSame name o after.files) h.written g.1,
)

-- the writing of a file ends the work
pub ends_writing : (before mid after : FolderState) (files : List Output) (i : ℕ) (file : Output) (x : WritingFault) → slice_get files i ≡ Some file → AreWritten (Change before mid) (take i files)
    → HasReadNothing (Change mid after) → EndsWriting (Change mid after) i file.0 x → IfSome (end_of x) (IsWriting (Change before after) files)
ends_writing before mid after files i file (fault.Unwritten n) at h nothing g = subst (λ (k : ℕ). IsWriting (Change before after) files (unwritten k)) (sym g.0)
    (file, at, failed_write before mid after (take i files) file.0 h (g.1, g.2), read_nothing before mid after h.nothing_read nothing)
ends_writing before mid after files i file (fault.Unread n why) at h nothing g = absurd g
ends_writing before mid after files i file (fault.Differs n place w r) at h nothing g = absurd g
ends_writing before mid after files i file fault.NoMemory at h nothing g = tt

-- and leaves the files so
pub left_unwritten : (before mid after : FolderState) (files : List Output) (i : ℕ) (file : Output) (x : WritingFault) → slice_get files i ≡ Some file → AreWritten (Change before mid) (take i files)
    → EndsWriting (Change mid after) i file.0 x → IsLeft (Change before after) files
left_unwritten before mid after files i file (fault.Unwritten n) at h g = (i, inr (file, at, failed_write before mid after (take i files) file.0 h (g.1, g.2)))
left_unwritten before mid after files i file (fault.Unread n why) at h g = absurd g
left_unwritten before mid after files i file (fault.Differs n place w r) at h g = absurd g
left_unwritten before mid after files i file fault.NoMemory at h g = (i, inl (g ∙ h.written))

-- ---- reading back

with_reads-append : (xs ys : Reads) (o : Option Reads) → with_reads (xs ++ ys) o ≡ with_reads ys (with_reads xs o)
with_reads-append xs ys None = refl
with_reads-append xs ys (Some reads) = ap Some (sym (append_assoc reads xs ys))

-- the folder has the same files in between and after
still_there : (old new : Option Files) (files : List Output) → new ≡ old → All (λ file. IsThere old most_core_bytes file.0 file.1) files → All (λ file. IsThere new most_core_bytes file.0 file.1) files
still_there old new files e h = subst (λ (o : Option Files). All (λ (file : Output). IsThere o most_core_bytes file.0 file.1) files) (sym e) h

read_on : (before mid after : FolderState) (xs ys : List Output) → after.files ≡ mid.files → HaveRead (Change before mid) xs → HaveRead (Change mid after) ys → HaveRead (Change before after) (xs ++ ys)
read_on before mid after xs ys kept h g = record {
  given = g.given ∙ ap (with_reads ys) h.given ∙ sym (with_reads-append xs ys before.given);
  there = All-append (λ (file : Output). IsThere after.files most_core_bytes file.0 file.1) xs ys (still_there mid.files after.files xs kept h.there) g.there;
}

-- more files were read
pub read_more : (before mid after : FolderState) (xs ys : List Output) → AreReadBack (Change before mid) xs → AreReadBack (Change mid after) ys → AreReadBack (Change before after) (xs ++ ys)
read_more before mid after xs ys h g = record {
  read = read_on before mid after xs ys g.kept h.read g.read;
  kept = g.kept ∙ h.kept;
  write_faults = g.write_faults ∙ h.write_faults;
  read_faults = omega (arith, h.read_faults, g.read_faults);
  absences = omega (arith, h.absences, g.absences);
}

-- the bytes of one more file
pub bytes_more : {Y : Type 0} (old new : List (Vec ℕ Y)) (bytes : Vec ℕ Y) (files : List OutputFile) (i : ℕ) (file : OutputFile) → i < length files → file ≡ get_or files i file → new ≡ old ++ bytes ∷ []
    → bytes.items ≡ file.bytes.items → map (λ (b : Vec ℕ Y). b.items) old ≡ map (λ (f : OutputFile). f.bytes.items) (take i files)
    → map (λ (b : Vec ℕ Y). b.items) new ≡ map (λ (f : OutputFile). f.bytes.items) (take (i + 1) files)
bytes_more old new bytes files i file within is pushed same h =
    let written = λ (f : OutputFile). f.bytes.items in
    ap (map (λ b. b.items)) pushed ∙ map_push (λ b. b.items) old bytes
    ∙ ap₂ (λ (xs : List Bytes) (x : Bytes). xs ++ x ∷ []) h (same ∙ ap written is)
    ∙ sym (map_more written files i file within)

unread_since : (before mid after : FolderState) (file : Bytes) (u : Unread) → before.absences ≤ mid.absences → before.read_faults ≤ mid.read_faults
    → IsUnread (Change mid after) after.files most_core_bytes file u → IsUnread (Change before after) after.files most_core_bytes file u
unread_since before mid after file absent a r h = (rose before.absences mid.absences after.absences a h.0, h.1)
unread_since before mid after file too_long a r h = h
unread_since before mid after file failed a r h = rose before.read_faults mid.read_faults after.read_faults r h

-- the reading back of a file ends the work
pub ends_reading : (before mid after : FolderState) (files : List Output) (i : ℕ) (file : Output) (x : WritingFault) → slice_get files i ≡ Some file → AreReadBack (Change before mid) (take i files)
    → after.files ≡ mid.files → EndsReading (Change mid after) i file x → IfSome (end_of x) (IsReadingBack (Change before after) files)
ends_reading before mid after files i file (fault.Unwritten n) at h kept g = absurd g
ends_reading before mid after files i file (fault.Unread n why) at h kept g = subst (λ (k : ℕ). IsReadingBack (Change before after) files (unread k (unread_of why))) (sym g.0) (
  file,
  at,
  record { given = g.1 ∙ h.read.given; there = still_there mid.files after.files (take i files) kept h.read.there },
  unread_since before mid after file.0 (unread_of why) h.absences h.read_faults g.2,
)
ends_reading before mid after files i file (fault.Differs n place w r) at h kept g = subst (λ (k : ℕ). IsReadingBack (Change before after) files (differs k place w r)) (sym g.0)
    (file, g.1, at, read_on before mid after (take i files) ((file.0, g.1) ∷ []) kept h.read g.2, g.3)
ends_reading before mid after files i file fault.NoMemory at h kept g = tt
