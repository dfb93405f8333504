-- The trace of a call of `build` on one module: its file, and then its Core file.
use Rattle.std.specs.Prelude.{◌≡◌, ◌≤◌, ◌<◌, ℕ, [], None, Some, length, option_map}
use Rattle.cdle_folder.specs.Causes.{Rose}
use Rattle.cdle_folder.specs.Files.{Bytes, Files, IsLonger, IsOtherwiseSame, with_file, with_read}
use Rattle.build_source.specs.Files.{Unread, absent, too_long, failed, IsThere, IsUnread, IsUntouched, core_file, source_file}
use Rattle.build_outcome.specs.Changes.{FolderChange, most_bytes}

-- the most bytes of a Core file that is read back
abbrev pub most_core_bytes : ℕ
most_core_bytes = 67108864

-- A Core file was not written; or it was, and not read back, or these bytes were read back.
pub data CoreEnd : Type 0 where
  unwritten : CoreEnd
  unread : Unread → CoreEnd
  contents : Bytes → CoreEnd

-- A module's file was not read, or its bytes ended the call, or they gave this text of its Core file, which came to this end.
pub data BuildTrace : Type 0 where
  no_source : Unread → BuildTrace
  ending : Bytes → BuildTrace
  given : Bytes → Bytes → CoreEnd → BuildTrace

-- the file was written with this text, and no other
abbrev pub HasWritten : FolderChange → Bytes → Bytes → Type 0
HasWritten v file text = v.after.files ≡ option_map (with_file file text) v.before.files

-- The Core file was to be written with this text and read back, and came to this end. What was read is what the folder has there, where it tells; each fault and
-- absence was counted in this call; only this file was written; and the folder gave just what was read.
abbrev pub IsCoreTrace : FolderChange → Bytes → Bytes → CoreEnd → Type 0
IsCoreTrace v file text unwritten = (v.after.given ≡ v.before.given) × Rose v.before.write_faults v.after.write_faults × IsOtherwiseSame file v.before.files v.after.files
IsCoreTrace v file text (unread u) = (v.after.given ≡ v.before.given) × HasWritten v file text × IsUnread v v.after.files most_core_bytes file u
IsCoreTrace v file text (contents bytes) = (v.after.given ≡ with_read file bytes v.before.given) × HasWritten v file text × IsThere v.after.files most_core_bytes file bytes

-- the change from when a file had been read with these bytes
abbrev pub behind_read : Bytes → Bytes → FolderChange → FolderChange
behind_read file bytes v = record { before = record v.before { given = with_read file bytes v.before.given }; after = v.after }

-- This is the trace of a call on the module of that name.
abbrev pub IsBuildTrace : FolderChange → Bytes → BuildTrace → Type 0
IsBuildTrace v name (no_source u) = (v.after.given ≡ v.before.given) × IsUnread v v.before.files most_bytes (source_file name) u × IsUntouched v
IsBuildTrace v name (ending source) = (v.after.given ≡ with_read (source_file name) source v.before.given) × IsThere v.before.files most_bytes (source_file name) source × IsUntouched v
IsBuildTrace v name (given source text e) = IsThere v.before.files most_bytes (source_file name) source × IsCoreTrace (behind_read (source_file name) source v) (core_file name) text e

-- a Core file with this text comes to this end, where nothing fails and what is written is read back
abbrev pub IsFaultlessCore : Bytes → CoreEnd → Type 0
IsFaultlessCore text (unread too_long) = most_core_bytes < length text
IsFaultlessCore text (contents bytes) = (length text ≤ most_core_bytes) × (bytes ≡ text)
IsFaultlessCore text e = ⊥

-- likewise this is the trace of a call over these files
abbrev pub IsFaultlessBuild : Files → Bytes → BuildTrace → Type 0
IsFaultlessBuild f name (no_source absent) = f (source_file name) ≡ None
IsFaultlessBuild f name (no_source too_long) = IsLonger most_bytes (f (source_file name))
IsFaultlessBuild f name (no_source failed) = ⊥
IsFaultlessBuild f name (ending source) = IsThere (Some f) most_bytes (source_file name) source
IsFaultlessBuild f name (given source text e) = IsThere (Some f) most_bytes (source_file name) source × IsFaultlessCore text e

-- the bytes of the module's file, where they ended the call
abbrev pub ending_source : BuildTrace → Bytes
ending_source (ending source) = source
ending_source t = []
