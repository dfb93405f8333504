-- What the parts of the work on a module's file come to.
use Rattle.std.specs.Prelude.{◌≡◌, ◌⊎◌, ℕ, [], Option, Some, None}
use Rattle.cdle_folder.specs.Files.{Bytes, with_read}
use Rattle.cdle_folder.specs.declared.outside.ReadStop.{ReadStop}
use Rattle.cdle_folder.specs.declared.outside.ReadStop.TheVariants as stop
use Rattle.build_module.specs.ModuleAnswers.{ModuleAnswer, IsModuleAnswer}
use Rattle.build_outcome.specs.Changes.{FolderChange, most_bytes}
use Rattle.build_outcome.specs.Reports.{IsReported}
use Rattle.build_outcome.specs.declared.done.Done.{Done}
use Rattle.build_outcome.specs.declared.done.Stop.{Stop}
use Rattle.build_outcome.specs.declared.done.Stop.TheVariants as stops
use Rattle.build_source.specs.Ends.{Gives, IsEndOf}
use Rattle.build_source.specs.Files.{Unread, absent, too_long, failed, IsThere, IsUnread, IsUnreadEnd, source_file}

-- the call ends so, unless memory ran out
abbrev pub IfEnded : (Done → Type 0) → Stop → Type 0
IfEnded P stops.NoMemory = Unit {0}
IfEnded P (stops.Ended d) = P d

-- why a read gave nothing; none where memory ran out
abbrev pub unread_by : ReadStop → Option Unread
unread_by stop.Failed = Some failed
unread_by stop.Absent = Some absent
unread_by stop.TooLong = Some too_long
unread_by stop.NoMemory = None

-- the file was not read, which is reported
abbrev pub EndsUnread : FolderChange → Bytes → ℕ → Bytes → Done → Type 0
EndsUnread v name most file d = (u : Unread) × (v.after.given ≡ v.before.given) × IsUnread v v.before.files most file u × IsUnreadEnd file u d.outcome × IsReported (Some name) [] d

-- the module's file was read with these bytes
abbrev pub HasRead : FolderChange → Bytes → Bytes → Type 0
HasRead v name source = (v.after.given ≡ with_read (source_file name) source v.before.given) × IsThere v.before.files most_bytes (source_file name) source

-- the module's file was read, and gives this text
abbrev pub HasGiven : ℕ → FolderChange → Bytes → Bytes → Type 0
HasGiven n v name text = (source : Bytes) × HasRead v name source × Gives n name source text

-- bytes of the module's file come to no text, which is reported
abbrev pub EndsGiving : ℕ → Bytes → Bytes → Done → Type 0
EndsGiving n name source d = (a : ModuleAnswer) × IsModuleAnswer n source name a × IsEndOf n (source_file name) source a d.outcome × IsReported (Some name) source d

-- the module's file was not read, or it was and comes to no text
abbrev pub EndsBefore : ℕ → FolderChange → Bytes → Done → Type 0
EndsBefore n v name d = EndsUnread v name most_bytes (source_file name) d ⊎ (source : Bytes) × HasRead v name source × EndsGiving n name source d
