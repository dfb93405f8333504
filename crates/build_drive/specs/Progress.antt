-- What the parts of a call come to, file by file.
use Rattle.std.specs.Prelude.{◌≡◌, ◌+◌, ◌≤◌, List, [], ◌∷◌, Option, Some, None, IfSome, length}
use Rattle.cdle_folder.specs.Files.{Bytes, Reads, with_read}
use Rattle.cdle_folder.specs.declared.outside.ReadStop.{ReadStop}
use Rattle.cdle_folder.specs.declared.outside.ReadStop.TheVariants as stop
use Rattle.cdle_model.specs.Classes.{AreScoped}
use Rattle.cdle_model.specs.CoreNames.{Name}
use Rattle.cdle_model.specs.CoreText.{Says}
use Rattle.cdle_model.specs.Forms.{Written}
use Rattle.core_check.specs.Items.{items_of}
use Rattle.core_text.specs.Scope.{known_names}
use Rattle.build_drive.specs.Traces.{Trace, absent, too_long, unread, IsTrace, ending_text}
use Rattle.build_outcome.specs.Changes.{FolderChange, most_bytes}
use Rattle.build_drive.specs.Answers.{IsEnd, IsOutcome, IsStopped, most_items, item_names}
use Rattle.build_drive.specs.Calls.{IsTraced}
use Rattle.build_outcome.specs.Reports.{IsReported}
use Rattle.build_outcome.specs.declared.done.Stop.{Stop}
use Rattle.build_outcome.specs.declared.done.Stop.TheVariants as stops
use Rattle.build_outcome.specs.declared.outcome.Outcome.{Outcome}
use Rattle.build_drive.specs.declared.reading.Reading.{Reading}

-- the files that were read, the names that are known and the number speak of the same items, each over the earlier ones
pub record IsInStep (r : Reading) : Type 0 where
  pub known : known_names r.known ≡ item_names (items_of r.files.items)
  pub counted : r.items ≡ length (items_of r.files.items)
  pub few : length (items_of r.files.items) ≤ most_items
  pub over : AreScoped (items_of r.files.items)

-- the trace where a file is not read; none where memory ran out
abbrev pub trace_of_stop : Bytes → ReadStop → Option Trace
trace_of_stop file stop.Failed = Some (unread file)
trace_of_stop file stop.Absent = Some (absent file)
trace_of_stop file stop.TooLong = Some (too_long file)
trace_of_stop file stop.NoMemory = None

-- a file was read, which said these items behind those of these names
abbrev pub IsRead : FolderChange → Bytes → List Name → List Written → Type 0
IsRead v file known ws = (bytes : Bytes) × (v.after.given ≡ with_read file bytes v.before.given) × (length bytes ≤ most_bytes) × IfSome v.before.files (λ f. f file ≡ Some bytes)
    × Says bytes known ws × (length known + length ws ≤ most_items)

-- the call ends with this at the file that came next, unless memory ran out
abbrev pub EndsAt : FolderChange → Bytes → List Name → Stop → Type 0
EndsAt v file known stops.NoMemory = Unit {0}
EndsAt v file known (stops.Ended d) = (s : Trace) × IsTrace v v.before.given (file ∷ []) s × IsStopped known s d.outcome × IsReported None (ending_text s) d

-- the call ends with this at these bytes of the file, unless memory ran out
abbrev pub EndsIn : Bytes → Bytes → List Name → Stop → Type 0
EndsIn file bytes known stops.NoMemory = Unit {0}
EndsIn file bytes known (stops.Ended d) = IsEnd known file bytes d.outcome × IsReported None bytes d

-- the call ends with this before the check, unless memory ran out
abbrev pub EndsEarly : (List Written → Outcome → Type 0) → FolderChange → List Bytes → Stop → Type 0
EndsEarly Verdict v files stops.NoMemory = Unit {0}
EndsEarly Verdict v files (stops.Ended d) = IsTraced Verdict v files d

-- The reads have given so much, and said the items es, and these files are left: a trace of those, with its outcome, makes up
-- one of all files, with that outcome and of the same text.
abbrev pub HasCome : (List Written → Outcome → Type 0) → FolderChange → List Bytes → Option Reads → List Written → List Bytes → Type 0
HasCome Verdict v files given es left = (s : Trace) (o : Outcome) → IsTrace v given left s → IsOutcome Verdict es s o
    → (t : Trace) × IsTrace v v.before.given files t × IsOutcome Verdict [] t o × (ending_text t ≡ ending_text s)
