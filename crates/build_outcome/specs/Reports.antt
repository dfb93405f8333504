-- The report of an outcome, and its status.
use Rattle.std.specs.Prelude.{◌≡◌, ◌<◌, ◌⊎◌, ◌++◌, ℕ, List, [], Option, Some, None, codes, length}
use Rattle.std.specs.Str.{IsUtf8, IsValidUpTo}
use Rattle.cdle_model.specs.Report.{accepted_line, malformed_line, usage_line, refused_line, duplicate_line, undecided_line, cannot_read_line, out_of_memory_line, limit_line, missing_line}
use Rattle.core_tree.specs.declared.faults.Why.{Why}
use Rattle.core_tree.specs.declared.faults.Why.TheVariants as why
use Rattle.build_outcome.specs.Lines.{built_line, refused_there_line, undecided_there_line, cannot_write_line, read_back_line}
use Rattle.build_outcome.specs.Words.{code_word}
use Rattle.build_outcome.specs.declared.done.Done.{Done}
use Rattle.build_outcome.specs.declared.outcome.Badness.{Badness}
use Rattle.build_outcome.specs.declared.outcome.Badness.TheVariants as bad
use Rattle.build_outcome.specs.declared.outcome.Outcome.{Outcome}
use Rattle.build_outcome.specs.declared.outcome.Outcome.TheVariants as outcome
use Rattle.build_outcome.specs.declared.outcome.Reason.{Reason}
use Rattle.build_outcome.specs.declared.outcome.Reason.TheVariants.{Core, Duplicate, Surface, NotBuilt}
use Rattle.build_outcome.specs.declared.outcome.Spot.{Spot}
use Rattle.build_outcome.specs.declared.outcome.Spot.TheVariants.{CoreSpot, FileSpot}

-- what is wrong with a text
abbrev pub bad_word : Badness → List ℕ
bad_word bad.NotUtf8 = codes "not UTF-8"
bad_word (bad.Wanted word) = codes "wanted " ++ word
bad_word (bad.Unbound name) = codes "unbound " ++ name
bad_word (bad.WrongClass name) = codes "wrong class " ++ name
bad_word (bad.Twice name) = codes "twice " ++ name
bad_word bad.BadCharacter = codes "bad character"
bad_word bad.OpenComment = codes "open comment"

-- why an item is refused by Core's rules
abbrev pub why_word : Why → List ℕ
why_word (why.NotAFunction head) = codes "not a function"
why_word (why.NotAnIntersection head) = codes "not an intersection"
why_word (why.NotAnEquation head) = codes "not an equation"
why_word (why.WrongKind found wanted) = codes "wrong kind"
why_word (why.Mismatch found wanted) = codes "mismatch"
why_word why.ErasedUse = codes "erased variable used"
why_word (why.PartsDiffer left right) = codes "parts differ"
why_word (why.NotBooleans left right) = codes "not booleans"
why_word (why.SidesDiffer left right) = codes "sides differ"

-- why something is refused, but for an item's repeated name
abbrev pub reason_word : Reason → List ℕ
reason_word (Core w) = why_word w
reason_word (Duplicate earlier) = codes "duplicate"
reason_word (Surface c) = code_word c
reason_word NotBuilt = codes "form not built"

-- the line on what is refused there, over the text of its file
abbrev pub refusal_line : List ℕ → Spot → Reason → List ℕ
refusal_line text (CoreSpot name path) (Duplicate earlier) = duplicate_line name
refusal_line text (CoreSpot name path) r = refused_line name path (reason_word r)
refusal_line text (FileSpot file at) r = refused_there_line file text at (reason_word r)

-- where the check or the rules were undecided, with that budget
abbrev pub undecided_at : List ℕ → Spot → ℕ → List ℕ
undecided_at text (CoreSpot name path) budget = undecided_line name path budget
undecided_at text (FileSpot file at) budget = undecided_there_line file text at budget

-- that the job was done: that of `core`, or the building of the module of that name
abbrev pub done_line : Option (List ℕ) → ℕ → ℕ → List ℕ
done_line None modules items = accepted_line items
done_line (Some name) modules items = built_line name modules items

-- there is none where the report itself was not put
abbrev pub unwritten_line : Option (List ℕ) → List ℕ
unwritten_line None = []
unwritten_line (Some file) = cannot_write_line file

-- the report of an outcome of the job, which is `core` or the building of the module of that name, over the text of the file at which the call ended
abbrev pub report_of : Option (List ℕ) → List ℕ → Outcome → List ℕ
report_of job text (outcome.Ok modules items) = done_line job modules items
report_of job text (outcome.Malformed file at what) = malformed_line file text at (bad_word what)
report_of job text outcome.Usage = usage_line
report_of job text (outcome.Refused spot why) = refusal_line text spot why
report_of job text (outcome.Undecided spot budget) = undecided_at text spot budget
report_of job text (outcome.ReadFault file) = cannot_read_line file
report_of job text (outcome.WriteFault file) = unwritten_line file
report_of job text outcome.NoMemory = out_of_memory_line
report_of job text (outcome.ReadBack file at wrote read) = read_back_line file at wrote read
report_of job text (outcome.Limit name what) = limit_line name what
report_of job text (outcome.Missing file) = missing_line file

-- the report is that of the outcome, over the text of the file at which the call ended
abbrev pub IsReported : Option (List ℕ) → List ℕ → Done → Type 0
IsReported job text d = d.report.items ≡ report_of job text d.outcome

-- the status with which the program ends
abbrev pub status_of : Outcome → ℕ
status_of (outcome.Ok modules items) = 0
status_of (outcome.Malformed file at what) = 1
status_of outcome.Usage = 2
status_of (outcome.Refused spot why) = 3
status_of (outcome.Undecided spot budget) = 4
status_of (outcome.ReadFault file) = 5
status_of (outcome.WriteFault file) = 6
status_of outcome.NoMemory = 7
status_of (outcome.ReadBack file at wrote read) = 8
status_of (outcome.Limit name what) = 9
status_of (outcome.Missing file) = 10

-- the bytes before the place are a text: all of them are, or they are one up to there and no further
abbrev pub IsTextTo : List ℕ → ℕ → Type 0
IsTextTo bytes at = IsUtf8 bytes ⊎ IsValidUpTo bytes at

-- a place of a file is in the text, which is short enough for lines to be counted
abbrev pub IsPlaced : List ℕ → ℕ → Type 0
IsPlaced text at = (length text < 4294967295) × IsTextTo text at

abbrev pub IsSpotShown : List ℕ → Spot → Type 0
IsSpotShown text (CoreSpot name path) = Unit {0}
IsSpotShown text (FileSpot file at) = IsPlaced text at

-- the outcome's place is in the text
abbrev pub IsShown : List ℕ → Outcome → Type 0
IsShown text (outcome.Malformed file at what) = IsPlaced text at
IsShown text (outcome.Refused spot why) = IsSpotShown text spot
IsShown text (outcome.Undecided spot budget) = IsSpotShown text spot
IsShown text o = Unit {0}
