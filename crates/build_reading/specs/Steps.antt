-- What the parts of reading come to, as the code answers them.
use Rattle.std.specs.Prelude.{◌≡◌, ◌≤◌, ℕ, List, Option, Some, None, MatchOption, map, slice_get}
use Rattle.std.specs.List.{AllByRecursion}
use Rattle.cdle_folder.specs.Files.{Bytes, with_read}
use Rattle.cdle_folder.specs.declared.outside.ReadStop.{ReadStop}
use Rattle.cdle_folder.specs.declared.outside.ReadStop.TheVariants as stops
use Rattle.cdle_folder.specs.States.{FolderState}
use Rattle.scope_model.specs.ScopeNames.{Text}
use Rattle.source_model.specs.Parsing.{Unexpected, TooDeep, TooMany}
use Rattle.source_model.specs.SurfaceTokens.{BadCharacter, OpenComment}
use Rattle.surf_scope.specs.Modules.{spelled_module}
use Rattle.surf_source.specs.declared.fault.SourceFault as read
use Rattle.surf_source.specs.declared.fault.SourceFault.TheVariants as source
use Rattle.surf_tree.specs.Items.{module_of}
use Rattle.build_model.specs.ByText.{IsOfTable}
use Rattle.build_model.specs.SourceFiles.{IsFirstSourceFault, SourceFault, NotUtf8, InTokens, InTree}
use Rattle.build_outcome.specs.Changes.{FolderChange, most_bytes}
use Rattle.build_reading.specs.Files.{Unread, absent, too_long, failed, IsThere, IsUnread, IsUntouched, source_file}
use Rattle.build_reading.specs.Order.{wanted}
use Rattle.build_reading.specs.Readings.{AreRead, FileRead, IsReading, ReadingEnd, all_read, no_module, one_too_many, unread, most_modules, modules_of, reads_of, with_reads}
use Rattle.build_reading.specs.declared.fault.ReadingFault.{ReadingFault}
use Rattle.build_reading.specs.declared.fault.ReadingFault.TheVariants as faults
use Rattle.build_reading.specs.declared.fault.Unread as code
use Rattle.build_reading.specs.declared.fault.Unread.TheVariants as cause
use Rattle.build_reading.specs.declared.reading.ReadModules.{ReadModules}
use Rattle.build_reading.specs.declared.reading.Reading.{Reading}

-- ---- faults

-- why a read gave nothing; none where memory ran out
abbrev pub unread_by : ReadStop → Option Unread
unread_by stops.Failed = Some failed
unread_by stops.Absent = Some absent
unread_by stops.TooLong = Some too_long
unread_by stops.NoMemory = None

-- the code's reason
abbrev pub unread_of : code.Unread → Unread
unread_of cause.Failed = failed
unread_of cause.Absent = absent
unread_of cause.TooLong = too_long

-- the first fault of bytes that the code tells; none where memory ran out
abbrev pub source_fault_of : read.SourceFault → Option SourceFault
source_fault_of (source.NotUtf8 at) = Some (NotUtf8 at)
source_fault_of (source.BadCharacter at) = Some (InTokens (BadCharacter at))
source_fault_of (source.OpenComment at) = Some (InTokens (OpenComment at))
source_fault_of (source.Unexpected at what) = Some (InTree (Unexpected at what))
source_fault_of (source.TooDeep at) = Some (InTree (TooDeep at))
source_fault_of (source.TooMany at what) = Some (InTree (TooMany at what))
source_fault_of source.NoMemory = None

-- the fault tells an end of which this holds, unless memory ran out
abbrev pub IfFault : (ReadingEnd → Type 0) → ReadingFault → Type 0
IfFault P faults.NoMemory = Unit {0}
IfFault P (faults.Unread name stop) = P (unread name (unread_of stop))
IfFault P (faults.TooMany name) = P (one_too_many name)
IfFault P (faults.Source name bytes fault) = MatchOption (source_fault_of fault) ⊥ (λ e. P (no_module name bytes.items e))

-- ---- one file

-- that the file of the module of that name was not read, for this reason
abbrev pub IsStoppedBy : Text → ReadStop → ReadingEnd → Type 0
IsStoppedBy name stop (unread n u) = (n ≡ name) × (unread_by stop ≡ Some u)
IsStoppedBy name stop end = ⊥

-- that the bytes of the file of the module of that name are no module
abbrev pub IsNoModule : Text → Bytes → ReadingEnd → Type 0
IsNoModule name bytes (no_module n b e) = (n ≡ name) × (b ≡ bytes) × IsFirstSourceFault bytes name e
IsNoModule name bytes end = ⊥

-- the file of the module of that name was read with these bytes
abbrev pub HasRead : FolderChange → Text → Bytes → Type 0
HasRead v name bytes = (v.after.given ≡ with_read (source_file name) bytes v.before.given) × IsThere v.before.files most_bytes (source_file name) bytes

-- the file of the module of that name was to be read, and reading ends there
abbrev pub EndsAt : FolderChange → Text → ReadingEnd → Type 0
EndsAt v name (unread n u) = (n ≡ name) × (v.after.given ≡ v.before.given) × IsUnread v v.before.files most_bytes (source_file name) u
EndsAt v name (no_module n bytes e) = (n ≡ name) × HasRead v name bytes × IsFirstSourceFault bytes name e
EndsAt v name end = ⊥

-- ---- all files

-- behind so many modules the next of these names is one too many
abbrev pub IsPastMost : List Text → ℕ → ReadingEnd → Type 0
IsPastMost names n (one_too_many name) = (slice_get names n ≡ Some name) × (n ≡ most_modules)
IsPastMost names n end = ⊥

-- the code has the files that were read: their modules by this table, and their bytes
pub record AreHeld (names : List Text) (rs : List FileRead) (held : ReadModules) : Type 0 where
  pub parsed : modules_of rs ≡ map (λ m. spelled_module names (module_of m)) held.modules.items
  pub bytes : map (λ r. r.bytes) rs ≡ map (λ s. s.items) held.sources.items
  pub numbers : AllByRecursion (λ m. IsOfTable names (module_of m)) held.modules.items

-- these modules were read so far
pub record IsReadSoFar (v : FolderChange) (root : Text) (rs : List FileRead) : Type 0 where
  pub files : AreRead v.before.files root rs
  pub given : v.after.given ≡ with_reads (reads_of rs) v.before.given
  pub untouched : IsUntouched v
  pub read_faults : v.before.read_faults ≤ v.after.read_faults
  pub absences : v.before.absences ≤ v.after.absences

-- reading has come so far: the code holds what was read, and the names that are wanted
abbrev pub HasCome : FolderChange → Text → List Text → Reading → Type 0
HasCome v root names r = (rs : List FileRead) × IsReadSoFar v root rs × AreHeld names rs r.read × (r.order ≡ wanted root (modules_of rs))

-- all modules were read, and the code holds them
abbrev pub HasReadAll : FolderChange → Text → List Text → ReadModules → Type 0
HasReadAll v root names held = (rs : List FileRead) × IsReading v root rs all_read × AreHeld names rs held

-- reading ended so behind some modules
abbrev pub HasEnded : FolderChange → Text → ReadingEnd → Type 0
HasEnded v root end = (rs : List FileRead) × IsReading v root rs end

-- ---- from one module to the next, wherever reading began

-- where reading had come to the first of these, it has come to the second
abbrev pub ComesFurther : FolderState → FolderState → List Text → List Text → Reading → Reading → Type 0
ComesFurther m z old new r s = (a : FolderState) (root : Text) → HasCome (record { before = a; after = m }) root old r → HasCome (record { before = a; after = z }) root new s

-- where reading had come there, it ends so
abbrev pub EndsFrom : FolderState → FolderState → List Text → Reading → ReadingEnd → Type 0
EndsFrom m z names r end = (a : FolderState) (root : Text) → HasCome (record { before = a; after = m }) root names r → HasEnded (record { before = a; after = z }) root end
