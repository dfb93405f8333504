-- The whole of a call of `build` on one module.
use Rattle.std.specs.Prelude.{◌≡◌, ◌⊎◌, ◌≤◌, ◌+◌, ℕ, List, [], Option, Some, IfSome, length, option_map}
use Rattle.cdle_folder.specs.Causes.{Rose}
use Rattle.cdle_folder.specs.Files.{Bytes, Files, IsOtherwiseSame, with_file, with_read}
use Rattle.cdle_model.specs.Check.{IsUndecided, check_items, spends as spends_check}
use Rattle.cdle_model.specs.Forms.{Written}
use Rattle.build_module.specs.Built.{IsCoreOf}
use Rattle.build_module.specs.ModuleAnswers.{ModuleAnswer, IsModuleAnswer, gives, spends}
use Rattle.source_model.specs.Source.{Span}
use Rattle.build_outcome.specs.declared.done.Done.{Done}
use Rattle.build_outcome.specs.declared.outcome.Outcome.{Outcome}
use Rattle.build_outcome.specs.declared.outcome.Outcome.TheVariants as outcome
use Rattle.build_outcome.specs.declared.outcome.Reason.{Reason}
use Rattle.build_outcome.specs.declared.outcome.Spot.{Spot}
use Rattle.build_outcome.specs.Changes.{FolderChange, most_bytes}
use Rattle.build_source.specs.Ends.{Gives, IsEndOf, IsSpotOf}
use Rattle.build_source.specs.Files.{IsThere, core_file, source_file}
use Rattle.build_drive.specs.BuildAnswers.{IsBuildOutcome}
use Rattle.build_drive.specs.BuildProgress.{IsBuilding}
use Rattle.build_drive.specs.BuildTraces.{BuildTrace, IsFaultlessBuild, most_core_bytes}
use Rattle.build_drive.specs.Checks.{IsSpot, IsVerdictAtBudget}

-- The end of a call on the module of that name, with n units for each comparison and each head form. Memory may run out anywhere; then there is no report.
abbrev pub IsBuildCall : ℕ → FolderChange → Bytes → Done → Type 0
IsBuildCall n v name d = (d.outcome ≡ outcome.NoMemory) × (d.report.items ≡ [])
    ⊎ IsBuilding n v name d

-- Built: the module's file was read, its Core file was written, and read back as it was written; what the reads gave is just this. The Core file has the text
-- that the rules give with n units, and what that is to the module's file: it says items with the names of the module's definitions in order, which erase to these
-- and have a derivation. There are so many.
pub record IsBuilt (n : ℕ) (v : FolderChange) (name : Bytes) (modules items : ℕ) : Type 0 where
  pub source : Bytes
  pub core : Bytes
  pub all : List Written
  pub source_there : IfSome v.before.files (λ f. f (source_file name) ≡ Some source)
  pub core_there : IfSome v.after.files (λ f. f (core_file name) ≡ Some core)
  pub given : v.after.given ≡ with_read (core_file name) core (with_read (source_file name) source v.before.given)
  pub by_rules : IsModuleAnswer n source name (gives all core)
  pub of_source : IsCoreOf source name core all
  pub one : modules ≡ 1
  pub count : items ≡ length all

-- what a call leaves of the files, whatever it comes to: all as they were; or the Core file has the text that the rules give for the module's file as it was,
-- or, where a write failed, any bytes, and all other files are as they were
abbrev pub IsLeft : ℕ → FolderChange → Bytes → Type 0
IsLeft n v name = (v.after.files ≡ v.before.files) ⊎ (source : Bytes) × (text : Bytes) × IfSome v.before.files (λ f. f (source_file name) ≡ Some source) × Gives n name source text
    × ((v.after.files ≡ option_map (with_file (core_file name) text) v.before.files) ⊎ Rose v.before.write_faults v.after.write_faults × IsOtherwiseSame (core_file name) v.before.files v.after.files)

-- refused there: the module's file was read, and for that reason its bytes come to no Core text
abbrev pub IsRefusedSource : ℕ → FolderChange → Bytes → Spot → Reason → Type 0
IsRefusedSource n v name place why = (source : Bytes) × IfSome v.before.files (λ f. f (source_file name) ≡ Some source) × (v.after.given ≡ with_read (source_file name) source v.before.given)
    × (a : ModuleAnswer) × IsModuleAnswer n source name a × IsEndOf n (source_file name) source a (outcome.Refused place why)

-- Undecided there with n units: the module's file was read, and a question of the rules is spent there; or what is given was written and read back, the comparison
-- or head form there is spent with n units, all before it pass with some number of them, and the plain check of all items with n units is spent, there or earlier.
abbrev pub IsUndecidedModule : ℕ → FolderChange → Bytes → Spot → Type 0
IsUndecidedModule n v name place = (source : Bytes) × IfSome v.before.files (λ f. f (source_file name) ≡ Some source)
    × (((p : Span) × IsModuleAnswer n source name (spends p) × IsSpotOf (source_file name) p.from place)
    ⊎ ((ws : List Written) × (text : Bytes) × IsModuleAnswer n source name (gives ws text) × (i : ℕ) × (path : List ℕ) × IsSpot ws i path place
    × (k : ℕ) × IsUndecided n (n + k) ws i path × (j : ℕ) × (earlier : List ℕ) × (check_items n ws ≡ spends_check j earlier)))

-- where nothing fails, the module's name and these files determine the outcome, the plain check of what is given with n units not being spent
abbrev pub IsBuildDetermined : ℕ → Files → Bytes → Outcome → Type 0
IsBuildDetermined n f name o = (t : BuildTrace) × IsFaultlessBuild f name t × IsBuildOutcome (IsVerdictAtBudget n) n name t o

-- the module's file is there and gives items whose plain check with n units is spent
abbrev pub IsBuildSpent : ℕ → Files → Bytes → Type 0
IsBuildSpent n f name = (source : Bytes) × (text : Bytes) × (ws : List Written) × IsThere (Some f) most_bytes (source_file name) source × IsModuleAnswer n source name (gives ws text)
    × (length text ≤ most_core_bytes) × (i : ℕ) × (path : List ℕ) × (check_items n ws ≡ spends_check i path)
