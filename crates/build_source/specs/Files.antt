-- The files of `build`, and what reading one comes to.
use Rattle.std.specs.Prelude.{◌≡◌, ◌≤◌, ◌++◌, ℕ, Option, Some, None, IfSome, codes, length}
use Rattle.cdle_folder.specs.Causes.{Rose}
use Rattle.cdle_folder.specs.Files.{Bytes, Files, IsLonger}
use Rattle.cdle_model.specs.declared.grammar.Count.TheVariants.{Bytes as OfBytes}
use Rattle.build_outcome.specs.Changes.{FolderChange}
use Rattle.build_outcome.specs.declared.outcome.Outcome.{Outcome}
use Rattle.build_outcome.specs.declared.outcome.Outcome.TheVariants as outcome

-- the file of the module of that name, and its Core file
abbrev pub source_file : Bytes → Bytes
source_file name = name ++ codes ".cdle"

abbrev pub core_file : Bytes → Bytes
core_file name = name ++ codes ".core"

-- a file was not there, or too long, or not read
pub data Unread : Type 0 where
  absent : Unread
  too_long : Unread
  failed : Unread

-- a file of the folder, where it tells its files, was read, which is no longer than this
abbrev pub IsThere : Option Files → ℕ → Bytes → Bytes → Type 0
IsThere files most file bytes = (length bytes ≤ most) × IfSome files (λ f. f file ≡ Some bytes)

-- reading a file that may be no longer than this gave nothing; what failed, or was not there, was counted in this call
abbrev pub IsUnread : FolderChange → Option Files → ℕ → Bytes → Unread → Type 0
IsUnread v files most file absent = Rose v.before.absences v.after.absences × IfSome files (λ f. f file ≡ None)
IsUnread v files most file too_long = IfSome files (λ f. IsLonger most (f file))
IsUnread v files most file failed = Rose v.before.read_faults v.after.read_faults

-- no file was written, and no write failed
pub record IsUntouched (v : FolderChange) : Type 0 where
  pub files : v.after.files ≡ v.before.files
  pub faults : v.after.write_faults ≡ v.before.write_faults

-- the outcome where a file was not read
abbrev pub IsUnreadEnd : Bytes → Unread → Outcome → Type 0
IsUnreadEnd file absent (outcome.Missing name) = name ≡ file
IsUnreadEnd file too_long (outcome.Limit name OfBytes) = name ≡ file
IsUnreadEnd file failed (outcome.ReadFault name) = name ≡ file
IsUnreadEnd file u o = ⊥
