-- The files of modules, and what reading one comes to.
use Rattle.std.specs.Prelude.{◌≡◌, ◌≤◌, ◌++◌, ℕ, Option, Some, None, IfSome, codes, length}
use Rattle.cdle_folder.specs.Causes.{Rose}
use Rattle.cdle_folder.specs.Files.{Bytes, Files, IsLonger, with_read}
use Rattle.build_outcome.specs.Changes.{FolderChange}

-- the file of the module of that name
abbrev pub source_file : Bytes → Bytes
source_file name = name ++ codes ".cdle"

-- a file was not there, or too long, or not read
pub data Unread : Type 0 where
  absent : Unread
  too_long : Unread
  failed : Unread

-- a file of the folder, where it tells its files, was read, which is no longer than this
abbrev pub IsThere : Option Files → ℕ → Bytes → Bytes → Type 0
IsThere files most file bytes = (length bytes ≤ most) × IfSome files (λ f. f file ≡ Some bytes)

-- reading a file that may be no longer than this gave nothing; what failed, or was not there, was counted in this call
abbrev pub IsUnread : FolderChange → Option Files → ℕ → Bytes → Unread → Type 0
IsUnread v files most file absent = Rose v.before.absences v.after.absences × IfSome files (λ f. f file ≡ None)
IsUnread v files most file too_long = IfSome files (λ f. IsLonger most (f file))
IsUnread v files most file failed = Rose v.before.read_faults v.after.read_faults

-- a file of these files gives nothing for this reason, where nothing fails
abbrev pub IsNeverRead : Files → ℕ → Bytes → Unread → Type 0
IsNeverRead f most file absent = f file ≡ None
IsNeverRead f most file too_long = IsLonger most (f file)
IsNeverRead f most file failed = ⊥

-- no file was written, and no write failed
pub record IsUntouched (v : FolderChange) : Type 0 where
  pub files : v.after.files ≡ v.before.files
  pub faults : v.after.write_faults ≡ v.before.write_faults

-- the change from when a file had been read with these bytes
abbrev pub behind_read : Bytes → Bytes → FolderChange → FolderChange
behind_read file bytes v = record { before = record v.before { given = with_read file bytes v.before.given }; after = v.after }
