-- What reading one file comes to, and where its bytes are not those that were written.
use Rattle.std.specs.Prelude.{◌≡◌, ◌≤◌, ℕ, Option, Some, None, IfSome, length, slice_get, take}
use Rattle.cdle_folder.specs.Causes.{Rose}
use Rattle.cdle_folder.specs.Files.{Bytes, Files, IsLonger}
use Rattle.build_outcome.specs.Changes.{FolderChange}

-- a file was not there, or too long, or not read
pub data Unread : Type 0 where
  absent : Unread
  too_long : Unread
  failed : Unread

-- a file of the folder, where it tells its files, was read, which is no longer than this
abbrev pub IsThere : Option Files → ℕ → Bytes → Bytes → Type 0
IsThere files most file bytes = (length bytes ≤ most) × IfSome files (λ f. f file ≡ Some bytes)

-- reading a file that may be no longer than this gave nothing; what failed, or was not there, was counted in this call
abbrev pub IsUnread : FolderChange → Option Files → ℕ → Bytes → Unread → Type 0
IsUnread v files most file absent = Rose v.before.absences v.after.absences × IfSome files (λ f. f file ≡ None)
IsUnread v files most file too_long = IfSome files (λ f. IsLonger most (f file))
IsUnread v files most file failed = Rose v.before.read_faults v.after.read_faults

-- the two agree before that byte, at which each has this, or has ended, and there they differ
pub record DifferAt (wrote read : Bytes) (at : ℕ) (w r : Option ℕ) : Type 0 where
  pub before : take at wrote ≡ take at read
  pub wrote_there : slice_get wrote at ≡ w
  pub read_there : slice_get read at ≡ r
  pub differ : w ≡ r → ⊥
