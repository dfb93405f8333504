-- What a call does to its folder, and how much it reads.
use Rattle.std.specs.Prelude.{ℕ}
use Rattle.cdle_folder.specs.States.{FolderState}

-- the folder before the call and after it
pub record FolderChange : Type 0 where
  pub before : FolderState
  pub after : FolderState

-- the most bytes of a file that is an input
abbrev pub most_bytes : ℕ
most_bytes = 1048576
