-- What is known of a folder and of a sink at one moment.
use Rattle.std.specs.Prelude.{ℕ, Option}
use Rattle.cdle_folder.specs.Files.{Bytes, Files, Reads}

-- the files, and what the reads gave, where the folder tells them; how often a read has failed, how often a write has, and how often a
-- name was not there
pub record FolderState : Type 0 where
  pub files : Option Files
  pub given : Option Reads
  pub read_faults : ℕ
  pub write_faults : ℕ
  pub absences : ℕ

-- what is written, where the sink tells it; how often it was put to, and how often that has failed
pub record SinkState : Type 0 where
  pub written : Option Bytes
  pub puts : ℕ
  pub faults : ℕ
