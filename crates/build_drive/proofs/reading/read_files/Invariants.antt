use Rattle.std.proofs.Common.{◌≡◌, ◌≤◌, ℕ, drop, map, string_bytes}
use Rattle.core_check.specs.Items.{items_of}
use Rattle.build_drive.specs.Checks.{IsVerdictAtSomeBudget}
use Rattle.build_outcome.specs.Changes.{FolderChange}
use Rattle.build_drive.specs.Progress.{HasCome, IsInStep}
use Rattle.build_drive.proofs.reading.read_files.Given as goal

abbrev pub invariant-loop-file : goal.invariant-loop-file
invariant-loop-file g l = record {
  files : (g.F.Folder.state l.folder).files ≡ (g.F.Folder.state l.fn.folder).files;
  write_faults : (g.F.Folder.state l.folder).write_faults ≡ (g.F.Folder.state l.fn.folder).write_faults;
  read_faults : (g.F.Folder.state l.fn.folder).read_faults ≤ (g.F.Folder.state l.folder).read_faults;
  absences : (g.F.Folder.state l.fn.folder).absences ≤ (g.F.Folder.state l.folder).absences;
  in_step : IsInStep l.reading;
  come : (n : ℕ) (v : FolderChange) → v.before ≡ g.F.Folder.state l.fn.folder
      → HasCome (IsVerdictAtSomeBudget n) v (map string_bytes l.fn.files.items) (g.F.Folder.state l.folder).given (items_of l.reading.files.items) (drop l.file-index (map string_bytes l.fn.files.items));
}
