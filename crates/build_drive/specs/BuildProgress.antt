-- What the parts of a call of `build` come to.
use Rattle.std.specs.Prelude.{ℕ, List, [], Some}
use Rattle.cdle_folder.specs.Files.{Bytes}
use Rattle.cdle_model.specs.CoreText.{Says}
use Rattle.cdle_model.specs.Derivation.{AreDerived}
use Rattle.cdle_model.specs.Forms.{Written}
use Rattle.build_outcome.specs.Changes.{FolderChange}
use Rattle.build_outcome.specs.Reports.{IsReported}
use Rattle.build_outcome.specs.declared.done.Done.{Done}
use Rattle.build_source.specs.Files.{core_file}
use Rattle.build_drive.specs.BuildAnswers.{IsBuildOutcome, IsCoreOutcome}
use Rattle.build_drive.specs.BuildTraces.{CoreEnd, BuildTrace, IsBuildTrace, IsCoreTrace, ending_source}
use Rattle.build_drive.specs.Checks.{IsVerdictAtSomeBudget}

-- the end of a whole call, memory being there
abbrev pub IsBuilding : ℕ → FolderChange → Bytes → Done → Type 0
IsBuilding n v name d = (t : BuildTrace) × IsBuildTrace v name t × IsBuildOutcome (IsVerdictAtSomeBudget n) n name t d.outcome × IsReported (Some name) (ending_source t) d

-- the Core file with this text came to this end, which is reported; the text says items that have a derivation
abbrev pub EndsWriting : ℕ → FolderChange → Bytes → Bytes → Done → Type 0
EndsWriting n v name text d = (e : CoreEnd) × IsCoreTrace v (core_file name) text e × ((ws : List Written) → Says text [] ws → AreDerived ws → IsCoreOutcome (IsVerdictAtSomeBudget n) (core_file name) text ws e d.outcome)
    × IsReported (Some name) [] d
