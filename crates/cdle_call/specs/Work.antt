-- What the words of a call come to, before its report is put.
use Rattle.std.specs.Prelude.{◌≡◌, ◌⊎◌, ℕ, List, [], Option, Some, None}
use Rattle.cdle_folder.specs.Causes.{Quiet}
use Rattle.cdle_folder.specs.Files.{Files}
use Rattle.cdle_model.specs.Check.{check_items, spends}
use Rattle.cdle_model.specs.Forms.{Written}
use Rattle.cdle_words.specs.Words.{Command, build, core}
use Rattle.build_outcome.specs.Changes.{FolderChange}
use Rattle.build_outcome.specs.Reports.{IsReported}
use Rattle.build_outcome.specs.declared.done.Done.{Done}
use Rattle.build_outcome.specs.declared.outcome.Outcome.{Outcome}
use Rattle.build_outcome.specs.declared.outcome.Outcome.TheVariants as outcome
use Rattle.build_outcome.specs.declared.outcome.Reason.{Reason}
use Rattle.build_outcome.specs.declared.outcome.Spot.{Spot}
use Rattle.build_source.specs.Files.{IsUntouched}
use Rattle.build_drive.specs.Answers.{IsOutcome}
use Rattle.build_drive.specs.BuildCalls.{IsBuildCall, IsBuildDetermined, IsBuildSpent, IsBuilt, IsLeft, IsRefusedSource, IsUndecidedModule}
use Rattle.build_drive.specs.Calls.{AreAccepted, AreReadable, AreRefused, AreUndecided, IsCall}
use Rattle.build_drive.specs.Checks.{IsVerdictAtBudget}
use Rattle.build_drive.specs.Traces.{IsFaultlessTrace, Trace}

-- memory ran out, and so there is no report
abbrev pub IsWanting : Done → Type 0
IsWanting d = (d.outcome ≡ outcome.NoMemory) × (d.report.items ≡ [])

-- where the words are no command, this is reported, and nothing is read
abbrev pub IsUsage : FolderChange → Done → Type 0
IsUsage v d = (d.outcome ≡ outcome.Usage) × IsReported None [] d × (v.after.given ≡ v.before.given)

-- the outcome of a call on this folder, by what the words ask for, and its report
abbrev pub IsWork : Option Command → FolderChange → Done → Type 0
IsWork None v d = IsWanting d ⊎ IsUsage v d
IsWork (Some (core files budget)) v d = IsCall budget v files d
IsWork (Some (build name budget)) v d = IsBuildCall budget v name d

-- What the call leaves of the files: `core` writes none; `build` writes the module's Core file, with what the rules give, or none.
abbrev pub LeavesFiles : Option Command → FolderChange → Type 0
LeavesFiles (Some (build name budget)) v = IsLeft budget v name
LeavesFiles c v = IsUntouched v

-- Done: the words ask for `core`, each of their files was read to its end, in their order, and the list of all items, so many, has a derivation; or they ask for
-- `build`, and the module was built.
abbrev pub IsAccepted : Option Command → FolderChange → ℕ → ℕ → Type 0
IsAccepted None v modules items = ⊥
IsAccepted (Some (core files budget)) v modules items = AreAccepted v files items
IsAccepted (Some (build name budget)) v modules items = IsBuilt budget v name modules items

-- refused there: likewise each file was read, and the items up to the one that is named have no derivation; or the module's file was, and the rules refuse it so
abbrev pub IsRefused : Option Command → FolderChange → Spot → Reason → Type 0
IsRefused None v place why = ⊥
IsRefused (Some (core files budget)) v place why = AreRefused v files place
IsRefused (Some (build name budget)) v place why = IsRefusedSource budget v name place why

-- undecided there, with that budget: it is the words'; likewise each file was read, and the plain check of all items with it is spent; or a question of the
-- rules is, or the plain check of what they give
abbrev pub IsSpent : Option Command → FolderChange → Spot → ℕ → Type 0
IsSpent None v place units = ⊥
IsSpent (Some (core files budget)) v place units = (units ≡ budget) × AreUndecided budget v files place
IsSpent (Some (build name budget)) v place units = (units ≡ budget) × IsUndecidedModule budget v name place

-- no fault of the folder is counted that the command could meet: `core` writes nothing
abbrev pub IsQuiet : Option Command → FolderChange → Type 0
IsQuiet (Some (build name budget)) v = Quiet v.before.read_faults v.after.read_faults × Quiet v.before.write_faults v.after.write_faults
IsQuiet c v = Quiet v.before.read_faults v.after.read_faults

-- where nothing fails, the words and these files determine the outcome, the plain check with the words' budget not being spent
abbrev pub IsDetermined : Option Command → Files → Outcome → Type 0
IsDetermined None f o = o ≡ outcome.Usage
IsDetermined (Some (core files budget)) f o = (s : Trace) × IsFaultlessTrace f files s × IsOutcome (IsVerdictAtBudget budget) [] s o
IsDetermined (Some (build name budget)) f o = IsBuildDetermined budget f name o

-- the words ask for files, or for a module, and what these say, or it gives, spends the plain check with the words' budget
abbrev pub IsSpentOver : Option Command → Files → Type 0
IsSpentOver None f = ⊥
IsSpentOver (Some (core files budget)) f = (all : List Written) × AreReadable f [] files all × (i : ℕ) × (path : List ℕ) × (check_items budget all ≡ spends i path)
IsSpentOver (Some (build name budget)) f = IsBuildSpent budget f name
