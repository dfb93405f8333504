-- The whole of a call of `core`.
use Rattle.std.specs.Prelude.{◌≡◌, ◌⊎◌, ◌+◌, ◌≤◌, ◌++◌, ℕ, List, [], ◌∷◌, Option, Some, None, IfSome, length}
use Rattle.cdle_folder.specs.Files.{Bytes, Files, Reads, with_read}
use Rattle.cdle_model.specs.Check.{IsUndecided, check_items, spends}
use Rattle.cdle_model.specs.CoreText.{Says}
use Rattle.cdle_model.specs.Derivation.{AreDerived}
use Rattle.cdle_model.specs.Forms.{Written}
use Rattle.build_drive.specs.Traces.{Trace, IsTrace, ending_text}
use Rattle.build_outcome.specs.Changes.{FolderChange, most_bytes}
use Rattle.build_drive.specs.Checks.{AreNotDerivedUpTo, IsSpot, IsVerdictAtSomeBudget}
use Rattle.build_drive.specs.Answers.{IsOutcome, item_names, most_items}
use Rattle.build_outcome.specs.Reports.{IsReported}
use Rattle.build_outcome.specs.declared.done.Done.{Done}
use Rattle.build_outcome.specs.declared.outcome.Outcome.{Outcome}
use Rattle.build_outcome.specs.declared.outcome.Outcome.TheVariants as outcome
use Rattle.build_outcome.specs.declared.outcome.Spot.{Spot}

-- the call has a trace over these files, and the outcome and the report are of it
abbrev pub IsTraced : (List Written → Outcome → Type 0) → FolderChange → List Bytes → Done → Type 0
IsTraced Verdict v files d = (s : Trace) × IsTrace v v.before.given files s × IsOutcome Verdict [] s d.outcome × IsReported None (ending_text s) d

-- The end of a call on these files, with n units for each comparison and each head form. Memory may run out anywhere; then there is no report.
abbrev pub IsCall : ℕ → FolderChange → List Bytes → Done → Type 0
IsCall n v files d = (d.outcome ≡ outcome.NoMemory) × (d.report.items ≡ []) ⊎ IsTraced (IsVerdictAtSomeBudget n) v files d

-- These files, read in this call when its reads had given that much, are read to their ends, and say in their order all the items behind es.
abbrev pub AreRead : FolderChange → Option Reads → List Written → List Bytes → List Written → Type 0
AreRead v given es [] all = (v.after.given ≡ given) × (all ≡ es)
AreRead v given es (file ∷ files) all = (bytes : Bytes) × (ws : List Written) × IfSome v.before.files (λ f. f file ≡ Some bytes) × Says bytes (item_names es) ws
    × AreRead v (with_read file bytes given) (es ++ ws) files all

-- accepted: every file was read to its end, and the list of all items, so many, has a derivation
abbrev pub AreAccepted : FolderChange → List Bytes → ℕ → Type 0
AreAccepted v files items = (all : List Written) × AreRead v v.before.given [] files all × AreDerived all × (items ≡ length all)

-- refused there: every file was read to its end, and the items up to the one that is named have no derivation
abbrev pub AreRefused : FolderChange → List Bytes → Spot → Type 0
AreRefused v files place = (all : List Written) × AreRead v v.before.given [] files all × (i : ℕ) × (path : List ℕ) × IsSpot all i path place × AreNotDerivedUpTo all i

-- undecided there with n units: every file was read to its end; the comparison or head form there is spent with n units, and all before it pass
-- with some number of them; and the plain check of all items with n units is spent, there or earlier
abbrev pub AreUndecided : ℕ → FolderChange → List Bytes → Spot → Type 0
AreUndecided n v files place = (all : List Written) × AreRead v v.before.given [] files all × (i : ℕ) × (path : List ℕ) × IsSpot all i path place
    × (k : ℕ) × IsUndecided n (n + k) all i path × (j : ℕ) × (earlier : List ℕ) × (check_items n all ≡ spends j earlier)

-- these files are in the folder, within the limits, and say in their order all the items behind es
abbrev pub AreReadable : Files → List Written → List Bytes → List Written → Type 0
AreReadable f es [] all = all ≡ es
AreReadable f es (file ∷ files) all = (bytes : Bytes) × (ws : List Written) × (f file ≡ Some bytes) × (length bytes ≤ most_bytes) × Says bytes (item_names es) ws
    × (length es + length ws ≤ most_items) × AreReadable f (es ++ ws) files all
