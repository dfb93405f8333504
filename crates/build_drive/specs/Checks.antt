-- What the check of all items comes to.
use Rattle.std.specs.Prelude.{◌≡◌, ◌+◌, ℕ, suc, List, [], Some, length, slice_get, take}
use Rattle.cdle_folder.specs.Files.{Bytes}
use Rattle.cdle_model.specs.Check.{ListVerdict, accepts, refuses, ends, duplicate, check_items, IsUndecided}
use Rattle.cdle_model.specs.Derivation.{AreDerived}
use Rattle.cdle_model.specs.Forms.{Written, name_of}
use Rattle.cdle_model.specs.HeadForms.{deep}
use Rattle.cdle_model.specs.declared.grammar.Count.TheVariants.{Depth}
use Rattle.core_rules.specs.Reasons.{IsWhy}
use Rattle.core_tree.specs.declared.faults.CoreFault.{CoreFault}
use Rattle.core_tree.specs.declared.faults.CoreFault.TheVariants as fault
use Rattle.build_outcome.specs.declared.outcome.Outcome.{Outcome}
use Rattle.build_outcome.specs.declared.outcome.Outcome.TheVariants as outcome
use Rattle.build_outcome.specs.declared.outcome.Reason.TheVariants.{Core, Duplicate}
use Rattle.build_outcome.specs.declared.outcome.Spot.{Spot}
use Rattle.build_outcome.specs.declared.outcome.Spot.TheVariants.{CoreSpot, FileSpot}

-- the name of an item, by its number over all files
abbrev pub IsItemName : List Written → ℕ → Bytes → Type 0
IsItemName ws i name = (w : Written) × (slice_get ws i ≡ Some w) × (name ≡ name_of w)

-- the name of the item at which the check stopped
abbrev pub IsNameAt : List Written → CoreFault → Bytes → Type 0
IsNameAt ws (fault.Refused i path why) name = IsItemName ws i name
IsNameAt ws (fault.Duplicate i earlier) name = IsItemName ws i name
IsNameAt ws (fault.Undecided i path) name = IsItemName ws i name
IsNameAt ws (fault.TooDeep i) name = IsItemName ws i name
IsNameAt ws fault.NoMemory name = ⊥

-- a place in the item of that number
abbrev pub IsSpot : List Written → ℕ → List ℕ → Spot → Type 0
IsSpot ws i path (CoreSpot name p) = IsItemName ws i name × (p ≡ path)
IsSpot ws i path (FileSpot file at) = ⊥

-- no list that begins with the items up to that one has a derivation
abbrev pub AreNotDerivedUpTo : List Written → ℕ → Type 0
AreNotDerivedUpTo ws i = AreDerived (take (suc i) ws) → ⊥

-- the outcome is this verdict on the items; accepted items have a derivation, and those up to a refused one have none
abbrev pub MatchesVerdict : List Written → ListVerdict → Outcome → Type 0
MatchesVerdict ws accepts (outcome.Ok modules items) = (modules ≡ 0) × (items ≡ length ws) × AreDerived ws
MatchesVerdict ws (refuses i path reason) (outcome.Refused spot (Core why)) = IsSpot ws i path spot × IsWhy reason why × AreNotDerivedUpTo ws i
MatchesVerdict ws (duplicate i earlier) (outcome.Refused spot (Duplicate e)) = IsSpot ws i [] spot × (e ≡ earlier) × AreNotDerivedUpTo ws i
MatchesVerdict ws (ends i deep) (outcome.Limit name Depth) = IsItemName ws i name
MatchesVerdict ws v o = ⊥

-- the outcome is that of the plain check with n units for each comparison and each head form
abbrev pub IsVerdictAtBudget : ℕ → List Written → Outcome → Type 0
IsVerdictAtBudget n ws o = MatchesVerdict ws (check_items n ws) o

-- The outcome is that of the plain check at some budget; or the check was undecided where a comparison or a head form is spent with n
-- units, and all before it pass with some number of them.
abbrev pub IsVerdictAtSomeBudget : ℕ → List Written → Outcome → Type 0
IsVerdictAtSomeBudget n ws (outcome.Undecided spot budget) = (budget ≡ n) × (i : ℕ) × (path : List ℕ) × IsSpot ws i path spot × (k : ℕ) × IsUndecided n (n + k) ws i path
IsVerdictAtSomeBudget n ws o = (m : ℕ) × IsVerdictAtBudget m ws o
