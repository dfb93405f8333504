-- What the checker answers, with n units for each comparison and each head form.
use Rattle.std.specs.Prelude.{◌≡◌, ◌+◌, ℕ, suc, List, length, take, Result, Ok, Err}
use Rattle.cdle_model.specs.Trees.{Tree}
use Rattle.cdle_model.specs.Forms.{Written}
use Rattle.cdle_model.specs.HeadForms.{deep}
use Rattle.cdle_model.specs.Derivation.{bodies, signature, AreDerived}
use Rattle.cdle_model.specs.Check.{Reason, Questions, gives, refused, halts, infer_item, SpentAfter, ListVerdict, accepts, refuses, spends, ends, duplicate, check_item, check_items, IsUndecided}
use Rattle.core_tree.specs.declared.faults.Checked.{Checked}
use Rattle.core_tree.specs.declared.faults.CoreFault.{CoreFault}
use Rattle.core_tree.specs.declared.faults.CoreFault.TheVariants as fault
use Rattle.core_rules.specs.declared.fault.Fault.{Fault}
use Rattle.core_rules.specs.Reasons.{IsWhy}
use Rattle.core_rules.specs.Questions.{Meets}

-- the fault is what the plain check says of these items at some budget, which need not be n; or the check is undecided with n units
abbrev pub IsFaultOf : ℕ → List Written → CoreFault → Type 0
IsFaultOf n ws fault.NoMemory = Unit {0}
IsFaultOf n ws (fault.Refused i path why) = (m : ℕ) × (r : Reason) × (check_items m ws ≡ refuses i path r) × IsWhy r why
IsFaultOf n ws (fault.Duplicate i earlier) = (m : ℕ) × (check_items m ws ≡ duplicate i earlier)
IsFaultOf n ws (fault.Undecided i path) = (k : ℕ) × IsUndecided n (n + k) ws i path
IsFaultOf n ws (fault.TooDeep i) = (m : ℕ) × (check_items m ws ≡ ends i deep)

-- the answer is what the plain check says of these items at some budget, or it is undecided with n units
abbrev pub IsAnswerAtSome : ℕ → List Written → Result Checked CoreFault → Type 0
IsAnswerAtSome n ws (Ok c) = (c.items ≡ length ws) × (m : ℕ) × (check_items m ws ≡ accepts)
IsAnswerAtSome n ws (Err e) = IsFaultOf n ws e

-- the items up to the one that is refused, or whose name is an earlier one's, have no derivation
abbrev pub HaveNoDerivation : List Written → Result Checked CoreFault → Type 0
HaveNoDerivation ws (Err (fault.Refused i path why)) = AreDerived (take (suc i) ws) → ⊥
HaveNoDerivation ws (Err (fault.Duplicate i earlier)) = AreDerived (take (suc i) ws) → ⊥
HaveNoDerivation ws r = Unit {0}

-- the answer is the one that this verdict, of the plain check at one budget, says; where its units are spent, it may be any, and want of memory may always be answered
abbrev pub AgreesWith : ListVerdict → Result Checked CoreFault → Type 0
AgreesWith (spends i path) r = Unit {0}
AgreesWith v (Err fault.NoMemory) = Unit {0}
AgreesWith accepts (Ok c) = Unit {0}
AgreesWith (refuses i path r) (Err (fault.Refused j found why)) = (j ≡ i) × (found ≡ path) × IsWhy r why
AgreesWith (duplicate i earlier) (Err (fault.Duplicate j first)) = (j ≡ i) × (first ≡ earlier)
AgreesWith (ends i h) (Err (fault.TooDeep j)) = j ≡ i
AgreesWith v r = ⊥

-- ---- one item

-- the questions of an item, at some budget: something is found, or a fault
abbrev pub MeetsItem : List Written → ℕ → Questions → Result (Unit {0}) Fault → Type 0
MeetsItem es n q (Ok _) = (a : Tree) × Meets es n q (Ok a)
MeetsItem es n q (Err e) = Meets es n q (Err e)

-- the answer on one item over the items es, under its number, is what the definitions say of it at some budget, or it is undecided with n units
abbrev pub IsItemAnswerAtSome : ℕ → List Written → Written → Result (Unit {0}) CoreFault → Type 0
IsItemAnswerAtSome n es w (Ok u) = (m : ℕ) × (a : Tree) × (check_item m es w ≡ gives a)
IsItemAnswerAtSome n es w (Err fault.NoMemory) = Unit {0}
IsItemAnswerAtSome n es w (Err (fault.Refused i path why)) = (i ≡ length es) × (m : ℕ) × (r : Reason) × (check_item m es w ≡ refused path r) × IsWhy r why
IsItemAnswerAtSome n es w (Err (fault.Undecided i path)) = (i ≡ length es) × (k : ℕ) × SpentAfter (bodies (signature es)) n (n + k) path (infer_item (signature es) w)
IsItemAnswerAtSome n es w (Err (fault.TooDeep i)) = (i ≡ length es) × (m : ℕ) × (check_item m es w ≡ halts deep)
IsItemAnswerAtSome n es w (Err (fault.Duplicate i earlier)) = ⊥
