-- The outcome of the check: from the checker's fault to it, and that where the plain check with n units is not spent, there is one.
use Rattle.std.proofs.Common.{◌≡◌, ◌∙◌, ◌⊎◌, inl, inr, ◌<◌, Bool, ℕ, true, false, List, [], Option, Some, None, length, refl, sym, ap, ap₂, subst, slice_get, arith}
use Rattle.std.specs.Prelude.{if◌then◌else◌, nat_le}
use Rattle.std.proofs.lemmas.Bool.Decides.{nat_tests}
use Rattle.cdle_folder.specs.Files.{Bytes}
use Rattle.cdle_model.specs.Check.{Reason, not_a_function, not_an_intersection, not_an_equation, wrong_kind, mismatch, erased_use, parts_differ, not_booleans, sides_differ, ListVerdict, accepts, refuses, spends, ends, duplicate, check_items}
use Rattle.cdle_model.specs.Depth.{depth}
use Rattle.cdle_model.specs.Forms.{Written, name_of}
use Rattle.cdle_model.specs.HeadForms.{deep, ill_classed}
use Rattle.cdle_model.specs.Trees.{Tree}
use Rattle.cdle_model.specs.declared.grammar.Count.TheVariants.{Depth}
use Rattle.cdle_model.specs.Classes.{AreScoped}
use Rattle.cdle_model.proofs.CheckLargerBudget.{list-stays}
use Rattle.std.proofs.lemmas.Option.{slice_get_cases}
use Rattle.cdle_model.proofs.ClassItems.{list-ends}
use Rattle.cdle_model.proofs.ItemsChecked.{accepted-derived, duplicate-lost, refused-lost}
use Rattle.cdle_model.proofs.Undecided.{undecided-spent}
use Rattle.core_check.specs.Answer.{IsFaultOf}
use Rattle.core_rules.specs.Reasons.{IsWhy}
use Rattle.core_tree.specs.Faults.{IsKept}
use Rattle.core_tree.specs.declared.faults.CoreFault.TheVariants as fault
use Rattle.core_tree.specs.declared.faults.Kept.{Kept}
use Rattle.core_tree.specs.declared.faults.Kept.TheVariants.{Whole, Deep}
use Rattle.core_tree.specs.declared.faults.Why.{Why}
use Rattle.core_tree.specs.declared.faults.Why.TheVariants as w
use Rattle.build_drive.specs.Checks.{IsVerdictAtBudget, IsItemName, IsVerdictAtSomeBudget, MatchesVerdict}
use Rattle.build_outcome.specs.declared.outcome.Outcome.{Outcome}
use Rattle.build_outcome.specs.declared.outcome.Outcome.TheVariants as outcome
use Rattle.build_outcome.specs.declared.outcome.Reason.TheVariants.{Core, Duplicate}
use Rattle.build_outcome.specs.declared.outcome.Spot.{Spot}
use Rattle.build_outcome.specs.declared.outcome.Spot.TheVariants.{CoreSpot, FileSpot}
use Rattle.build_drive.proofs.Numbers.{duplicate-within, ends-within, refused-within}

-- ---- from a fault to its outcome

pub refused-verdict : (n : ℕ) (ws : List Written) (i : ℕ) (path : List ℕ) (why : Why) (name : Bytes) → AreScoped ws → IsFaultOf n ws (fault.Refused i path why) → IsItemName ws i name
    → IsVerdictAtSomeBudget n ws (outcome.Refused (CoreSpot name path) (Core why))
refused-verdict n ws i path why name over h item =
    (h.0, subst (λ v. MatchesVerdict ws v (outcome.Refused (CoreSpot name path) (Core why))) (sym h.2) ((item, refl), h.3, refused-lost ws over h.0 i path h.1 h.2))

pub duplicate-verdict : (n : ℕ) (ws : List Written) (i earlier : ℕ) (name : Bytes) → AreScoped ws → IsFaultOf n ws (fault.Duplicate i earlier) → IsItemName ws i name
    → IsVerdictAtSomeBudget n ws (outcome.Refused (CoreSpot name []) (Duplicate earlier))
duplicate-verdict n ws i earlier name over h item =
    (h.0, subst (λ v. MatchesVerdict ws v (outcome.Refused (CoreSpot name []) (Duplicate earlier))) (sym h.1) ((item, refl), refl, duplicate-lost ws over h.0 i earlier h.1))

-- ---- the outcome of a verdict, as a function

abbrev kept : Tree → Kept Tree
kept t = if nat_le (depth t) 4096 then Whole t else Deep

kept-is : (t : Tree) (k : Kept Tree) → IsKept t k → k ≡ kept t
kept-is t (Whole u) h = let test : nat_le (depth t) 4096 ≡ true = grind (arith, nat_tests, h.1) in rw test (ap Whole h.0)
kept-is t Deep h = let test : nat_le (depth t) 4096 ≡ false = grind (arith, nat_tests, h) in rw test refl

abbrev why_of : Reason → Why
why_of (not_a_function a) = w.NotAFunction (kept a)
why_of (not_an_intersection a) = w.NotAnIntersection (kept a)
why_of (not_an_equation a) = w.NotAnEquation (kept a)
why_of (wrong_kind a None) = w.WrongKind (kept a) None
why_of (wrong_kind a (Some b)) = w.WrongKind (kept a) (Some (kept b))
why_of (mismatch a b) = w.Mismatch (kept a) (kept b)
why_of erased_use = w.ErasedUse
why_of (parts_differ a b) = w.PartsDiffer (kept a) (kept b)
why_of (not_booleans a b) = w.NotBooleans (kept a) (kept b)
why_of (sides_differ a b) = w.SidesDiffer (kept a) (kept b)

why-is : (r : Reason) (why : Why) → IsWhy r why → why ≡ why_of r
why-is (not_a_function a) (w.NotAFunction k) h = ap w.NotAFunction (kept-is a k h)
why-is (not_an_intersection a) (w.NotAnIntersection k) h = ap w.NotAnIntersection (kept-is a k h)
why-is (not_an_equation a) (w.NotAnEquation k) h = ap w.NotAnEquation (kept-is a k h)
why-is (wrong_kind a None) (w.WrongKind k None) h = ap (λ x. w.WrongKind x None) (kept-is a k h)
why-is (wrong_kind a (Some b)) (w.WrongKind k (Some l)) h = ap₂ (λ x y. w.WrongKind x (Some y)) (kept-is a k h.0) (kept-is b l h.1)
why-is (mismatch a b) (w.Mismatch k l) h = ap₂ w.Mismatch (kept-is a k h.0) (kept-is b l h.1)
why-is erased_use w.ErasedUse h = refl
why-is (parts_differ a b) (w.PartsDiffer k l) h = ap₂ w.PartsDiffer (kept-is a k h.0) (kept-is b l h.1)
why-is (not_booleans a b) (w.NotBooleans k l) h = ap₂ w.NotBooleans (kept-is a k h.0) (kept-is b l h.1)
why-is (sides_differ a b) (w.SidesDiffer k l) h = ap₂ w.SidesDiffer (kept-is a k h.0) (kept-is b l h.1)
why-is r why h = absurd h

abbrev name_in : Option Written → Bytes
name_in None = []
name_in (Some w) = name_of w

name-is : (ws : List Written) (i : ℕ) (name : Bytes) → IsItemName ws i name → name ≡ name_in (slice_get ws i)
name-is ws i name h = h.2 ∙ ap name_in (sym h.1)

abbrev outcome_of : List Written → ListVerdict → Outcome
outcome_of ws accepts = outcome.Ok 0 (length ws)
outcome_of ws (refuses i path reason) = outcome.Refused (CoreSpot (name_in (slice_get ws i)) path) (Core (why_of reason))
outcome_of ws (duplicate i earlier) = outcome.Refused (CoreSpot (name_in (slice_get ws i)) []) (Duplicate earlier)
outcome_of ws (ends i h) = outcome.Limit (name_in (slice_get ws i)) Depth
outcome_of ws (spends i path) = outcome.NoMemory

tells-is : (ws : List Written) (v : ListVerdict) (o : Outcome) → MatchesVerdict ws v o → o ≡ outcome_of ws v
tells-is ws accepts (outcome.Ok modules items) h = ap₂ outcome.Ok h.0 h.1
tells-is ws (refuses i path reason) (outcome.Refused (CoreSpot name p) (Core why)) h = rw (name-is ws i name h.0.0, h.0.1, why-is reason why h.1) refl
tells-is ws (duplicate i earlier) (outcome.Refused (CoreSpot name p) (Duplicate e)) h = rw (name-is ws i name h.0.0, h.0.1, h.1) refl
tells-is ws (ends i deep) (outcome.Limit name Depth) h = ap (λ (x : Bytes). outcome.Limit x Depth) (name-is ws i name h)
tells-is ws (refuses i path reason) (outcome.Refused (FileSpot file at) (Core why)) h = absurd h.0
tells-is ws (duplicate i earlier) (outcome.Refused (FileSpot file at) (Duplicate e)) h = absurd h.0
tells-is ws v o h = absurd h

-- ---- at two budgets

pub unspent : (ws : List Written) (v : ListVerdict) (o : Outcome) → MatchesVerdict ws v o → (i : ℕ) (p : List ℕ) → v ≡ spends i p → ⊥
unspent ws v o h i p e = subst (λ x. MatchesVerdict ws x o) e h

same-verdict : (n m : ℕ) (ws : List Written) (o p : Outcome) → IsVerdictAtBudget n ws o → IsVerdictAtBudget m ws p → check_items m ws ≡ check_items n ws
same-verdict n m ws o p h g =
    sym (list-stays m n ws (check_items m ws) refl (unspent ws (check_items m ws) p g))
    ∙ ap (λ (k : ℕ). check_items k ws) (omega arith) ∙ list-stays n m ws (check_items n ws) refl (unspent ws (check_items n ws) o h)

decided-twice : (n : ℕ) (ws : List Written) (o p : Outcome) → IsVerdictAtBudget n ws o → (m : ℕ) × IsVerdictAtBudget m ws p → p ≡ o
decided-twice n ws o p h g =
    tells-is ws (check_items g.0 ws) p g.1 ∙ ap (outcome_of ws) (same-verdict n g.0 ws o p h g.1) ∙ sym (tells-is ws (check_items n ws) o h)

pub one-verdict : (n : ℕ) (ws : List Written) (o p : Outcome) → IsVerdictAtBudget n ws o → IsVerdictAtSomeBudget n ws p → p ≡ o
one-verdict n ws o (outcome.Undecided spot budget) h g =
    let spent = undecided-spent n g.4 ws g.1 g.2 g.5 in absurd (unspent ws (check_items n ws) o h spent.0 spent.1 spent.2)
one-verdict n ws o (outcome.Ok modules items) h g = decided-twice n ws o _ h g
one-verdict n ws o (outcome.Refused spot why) h g = decided-twice n ws o _ h g
one-verdict n ws o (outcome.Limit name what) h g = decided-twice n ws o _ h g
one-verdict n ws o (outcome.Malformed file at what) h g = decided-twice n ws o _ h g
one-verdict n ws o outcome.Usage h g = decided-twice n ws o _ h g
one-verdict n ws o (outcome.ReadFault file) h g = decided-twice n ws o _ h g
one-verdict n ws o (outcome.WriteFault file) h g = decided-twice n ws o _ h g
one-verdict n ws o outcome.NoMemory h g = decided-twice n ws o _ h g
one-verdict n ws o (outcome.Missing file) h g = decided-twice n ws o _ h g
one-verdict n ws o (outcome.ReadBack file at wrote read) h g = decided-twice n ws o _ h g

-- ---- there is one

kept-by : (t : Tree) (b : Bool) → nat_le (depth t) 4096 ≡ b → IsKept t (if b then Whole t else Deep)
kept-by t true e = (refl, grind (arith, nat_tests, e))
kept-by t false e = grind (arith, nat_tests, e)

kept-there : (t : Tree) → IsKept t (kept t)
kept-there t = kept-by t (nat_le (depth t) 4096) refl

why-there : (r : Reason) → IsWhy r (why_of r)
why-there (not_a_function a) = kept-there a
why-there (not_an_intersection a) = kept-there a
why-there (not_an_equation a) = kept-there a
why-there (wrong_kind a None) = kept-there a
why-there (wrong_kind a (Some b)) = (kept-there a, kept-there b)
why-there (mismatch a b) = (kept-there a, kept-there b)
why-there erased_use = tt
why-there (parts_differ a b) = (kept-there a, kept-there b)
why-there (not_booleans a b) = (kept-there a, kept-there b)
why-there (sides_differ a b) = (kept-there a, kept-there b)

item-there : (ws : List Written) (i : ℕ) → i < length ws → (w : Written) × (slice_get ws i ≡ Some w)
item-there ws i within = elim (slice_get_cases ws i).1 [
  | inl here ↦ (here.0, here.2)
  | inr past ↦ absurd (omega (arith, within, past.0))
]

of-verdict : (n : ℕ) (ws : List Written) (v : ListVerdict) → AreScoped ws → check_items n ws ≡ v → ((o : Outcome) × MatchesVerdict ws v o) ⊎ ((i : ℕ) × (p : List ℕ) × (v ≡ spends i p))
of-verdict n ws accepts over e = inl (outcome.Ok 0 (length ws), (refl, refl, accepted-derived ws over n e))
of-verdict n ws (refuses i path reason) over e =
    let item = item-there ws i (refused-within n ws i path reason e) in
    inl (outcome.Refused (CoreSpot (name_of item.0) path) (Core (why_of reason)), (((item.0, item.1, refl), refl), why-there reason, refused-lost ws over n i path reason e))
of-verdict n ws (duplicate i earlier) over e =
    let item = item-there ws i (duplicate-within n ws i earlier e) in
    inl (outcome.Refused (CoreSpot (name_of item.0) []) (Duplicate earlier), (((item.0, item.1, refl), refl), refl, duplicate-lost ws over n i earlier e))
of-verdict n ws (ends i deep) over e = let item = item-there ws i (ends-within n ws i deep e) in inl (outcome.Limit (name_of item.0) Depth, (item.0, item.1, refl))
of-verdict n ws (ends i ill_classed) over e = absurd (let never = list-ends ws over n i ill_classed e in cc)
of-verdict n ws (spends i path) over e = inr (i, path, refl)

pub verdict-there : (n : ℕ) (ws : List Written) → AreScoped ws → ((o : Outcome) × IsVerdictAtBudget n ws o) ⊎ ((i : ℕ) × (p : List ℕ) × (check_items n ws ≡ spends i p))
verdict-there n ws over = of-verdict n ws (check_items n ws) over refl

no-undecided : {R : Type 0} (ws : List Written) (v : ListVerdict) (spot : Spot) (units : ℕ) → MatchesVerdict ws v (outcome.Undecided spot units) → R
no-undecided ws accepts spot units h = absurd h
no-undecided ws (refuses i path reason) spot units h = absurd h
no-undecided ws (duplicate i earlier) spot units h = absurd h
no-undecided ws (ends i deep) spot units h = absurd h
no-undecided ws v spot units h = absurd h

pub some-verdict : (n : ℕ) (ws : List Written) (o : Outcome) → IsVerdictAtBudget n ws o → IsVerdictAtSomeBudget n ws o
some-verdict n ws (outcome.Undecided spot units) h = no-undecided ws (check_items n ws) spot units h
some-verdict n ws (outcome.Ok modules items) h = (n, h)
some-verdict n ws (outcome.Refused spot why) h = (n, h)
some-verdict n ws (outcome.Limit name what) h = (n, h)
some-verdict n ws (outcome.Malformed file at what) h = (n, h)
some-verdict n ws outcome.Usage h = (n, h)
some-verdict n ws (outcome.ReadFault file) h = (n, h)
some-verdict n ws (outcome.WriteFault file) h = (n, h)
some-verdict n ws outcome.NoMemory h = (n, h)
some-verdict n ws (outcome.Missing file) h = (n, h)
some-verdict n ws (outcome.ReadBack file at wrote read) h = (n, h)
