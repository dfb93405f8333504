-- What a call that accepts, refuses, or is undecided, says of its files.
use Rattle.std.proofs.Common.{◌≡◌, ◌∙◌, ◌⊎◌, inl, inr, ◌++◌, ℕ, List, [], ◌∷◌, Option, Some, length, refl, sym, subst}
use Rattle.cdle_folder.specs.Causes.{Quiet}
use Rattle.cdle_folder.specs.Files.{Bytes, Files, Reads, with_read}
use Rattle.cdle_model.specs.Check.{ListVerdict, accepts, check_items, duplicate, ends, refuses}
use Rattle.cdle_model.specs.Classes.{AreScopedOver}
use Rattle.cdle_model.specs.CoreNames.{Name}
use Rattle.cdle_model.specs.Derivation.{AreDerived}
use Rattle.cdle_model.specs.Forms.{Written}
use Rattle.cdle_model.specs.HeadForms.{deep}
use Rattle.cdle_model.specs.declared.grammar.Count.TheVariants.{Bytes as OfBytes, Nesting, Items}
use Rattle.cdle_model.proofs.ItemsChecked.{accepted-derived}
use Rattle.cdle_model.proofs.Undecided.{undecided-spent}
use Rattle.build_drive.specs.Answers.{IsOutcome, IsStopped, item_names}
use Rattle.build_drive.specs.Calls.{AreAccepted, AreRead, AreRefused, AreReadable, AreUndecided, IsCall}
use Rattle.build_drive.specs.Checks.{AreNotDerivedUpTo, IsVerdictAtBudget, IsSpot, IsVerdictAtSomeBudget, MatchesVerdict}
use Rattle.build_drive.specs.Traces.{IsFaultlessTrace, IsTrace, Trace, absent, contents, no_more, ending, too_long, unread}
use Rattle.build_outcome.specs.Changes.{FolderChange}
use Rattle.build_outcome.specs.declared.done.Done.{Done}
use Rattle.build_outcome.specs.declared.outcome.Outcome.{Outcome}
use Rattle.build_outcome.specs.declared.outcome.Outcome.TheVariants as outcome
use Rattle.build_outcome.specs.declared.outcome.Reason.{Reason}
use Rattle.build_outcome.specs.declared.outcome.Reason.TheVariants.{Core, Duplicate}
use Rattle.build_outcome.specs.declared.outcome.Spot.{Spot}
use Rattle.build_drive.proofs.Calls.{exact}
use Rattle.build_drive.proofs.Items.{over-append, said-over}

-- the outcomes that only the check has
abbrev IsOfCheck : Outcome → Type 0
IsOfCheck (outcome.Ok modules items) = Unit {0}
IsOfCheck (outcome.Refused spot why) = Unit {0}
IsOfCheck (outcome.Undecided spot budget) = Unit {0}
IsOfCheck o = ⊥

never : {R : Type 0} (known : List Name) (s : Trace) (o : Outcome) → IsOfCheck o → IsStopped known s o → R
never known (absent file) (outcome.Missing name) c h = absurd c
never known (too_long file) (outcome.Limit name OfBytes) c h = absurd c
never known (unread file) (outcome.ReadFault name) c h = absurd c
never known (ending file bytes) (outcome.Malformed name at what) c h = absurd c
never known (ending file bytes) (outcome.Limit name Nesting) c h = absurd c
never known (ending file bytes) (outcome.Limit name Items) c h = absurd c
never known s o c h = absurd h

-- where the check has the outcome, every file was read
all-read : (Verdict : List Written → Outcome → Type 0) (v : FolderChange) (given : Option Reads) (es : List Written) (files : List Bytes) (s : Trace) (o : Outcome) → IsOfCheck o
    → IsTrace v given files s → IsOutcome Verdict es s o → (all : List Written) × AreRead v given es files all × Verdict all o
all-read Verdict v given es [] no_more o c trace h = (es, (trace, refl), h)
all-read Verdict v given es (file ∷ files) (contents name bytes rest) o c trace h =
    let r = all-read Verdict v (with_read file bytes given) (es ++ h.0) files rest o c trace.3 h.3 in (r.0, (bytes, h.0, trace.2, h.1, r.1), r.2)
all-read Verdict v given es files (absent name) o c trace h = never (item_names es) (absent name) o c h
all-read Verdict v given es files (too_long name) o c trace h = never (item_names es) (too_long name) o c h
all-read Verdict v given es files (unread name) o c trace h = never (item_names es) (unread name) o c h
all-read Verdict v given es files (ending name bytes) o c trace h = never (item_names es) (ending name bytes) o c h
all-read Verdict v given es files s o c trace h = absurd trace

-- the outcome of a call that the check decides, or leaves undecided
checked : (n : ℕ) (v : FolderChange) (files : List Bytes) (d : Done) (o : Outcome) → IsOfCheck o → IsCall n v files d → d.outcome ≡ o → (all : List Written) × AreRead v v.before.given [] files all × IsVerdictAtSomeBudget n all o
checked n v files d o c (inl none) e = absurd (subst IsOfCheck (sym e ∙ none.0) c)
checked n v files d o c (inr w) e = all-read (IsVerdictAtSomeBudget n) v v.before.given [] files w.0 o c w.1 (subst (IsOutcome (IsVerdictAtSomeBudget n) [] w.0) e w.2)

pub accepted-told : (all : List Written) (v : ListVerdict) (modules items : ℕ) → MatchesVerdict all v (outcome.Ok modules items) → AreDerived all × (items ≡ length all)
accepted-told all accepts modules items h = (h.2, h.1)
accepted-told all (ends i deep) modules items h = absurd h
accepted-told all v modules items h = absurd h

pub accepted : (n : ℕ) (v : FolderChange) (files : List Bytes) (d : Done) (modules items : ℕ) → IsCall n v files d → d.outcome ≡ outcome.Ok modules items
    → AreAccepted v files items
accepted n v files d modules items call e =
    let r = checked n v files d (outcome.Ok modules items) tt call e in
    let t = accepted-told r.0 (check_items r.2.0 r.0) modules items r.2.1 in (r.0, r.1, t.0, t.1)

refused-told : (all : List Written) (v : ListVerdict) (spot : Spot) (why : Reason) → MatchesVerdict all v (outcome.Refused spot why) → (i : ℕ) × (path : List ℕ) × IsSpot all i path spot × AreNotDerivedUpTo all i
refused-told all (refuses i path reason) spot (Core why) h = (i, path, h.0, h.2)
refused-told all (duplicate i earlier) spot (Duplicate e) h = (i, [], h.0, h.2)
refused-told all (ends i deep) spot why h = absurd h
refused-told all v spot why h = absurd h

pub refused : (n : ℕ) (v : FolderChange) (files : List Bytes) (d : Done) (spot : Spot) (why : Reason) → IsCall n v files d → d.outcome ≡ outcome.Refused spot why
    → AreRefused v files spot
refused n v files d spot why call e =
    let r = checked n v files d (outcome.Refused spot why) tt call e in
    let t = refused-told r.0 (check_items r.2.0 r.0) spot why r.2.1 in (r.0, r.1, t.0, t.1, t.2, t.3)

pub undecided : (n : ℕ) (v : FolderChange) (files : List Bytes) (d : Done) (spot : Spot) (units : ℕ) → IsCall n v files d → d.outcome ≡ outcome.Undecided spot units
    → (units ≡ n) × AreUndecided n v files spot
undecided n v files d spot units call e =
    let r = checked n v files d (outcome.Undecided spot units) tt call e in
    let u = r.2 in
    let spent = undecided-spent n u.4 r.0 u.1 u.2 u.5 in
    (u.0, (r.0, r.1, u.1, u.2, u.3, u.4, u.5, spent.0, spent.1, spent.2))

-- ---- where nothing fails

faultless : (Verdict : List Written → Outcome → Type 0) (f : Files) (es : List Written) (files : List Bytes) (all : List Written) → AreScopedOver [] es → AreReadable f es files all
    → AreScopedOver [] all × (s : Trace) × IsFaultlessTrace f files s × ((o : Outcome) → Verdict all o → IsOutcome Verdict es s o)
faultless Verdict f es [] all over h = (subst (AreScopedOver []) (sym h) over, no_more, tt, λ o x. subst (λ (ws : List Written). Verdict ws o) h x)
faultless Verdict f es (file ∷ files) all over h =
    let bytes = h.0 in
    let ws = h.1 in
    let r = faultless Verdict f (es ++ ws) files all (over-append [] es ws over (said-over bytes es ws h.4)) h.6 in
    (r.0, contents file bytes r.1, (refl, h.3, h.2, r.2), λ o x. (ws, h.4, h.5, r.3 o x))

-- the files that are there say items that the check accepts with n units
pub complete : (n : ℕ) (v : FolderChange) (files : List Bytes) (d : Done) (f : Files) (all : List Written) → IsCall n v files d → v.before.files ≡ Some f → Quiet v.before.read_faults v.after.read_faults
    → AreReadable f [] files all → check_items n all ≡ accepts → (d.outcome ≡ outcome.Ok 0 (length all)) ⊎ (d.outcome ≡ outcome.NoMemory)
complete n v files d f all call told quiet h e =
    let r = faultless (IsVerdictAtBudget n) f [] files all tt h in
    let ok : MatchesVerdict all accepts (outcome.Ok 0 (length all)) = (refl, refl, accepted-derived all r.0 n e) in
    exact n v files d f r.1 (outcome.Ok 0 (length all)) call told quiet r.2 (r.3 (outcome.Ok 0 (length all)) (subst (λ x. MatchesVerdict all x (outcome.Ok 0 (length all))) (sym e) ok))
