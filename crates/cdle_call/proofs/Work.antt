-- What the work of a call says of its outcome.
use Rattle.std.proofs.Common.{◌≡◌, ◌∙◌, ◌⊎◌, inl, inr, ◌≤◌, ◌++◌, ℕ, List, [], Option, Some, None, length, refl, sym, subst}
use Rattle.cdle_folder.specs.Causes.{Quiet}
use Rattle.cdle_folder.specs.Files.{Bytes, Files}
use Rattle.cdle_model.specs.Check.{ListVerdict, accepts, check_items, duplicate, ends, refuses}
use Rattle.cdle_model.specs.Forms.{Written}
use Rattle.cdle_model.specs.HeadForms.{deep}
use Rattle.cdle_words.specs.Words.{Command, build, core}
use Rattle.build_drive.specs.Answers.{IsOutcome}
use Rattle.build_drive.specs.Calls.{AreReadable}
use Rattle.build_drive.specs.Checks.{IsVerdictAtSomeBudget, MatchesVerdict}
use Rattle.build_drive.specs.Traces.{Trace, absent, contents, no_more, ending, too_long, unread}
use Rattle.build_outcome.specs.Changes.{FolderChange}
use Rattle.build_outcome.specs.declared.done.Done.{Done}
use Rattle.build_outcome.specs.declared.outcome.Outcome.{Outcome}
use Rattle.build_outcome.specs.declared.outcome.Outcome.TheVariants as outcome
use Rattle.build_outcome.specs.declared.outcome.Reason.{Reason}
use Rattle.build_outcome.specs.declared.outcome.Spot.{Spot}
use Rattle.build_drive.proofs.Calls as calls
use Rattle.build_drive.proofs.Theorem as theorem
use Rattle.cdle_call.specs.Work.{IsAccepted, IsDetermined, IsQuiet, IsRefused, IsSpent, IsWork}
use Rattle.build_drive.proofs.Built as built
use Rattle.build_drive.proofs.BuildExact as builds
use Rattle.build_drive.specs.BuildAnswers.{IsBuildOutcome, IsReadBackEnd, OfOneModule}
use Rattle.build_drive.specs.BuildTraces as traces
use Rattle.build_module.specs.ModuleAnswers.{IsModuleAnswer, gives}
use Rattle.build_outcome.specs.Changes.{most_bytes}
use Rattle.build_source.specs.Files as files

-- ---- usage is no outcome of a command

no_verdict : {R : Type 0} (ws : List Written) (v : ListVerdict) → MatchesVerdict ws v outcome.Usage → R
no_verdict ws accepts h = absurd h
no_verdict ws (refuses i path reason) h = absurd h
no_verdict ws (duplicate i earlier) h = absurd h
no_verdict ws (ends i deep) h = absurd h
no_verdict ws v h = absurd h

no_usage : {R : Type 0} (n : ℕ) (es : List Written) (s : Trace) → IsOutcome (IsVerdictAtSomeBudget n) es s outcome.Usage → R
no_usage n es no_more h = no_verdict es (check_items h.0 es) h.1
no_usage n es (contents file bytes rest) h = no_usage n (es ++ h.0) rest h.3
no_usage n es (absent file) h = absurd h
no_usage n es (too_long file) h = absurd h
no_usage n es (unread file) h = absurd h
no_usage n es (ending file bytes) h = absurd h

no_unread_usage : {R : Type 0} (file : Bytes) (u : files.Unread) → files.IsUnreadEnd file u outcome.Usage → R
no_unread_usage file files.absent h = absurd h
no_unread_usage file files.too_long h = absurd h
no_unread_usage file files.failed h = absurd h

no_back_usage : {R : Type 0} (n : ℕ) (file text bytes : Bytes) (ws : List Written) → (bytes ≡ text) × OfOneModule (IsVerdictAtSomeBudget n) ws outcome.Usage ⊎ IsReadBackEnd file text bytes outcome.Usage → R
no_back_usage n file text bytes ws (inl h) = absurd h.1
no_back_usage n file text bytes ws (inr h) = absurd h

no_build_usage : {R : Type 0} (n : ℕ) (name : Bytes) (t : traces.BuildTrace) → IsBuildOutcome (IsVerdictAtSomeBudget n) n name t outcome.Usage → R
no_build_usage n name (traces.no_source u) h = no_unread_usage (files.source_file name) u h
no_build_usage n name (traces.ending source) h = built.no_end_usage n (files.source_file name) source h.0 h.2
no_build_usage n name (traces.given source text traces.unwritten) h = absurd (let e = h.2 in cc)
no_build_usage n name (traces.given source text (traces.unread u)) h = no_unread_usage (files.core_file name) u h.2
no_build_usage n name (traces.given source text (traces.contents bytes)) h = no_back_usage n (files.core_file name) text bytes h.0 h.2

pub usage_work : (command : Option Command) (v : FolderChange) (d : Done) → IsWork command v d → d.outcome ≡ outcome.Usage → command ≡ None
usage_work None v d h e = refl
usage_work (Some (build name n)) v d (inl none) e = absurd (let x = none.0 in cc)
usage_work (Some (build name n)) v d (inr h) e = no_build_usage n name h.0 (subst (IsBuildOutcome (IsVerdictAtSomeBudget n) n name h.0) e h.2)
usage_work (Some (core files n)) v d (inl none) e = absurd (let x = none.0 in cc)
usage_work (Some (core files n)) v d (inr w) e = no_usage n [] w.0 (subst (IsOutcome (IsVerdictAtSomeBudget n) [] w.0) e w.2)

pub no_command_work : (command : Option Command) (v : FolderChange) (d : Done) → IsWork command v d → command ≡ None → (d.outcome ≡ outcome.Usage) ⊎ (d.outcome ≡ outcome.NoMemory)
no_command_work None v d (inl none) e = inr none.0
no_command_work None v d (inr u) e = inl u.0
no_command_work (Some c) v d h e = absurd cc

-- ---- the command's theorem

pub accepted_work : (command : Option Command) (v : FolderChange) (d : Done) (modules items : ℕ) → IsWork command v d → d.outcome ≡ outcome.Ok modules items → IsAccepted command v modules items
accepted_work None v d modules items (inl none) e = absurd (let x = none.0 in cc)
accepted_work None v d modules items (inr u) e = absurd (let x = u.0 in cc)
accepted_work (Some (core files n)) v d modules items h e = theorem.accepted n v files d modules items h e
accepted_work (Some (build name n)) v d modules items (inl none) e = absurd (let x = none.0 in cc)
accepted_work (Some (build name n)) v d modules items (inr h) e = built.built n v name d modules items h e

pub refused_work : (command : Option Command) (v : FolderChange) (d : Done) (place : Spot) (why : Reason) → IsWork command v d → d.outcome ≡ outcome.Refused place why → IsRefused command v place why
refused_work None v d place why (inl none) e = absurd (let x = none.0 in cc)
refused_work None v d place why (inr u) e = absurd (let x = u.0 in cc)
refused_work (Some (core files n)) v d place why h e = theorem.refused n v files d place why h e
refused_work (Some (build name n)) v d place why (inl none) e = absurd (let x = none.0 in cc)
refused_work (Some (build name n)) v d place why (inr h) e = built.refused_source n v name d place why h e

pub undecided_work : (command : Option Command) (v : FolderChange) (d : Done) (place : Spot) (units : ℕ) → IsWork command v d → d.outcome ≡ outcome.Undecided place units → IsSpent command v place units
undecided_work None v d place units (inl none) e = absurd (let x = none.0 in cc)
undecided_work None v d place units (inr u) e = absurd (let x = u.0 in cc)
undecided_work (Some (core files n)) v d place units h e = theorem.undecided n v files d place units h e
undecided_work (Some (build name n)) v d place units (inl none) e = absurd (let x = none.0 in cc)
undecided_work (Some (build name n)) v d place units (inr h) e = built.undecided_module n v name d place units h e

pub exact_work : (command : Option Command) (v : FolderChange) (d : Done) (f : Files) (o : Outcome) → IsWork command v d → v.before.files ≡ Some f → IsQuiet command v
    → IsDetermined command f o → (d.outcome ≡ o) ⊎ (d.outcome ≡ outcome.NoMemory)
exact_work None v d f o (inl none) told quiet x = inr none.0
exact_work None v d f o (inr u) told quiet x = inl (u.0 ∙ sym x)
exact_work (Some (core files n)) v d f o h told quiet x = calls.exact n v files d f x.0 o h told quiet x.1 x.2
exact_work (Some (build name n)) v d f o h told quiet x = builds.exact n v name d f o h told quiet.0 quiet.1 x

pub complete_work : (command : Option Command) (v : FolderChange) (d : Done) (f : Files) (files : List Bytes) (n : ℕ) (all : List Written) → IsWork command v d → v.before.files ≡ Some f
    → Quiet v.before.read_faults v.after.read_faults → command ≡ Some (core files n) → AreReadable f [] files all → check_items n all ≡ accepts
    → (d.outcome ≡ outcome.Ok 0 (length all)) ⊎ (d.outcome ≡ outcome.NoMemory)
complete_work command v d f files n all h told quiet e there ok = theorem.complete n v files d f all (subst (λ (c : Option Command). IsWork c v d) e h) told quiet there ok

pub builds_work : (command : Option Command) (v : FolderChange) (d : Done) (f : Files) (name source text : Bytes) (n : ℕ) (ws : List Written) → IsWork command v d → v.before.files ≡ Some f
    → Quiet v.before.read_faults v.after.read_faults → Quiet v.before.write_faults v.after.write_faults → command ≡ Some (build name n) → files.IsThere (Some f) most_bytes (files.source_file name) source
    → IsModuleAnswer n source name (gives ws text) → length text ≤ traces.most_core_bytes → check_items n ws ≡ accepts
    → (d.outcome ≡ outcome.Ok 1 (length ws)) ⊎ (d.outcome ≡ outcome.NoMemory)
builds_work command v d f name source text n ws h told quiet still e there answer short ok =
    builds.complete n v name d f source text ws (subst (λ (c : Option Command). IsWork c v d) e h) told quiet still there answer short ok
