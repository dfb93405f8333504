-- The Core file: the check of what it says, and the end of the call over its whole change.
use Rattle.std.proofs.Common.{◌≡◌, ◌∙◌, inl, inr, ◌++◌, ℕ, zero, suc, List, [], ◌∷◌, Option, Some, None, Result, Ok, Err, IfOk, IfSome, refl, sym, ap, subst, take, ◌⊎◌, option_map}
use Rattle.cdle_folder.specs.Causes.{Rose}
use Rattle.cdle_folder.specs.Files.{Bytes, Files, IsLonger, IsOtherwiseSame, with_file, with_read}
use Rattle.cdle_folder.specs.States.{FolderState}
use Rattle.cdle_model.specs.Check.{ListVerdict, accepts, refuses, ends, duplicate, check_items}
use Rattle.cdle_model.specs.CoreText.{Says}
use Rattle.cdle_model.specs.Derivation.{AreDerived, DerivedAfter}
use Rattle.cdle_model.specs.Forms.{Written}
use Rattle.cdle_model.specs.HeadForms.{deep}
use Rattle.cdle_model.specs.declared.grammar.Count.{Count}
use Rattle.cdle_model.specs.declared.grammar.Count.TheVariants.{Depth}
use Rattle.build_outcome.specs.Reports.{IsReported}
use Rattle.build_outcome.specs.declared.done.Done.{Done}
use Rattle.build_outcome.specs.declared.done.Stop.{Stop}
use Rattle.build_outcome.specs.declared.done.Stop.TheVariants as stops
use Rattle.build_outcome.specs.declared.outcome.Outcome.{Outcome}
use Rattle.build_outcome.specs.declared.outcome.Outcome.TheVariants as outcome
use Rattle.build_outcome.specs.declared.outcome.Reason.TheVariants.{Core, Duplicate}
use Rattle.build_source.specs.Files.{Unread, absent, too_long, failed, IsThere, IsUnread, core_file}
use Rattle.build_source.specs.Progress.{EndsUnread, IfEnded}
use Rattle.build_drive.specs.BuildAnswers.{IsCoreOutcome, OfOneModule}
use Rattle.build_drive.specs.BuildProgress.{EndsWriting}
use Rattle.build_drive.specs.BuildTraces.{contents, most_core_bytes, unread}
use Rattle.build_drive.specs.Checks.{IsVerdictAtSomeBudget, MatchesVerdict}

-- ---- the check of items that have a derivation

-- the items up to each of a list that has a derivation have one
pub derived-before : (k : ℕ) (es ws : List Written) → DerivedAfter es ws → DerivedAfter es (take k ws)
derived-before zero es ws h = tt
derived-before (suc k) es [] h = tt
derived-before (suc k) es (w ∷ ws) h = (h.0, h.1, derived-before k (es ++ (w ∷ [])) ws h.2)

-- no verdict refuses them
only-limit : {R : Type 0} (ws : List Written) (v : ListVerdict) (o : Outcome) → AreDerived ws → ((modules items : ℕ) → o ≡ outcome.Ok modules items → ⊥) → MatchesVerdict ws v o
    → ((name : Bytes) (what : Count) → o ≡ outcome.Limit name what → R) → R
only-limit ws accepts (outcome.Ok modules items) derived stopped h limit = absurd (stopped modules items refl)
only-limit ws (refuses i path reason) (outcome.Refused spot (Core why)) derived stopped h limit = absurd (h.2 (derived-before (suc i) [] ws derived))
only-limit ws (duplicate i earlier) (outcome.Refused spot (Duplicate e)) derived stopped h limit = absurd (h.2 (derived-before (suc i) [] ws derived))
only-limit ws (ends i deep) (outcome.Limit name Depth) derived stopped h limit = limit name Depth refl
only-limit ws v o derived stopped h limit = absurd h

pub of-one-module : (n : ℕ) (ws : List Written) (o : Outcome) → AreDerived ws → ((modules items : ℕ) → o ≡ outcome.Ok modules items → ⊥) → IsVerdictAtSomeBudget n ws o
    → OfOneModule (IsVerdictAtSomeBudget n) ws o
of-one-module n ws (outcome.Ok modules items) derived stopped h = absurd (stopped modules items refl)
of-one-module n ws (outcome.Undecided spot budget) derived stopped h = h
of-one-module n ws (outcome.Limit name what) derived stopped h = h
of-one-module n ws (outcome.Refused spot why) derived stopped h = only-limit ws (check_items h.0 ws) (outcome.Refused spot why) derived stopped h.1 (λ name what e. cc)
of-one-module n ws (outcome.Malformed file at what) derived stopped h = only-limit ws (check_items h.0 ws) _ derived stopped h.1 (λ name what e. cc)
of-one-module n ws outcome.Usage derived stopped h = only-limit ws (check_items h.0 ws) _ derived stopped h.1 (λ name what e. cc)
of-one-module n ws (outcome.ReadFault file) derived stopped h = only-limit ws (check_items h.0 ws) _ derived stopped h.1 (λ name what e. cc)
of-one-module n ws (outcome.WriteFault file) derived stopped h = only-limit ws (check_items h.0 ws) _ derived stopped h.1 (λ name what e. cc)
of-one-module n ws outcome.NoMemory derived stopped h = only-limit ws (check_items h.0 ws) _ derived stopped h.1 (λ name what e. cc)
of-one-module n ws (outcome.ReadBack file at wrote read) derived stopped h = only-limit ws (check_items h.0 ws) _ derived stopped h.1 (λ name what e. cc)
of-one-module n ws (outcome.Missing file) derived stopped h = only-limit ws (check_items h.0 ws) _ derived stopped h.1 (λ name what e. cc)

pub of-one-outcome : {E : Type 0} (n : ℕ) (ws : List Written) (r : Result Outcome E) → AreDerived ws → IfOk r (λ o. (modules items : ℕ) → o ≡ outcome.Ok modules items → ⊥)
    → IfOk r (IsVerdictAtSomeBudget n ws) → IfOk r (OfOneModule (IsVerdictAtSomeBudget n) ws)
of-one-outcome n ws (Ok o) derived stopped h = of-one-module n ws o derived stopped h
of-one-outcome n ws (Err e) derived stopped h = tt

-- ---- over the whole change: the file is written between before and mid, and read between mid and after

-- a failed write leaves what the whole call may leave
pub left-unwritten : (before after : FolderState) (X : Type 0) (file core : Bytes) → file ≡ core
    → (after.files ≡ before.files) ⊎ Rose before.write_faults after.write_faults × IsOtherwiseSame file before.files after.files
    → (after.files ≡ before.files) ⊎ (X ⊎ Rose before.write_faults after.write_faults × IsOtherwiseSame core before.files after.files)
left-unwritten before after X file core e (inl same) = inl same
left-unwritten before after X file core e (inr h) = inr (inr (h.0, subst (λ (x : Bytes). IsOtherwiseSame x before.files after.files) e h.1))

-- the file was written, and nothing was read
pub record IsWritten (before mid : FolderState) (file text : Bytes) : Type 0 where
  pub given : mid.given ≡ before.given
  pub read_faults : mid.read_faults ≡ before.read_faults
  pub absences : mid.absences ≡ before.absences
  pub files : mid.files ≡ option_map (with_file file text) before.files

unread-since : (before mid after : FolderState) (file text : Bytes) (u : Unread) → IsWritten before mid file text → after.files ≡ mid.files
    → IsUnread (record { before = mid; after = after }) mid.files most_core_bytes file u → IsUnread (record { before = before; after = after }) after.files most_core_bytes file u
unread-since before mid after file text absent w kept h =
    (subst (λ (x : ℕ). Rose x after.absences) w.absences h.0, subst (λ (fs : Option Files). IfSome fs (λ f. f file ≡ None)) (sym kept) h.1)
unread-since before mid after file text too_long w kept h = subst (λ (fs : Option Files). IfSome fs (λ f. IsLonger most_core_bytes (f file))) (sym kept) h
unread-since before mid after file text failed w kept h = subst (λ (x : ℕ). Rose x after.read_faults) w.read_faults h

-- it was written, and not read back
pub ends-unread : (n : ℕ) (before mid after : FolderState) (name text file : Bytes) (s : Stop) → file ≡ core_file name → IsWritten before mid (core_file name) text → after.files ≡ mid.files
    → IfEnded (EndsUnread (record { before = mid; after = after }) name most_core_bytes file) s → IfEnded (EndsWriting n (record { before = before; after = after }) name text) s
ends-unread n before mid after name text file stops.NoMemory e w kept h = tt
ends-unread n before mid after name text file (stops.Ended d) e w kept h =
    let g = subst (λ (x : Bytes). EndsUnread (record { before = mid; after = after }) name most_core_bytes x d) e h in
    (unread g.0, (g.1 ∙ w.given, kept ∙ w.files, unread-since before mid after (core_file name) text g.0 w kept g.2), (λ ws said derived. g.3), g.4)

-- it was written, and these bytes were read back
pub ends-read : (n : ℕ) (before mid after : FolderState) (name text bytes : Bytes) (d : Done) → IsWritten before mid (core_file name) text → after.files ≡ mid.files
    → after.given ≡ with_read (core_file name) bytes mid.given → IsThere mid.files most_core_bytes (core_file name) bytes
    → ((ws : List Written) → Says text [] ws → AreDerived ws → IsCoreOutcome (IsVerdictAtSomeBudget n) (core_file name) text ws (contents bytes) d.outcome)
    → IsReported (Some name) [] d → EndsWriting n (record { before = before; after = after }) name text d
ends-read n before mid after name text bytes d w kept read there comes reported =
    (contents bytes, (read ∙ ap (with_read (core_file name) bytes) w.given, kept ∙ w.files, (there.0, subst (λ (fs : Option Files). IfSome fs (λ f. f (core_file name) ≡ Some bytes)) (sym kept) there.1)), comes, reported)
