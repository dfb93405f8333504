-- From file to file.
use Rattle.std.proofs.Common.{◌≡◌, ◌∙◌, ◌+◌, ◌≤◌, ◌++◌, ℕ, List, [], ◌∷◌, Option, Some, None, IfSome, MatchOption, length, length-append, refl, sym, ap, subst, arith}
use Rattle.cdle_folder.specs.Causes.{Rose}
use Rattle.cdle_folder.specs.Files.{Bytes, Files, Reads, IsLonger, with_read}
use Rattle.cdle_folder.specs.States.{FolderState}
use Rattle.cdle_folder.specs.declared.outside.ReadStop.{ReadStop}
use Rattle.cdle_folder.specs.declared.outside.ReadStop.TheVariants as reads
use Rattle.cdle_model.specs.Classes.{AreScoped}
use Rattle.cdle_model.specs.CoreNames.{Name, with_items}
use Rattle.cdle_model.specs.CoreText.{Says}
use Rattle.cdle_model.specs.Forms.{Written}
use Rattle.core_check.specs.Items.{items_of}
use Rattle.core_text.specs.Scope.{known_names}
use Rattle.build_drive.specs.Answers.{IsOutcome, IsStopped, most_items, item_names}
use Rattle.build_drive.specs.Calls.{IsTraced}
use Rattle.build_outcome.specs.Reports.{IsReported}
use Rattle.build_drive.specs.Traces.{IsTrace, Trace, absent, contents, no_more, ending, too_long, unread}
use Rattle.build_outcome.specs.Changes.{FolderChange, most_bytes}
use Rattle.build_drive.specs.Progress.{EndsAt, EndsEarly, EndsIn, HasCome, IsInStep, trace_of_stop}
use Rattle.build_outcome.specs.declared.done.Done.{Done}
use Rattle.build_outcome.specs.declared.done.Stop.{Stop}
use Rattle.build_outcome.specs.declared.done.Stop.TheVariants as stops
use Rattle.build_outcome.specs.declared.outcome.Outcome.{Outcome}
use Rattle.build_drive.specs.declared.reading.Reading.{Reading}
use Rattle.build_drive.proofs.Items.{names-append, names-length, over-append, said-over}

-- one visit is a part of the other, up to its end
pub record IsTail (u v : FolderChange) : Type 0 where
  pub files : u.before.files ≡ v.before.files
  pub read_faults : v.before.read_faults ≤ u.before.read_faults
  pub absences : v.before.absences ≤ u.before.absences
  pub after : u.after ≡ v.after

pub rose : (a b c : ℕ) → b ≤ a → Rose a c → Rose b c
rose a b c le h = omega (arith, le, h)

-- ---- at one file

-- the bytes of a file that was read end the call
pub ended_in : (v : FolderChange) (file bytes : Bytes) (known : List Name) (stop : Stop) → v.after.given ≡ with_read file bytes v.before.given → length bytes ≤ most_bytes → IfSome v.before.files (λ f. f file ≡ Some bytes)
    → EndsIn file bytes known stop → EndsAt v file known stop
ended_in v file bytes known stops.NoMemory given short told h = tt
ended_in v file bytes known (stops.Ended d) given short told h = (ending file bytes, (refl, given, short, told), h.0, h.1)

-- what is known of a read that was refused
pub record IsUnread (v : FolderChange) (file : Bytes) (stop : ReadStop) : Type 0 where
  pub given : v.after.given ≡ v.before.given
  pub failed : stop ≡ reads.Failed → Rose v.before.read_faults v.after.read_faults
  pub absent : stop ≡ reads.Absent → Rose v.before.absences v.after.absences
  pub not_there : stop ≡ reads.Absent → IfSome v.before.files (λ f. f file ≡ None)
  pub longer : stop ≡ reads.TooLong → IfSome v.before.files (λ f. IsLonger most_bytes (f file))

-- the file was not read
pub unread_at : (v : FolderChange) (file : Bytes) (known : List Name) (stop : ReadStop) (d : Done) (o : Outcome) → IsUnread v file stop → d.outcome ≡ o → IsReported None [] d
    → MatchOption (trace_of_stop file stop) ⊥ (λ s. IsStopped known s o) → EndsAt v file known (stops.Ended d)
unread_at v file known reads.Failed d o k e report h = (unread file, (refl, k.given, k.failed refl), subst (IsStopped known (unread file)) (sym e) h, report)
unread_at v file known reads.Absent d o k e report h = (absent file, (refl, k.given, k.absent refl, k.not_there refl), subst (IsStopped known (absent file)) (sym e) h, report)
unread_at v file known reads.TooLong d o k e report h = (too_long file, (refl, k.given, k.longer refl), subst (IsStopped known (too_long file)) (sym e) h, report)
unread_at v file known reads.NoMemory d o k e report h = absurd h

-- ---- from file to file

-- one more file, of items over the others
pub one_more : (old new : Reading) (ws : List Written) → IsInStep old → items_of new.files.items ≡ items_of old.files.items ++ ws → known_names new.known ≡ with_items ws (known_names old.known)
    → new.items ≡ old.items + length ws → (bytes : Bytes) × Says bytes (known_names old.known) ws × (length (known_names old.known) + length ws ≤ most_items) → IsInStep new
one_more old new ws s items known counted read =
    let es : List Written = items_of old.files.items in record {
      known = known ∙ ap (with_items ws) s.known ∙ sym (names-append es ws []) ∙ ap item_names (sym items);
      counted = omega (arith, counted, s.counted, ap length items, length-append es ws);
      few = omega (arith, read.2, ap length s.known, names-length es [], ap length items, length-append es ws);
      over = subst AreScoped (sym items) (over-append [] es ws s.over (said-over read.0 es ws (subst (λ (k : List Name). Says read.0 k ws) s.known read.1)));
    }

same_given : (u v : FolderChange) → IsTail u v → v.after.given ≡ u.after.given
same_given u v t = sym (ap (λ (w : FolderState). w.given) t.after)

-- what ended the part ends the whole
wider : (u v : FolderChange) (file : Bytes) (more : List Bytes) (s : Trace) (known : List Name) (o : Outcome) → IsTail u v → IsStopped known s o → IsTrace u u.before.given (file ∷ []) s → IsTrace v u.before.given (file ∷ more) s
wider u v file more (absent name) known o t x h = (
  h.0,
  same_given u v t ∙ h.1,
  rose u.before.absences v.before.absences v.after.absences t.absences (subst (λ (w : FolderState). Rose u.before.absences w.absences) t.after h.2),
  subst (λ (o : Option Files). IfSome o (λ f. f file ≡ None)) t.files h.3,
)
wider u v file more (too_long name) known o t x h = (h.0, same_given u v t ∙ h.1, subst (λ (o : Option Files). IfSome o (λ f. IsLonger most_bytes (f file))) t.files h.2)
wider u v file more (unread name) known o t x h =
    (h.0, same_given u v t ∙ h.1, rose u.before.read_faults v.before.read_faults v.after.read_faults t.read_faults (subst (λ (w : FolderState). Rose u.before.read_faults w.read_faults) t.after h.2))
wider u v file more (ending name bytes) known o t x h = (h.0, same_given u v t ∙ h.1, h.2, subst (λ (o : Option Files). IfSome o (λ f. f file ≡ Some bytes)) t.files h.3)
wider u v file more s known o t x h = absurd x

stopped : (Verdict : List Written → Outcome → Type 0) (es : List Written) (s : Trace) (o : Outcome) → IsStopped (item_names es) s o → IsOutcome Verdict es s o
stopped Verdict es no_more o h = absurd h
stopped Verdict es (contents file bytes rest) o h = absurd h
stopped Verdict es (absent file) o h = h
stopped Verdict es (too_long file) o h = h
stopped Verdict es (unread file) o h = h
stopped Verdict es (ending file bytes) o h = h

-- the call ends at the file that came next
pub ends_early : (Verdict : List Written → Outcome → Type 0) (u v : FolderChange) (files : List Bytes) (es : List Written) (known : List Name) (file : Bytes) (more : List Bytes) (stop : Stop)
    → IsTail u v → known ≡ item_names es → HasCome Verdict v files u.before.given es (file ∷ more) → EndsAt u file known stop → EndsEarly Verdict v files stop
ends_early Verdict u v files es known file more stops.NoMemory t e come h = tt
ends_early Verdict u v files es known file more (stops.Ended d) t e come h =
    let x : IsStopped (item_names es) h.0 d.outcome = subst (λ (k : List Name). IsStopped k h.0 d.outcome) e h.2 in
    let all = come h.0 d.outcome (wider u v file more h.0 known d.outcome t h.2 h.1) (stopped Verdict es h.0 d.outcome x) in
    (all.0, all.1, all.2, subst (λ (text : Bytes). IsReported None text d) (sym all.3) h.3)

-- one more file was read
pub has_come : (Verdict : List Written → Outcome → Type 0) (v : FolderChange) (files : List Bytes) (es ws : List Written) (known : List Name) (file : Bytes) (more : List Bytes)
    (told : Option Files) (given after : Option Reads) → told ≡ v.before.files → known ≡ item_names es → HasCome Verdict v files given es (file ∷ more)
    → (bytes : Bytes) × (after ≡ with_read file bytes given) × (length bytes ≤ most_bytes) × IfSome told (λ f. f file ≡ Some bytes) × Says bytes known ws × (length known + length ws ≤ most_items)
    → HasCome Verdict v files after (es ++ ws) more
has_come Verdict v files es ws known file more told given after same e come h =
    let few : length es + length ws ≤ most_items = omega (arith, h.5, ap length e, names-length es []) in
    λ s o trace x. come (contents file h.0 s) o
    (refl, h.2, subst (λ (o : Option Files). IfSome o (λ f. f file ≡ Some h.0)) same h.3, subst (λ (g : Option Reads). IsTrace v g more s) h.1 trace)
    (ws, subst (λ (k : List Name). Says h.0 k ws) e h.4, few, x)

-- all files were read, and the check has this outcome
pub is_traced : (Verdict : List Written → Outcome → Type 0) (v : FolderChange) (files : List Bytes) (es : List Written) (d : Done) → HasCome Verdict v files v.after.given es [] → Verdict es d.outcome → IsReported None [] d → IsTraced Verdict v files d
is_traced Verdict v files es d come x report = let all = come no_more d.outcome refl x in (all.0, all.1, all.2, subst (λ (text : Bytes). IsReported None text d) (sym all.3) report)

-- the work ended before the check
pub ended_traced : (Verdict : List Written → Outcome → Type 0) (v : FolderChange) (files : List Bytes) (stop : Stop) (d : Done) → stop ≡ stops.Ended d → EndsEarly Verdict v files stop → IsTraced Verdict v files d
ended_traced Verdict v files stop d e h = subst (EndsEarly Verdict v files) e h
