-- What the end of a call says, by the work.
use Rattle.std.proofs.Common.{◌≡◌, ◌∙◌, ◌⊎◌, inl, inr, ◌≤◌, ℕ, List, [], Option, Some, None, length, sym, subst}
use Rattle.cdle_folder.specs.Causes.{Quiet, Rose}
use Rattle.cdle_folder.proofs.Causes.{no_rise}
use Rattle.cdle_folder.specs.Files.{Bytes, Files}
use Rattle.cdle_model.specs.Check.{accepts, check_items}
use Rattle.cdle_model.specs.Forms.{Written}
use Rattle.cdle_words.specs.Words.{Command, build, core}
use Rattle.build_drive.specs.Calls.{AreReadable}
use Rattle.build_outcome.specs.Changes.{FolderChange}
use Rattle.build_outcome.specs.declared.outcome.Outcome.{Outcome}
use Rattle.build_outcome.specs.declared.outcome.Outcome.TheVariants as outcome
use Rattle.build_outcome.specs.declared.outcome.Reason.{Reason}
use Rattle.build_outcome.specs.declared.outcome.Spot.{Spot}
use Rattle.build_drive.specs.BuildTraces.{most_core_bytes}
use Rattle.build_module.specs.ModuleAnswers.{IsModuleAnswer, gives}
use Rattle.build_outcome.specs.Changes.{most_bytes}
use Rattle.build_source.specs.Files.{IsThere, source_file}
use Rattle.cdle_call.specs.Run.{Ends, IsRun, SinkChange}
use Rattle.cdle_call.specs.Work.{IsAccepted, IsDetermined, IsQuiet, IsRefused, IsSpent}
use Rattle.cdle_call.proofs.Work.{accepted_work, builds_work, complete_work, exact_work, no_command_work, refused_work, undecided_work, usage_work}

-- the work has it, and not the putting of its report
abbrev IsOfWork : Outcome → Type 0
IsOfWork (outcome.WriteFault None) = ⊥
IsOfWork o = Unit {0}

stands : (out : SinkChange) (report : Bytes) (work end o : Outcome) → IsOfWork o → Ends out report work end → end ≡ o → work ≡ o
stands out report work end o k (inl e) f = sym e.0 ∙ f
stands out report work end o k (inr e) f = absurd (subst IsOfWork (sym f ∙ e.0) k)

pub usage_end : (c : Option Command) (v : FolderChange) (out : SinkChange) (end : Outcome) → IsRun c v out end → end ≡ outcome.Usage → c ≡ None
usage_end c v out end r e = usage_work c v r.done r.work (stands out _ r.done.outcome end outcome.Usage tt r.ends e)

no_command_put : (out : SinkChange) (report : Bytes) (work end : Outcome) → (work ≡ outcome.Usage) ⊎ (work ≡ outcome.NoMemory) → Ends out report work end
    → (end ≡ outcome.Usage) ⊎ ((end ≡ outcome.NoMemory) ⊎ (end ≡ outcome.WriteFault None) × Rose out.before.faults out.after.faults)
no_command_put out report work end (inl usage) (inl e) = inl (e.0 ∙ usage)
no_command_put out report work end (inr none) (inl e) = inr (inl (e.0 ∙ none))
no_command_put out report work end h (inr e) = inr (inr (e.0, e.1))

pub no_command_end : (c : Option Command) (v : FolderChange) (out : SinkChange) (end : Outcome) → IsRun c v out end → c ≡ None
    → (end ≡ outcome.Usage) ⊎ ((end ≡ outcome.NoMemory) ⊎ (end ≡ outcome.WriteFault None) × Rose out.before.faults out.after.faults)
no_command_end c v out end r e = no_command_put out _ r.done.outcome end (no_command_work c v r.done r.work e) r.ends

pub accepted_end : (c : Option Command) (v : FolderChange) (out : SinkChange) (end : Outcome) (modules items : ℕ) → IsRun c v out end → end ≡ outcome.Ok modules items → IsAccepted c v modules items
accepted_end c v out end modules items r e = accepted_work c v r.done modules items r.work (stands out _ r.done.outcome end (outcome.Ok modules items) tt r.ends e)

pub refused_end : (c : Option Command) (v : FolderChange) (out : SinkChange) (end : Outcome) (place : Spot) (why : Reason) → IsRun c v out end → end ≡ outcome.Refused place why → IsRefused c v place why
refused_end c v out end place why r e = refused_work c v r.done place why r.work (stands out _ r.done.outcome end (outcome.Refused place why) tt r.ends e)

pub undecided_end : (c : Option Command) (v : FolderChange) (out : SinkChange) (end : Outcome) (place : Spot) (units : ℕ) → IsRun c v out end → end ≡ outcome.Undecided place units → IsSpent c v place units
undecided_end c v out end place units r e = undecided_work c v r.done place units r.work (stands out _ r.done.outcome end (outcome.Undecided place units) tt r.ends e)

-- ---- where nothing fails

put_end : (out : SinkChange) (report : Bytes) (work end : Outcome) → Quiet out.before.faults out.after.faults → Ends out report work end → end ≡ work
put_end out report work end silent (inl e) = e.0
put_end out report work end silent (inr e) = no_rise out.before.faults out.after.faults e.1 silent

-- the end is the work's outcome, which is that one, or want of memory
same_end : (end work o : Outcome) → end ≡ work → (work ≡ o) ⊎ (work ≡ outcome.NoMemory) → (end ≡ o) ⊎ (end ≡ outcome.NoMemory)
same_end end work o e (inl k) = inl (e ∙ k)
same_end end work o e (inr k) = inr (e ∙ k)

pub exact_end : (c : Option Command) (v : FolderChange) (out : SinkChange) (end : Outcome) (f : Files) (o : Outcome) → IsRun c v out end → v.before.files ≡ Some f → IsQuiet c v
    → Quiet out.before.faults out.after.faults → IsDetermined c f o → (end ≡ o) ⊎ (end ≡ outcome.NoMemory)
exact_end c v out end f o r files quiet silent x = same_end end r.done.outcome o (put_end out _ r.done.outcome end silent r.ends) (exact_work c v r.done f o r.work files quiet x)

pub complete_end : (c : Option Command) (v : FolderChange) (out : SinkChange) (end : Outcome) (f : Files) (files : List Bytes) (n : ℕ) (all : List Written) → IsRun c v out end → v.before.files ≡ Some f
    → Quiet v.before.read_faults v.after.read_faults → Quiet out.before.faults out.after.faults → c ≡ Some (core files n) → AreReadable f [] files all → check_items n all ≡ accepts
    → (end ≡ outcome.Ok 0 (length all)) ⊎ (end ≡ outcome.NoMemory)
complete_end c v out end f files n all r folder quiet silent e there ok =
    same_end end r.done.outcome (outcome.Ok 0 (length all)) (put_end out _ r.done.outcome end silent r.ends) (complete_work c v r.done f files n all r.work folder quiet e there ok)

pub builds_end : (c : Option Command) (v : FolderChange) (out : SinkChange) (end : Outcome) (f : Files) (name source text : Bytes) (n : ℕ) (ws : List Written) → IsRun c v out end → v.before.files ≡ Some f
    → Quiet v.before.read_faults v.after.read_faults → Quiet v.before.write_faults v.after.write_faults → Quiet out.before.faults out.after.faults → c ≡ Some (build name n)
    → IsThere (Some f) most_bytes (source_file name) source → IsModuleAnswer n source name (gives ws text) → length text ≤ most_core_bytes → check_items n ws ≡ accepts
    → (end ≡ outcome.Ok 1 (length ws)) ⊎ (end ≡ outcome.NoMemory)
builds_end c v out end f name source text n ws r told quiet still silent e there answer short ok =
    same_end end r.done.outcome (outcome.Ok 1 (length ws)) (put_end out _ r.done.outcome end silent r.ends) (builds_work c v r.done f name source text n ws r.work told quiet still e there answer short ok)
