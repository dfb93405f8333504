-- How a call ends: its report is put, or putting it failed.
use Rattle.std.specs.Prelude.{◌≡◌, ◌⊎◌, Option, None}
use Rattle.cdle_folder.specs.Causes.{Rose}
use Rattle.cdle_folder.specs.Files.{Bytes, PutsPrefix, with_bytes}
use Rattle.cdle_folder.specs.States.{SinkState}
use Rattle.cdle_model.specs.Report.{out_of_memory_line}
use Rattle.cdle_words.specs.Words.{Command}
use Rattle.build_outcome.specs.Changes.{FolderChange}
use Rattle.build_outcome.specs.declared.done.Done.{Done}
use Rattle.build_outcome.specs.declared.outcome.Outcome.{Outcome}
use Rattle.build_outcome.specs.declared.outcome.Outcome.TheVariants as outcome
use Rattle.cdle_call.specs.Work.{IsWork}

-- the sink before the call and after it
pub record SinkChange : Type 0 where
  pub before : SinkState
  pub after : SinkState

-- the bytes that are put for an outcome with this report: that memory ran out is said without one
abbrev pub bytes_put : Outcome → Bytes → Bytes
bytes_put outcome.NoMemory report = out_of_memory_line
bytes_put o report = report

-- The work had this outcome, and the call ends so: its report was put, and the outcome stands; or putting it failed in this call, and a
-- beginning of it went out.
abbrev pub Ends : SinkChange → Bytes → Outcome → Outcome → Type 0
Ends out report work end = (end ≡ work) × (out.after.written ≡ with_bytes report out.before.written)
    ⊎ (end ≡ outcome.WriteFault None) × Rose out.before.faults out.after.faults × PutsPrefix report out.before.written out.after.written

-- the whole of a call, by its end
pub record IsRun (command : Option Command) (v : FolderChange) (out : SinkChange) (end : Outcome) : Type 0 where
  pub done : Done
  pub work : IsWork command v done
  pub ends : Ends out (bytes_put done.outcome done.report.items) done.outcome end
