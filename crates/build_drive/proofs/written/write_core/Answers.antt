use Rattle.std.proofs.Common.{◌≡◌, ◌∙◌, option_map, subst}
use Rattle.std.proofs.lemmas.Result.{err_from_is_err_and}
use Rattle.cdle_folder.specs.Files.{Bytes, with_file, with_read}
use Rattle.cdle_folder.specs.States.{FolderState}
use Rattle.build_source.specs.Files.{IsThere, core_file}
use Rattle.build_drive.specs.BuildAnswers.{IsCoreOutcome}
use Rattle.build_drive.specs.BuildTraces.{contents, most_core_bytes}
use Rattle.build_drive.specs.Checks.{IsVerdictAtSomeBudget}
use Rattle.build_drive.proofs.Writing.{ends-read, ends-unread, left-unwritten}
use Rattle.build_drive.proofs.written.write_core.Goals as goal

pub returns-in_err-write_file_for-clause-left : goal.returns-in_err-write_file_for-clause-left
returns-in_err-write_file_for-clause-left g c =
    left-unwritten (g.F.Folder.state c.args.folder.now) (g.F.Folder.state c.write_file_for.new.folder) _ c.as_str.result.now (core_file c.args.name.now) (c.as_str.ensures.value ∙ c.in_ok-file.ensures)
    c.in_err-write_file_for.ensures.left

pub returns-in_err-bytes-clause-ended : goal.returns-in_err-bytes-clause-ended
returns-in_err-bytes-clause-ended g c =
    let before : FolderState = g.F.Folder.state c.args.folder.now in
    let mid : FolderState = g.F.Folder.state c.write_file_for.new.folder in
    let after : FolderState = g.F.Folder.state c.read_file_for.new.folder in
    let w = c.in_ok-write_file_for.ensures in
    let files = subst (λ (x : Bytes). mid.files ≡ option_map (with_file x c.args.text.now) before.files) (c.as_str.ensures.value ∙ c.in_ok-file.ensures) w.written in
    let p = err_from_is_err_and c.from_residual-in_err-bytes.result c.from_residual-in_err-bytes.ensures.1 in
    rw (p.1, p.2) (ends-unread c.args.budget before mid after c.args.name.now c.args.text.now c.as_str-2.result.now c.in_err-bytes.field-0.0 (c.as_str-2.ensures.value ∙ c.in_ok-file.ensures)
    (record { given = w.given; read_faults = w.read_faults; absences = w.absences; files = files }) c.in_err-bytes.ensures.files c.in_err-bytes.ensures.ended)

pub returns-clause-done : goal.returns-clause-done
returns-clause-done g c =
    let before : FolderState = g.F.Folder.state c.args.folder.now in
    let mid : FolderState = g.F.Folder.state c.write_file_for.new.folder in
    let after : FolderState = g.F.Folder.state c.read_file_for.new.folder in
    let name : Bytes = c.args.name.now in
    let text : Bytes = c.args.text.now in
    let bytes : Bytes = c.in_ok-bytes.bytes.items in
    let w = c.in_ok-write_file_for.ensures in
    let r = c.in_ok-bytes.ensures in
    let files = subst (λ (x : Bytes). mid.files ≡ option_map (with_file x text) before.files) (c.as_str.ensures.value ∙ c.in_ok-file.ensures) w.written in
    let file = c.as_str-2.ensures.value ∙ c.in_ok-file.ensures in
    ends-read c.args.budget before mid after name text bytes c.in_ok-read_back.field-0 (record { given = w.given; read_faults = w.read_faults; absences = w.absences; files = files }) r.files
    (subst (λ (x : Bytes). after.given ≡ with_read x bytes mid.given) file r.given) (subst (λ (x : Bytes). IsThere mid.files most_core_bytes x bytes) file r.there)
    (λ ws said derived. subst (λ (x : Bytes). IsCoreOutcome (IsVerdictAtSomeBudget c.args.budget) x text ws (contents bytes) c.in_ok-read_back.field-0.outcome) (c.as_str-3.ensures.value ∙ c.in_ok-file.ensures)
    (subst (λ (x : Bytes). IsCoreOutcome (IsVerdictAtSomeBudget c.args.budget) c.as_str-3.result.now text ws (contents x) c.in_ok-read_back.field-0.outcome) c.deref.ensures.value (c.in_ok-read_back.ensures.outcome ws said derived)))
    c.in_ok-read_back.ensures.report
