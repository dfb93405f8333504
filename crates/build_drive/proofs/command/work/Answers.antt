use Rattle.std.proofs.Common.{map, string_bytes}
use Rattle.std.proofs.lemmas.Result.{err_from_is_err_and}
use Rattle.core_check.specs.Items.{items_of}
use Rattle.build_drive.specs.Checks.{IsVerdictAtSomeBudget}
use Rattle.build_outcome.specs.Changes.{FolderChange}
use Rattle.build_drive.proofs.Progress.{is_traced}
use Rattle.build_drive.proofs.command.work.Goals as goal

pub returns-in_err-read-clause-ended : goal.returns-in_err-read-clause-ended
returns-in_err-read-clause-ended g c =
    let p = err_from_is_err_and c.from_residual.result c.from_residual.ensures.1 in
    rw (p.1, p.2) (c.in_err-read.ensures.ended c.args.budget)

pub returns-clause-done : goal.returns-clause-done
returns-clause-done g c =
    let v : FolderChange = record { before = g.F.Folder.state c.args.folder.now; after = g.F.Folder.state c.read_files.new.folder } in
    is_traced (IsVerdictAtSomeBudget c.args.budget) v (map string_bytes c.args.files.now.items) (items_of c.in_ok-read.read.items) c.in_ok-checked.field-0 (c.in_ok-read.ensures.read c.args.budget) c.in_ok-checked.ensures.verdict c.in_ok-checked.ensures.report
