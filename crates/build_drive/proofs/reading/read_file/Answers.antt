use Rattle.std.proofs.Common.{◌≡◌, Err, ap}
use Rattle.std.proofs.lemmas.Result.{IfErr-weaker}
use Rattle.cdle_folder.specs.Files.{Bytes}
use Rattle.core_text.specs.Scope.{known_names}
use Rattle.build_outcome.specs.Changes.{FolderChange}
use Rattle.build_drive.proofs.Progress.{ended_in, unread_at}
use Rattle.build_drive.proofs.reading.read_file.Goals as goal

pub returns-in-Ok-clause-ended : goal.returns-in-Ok-clause-ended
returns-in-Ok-clause-ended g c =
    let v : FolderChange = record { before = g.F.Folder.state c.args.folder.now; after = g.F.Folder.state c.read.new.self } in
    let bytes : Bytes = c.in-Ok.text.items in
    let same : c.deref.result.now ≡ bytes = c.deref.ensures.value in
    IfErr-weaker c.items_of_text.result _ _ (λ stop h. ended_in v c.args.file.now bytes (known_names c.args.known.now) stop c.in-Ok.ensures.given c.in-Ok.ensures.bound c.in-Ok.ensures.bytes h) (rw same at c.items_of_text.ensures.ended)

pub returns-in_ok-new-in-Err-clause-ended : goal.returns-in_ok-new-in-Err-clause-ended
returns-in_ok-new-in-Err-clause-ended g c =
    let v : FolderChange = record { before = g.F.Folder.state c.args.folder.now; after = g.F.Folder.state c.read.new.self } in
    unread_at v c.args.file.now (known_names c.args.known.now) c.in-Err.stop c.in_ok-new-in-Err.field-0 c.in_ok-outcome-in-Err.outcome
    (record { given = c.in-Err.ensures.not_given; failed = λ e. c.in-Err.ensures.failed (ap Err e); absent = λ e. c.in-Err.ensures.absent (ap Err e); not_there = λ e. c.in-Err.ensures.absent_only (ap Err e); longer = λ e. c.in-Err.ensures.too_long_only (ap Err e) })
    c.in_ok-new-in-Err.ensures.outcome c.in_ok-new-in-Err.ensures.report (c.in_ok-outcome-in-Err.ensures (known_names c.args.known.now))
