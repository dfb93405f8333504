use Rattle.std.proofs.Common.{◌≡◌, ◌∙◌, ◌+◌, ◌++◌, [], List, ap, arith, length, subst}
use Rattle.cdle_model.specs.Forms.{Written}
use Rattle.core_check.specs.Items.{items_of}
use Rattle.build_outcome.specs.Changes.{FolderChange}
use Rattle.build_drive.specs.Progress.{IsRead}
use Rattle.build_drive.specs.declared.reading.Reading.{Reading}
use Rattle.build_drive.proofs.Items.{items-push, names-length}
use Rattle.build_drive.proofs.Progress.{one_more}
use Rattle.build_drive.proofs.reading.Reading.add.Goals as goal

pub read_file-requires-clause-counted : goal.read_file-requires-clause-counted
read_file-requires-clause-counted g c = omega (arith, c.requires.counted, ap length c.requires.known, names-length (items_of c.args.self.now.files.items) [])

pub returns-clause-in_step : goal.returns-clause-in_step
returns-clause-in_step g c =
    let new : Reading = record { files = c.push.new.self; known = c.add.new.self; items = c.args.self.now.items + c.len.result } in
    let read = c.in_ok-next.ensures.read in
    one_more c.args.self.now new c.in_ok-next.next.items c.requires (ap items_of c.in_ok-push.ensures.items ∙ items-push c.args.self.now.files.items c.in_ok-next.next) c.in_ok-add.ensures.added (omega (arith, c.len.ensures)) (read.0, read.4, read.5)

pub returns-clause-read : goal.returns-clause-read
returns-clause-read g c =
    let v : FolderChange = record { before = g.F.Folder.state c.args.folder.now; after = g.F.Folder.state c.read_file.new.folder } in
    let ws : List Written = c.in_ok-next.next.items in
    (ws, ap items_of c.in_ok-push.ensures.items ∙ items-push c.args.self.now.files.items c.in_ok-next.next, subst (λ known. IsRead v c.args.file.now known ws) c.requires.known c.in_ok-next.ensures.read)
