use Rattle.std.proofs.Common.{◌∷◌, [], List, map, subst, sym, take}
use Rattle.std.proofs.lemmas.Result.{err_from_is_err_and}
use Rattle.cdle_folder.specs.States.{FolderState}
use Rattle.build_writing.specs.Steps.{AreWritten}
use Rattle.build_writing.specs.Writing.{Output, output_of}
use Rattle.build_writing.proofs.Steps.{ends_writing, left_unwritten, output_at, take_next, write_more}
use Rattle.build_writing.proofs.write.write_all.Goals as goal

pub returns-in_err-write_file-clause-left : goal.returns-in_err-write_file-clause-left
returns-in_err-write_file-clause-left g c =
    let before : FolderState = g.F.Folder.state c.args.folder.now in
    let mid : FolderState = g.F.Folder.state c.loop-number.folder in
    let after : FolderState = g.F.Folder.state c.write_file.new.folder in
    let file = c.index-files-number.result in
    let at = output_at c.args.files.now c.loop-number.number file c.loop-number-test.true c.index-files-number.is in
    left_unwritten before mid after (map output_of c.args.files.now) c.loop-number.number (output_of file) c.in_err-write_file.field-0.0 at c.loop-number.invariant c.in_err-write_file.ensures.ended

pub returns-in_err-write_file-clause-ended : goal.returns-in_err-write_file-clause-ended
returns-in_err-write_file-clause-ended g c =
    let before : FolderState = g.F.Folder.state c.args.folder.now in
    let mid : FolderState = g.F.Folder.state c.loop-number.folder in
    let after : FolderState = g.F.Folder.state c.write_file.new.folder in
    let file = c.index-files-number.result in
    let at = output_at c.args.files.now c.loop-number.number file c.loop-number-test.true c.index-files-number.is in
    let p = err_from_is_err_and c.from_residual.result c.from_residual.ensures.1 in
    rw (p.1, p.2) (ends_writing before mid after (map output_of c.args.files.now) c.loop-number.number (output_of file) c.in_err-write_file.field-0.0 at c.loop-number.invariant
    c.in_err-write_file.ensures.read c.in_err-write_file.ensures.ended)

pub loop-number-preserved : goal.loop-number-preserved
loop-number-preserved g c =
    let before : FolderState = g.F.Folder.state c.args.folder.now in
    let mid : FolderState = g.F.Folder.state c.loop-number.folder in
    let after : FolderState = g.F.Folder.state c.write_file.new.folder in
    let number = c.loop-number.number in
    let files : List Output = map output_of c.args.files.now in
    let file = c.index-files-number.result in
    let at = output_at c.args.files.now number file c.loop-number-test.true c.index-files-number.is in
    subst (AreWritten (record { before = before; after = after })) (sym (take_next files number (output_of file) at))
    (write_more before mid after (take number files) (output_of file ∷ []) c.loop-number.invariant c.in_ok-write_file.ensures.written)
