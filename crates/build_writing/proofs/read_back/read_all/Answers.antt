use Rattle.std.proofs.Common.{◌∷◌, [], List, map, subst, sym, take}
use Rattle.std.proofs.lemmas.Result.{err_from_is_err_and}
use Rattle.cdle_folder.specs.States.{FolderState}
use Rattle.build_writing.specs.Steps.{AreReadBack}
use Rattle.build_writing.specs.Writing.{Output, output_of}
use Rattle.build_writing.proofs.Steps.{bytes_more, ends_reading, output_at, read_more, take_next}
use Rattle.build_writing.proofs.read_back.read_all.Goals as goal

pub returns-in_err-bytes-clause-ended : goal.returns-in_err-bytes-clause-ended
returns-in_err-bytes-clause-ended g c =
    let before : FolderState = g.F.Folder.state c.args.folder.now in
    let mid : FolderState = g.F.Folder.state c.loop-number.folder in
    let after : FolderState = g.F.Folder.state c.read_file.new.folder in
    let file = c.index-files-number.result in
    let at = output_at c.args.files.now c.loop-number.number file c.loop-number-test.true c.index-files-number.is in
    let p = err_from_is_err_and c.from_residual.result c.from_residual.ensures.1 in
    rw (p.1, p.2) (ends_reading before mid after (map output_of c.args.files.now) c.loop-number.number (output_of file) c.in_err-bytes.field-0.0 at c.loop-number.invariant.read_back
    c.in_err-bytes.ensures.files c.in_err-bytes.ensures.ended)

pub loop-number-preserved : goal.loop-number-preserved
loop-number-preserved g c =
    let before : FolderState = g.F.Folder.state c.args.folder.now in
    let mid : FolderState = g.F.Folder.state c.loop-number.folder in
    let after : FolderState = g.F.Folder.state c.read_file.new.folder in
    let number = c.loop-number.number in
    let files : List Output = map output_of c.args.files.now in
    let file = c.index-files-number.result in
    let at = output_at c.args.files.now number file c.loop-number-test.true c.index-files-number.is in
    record {
      same = bytes_more c.loop-number.read.items c.push.new.self.items c.in_ok-bytes.bytes c.args.files.now number file c.loop-number-test.true c.index-files-number.is c.in_ok-push.ensures.items
          c.in_ok-bytes.ensures.same c.loop-number.invariant.same;
      read_back = subst (AreReadBack (record { before = before; after = after })) (sym (take_next files number (output_of file) at))
          (read_more before mid after (take number files) (output_of file ∷ []) c.loop-number.invariant.read_back c.in_ok-bytes.ensures.read);
    }
