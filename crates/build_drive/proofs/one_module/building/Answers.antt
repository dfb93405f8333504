use Rattle.std.proofs.Common.{sym, subst}
use Rattle.std.proofs.lemmas.Result.{err_from_is_err_and}
use Rattle.cdle_folder.specs.Files.{Bytes}
use Rattle.cdle_folder.specs.States.{FolderState}
use Rattle.build_source.specs.Progress.{HasGiven}
use Rattle.build_outcome.specs.Changes.{FolderChange}
use Rattle.build_drive.proofs.Building.{done_after, left_after, left_before, stop_after, stop_before, text_derived}
use Rattle.build_drive.proofs.one_module.building.Goals as goal

pub returns-in_err-text-clause-ended : goal.returns-in_err-text-clause-ended
returns-in_err-text-clause-ended g c =
    let v : FolderChange = record { before = g.F.Folder.state c.args.folder.now; after = g.F.Folder.state c.source_text.new.folder } in
    let p = err_from_is_err_and c.from_residual.result c.from_residual.ensures.1 in
    rw (p.1, p.2) (stop_before c.args.budget v c.args.name.now c.in_err-text.field-0.0 c.in_err-text.ensures.untouched c.in_err-text.ensures.ended)

pub write_core-requires : goal.write_core-requires
write_core-requires g c =
    let v : FolderChange = record { before = g.F.Folder.state c.args.folder.now; after = g.F.Folder.state c.source_text.new.folder } in
    let text : Bytes = c.in_ok-text.text.items in
    rw c.deref.ensures.value (text_derived c.args.budget v c.args.name.now text c.in_ok-text.ensures.given)

pub returns-clause-done : goal.returns-clause-done
returns-clause-done g c =
    let a : FolderState = g.F.Folder.state c.args.folder.now in
    let m : FolderState = g.F.Folder.state c.source_text.new.folder in
    let z : FolderState = g.F.Folder.state c.write_core.new.folder in
    let given = subst (λ (t : Bytes). HasGiven c.args.budget (record { before = a; after = m }) c.args.name.now t) (sym c.deref.ensures.value) c.in_ok-text.ensures.given in
    done_after c.args.budget a m z c.args.name.now _ c.in_ok-text.ensures.untouched c.in_ok-text.ensures.read_faults c.in_ok-text.ensures.absences given _ c.write_core.ensures.done

pub returns-clause-ended : goal.returns-clause-ended
returns-clause-ended g c =
    let a : FolderState = g.F.Folder.state c.args.folder.now in
    let m : FolderState = g.F.Folder.state c.source_text.new.folder in
    let z : FolderState = g.F.Folder.state c.write_core.new.folder in
    let given = subst (λ (t : Bytes). HasGiven c.args.budget (record { before = a; after = m }) c.args.name.now t) (sym c.deref.ensures.value) c.in_ok-text.ensures.given in
    stop_after c.args.budget a m z c.args.name.now _ c.in_ok-text.ensures.untouched c.in_ok-text.ensures.read_faults c.in_ok-text.ensures.absences given _ c.write_core.ensures.ended
