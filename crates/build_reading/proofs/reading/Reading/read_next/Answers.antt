use Rattle.std.proofs.Common.{◌∙◌, Some, ap, length, sym}
use Rattle.std.proofs.lemmas.Result.{err_from_is_err_and}
use Rattle.cdle_folder.specs.States.{FolderState}
use Rattle.build_reading.specs.Steps.{EndsAt, EndsFrom, IsPastMost}
use Rattle.build_reading.specs.declared.reading.Reading.{Reading}
use Rattle.build_reading.proofs.Progress.{IsStep, bytes_pushed, change, ended_at, of_fault, one_more, past_most}
use Rattle.build_reading.proofs.reading.Reading.read_next.Goals as goal

pub returns-in_err-name-clause-ended : goal.returns-in_err-name-clause-ended
returns-in_err-name-clause-ended g c =
    let m : FolderState = g.F.Folder.state c.args.folder.now in
    let r : Reading = c.args.self.now in
    let p = err_from_is_err_and c.from_residual.result c.from_residual.ensures.1 in
    rw (p.1, p.2) (of_fault (IsPastMost r.order (length r.read.modules.items)) (EndsFrom m m c.args.names.now r) c.in_err-name.field-0.0
    (λ end h a root come. past_most a m root c.args.names.now r come end h) c.in_err-name.ensures.ended)

pub returns-in_err-module-clause-ended : goal.returns-in_err-module-clause-ended
returns-in_err-module-clause-ended g c =
    let m : FolderState = g.F.Folder.state c.args.folder.now in
    let z : FolderState = g.F.Folder.state c.read_module.new.folder in
    let r : Reading = c.args.self.now in
    let read = c.in_err-module.ensures in
    let step : IsStep m z = record { files = read.files; write_faults = read.write_faults; read_faults = read.read_faults; absences = read.absences } in
    let p = err_from_is_err_and c.from_residual-in_err-module.result c.from_residual-in_err-module.ensures.1 in
    rw (p.1, p.2) (of_fault (EndsAt (change m z) c.as_str.result.now) (EndsFrom m z c.args.names.now r) c.in_err-module.field-0.0
    (λ end h a root come. ended_at a m z root c.args.names.now r come step c.as_str.result.now end (c.in_ok-name.ensures.name ∙ ap Some (sym c.as_str.ensures)) c.in_ok-name.ensures.few h) read.ended)

pub returns-clause-further : goal.returns-clause-further
returns-clause-further g c =
    let m : FolderState = g.F.Folder.state c.args.folder.now in
    let z : FolderState = g.F.Folder.state c.read_module.new.folder in
    let r : Reading = c.args.self.now in
    let read = c.in_ok-module.ensures in
    let step : IsStep m z = record { files = read.files; write_faults = read.write_faults; read_faults = read.read_faults; absences = read.absences } in
    let added = c.in_ok-add.ensures in
    λ a root come. one_more a m z root c.args.names.now r come step c.read_module.new.names c.add.new.self c.in_ok-module.module c.as_str.result.now c.in_ok-module.bytes.items read.grows
    (c.in_ok-name.ensures.name ∙ ap Some (sym c.as_str.ensures)) c.in_ok-name.ensures.few read.numbers read.read read.says added.modules
    (bytes_pushed r.read.sources.items c.add.new.self.read.sources.items c.in_ok-module.bytes added.sources) added.order
