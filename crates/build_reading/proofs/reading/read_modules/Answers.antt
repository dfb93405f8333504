use Rattle.std.proofs.Common.{◌≡◌, ◌∙◌, arith, false, length, nat_lt, sym}
use Rattle.std.proofs.lemmas.Bool.Decides.{nat_tests}
use Rattle.std.proofs.lemmas.Result.{err_from_is_err_and}
use Rattle.cdle_folder.specs.States.{FolderState}
use Rattle.build_reading.specs.Steps.{EndsFrom, HasEnded}
use Rattle.build_reading.proofs.Progress.{change, grows_not, grows_on, no_more, of_fault, starts}
use Rattle.build_reading.proofs.reading.read_modules.Goals as goal

pub modules-init : goal.modules-init
modules-init g c = record {
  grows = grows_not c.args.names.now;
  come = starts (g.F.Folder.state c.args.folder.now) c.args.root.now c.args.names.now c.in_ok-reading.reading c.in_ok-reading.ensures.modules c.in_ok-reading.ensures.sources c.in_ok-reading.ensures.order;
}

pub returns-in_err-read_next-clause-ended : goal.returns-in_err-read_next-clause-ended
returns-in_err-read_next-clause-ended g c =
    let a : FolderState = g.F.Folder.state c.args.folder.now in
    let m : FolderState = g.F.Folder.state c.modules.folder in
    let z : FolderState = g.F.Folder.state c.read_next.new.folder in
    let p = err_from_is_err_and c.from_residual-in_err-read_next.result c.from_residual-in_err-read_next.ensures.1 in
    rw (p.1, p.2) (of_fault (EndsFrom m z c.modules.names c.modules.reading) (HasEnded (change a z) c.args.root.now) c.in_err-read_next.field-0.0
    (λ end h. h a c.args.root.now c.modules.invariant.come) c.in_err-read_next.ensures.ended)

pub returns-in_err-read_next-clause-grows : goal.returns-in_err-read_next-clause-grows
returns-in_err-read_next-clause-grows g c = grows_on c.args.names.now c.modules.names c.read_next.new.names c.modules.invariant.grows c.in_err-read_next.ensures.grows

pub modules-preserved : goal.modules-preserved
modules-preserved g c = record {
  grows = grows_on c.args.names.now c.modules.names c.read_next.new.names c.modules.invariant.grows c.in_ok-read_next.ensures.grows;
  come = c.in_ok-read_next.ensures.further (g.F.Folder.state c.args.folder.now) c.args.root.now c.modules.invariant.come;
}

pub returns-clause-read : goal.returns-clause-read
returns-clause-read g c =
    let a : FolderState = g.F.Folder.state c.args.folder.now in
    let m : FolderState = g.F.Folder.state c.modules.folder in
    let closed : nat_lt (length c.modules.reading.read.modules.items) (length c.modules.reading.order) ≡ false = sym c.is_open.ensures ∙ c.modules-test.false in
    no_more a m c.args.root.now c.modules.names c.modules.reading c.modules.invariant.come (grind (arith, nat_tests))
