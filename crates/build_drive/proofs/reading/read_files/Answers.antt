use Rattle.std.proofs.Common.{◌≡◌, ◌∙◌, ◌+◌, ◌≤◌, List, ap, arith, drop, length, map, refl, string_bytes, subst, sym}
use Rattle.std.proofs.lemmas.List.{drop_all, length-map}
use Rattle.std.proofs.lemmas.Result.{err_from_is_err_and}
use Rattle.cdle_folder.specs.Files.{Bytes}
use Rattle.cdle_folder.specs.States.{FolderState}
use Rattle.cdle_model.specs.Forms.{Written}
use Rattle.core_check.specs.Items.{items_of}
use Rattle.build_drive.specs.Answers.{item_names}
use Rattle.build_drive.specs.Checks.{IsVerdictAtSomeBudget}
use Rattle.build_outcome.specs.Changes.{FolderChange}
use Rattle.build_drive.specs.Progress.{HasCome}
use Rattle.build_drive.proofs.Items.{drop-map-at}
use Rattle.build_drive.proofs.Progress.{ends_early, has_come}
use Rattle.build_drive.proofs.reading.read_files.Goals as goal

pub returns-in_err-add-clause-ended : goal.returns-in_err-add-clause-ended
returns-in_err-add-clause-ended g c =
    let u : FolderChange = record { before = g.F.Folder.state c.loop-file.folder; after = g.F.Folder.state c.add.new.folder } in
    let v : FolderChange = record { before = g.F.Folder.state c.args.folder.now; after = g.F.Folder.state c.add.new.folder } in
    let names : List Bytes = map string_bytes c.args.files.now.items in
    let es : List Written = items_of c.loop-file.reading.files.items in
    let same = c.deref-file-items.ensures.value in
    let left = drop-map-at string_bytes c.args.files.now.items c.loop-file.file-index c.file-item.result (rw same at c.loop-file-test.true) (rw same at c.file-item.is) in
    let inv = c.loop-file.invariant in
    let p = err_from_is_err_and c.from_residual.result c.from_residual.ensures.1 in
    rw (p.1, p.2) (λ n. ends_early (IsVerdictAtSomeBudget n) u v names es (item_names es) c.as_str.result.now (drop (c.loop-file.file-index + 1) names) c.in_err-add.field-0.0
    (record { files = inv.files; read_faults = inv.read_faults; absences = inv.absences; after = refl })
    refl (rw c.as_str.ensures.value (subst (HasCome (IsVerdictAtSomeBudget n) v names u.before.given es) left (inv.come n v refl))) c.in_err-add.ensures.ended)

pub loop-file-preserved : goal.loop-file-preserved
loop-file-preserved g c =
    let names : List Bytes = map string_bytes c.args.files.now.items in
    let es : List Written = items_of c.loop-file.reading.files.items in
    let same = c.deref-file-items.ensures.value in
    let left = drop-map-at string_bytes c.args.files.now.items c.loop-file.file-index c.file-item.result (rw same at c.loop-file-test.true) (rw same at c.file-item.is) in
    let inv = c.loop-file.invariant in
    let read = c.in_ok-add.ensures.read in
    let before : FolderState = g.F.Folder.state c.loop-file.folder in
    let after : FolderState = g.F.Folder.state c.add.new.folder in
    record {
      files = c.in_ok-add.ensures.files ∙ inv.files;
      write_faults = c.in_ok-add.ensures.write_faults ∙ inv.write_faults;
      read_faults = omega (arith, c.in_ok-add.ensures.read_faults, inv.read_faults);
      absences = omega (arith, c.in_ok-add.ensures.absences, inv.absences);
      in_step = c.in_ok-add.ensures.in_step;
      come = λ n v start. subst (λ all. HasCome (IsVerdictAtSomeBudget n) v names after.given all (drop (c.loop-file.file-index + 1) names)) (sym read.1)
          (has_come (IsVerdictAtSomeBudget n) v names es read.0 (item_names es) c.as_str.result.now (drop (c.loop-file.file-index + 1) names) before.files before.given after.given
          (inv.files ∙ sym (ap (λ (w : FolderState). w.files) start)) refl (rw c.as_str.ensures.value (subst (HasCome (IsVerdictAtSomeBudget n) v names before.given es) left (inv.come n v start))) read.2);
    }

pub returns-clause-read : goal.returns-clause-read
returns-clause-read g c =
    let v : FolderChange = record { before = g.F.Folder.state c.args.folder.now; after = g.F.Folder.state c.loop-file.folder } in
    let names : List Bytes = map string_bytes c.args.files.now.items in
    let done : length names ≤ c.loop-file.file-index = rw length-map (rw c.deref-file-items.ensures.value at c.loop-file-test.false) in
    λ n. subst (HasCome (IsVerdictAtSomeBudget n) v names (g.F.Folder.state c.loop-file.folder).given (items_of c.loop-file.reading.files.items)) (drop_all c.loop-file.file-index names done) (c.loop-file.invariant.come n v refl)
