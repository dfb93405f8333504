use Rattle.std.proofs.Common.{◌≡◌, ◌∙◌, inr, subst}
use Rattle.cdle_folder.specs.Files.{Bytes, with_read}
use Rattle.cdle_folder.specs.States.{FolderState}
use Rattle.build_outcome.specs.Changes.{most_bytes}
use Rattle.build_source.specs.Files.{IsThere, source_file}
use Rattle.build_source.specs.Progress.{EndsGiving}
use Rattle.build_source.proofs.source.source_text.Goals as goal

pub returns-clause-ended : goal.returns-clause-ended
returns-clause-ended g c =
    let before : FolderState = g.F.Folder.state c.args.folder.now in
    let after : FolderState = g.F.Folder.state c.read_file_for.new.folder in
    let bytes : Bytes = c.in_ok-source.source.items in
    let same : c.as_str.result.now ≡ source_file c.args.name.now = c.as_str.ensures.value ∙ c.in_ok-file.ensures in
    inr (
      bytes,
      (subst (λ (f : Bytes). after.given ≡ with_read f bytes before.given) same c.in_ok-source.ensures.given, subst (λ (f : Bytes). IsThere before.files most_bytes f bytes) same c.in_ok-source.ensures.there),
      subst (λ (s : Bytes). EndsGiving c.args.budget c.args.name.now s c.in_ok-done-in-Err.done) c.deref-in-Err.ensures.value c.in_ok-done-in-Err.ensures,
    )
