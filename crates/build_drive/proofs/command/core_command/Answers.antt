use Rattle.std.proofs.Common.{inr}
use Rattle.build_drive.specs.Checks.{IsVerdictAtSomeBudget}
use Rattle.build_outcome.specs.Changes.{FolderChange}
use Rattle.build_drive.proofs.Calls.{exact}
use Rattle.build_drive.proofs.Theorem.{accepted, complete, refused, undecided}
use Rattle.build_drive.proofs.Progress.{ended_traced}
use Rattle.build_drive.proofs.command.core_command.Goals as goal

pub returns-in-Ok-clause-accepted : goal.returns-in-Ok-clause-accepted
returns-in-Ok-clause-accepted g c =
    let v : FolderChange = record { before = g.F.Folder.state c.args.folder.now; after = g.F.Folder.state c.work.new.folder } in
    λ modules items e. accepted c.args.budget v _ c.in-Ok.done modules items (inr c.in-Ok.ensures.done) e

pub returns-in-Ok-clause-refused : goal.returns-in-Ok-clause-refused
returns-in-Ok-clause-refused g c =
    let v : FolderChange = record { before = g.F.Folder.state c.args.folder.now; after = g.F.Folder.state c.work.new.folder } in
    λ place why e. refused c.args.budget v _ c.in-Ok.done place why (inr c.in-Ok.ensures.done) e

pub returns-in-Ok-clause-undecided : goal.returns-in-Ok-clause-undecided
returns-in-Ok-clause-undecided g c =
    let v : FolderChange = record { before = g.F.Folder.state c.args.folder.now; after = g.F.Folder.state c.work.new.folder } in
    λ place units e. undecided c.args.budget v _ c.in-Ok.done place units (inr c.in-Ok.ensures.done) e

pub returns-in-Ok-clause-exact : goal.returns-in-Ok-clause-exact
returns-in-Ok-clause-exact g c =
    let v : FolderChange = record { before = g.F.Folder.state c.args.folder.now; after = g.F.Folder.state c.work.new.folder } in
    λ f s o told quiet h x. exact c.args.budget v _ c.in-Ok.done f s o (inr c.in-Ok.ensures.done) told quiet h x

pub returns-in-Ok-clause-complete : goal.returns-in-Ok-clause-complete
returns-in-Ok-clause-complete g c =
    let v : FolderChange = record { before = g.F.Folder.state c.args.folder.now; after = g.F.Folder.state c.work.new.folder } in
    λ f all told quiet h e. complete c.args.budget v _ c.in-Ok.done f all (inr c.in-Ok.ensures.done) told quiet h e

pub returns-in-Err-Ended-clause-accepted : goal.returns-in-Err-Ended-clause-accepted
returns-in-Err-Ended-clause-accepted g c =
    let v : FolderChange = record { before = g.F.Folder.state c.args.folder.now; after = g.F.Folder.state c.work.new.folder } in
    λ modules items e. accepted c.args.budget v _ c.in-Err-Ended.done modules items (inr (ended_traced (IsVerdictAtSomeBudget c.args.budget) v _ _ _ c.in-Err-Ended.field-0-is c.in-Err-Ended.ensures.ended)) e

pub returns-in-Err-Ended-clause-refused : goal.returns-in-Err-Ended-clause-refused
returns-in-Err-Ended-clause-refused g c =
    let v : FolderChange = record { before = g.F.Folder.state c.args.folder.now; after = g.F.Folder.state c.work.new.folder } in
    λ place why e. refused c.args.budget v _ c.in-Err-Ended.done place why (inr (ended_traced (IsVerdictAtSomeBudget c.args.budget) v _ _ _ c.in-Err-Ended.field-0-is c.in-Err-Ended.ensures.ended)) e

pub returns-in-Err-Ended-clause-undecided : goal.returns-in-Err-Ended-clause-undecided
returns-in-Err-Ended-clause-undecided g c =
    let v : FolderChange = record { before = g.F.Folder.state c.args.folder.now; after = g.F.Folder.state c.work.new.folder } in
    λ place units e. undecided c.args.budget v _ c.in-Err-Ended.done place units (inr (ended_traced (IsVerdictAtSomeBudget c.args.budget) v _ _ _ c.in-Err-Ended.field-0-is c.in-Err-Ended.ensures.ended)) e

pub returns-in-Err-Ended-clause-exact : goal.returns-in-Err-Ended-clause-exact
returns-in-Err-Ended-clause-exact g c =
    let v : FolderChange = record { before = g.F.Folder.state c.args.folder.now; after = g.F.Folder.state c.work.new.folder } in
    λ f s o told quiet h x. exact c.args.budget v _ c.in-Err-Ended.done f s o (inr (ended_traced (IsVerdictAtSomeBudget c.args.budget) v _ _ _ c.in-Err-Ended.field-0-is c.in-Err-Ended.ensures.ended)) told quiet h x

pub returns-in-Err-Ended-clause-complete : goal.returns-in-Err-Ended-clause-complete
returns-in-Err-Ended-clause-complete g c =
    let v : FolderChange = record { before = g.F.Folder.state c.args.folder.now; after = g.F.Folder.state c.work.new.folder } in
    λ f all told quiet h e. complete c.args.budget v _ c.in-Err-Ended.done f all (inr (ended_traced (IsVerdictAtSomeBudget c.args.budget) v _ _ _ c.in-Err-Ended.field-0-is c.in-Err-Ended.ensures.ended)) told quiet h e
