use Rattle.std.proofs.Common.{inr, subst}
use Rattle.build_outcome.specs.Changes.{FolderChange}
use Rattle.build_drive.specs.BuildProgress.{IsBuilding}
use Rattle.build_source.specs.Progress.{IfEnded}
use Rattle.build_drive.proofs.Built.{built, undecided_module}
use Rattle.build_drive.proofs.BuildExact.{complete, exact}
use Rattle.build_drive.proofs.one_module.build.Goals as goal

pub returns-in-Ok-clause-built : goal.returns-in-Ok-clause-built
returns-in-Ok-clause-built g c =
    let v : FolderChange = record { before = g.F.Folder.state c.args.folder.now; after = g.F.Folder.state c.building.new.folder } in
    λ modules items e. built c.args.budget v c.args.name.now c.in-Ok.done modules items c.in-Ok.ensures.done e

pub returns-in-Ok-clause-undecided : goal.returns-in-Ok-clause-undecided
returns-in-Ok-clause-undecided g c =
    let v : FolderChange = record { before = g.F.Folder.state c.args.folder.now; after = g.F.Folder.state c.building.new.folder } in
    λ place units e. undecided_module c.args.budget v c.args.name.now c.in-Ok.done place units c.in-Ok.ensures.done e

pub returns-in-Ok-clause-exact : goal.returns-in-Ok-clause-exact
returns-in-Ok-clause-exact g c =
    let v : FolderChange = record { before = g.F.Folder.state c.args.folder.now; after = g.F.Folder.state c.building.new.folder } in
    λ f o told quiet still x. exact c.args.budget v c.args.name.now c.in-Ok.done f o (inr c.in-Ok.ensures.done) told quiet still x

pub returns-in-Ok-clause-complete : goal.returns-in-Ok-clause-complete
returns-in-Ok-clause-complete g c =
    let v : FolderChange = record { before = g.F.Folder.state c.args.folder.now; after = g.F.Folder.state c.building.new.folder } in
    λ f source text ws told quiet still there answer short e. complete c.args.budget v c.args.name.now c.in-Ok.done f source text ws (inr c.in-Ok.ensures.done) told quiet still there answer short e

pub returns-in-Err-Ended-clause-built : goal.returns-in-Err-Ended-clause-built
returns-in-Err-Ended-clause-built g c =
    let v : FolderChange = record { before = g.F.Folder.state c.args.folder.now; after = g.F.Folder.state c.building.new.folder } in
    λ modules items e. built c.args.budget v c.args.name.now c.in-Err-Ended.done modules items (subst (IfEnded (IsBuilding c.args.budget v c.args.name.now)) c.in-Err-Ended.field-0-is c.in-Err-Ended.ensures.ended) e

pub returns-in-Err-Ended-clause-undecided : goal.returns-in-Err-Ended-clause-undecided
returns-in-Err-Ended-clause-undecided g c =
    let v : FolderChange = record { before = g.F.Folder.state c.args.folder.now; after = g.F.Folder.state c.building.new.folder } in
    λ place units e. undecided_module c.args.budget v c.args.name.now c.in-Err-Ended.done place units (subst (IfEnded (IsBuilding c.args.budget v c.args.name.now)) c.in-Err-Ended.field-0-is c.in-Err-Ended.ensures.ended) e

pub returns-in-Err-Ended-clause-exact : goal.returns-in-Err-Ended-clause-exact
returns-in-Err-Ended-clause-exact g c =
    let v : FolderChange = record { before = g.F.Folder.state c.args.folder.now; after = g.F.Folder.state c.building.new.folder } in
    λ f o told quiet still x. exact c.args.budget v c.args.name.now c.in-Err-Ended.done f o (inr (subst (IfEnded (IsBuilding c.args.budget v c.args.name.now)) c.in-Err-Ended.field-0-is c.in-Err-Ended.ensures.ended)) told quiet still x

pub returns-in-Err-Ended-clause-complete : goal.returns-in-Err-Ended-clause-complete
returns-in-Err-Ended-clause-complete g c =
    let v : FolderChange = record { before = g.F.Folder.state c.args.folder.now; after = g.F.Folder.state c.building.new.folder } in
    λ f source text ws told quiet still there answer short e. complete c.args.budget v c.args.name.now c.in-Err-Ended.done f source text ws (inr (subst (IfEnded (IsBuilding c.args.budget v c.args.name.now)) c.in-Err-Ended.field-0-is c.in-Err-Ended.ensures.ended)) told quiet still there answer short e
