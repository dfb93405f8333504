use Rattle.build_outcome.specs.Changes.{FolderChange}
use Rattle.cdle_call.specs.Run.{SinkChange}
use Rattle.cdle_call.proofs.Ends.{accepted_end, builds_end, complete_end, exact_end, no_command_end, refused_end, undecided_end, usage_end}
use Rattle.cdle_call.proofs.run.cdle_run.Goals as goal

pub returns-clause-usage : goal.returns-clause-usage
returns-clause-usage g c =
    let v : FolderChange = record { before = g.F.Folder.state c.args.folder.now; after = g.F.Folder.state c.work-done.new.folder } in
    let out : SinkChange = record { before = g.S.Sink.state c.args.out.now; after = g.S.Sink.state c.put_report-outcome.new.out } in
    λ e. usage_end _ v out _ (record { done = c.work-done.result; work = c.work-done.ensures.work; ends = c.put_report-outcome.ensures.ends }) e

pub returns-clause-no_command : goal.returns-clause-no_command
returns-clause-no_command g c =
    let v : FolderChange = record { before = g.F.Folder.state c.args.folder.now; after = g.F.Folder.state c.work-done.new.folder } in
    let out : SinkChange = record { before = g.S.Sink.state c.args.out.now; after = g.S.Sink.state c.put_report-outcome.new.out } in
    λ e. no_command_end _ v out _ (record { done = c.work-done.result; work = c.work-done.ensures.work; ends = c.put_report-outcome.ensures.ends }) e

pub returns-clause-accepted : goal.returns-clause-accepted
returns-clause-accepted g c =
    let v : FolderChange = record { before = g.F.Folder.state c.args.folder.now; after = g.F.Folder.state c.work-done.new.folder } in
    let out : SinkChange = record { before = g.S.Sink.state c.args.out.now; after = g.S.Sink.state c.put_report-outcome.new.out } in
    λ modules items e. accepted_end _ v out _ modules items (record { done = c.work-done.result; work = c.work-done.ensures.work; ends = c.put_report-outcome.ensures.ends }) e

pub returns-clause-refused : goal.returns-clause-refused
returns-clause-refused g c =
    let v : FolderChange = record { before = g.F.Folder.state c.args.folder.now; after = g.F.Folder.state c.work-done.new.folder } in
    let out : SinkChange = record { before = g.S.Sink.state c.args.out.now; after = g.S.Sink.state c.put_report-outcome.new.out } in
    λ place why e. refused_end _ v out _ place why (record { done = c.work-done.result; work = c.work-done.ensures.work; ends = c.put_report-outcome.ensures.ends }) e

pub returns-clause-undecided : goal.returns-clause-undecided
returns-clause-undecided g c =
    let v : FolderChange = record { before = g.F.Folder.state c.args.folder.now; after = g.F.Folder.state c.work-done.new.folder } in
    let out : SinkChange = record { before = g.S.Sink.state c.args.out.now; after = g.S.Sink.state c.put_report-outcome.new.out } in
    λ place units e. undecided_end _ v out _ place units (record { done = c.work-done.result; work = c.work-done.ensures.work; ends = c.put_report-outcome.ensures.ends }) e

pub returns-clause-exact : goal.returns-clause-exact
returns-clause-exact g c =
    let v : FolderChange = record { before = g.F.Folder.state c.args.folder.now; after = g.F.Folder.state c.work-done.new.folder } in
    let out : SinkChange = record { before = g.S.Sink.state c.args.out.now; after = g.S.Sink.state c.put_report-outcome.new.out } in
    λ f o told quiet silent x. exact_end _ v out _ f o (record { done = c.work-done.result; work = c.work-done.ensures.work; ends = c.put_report-outcome.ensures.ends }) told quiet silent x

pub returns-clause-complete : goal.returns-clause-complete
returns-clause-complete g c =
    let v : FolderChange = record { before = g.F.Folder.state c.args.folder.now; after = g.F.Folder.state c.work-done.new.folder } in
    let out : SinkChange = record { before = g.S.Sink.state c.args.out.now; after = g.S.Sink.state c.put_report-outcome.new.out } in
    λ f files budget all told quiet silent e there ok. complete_end _ v out _ f files budget all (record { done = c.work-done.result; work = c.work-done.ensures.work; ends = c.put_report-outcome.ensures.ends }) told quiet silent e there ok

pub returns-clause-builds : goal.returns-clause-builds
returns-clause-builds g c =
    let v : FolderChange = record { before = g.F.Folder.state c.args.folder.now; after = g.F.Folder.state c.work-done.new.folder } in
    let out : SinkChange = record { before = g.S.Sink.state c.args.out.now; after = g.S.Sink.state c.put_report-outcome.new.out } in
    λ f name source text budget ws told quiet still silent e there answer short ok.
    builds_end _ v out _ f name source text budget ws (record { done = c.work-done.result; work = c.work-done.ensures.work; ends = c.put_report-outcome.ensures.ends }) told quiet still silent e there answer short ok
