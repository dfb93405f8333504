use Rattle.core_check.specs.Items.{items_of}
use Rattle.build_drive.proofs.Writing.{of-one-outcome}
use Rattle.build_drive.proofs.written.verdict.Goals as goal

pub returns-in-Err-clause-verdict : goal.returns-in-Err-clause-verdict
returns-in-Err-clause-verdict c = of-one-outcome c.args.budget (items_of c.args.files.now.items) c.refused.result c.requires.derived c.refused.ensures.stopped c.refused.ensures.verdict
