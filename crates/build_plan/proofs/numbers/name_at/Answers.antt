use Rattle.build_plan.proofs.Places.{name_read}
use Rattle.build_plan.proofs.numbers.name_at.Goals as goal

pub returns : goal.returns
returns c = name_read c.args.modules.now c.args.number c.index-modules-number.result c.requires c.index-modules-number.is
