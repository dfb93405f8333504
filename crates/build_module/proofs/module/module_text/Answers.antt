use Rattle.build_module.proofs.module.module_text.Goals as goal

pub returns-in-Ok : goal.returns-in-Ok
returns-in-Ok c = c.counted_text.ensures c.args.bytes.now c.args.name.now c.in-Ok.ensures.read
