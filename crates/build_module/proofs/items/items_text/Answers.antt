use Rattle.scoped_tree.specs.Items.{module_of}
use Rattle.build_module.proofs.Given.{elaborated, not_elaborated}
use Rattle.build_module.proofs.items.items_text.Goals as goal

pub returns-in-Ok : goal.returns-in-Ok
returns-in-Ok c = elaborated c.args.budget (module_of c.args.scoped.now) _ _ c.in-Ok.items c.printed.result c.new-env.ensures c.in-Ok.ensures (rw (← c.deref.ensures.value) c.printed.ensures)

pub returns : goal.returns
returns c = not_elaborated c.args.budget (module_of c.args.scoped.now) _ _ c.in-Err.fault c.refusal.result c.new-env.ensures c.in-Err.ensures c.refusal.ensures
