use Rattle.scoped_tree.specs.Items.{module_of}
use Rattle.build_modules.proofs.Given.{given_next, not_given}
use Rattle.build_modules.proofs.items.next_items.Goals as goal

pub returns-in-Ok : goal.returns-in-Ok
returns-in-Ok c = given_next c.args.budget c.args.env.now _ (module_of c.args.scoped.now).items c.args.place c.in-Ok.items c.in-Ok.ensures

pub returns-in-Err : goal.returns-in-Err
returns-in-Err c = not_given c.args.budget c.args.env.now _ (module_of c.args.scoped.now).items c.args.place c.in-Err.fault c.refusal.result c.requires c.in-Err.ensures c.refusal.ensures
