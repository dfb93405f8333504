use Rattle.std.proofs.Common.{subst}
use Rattle.elab_item.specs.Answers.{IsRefusal}
use Rattle.elab_tree.specs.Known.{empty}
use Rattle.scoped_tree.specs.Items.{module_of}
use Rattle.build_module.proofs.items.refusal.Goals as goal

pub returns-in-TooDeep : goal.returns-in-TooDeep
returns-in-TooDeep c = λ n es h. c.too_deep.ensures n es (subst (IsRefusal n empty es (module_of c.args.scoped.now).items) c.in-TooDeep.is h)
