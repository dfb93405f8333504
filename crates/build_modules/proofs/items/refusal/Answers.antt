use Rattle.std.proofs.Common.{subst}
use Rattle.elab_item.specs.Answers.{IsRefusal}
use Rattle.scoped_tree.specs.Items.{module_of}
use Rattle.build_modules.proofs.items.refusal.Goals as goal

pub returns-in-TooDeep : goal.returns-in-TooDeep
returns-in-TooDeep c = λ n old es h. c.too_deep.ensures n old es (subst (IsRefusal n old es (module_of c.args.scoped.now).items) c.in-TooDeep.is h)
