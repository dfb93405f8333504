use Rattle.std.proofs.Common.{sym, subst}
use Rattle.elab_reduce.specs.Items.{env_of}
use Rattle.scoped_tree.specs.Items.{item_of}
use Rattle.scoped_tree.specs.Trees.{place}
use Rattle.elab_item.specs.Answers.{GivesItem}
use Rattle.elab_item.proofs.item.next_item.Goals as goal

pub returns-in-Def : goal.returns-in-Def
returns-in-Def c = subst (λ x. GivesItem c.args.units (env_of c.args.env.now) c.args.number (item_of x) c.term_item.result) (sym c.in-Def.is) (c.term_item.ensures (place c.in-Def.span))

pub returns-in-TypeDef : goal.returns-in-TypeDef
returns-in-TypeDef c = subst (λ x. GivesItem c.args.units (env_of c.args.env.now) c.args.number (item_of x) c.type_item.result) (sym c.in-TypeDef.is) (c.type_item.ensures (place c.in-TypeDef.span))
