use Rattle.surf_tree.specs.Forms.{name_use, place}
use Rattle.scoped_tree.specs.Trees.{reference}
use Rattle.scope_part.specs.Around.{around_of}
use Rattle.scope_part.specs.Layers.{bounds}
use Rattle.scope_part.proofs.Scoping.{name_is}
use Rattle.scope_part.proofs.resolver.Resolver.name.Goals as goal

pub returns-in-Ok-name : goal.returns-in-Ok-name
returns-in-Ok-name c = name_is (around_of c.args.names.now c.args.self.now) c.args.names.now (bounds c.args.names.now c.args.binders.now) c.args.sort (place c.args.span) (name_use c.args.name) (reference c.in-Ok.reference) c.in-Ok-name.tree c.in-Ok.ensures c.in-Ok-name.ensures
