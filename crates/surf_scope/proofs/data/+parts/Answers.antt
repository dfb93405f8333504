use Rattle.std.proofs.Common.{map}
use Rattle.scoped_tree.specs.Items as scoped
use Rattle.surf_tree.specs.Items.{constructor_of, parameter_of}
use Rattle.scope_part.specs.Around.{around_of}
use Rattle.scope_part.specs.Layers.{bounds}
use Rattle.surf_scope.specs.Modules.{spelled_constructor, spelled_parameter}
use Rattle.scope_part.specs.Names.{text_of}
use Rattle.surf_scope.specs.Passed.{taken_of}
use Rattle.surf_scope.proofs.Passing.{params_next, parts_as, under_named}
use Rattle.surf_scope.proofs.data.+parts.Goals as goal

pub returns : goal.returns
returns t c =
    parts_as (around_of c.args.names.now c.args.resolver.now) (text_of c.args.names.now c.args.datatype.0) (bounds c.args.names.now c.args.binders.now) (under_named c.args.names.now c.in-Some.param.now c.sort_of.result (bounds c.args.names.now c.args.binders.now)) c.args.given (map scoped.parameter_of c.args.done.items) (map scoped.parameter_of c.in-Ok-with_param.done.items) (map (spelled_parameter c.args.names.now) (map parameter_of c.args.params.now)) (map (spelled_parameter c.args.names.now) (map parameter_of c.in-Some.others.now)) (map (spelled_constructor c.args.names.now) (map constructor_of c.args.ctors.now)) c.parts.result
    (params_next (around_of c.args.names.now c.args.resolver.now) (text_of c.args.names.now c.args.datatype.0) (taken_of c.args.given (around_of c.args.names.now c.args.resolver.now)) (map (spelled_constructor c.args.names.now) (map constructor_of c.args.ctors.now)) (bounds c.args.names.now c.args.binders.now) c.args.names.now c.args.done.items c.in-Ok-with_param.done.items c.in-Ok.scoped c.args.params.now c.in-Some.param.now c.in-Some.others.now c.sort_of.result c.in-Some.ensures.cases.0 c.in-Ok.ensures c.in-Ok-with_param.ensures c.sort_of.ensures)
    c.parts.ensures
