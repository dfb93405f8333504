use Rattle.std.proofs.Common.{◌∷◌, [], ap, sym, ◌∙◌}
use Rattle.scope_model.specs.Scope.{meets}
use Rattle.scope_model.specs.ScopeNames.{Text}
use Rattle.scoped_tree.specs.Trees.{place}
use Rattle.surf_tree.specs.Items.{constructor_of}
use Rattle.scope_part.specs.Around.{around_of}
use Rattle.surf_scope.specs.Data.{ScopedConstructor, given_names, names_behind, taken}
use Rattle.scope_part.specs.Index.{names_of}
use Rattle.scope_part.specs.Layers.{bounds}
use Rattle.surf_scope.specs.Modules.{spelled_constructor}
use Rattle.surf_scope.proofs.Passing.{constructor_is, type_fails, written_is}
use Rattle.surf_scope.proofs.data.constructor.Goals as goal

pub returns-in-Err : goal.returns-in-Err
returns-in-Err c =
    type_fails (around_of c.args.names.now c.args.resolver.now) (bounds c.args.names.now c.args.binders.now) (taken (given_names c.args.given.now) (names_behind c.args.given.now) (names_of c.args.resolver.now.own.now)) (spelled_constructor c.args.names.now (constructor_of c.args.ctor.now)) c.in-Err.fault
    (ap (λ (w : Text). meets (w ∷ []) (taken (given_names c.args.given.now) (names_behind c.args.given.now) (names_of c.args.resolver.now.own.now))) c.spelling-text.ensures ∙ sym c.if-is_taken.ensures) c.in-Err.ensures

pub returns-in-Ok-written : goal.returns-in-Ok-written
returns-in-Ok-written c =
    constructor_is (around_of c.args.names.now c.args.resolver.now) (bounds c.args.names.now c.args.binders.now) (taken (given_names c.args.given.now) (names_behind c.args.given.now) (names_of c.args.resolver.now.own.now)) (spelled_constructor c.args.names.now (constructor_of c.args.ctor.now)) c.in-Ok.ty _
    (ap (λ (w : Text). meets (w ∷ []) (taken (given_names c.args.given.now) (names_behind c.args.given.now) (names_of c.args.resolver.now.own.now))) c.spelling-text.ensures ∙ sym c.if-is_taken.ensures) c.in-Ok.ensures
    (ap (λ (n : Text). let x : ScopedConstructor = record { span = place c.args.ctor.now.span; name = n; type = c.in-Ok.ty } in x) (written_is c.args.names.now c.args.resolver.now.name.0 c.args.ctor.now.name.0 c.spelling-owner.result.now c.spelling-text.result.now c.in-Ok-written.name c.spelling-owner.ensures c.spelling-text.ensures c.in-Ok-written.ensures))
