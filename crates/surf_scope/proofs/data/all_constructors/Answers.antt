use Rattle.std.proofs.Common.{◌≡◌, ◌++◌, List, map, subst, ◌∙◌}
use Rattle.scope_model.specs.Scope.{constructor_names, constructors}
use Rattle.scoped_tree.specs.Items as scoped
use Rattle.surf_tree.specs.Items.{constructor_of}
use Rattle.surf_tree.specs.declared.items.SrcCtor.{SrcCtor}
use Rattle.scope_part.specs.Around.{around_of}
use Rattle.surf_scope.specs.Data.{constructors_on, given_names, names_behind}
use Rattle.scope_part.specs.Layers.{bounds}
use Rattle.surf_scope.specs.Modules.{spelled_constructor}
use Rattle.surf_scope.specs.Passed.{taken_of}
use Rattle.surf_scope.proofs.Passing.{ctors_next, names_next}
use Rattle.surf_scope.proofs.data.all_constructors.Goals as goal

pub ctors-preserved : goal.ctors-preserved
ctors-preserved c =
    let here = c.in-Some.ensures.cases.0 in
    let word = c.spelling-text.ensures in
    record {
      same = ctors_next (around_of c.args.names.now c.args.resolver.now) (bounds c.args.names.now c.args.binders.now) (given_names c.ctors.given) (given_names c.add_ctor.new.given) (names_behind c.ctors.given) (names_behind c.add_ctor.new.given) c.ctors.done.items c.add_ctor.new.done.items c.in-Ok.scoped (spelled_constructor c.args.names.now (constructor_of c.in-Some.ctor.now)) (map (spelled_constructor c.args.names.now) (map constructor_of c.in-Some.others.now)) c.spelling-text.result.now (constructors (around_of c.args.names.now c.args.resolver.now) (bounds c.args.names.now c.args.binders.now) (taken_of c.args.start (around_of c.args.names.now c.args.resolver.now)) (map (spelled_constructor c.args.names.now) (map constructor_of c.args.ctors.now)))
          (subst (λ (l : List SrcCtor). constructors_on (around_of c.args.names.now c.args.resolver.now) (bounds c.args.names.now c.args.binders.now) (taken_of c.ctors.given (around_of c.args.names.now c.args.resolver.now)) (map scoped.constructor_of c.ctors.done.items) (map (spelled_constructor c.args.names.now) (map constructor_of l)) ≡ constructors (around_of c.args.names.now c.args.resolver.now) (bounds c.args.names.now c.args.binders.now) (taken_of c.args.start (around_of c.args.names.now c.args.resolver.now)) (map (spelled_constructor c.args.names.now) (map constructor_of c.args.ctors.now))) here c.ctors.invariant.same)
          c.in-Ok.ensures c.in-Ok-add_ctor.ensures.done c.in-Ok-add_ctor.ensures.given word c.in-Ok-add_ctor.ensures.behind;
      given = names_next (given_names c.ctors.given) (given_names c.add_ctor.new.given) (spelled_constructor c.args.names.now (constructor_of c.in-Some.ctor.now)) (map (spelled_constructor c.args.names.now) (map constructor_of c.in-Some.others.now)) c.spelling-text.result.now (given_names c.args.start ++ constructor_names (map (spelled_constructor c.args.names.now) (map constructor_of c.args.ctors.now)))
          (subst (λ (l : List SrcCtor). given_names c.ctors.given ++ constructor_names (map (spelled_constructor c.args.names.now) (map constructor_of l)) ≡ given_names c.args.start ++ constructor_names (map (spelled_constructor c.args.names.now) (map constructor_of c.args.ctors.now))) here c.ctors.invariant.given)
          c.in-Ok-add_ctor.ensures.given word;
      behind = c.in-Ok-add_ctor.ensures.behind ∙ c.ctors.invariant.behind;
    }
