use Rattle.std.proofs.Common.{◌≡◌, ◌∙◌, List, Ok, Err, subst}
use Rattle.scope_model.specs.Scope.{scoped_module, with_module}
use Rattle.scope_model.specs.ScopeNames.{Text}
use Rattle.scoped_tree.specs.Items.{module_of as scoped_of}
use Rattle.surf_scope.specs.Exports.{known}
use Rattle.surf_scope.specs.Modules.{spelled_module}
use Rattle.surf_scope.specs.Resolved.{IsResolved}
use Rattle.surf_tree.specs.Items.{module_of}
use Rattle.build_modules.proofs.Scoping.{scope_fault, scope_goes_on}
use Rattle.build_modules.proofs.InOrder.{next_in_order}
use Rattle.build_modules.proofs.scope.scoped_modules.Goals as goal

pub returns-in-Err-clause-scoped : goal.returns-in-Err-clause-scoped
returns-in-Err-clause-scoped c =
    let m = module_of c.in_ok-module.module.now in
    scope_fault _ _ _ (spelled_module c.args.names.now m) (known c.modules.exports) c.modules.scoped.items c.in-Err.fault c.len-module.result c.modules.invariant.same
    (next_in_order (λ m. spelled_module c.args.names.now (module_of m)) c.args.modules.now c.in-Some.number.now c.in_ok-module.module.now c.modules.rest.now c.in-Some.others.now c.in-Some.ensures.cases.0 c.in_ok-module.ensures)
    (subst (λ (names : List Text). IsResolved (known c.modules.exports) (spelled_module names m) (Err c.in-Err.fault)) c.modules.invariant.names c.in-Err.ensures.resolved) (c.len-module.ensures ∙ c.modules.scoped.ok.0)

pub modules-preserved : goal.modules-preserved
modules-preserved c =
    let m = module_of c.in_ok-module.module.now in
    record {
      same = scope_goes_on _ _ _ (spelled_module c.args.names.now m) (known c.modules.exports) (known c.next_module.new.exports) c.modules.scoped.items c.push.new.self.items c.in-Ok.next c.modules.invariant.same
          (next_in_order (λ m. spelled_module c.args.names.now (module_of m)) c.args.modules.now c.in-Some.number.now c.in_ok-module.module.now c.modules.rest.now c.in-Some.others.now c.in-Some.ensures.cases.0 c.in_ok-module.ensures)
          (subst (λ (names : List Text). scoped_module (known c.modules.exports) (spelled_module names m) ≡ Ok (scoped_of c.in-Ok.next)) c.modules.invariant.names c.in-Ok.ensures.resolved.scope)
          (subst (λ (names : List Text). known c.next_module.new.exports ≡ with_module (known c.modules.exports) (spelled_module names m)) c.modules.invariant.names c.in-Ok.ensures.known)
          c.in_ok-push-in-Ok.ensures.items;
      names = c.next_module.ensures.names ∙ c.modules.invariant.names;
    }
