use Rattle.std.proofs.Common.{◌≡◌, List, Ok, subst}
use Rattle.scope_model.specs.Scope.{scoped_module}
use Rattle.scope_model.specs.ScopeNames.{Exported}
use Rattle.scoped_tree.specs.Items.{module_of as scoped_of}
use Rattle.surf_scope.specs.Modules.{spelled_module}
use Rattle.surf_tree.specs.Items.{module_of}
use Rattle.build_module.proofs.module.resolved_text.Goals as goal

pub returns-in-Ok : goal.returns-in-Ok
returns-in-Ok c = λ bytes name s. c.built_text.ensures c.args.names.now bytes name s
    (subst (λ (k : List Exported). scoped_module k (spelled_module c.args.names.now (module_of c.args.source.now)) ≡ Ok (scoped_of c.in-Ok.scoped)) c.new.ensures c.in-Ok.ensures.resolved.scope)
