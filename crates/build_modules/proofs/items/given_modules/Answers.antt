use Rattle.std.proofs.Common.{◌∙◌}
use Rattle.elab_reduce.specs.Items.{env_of}
use Rattle.build_modules.proofs.Given.{given_stops}
use Rattle.build_modules.proofs.items.given_modules.Goals as goal

pub returns-in-Err : goal.returns-in-Err
returns-in-Err c =
    given_stops c.args.budget c.args.scoped.now c.modules.rest.now c.in-Some.others.now c.in-Some.module.now c.modules.given.items (env_of c.modules.env) c.len.result c.in-Err.fault c.modules.invariant.same c.in-Some.ensures.cases.0
    (c.len.ensures ∙ c.modules.given.ok.0) c.in-Err.ensures
