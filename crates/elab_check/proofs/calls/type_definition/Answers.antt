use Rattle.elab_reduce.specs.Items.{env_of}
use Rattle.elab_check.specs.Items.{type_definition_of}
use Rattle.elab_check.proofs.Told.{elaborated, refused_so}
use Rattle.elab_check.proofs.calls.type_definition.Goals as goal

pub returns-in-Ok : goal.returns-in-Ok
returns-in-Ok c = elaborated c.args.env.now c.args.units (type_definition_of (env_of c.args.env.now) c.args.kind.now c.args.body.now) c.in-Ok.found c.in-Ok.ensures

pub returns-in-Err : goal.returns-in-Err
returns-in-Err c = refused_so c.args.env.now c.args.units (type_definition_of (env_of c.args.env.now) c.args.kind.now c.args.body.now) c.in-Err.fault c.told.result c.told.ensures c.in-Err.ensures
