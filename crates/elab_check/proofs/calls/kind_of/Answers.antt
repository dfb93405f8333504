use Rattle.std.proofs.Common.{List, Ok, Err, subst}
use Rattle.cdle_model.specs.Derivation.{Entry}
use Rattle.elab_model.specs.Rules.{type as type_in}
use Rattle.elab_model.specs.Soundness.{no_encodings}
use Rattle.elab_reduce.specs.Items.{env_of}
use Rattle.elab_rules.specs.Answers.{Meets}
use Rattle.elab_check.specs.Contexts.{entries_of}
use Rattle.elab_check.proofs.Told.{elaborated, refused_so}
use Rattle.elab_check.proofs.calls.kind_of.Goals as goal

pub returns-in-Ok : goal.returns-in-Ok
returns-in-Ok c = elaborated c.args.ctx.now.env.now c.args.units (type_in (env_of c.args.ctx.now.env.now) no_encodings (entries_of c.args.ctx.now) c.args.src.now) c.in-Ok.found (subst (λ (z : List Entry). Meets c.args.ctx.now.env.now c.args.units (type_in (env_of c.args.ctx.now.env.now) no_encodings z c.args.src.now) (Ok c.in-Ok.found)) c.context.ensures c.in-Ok.ensures)

pub returns-in-Err : goal.returns-in-Err
returns-in-Err c = refused_so c.args.ctx.now.env.now c.args.units (type_in (env_of c.args.ctx.now.env.now) no_encodings (entries_of c.args.ctx.now) c.args.src.now) c.in-Err.fault c.told.result c.told.ensures (subst (λ (z : List Entry). Meets c.args.ctx.now.env.now c.args.units (type_in (env_of c.args.ctx.now.env.now) no_encodings z c.args.src.now) (Err c.in-Err.fault)) c.context.ensures c.in-Err.ensures)
