use Rattle.std.proofs.Common.{ℕ, List, sym, ap, ◌∙◌}
use Rattle.cdle_model.specs.Forms.{def_item}
use Rattle.elab_check.specs.Items.{definition_of}
use Rattle.elab_model.specs.Items.{found_then}
use Rattle.elab_model.specs.Questions.{answer, found}
use Rattle.elab_reduce.specs.Items.{env_of}
use Rattle.elab_item.proofs.Parts.{by_definition, fault_then}
use Rattle.elab_item.proofs.item.term_item.Goals as goal

pub returns-in_ok-name-in-Ok : goal.returns-in_ok-name-in-Ok
returns-in_ok-name-in-Ok c = λ s.
    by_definition (env_of c.args.env.now) c.args.units s c.args.name.now c.args.ty.now c.args.body.now
    ∙ ap (λ r. found_then r (λ y. found (def_item c.args.name.now y.0 y.1))) c.in-Ok.ensures
    ∙ ap (λ (x : List ℕ). found (def_item x c.in-Ok.ty c.in-Ok.body)) (sym (c.in_ok-name-in-Ok.ensures ∙ c.as_str.ensures))

pub returns-in-Err : goal.returns-in-Err
returns-in-Err c = λ s.
    let e = env_of c.args.env.now in
    c.of.ensures _ (fault_then (answer e c.args.units (definition_of e c.args.ty.now c.args.body.now)) _ _ (by_definition e c.args.units s c.args.name.now c.args.ty.now c.args.body.now) c.in-Err.fault c.in-Err.ensures)
