use Rattle.std.proofs.Common.{◌∙◌, map, refl}
use Rattle.std.proofs.lemmas.List.{map_push}
use Rattle.surf_tree.specs.Items.{parameter_of}
use Rattle.surf_parse.proofs.Ahead.{pred_is}
use Rattle.surf_parse.proofs.data.parameters.Goals as goal

pub parameters-preserved : goal.parameters-preserved
parameters-preserved c = λ vs.
    let p = c.in_ok-parameter.ensures.repeats (map parameter_of c.parameters.list.items) vs in
    let q = rw c.in-Some.is at p in
    c.parameters.invariant vs ∙ q ∙ rw (c.in_ok-push.ensures.items, map_push parameter_of c.parameters.list.items c.in-Some.parameter, pred_is c.parameters.room) refl

pub returns : goal.returns
returns c = λ vs.
    let p = c.in_ok-parameter.ensures.repeats (map parameter_of c.parameters.list.items) vs in
    let q = rw c.in_default.is at p in
    c.parameters.invariant vs ∙ q
