use Rattle.std.proofs.Common.{◌∙◌, map, refl}
use Rattle.std.proofs.lemmas.List.{map_push}
use Rattle.surf_tree.specs.Items.{constructor_of}
use Rattle.surf_parse.proofs.Ahead.{pred_is}
use Rattle.surf_parse.proofs.data.constructors.Goals as goal

pub constructors-preserved : goal.constructors-preserved
constructors-preserved c = λ vs.
    let p = c.in_ok-constructor.ensures.repeats (map constructor_of c.constructors.list.items) vs in
    let q = rw c.in-Some.is at p in
    c.constructors.invariant vs ∙ q ∙ rw (c.in_ok-push.ensures.items, map_push constructor_of c.constructors.list.items c.in-Some.constructor, pred_is c.constructors.room) refl

pub returns : goal.returns
returns c = λ vs.
    let p = c.in_ok-constructor.ensures.repeats (map constructor_of c.constructors.list.items) vs in
    let q = rw c.in_default.is at p in
    c.constructors.invariant vs ∙ q
