use Rattle.std.proofs.Common.{◌∙◌, [], Ok, ap, map, refl}
use Rattle.surf_tree.specs.Items.{import_of}
use Rattle.surf_parse.proofs.module.imports.Goals as goal

pub imports-smaller : goal.imports-smaller
imports-smaller c = c.in_ok-name.ensures.ahead (c.in-Some.name, c.in-Some.next) (ap (λ o. Ok o) c.in-Some.is)

pub imports-preserved : goal.imports-preserved
imports-preserved c = λ x vs.
    let p = c.in_ok-name.ensures.repeats (record { name = x; imports = map import_of c.imports.list.items; items = [] }) vs in
    let q = rw c.in-Some.is at p in
    c.imports.invariant x vs ∙ q ∙ rw c.in_ok-add_import.ensures refl

pub returns : goal.returns
returns c = λ x vs.
    let p = c.in_ok-name.ensures.repeats (record { name = x; imports = map import_of c.imports.list.items; items = [] }) vs in
    let q = rw c.in_default.is at p in
    c.imports.invariant x vs ∙ q
