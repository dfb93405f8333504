use Rattle.std.proofs.Common.{refl}
use Rattle.core_compare.proofs.Settling.{settled_functions, settled_left, settled_right, settled_by, variables_differ, settled_formers, formers_differ, variable_former, former_against}
use Rattle.core_compare.proofs.settle.settle.Goals as goal

pub returns-in_ok-put_bodies-in-Fun-Fun : goal.returns-in_ok-put_bodies-in-Fun-Fun
returns-in_ok-put_bodies-in-Fun-Fun c =
    let e = c.in_ok-put_bodies-in-Fun-Fun.ensures in
    rw (c.in-Fun-Fun.is-0, c.in-Fun-Fun.is-1)
    (settled_functions c.args.binders c.in-Fun-Fun.field-0-0 c.in-Fun-Fun.field-0-1 c.args.pairs.now.items c.put_bodies.new.pairs.items e.0
    (rw (c.in-Fun-Fun.is-0, c.in-Fun-Fun.is-1) at e.1))

pub returns-in_ok-put_bodies-in-Fun-Var : goal.returns-in_ok-put_bodies-in-Fun-Var
returns-in_ok-put_bodies-in-Fun-Var c =
    let e = c.in_ok-put_bodies-in-Fun-Var.ensures in
    rw (c.in-Fun-Var.is-0, c.in-Fun-Var.is-1)
    (settled_left c.args.binders c.in-Fun-Var.field-0-0 c.in-Fun-Var.var-1 c.in-Fun-Var.args-1 c.args.pairs.now.items c.put_bodies-in-Fun-Var.new.pairs.items e.0
    (rw (c.in-Fun-Var.is-0, c.in-Fun-Var.is-1) at e.1))

pub returns-in_ok-put_bodies-in-Var-Fun : goal.returns-in_ok-put_bodies-in-Var-Fun
returns-in_ok-put_bodies-in-Var-Fun c =
    let e = c.in_ok-put_bodies-in-Var-Fun.ensures in
    rw (c.in-Var-Fun.is-0, c.in-Var-Fun.is-1)
    (settled_right c.args.binders c.in-Var-Fun.var-0 c.in-Var-Fun.args-0 c.in-Var-Fun.field-0-1 c.args.pairs.now.items c.put_bodies-in-Var-Fun.new.pairs.items e.0
    (rw (c.in-Var-Fun.is-0, c.in-Var-Fun.is-1) at e.1))

pub returns-then-i-j : goal.returns-then-i-j
returns-then-i-j c = rw (c.in-Var-Var.is-0, c.in-Var-Var.is-1) (variables_differ c.in-Var-Var.i c.in-Var-Var.j c.in-Var-Var.xs c.in-Var-Var.ys (λ e d. c.if-i-j.true e))

pub returns-else-i-j : goal.returns-else-i-j
returns-else-i-j c =
    rw (c.in-Var-Var.is-0, c.in-Var-Var.is-1)
    (settled_by c.args.binders c.in-Var-Var.i c.in-Var-Var.j c.in-Var-Var.xs c.in-Var-Var.ys c.args.pairs.now.items c.put_arguments.new.pairs.items c.put_arguments.result
    c.requires.few c.if-i-j.false c.put_arguments.ensures)

pub returns-then-not-same_former : goal.returns-then-not-same_former
returns-then-not-same_former c =
    rw (c.in-Former-Former.is-0, c.in-Former-Former.is-1)
    (formers_differ c.in-Former-Former.f c.in-Former-Former.g c.in-Former-Former.ps c.in-Former-Former.qs (λ e. let t = c.if-not-same_former.ensures.1 e in cc))

pub returns-in_ok-put_parts-in-Former-Former : goal.returns-in_ok-put_parts-in-Former-Former
returns-in_ok-put_parts-in-Former-Former c =
    let m = c.in_ok-one_more-in-Former-Former.ensures in
    rw (c.in-Former-Former.is-0, c.in-Former-Former.is-1)
    (settled_formers c.args.binders c.in_ok-one_more-in-Former-Former.field-0 c.in-Former-Former.f c.in-Former-Former.g c.in-Former-Former.ps c.in-Former-Former.qs
    c.args.pairs.now.items c.put_parts.new.pairs.items m.0 m.1 (c.if-not-same_former.ensures.0 refl) c.in_ok-put_parts-in-Former-Former.ensures)

pub returns-in-Var-Former : goal.returns-in-Var-Former
returns-in-Var-Former c =
    rw (c.in-Var-Former.is-0, c.in-Var-Former.is-1) (variable_former c.in-Var-Former.var-0 c.in-Var-Former.args-0 c.in-Var-Former.former-1 c.in-Var-Former.parts-1)

pub returns-in-Former-Var : goal.returns-in-Former-Var
returns-in-Former-Var c =
    rw (c.in-Former-Var.is-0, c.in-Former-Var.is-1) (former_against c.in-Former-Var.former-0 c.in-Former-Var.parts-0 c.in-Former-Var.var-1 c.in-Former-Var.args-1)
