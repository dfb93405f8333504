use Rattle.std.proofs.Common.{Ok, ◌∙◌, ap, inr, sym, subst}
use Rattle.cdle_model.specs.Forms.{at_, on}
use Rattle.elab_tree.specs.Forms.{guide_tree}
use Rattle.elab_convert.specs.declared.head.HeadMove.TheVariants as m
use Rattle.elab_convert.specs.declared.side.Arg.TheVariants as a
use Rattle.elab_convert.specs.declared.side.Erased.TheVariants as e
use Rattle.elab_convert.specs.declared.side.Root.TheVariants as r
use Rattle.elab_convert.specs.Bodies.{erased_bodies}
use Rattle.elab_convert.specs.Heads.{IsMove}
use Rattle.elab_convert.proofs.FormerHeads.{rest_is_former}
use Rattle.elab_convert.proofs.Steps.{former_still, variable_still, unwinds}
use Rattle.elab_convert.proofs.head.type_step.Goals as goal

pub returns-in-Var : goal.returns-in-Var
returns-in-Var c =
    subst (λ z. IsMove (erased_bodies c.args.env.now) z c.args.args.now.items c.args.left.now.left c.args.args.now.items c.args.left.now.left (Ok (m.Root (r.Variable c.in-Var.index))))
    (sym (sym c.form.ensures.is ∙ ap guide_tree c.in-Var.is)) (variable_still (erased_bodies c.args.env.now) c.in-Var.index c.args.args.now.items c.args.left.now.left)

pub returns-in-Name : goal.returns-in-Name
returns-in-Name c =
    subst (λ z. IsMove (erased_bodies c.args.env.now) z c.args.args.now.items c.args.left.now.left c.args.args.now.items c.unfold.new.left.left c.unfold.result)
    (sym (sym c.form.ensures.is ∙ ap guide_tree c.in-Name.is)) (c.unfold.ensures c.args.args.now.items)

pub returns-in-Tlam : goal.returns-in-Tlam
returns-in-Tlam c =
    subst (λ z. IsMove (erased_bodies c.args.env.now) z c.args.args.now.items c.args.left.now.left c.function_of_terms.new.args.items c.function_of_terms.new.left.left c.function_of_terms.result)
    (sym (sym c.form.ensures.is ∙ ap guide_tree c.in-Tlam.is)) (c.function_of_terms.ensures (erased_bodies c.args.env.now))

pub returns-in-Xtlam : goal.returns-in-Xtlam
returns-in-Xtlam c =
    subst (λ z. IsMove (erased_bodies c.args.env.now) z c.args.args.now.items c.args.left.now.left c.function_of_types.new.args.items c.function_of_types.new.left.left c.function_of_types.result)
    (sym (sym c.form.ensures.is ∙ ap guide_tree c.in-Xtlam.is)) (c.function_of_types.ensures (erased_bodies c.args.env.now))

pub returns-in_ok-clone-in-At-2 : goal.returns-in_ok-clone-in-At-2
returns-in_ok-clone-in-At-2 c =
    subst (λ z. IsMove (erased_bodies c.args.env.now) c.args.now.now c.args.args.now.items c.args.left.now.left z c.args.left.now.left (Ok (m.To (e.OfType c.in_ok-clone-in-At-2.field-0))))
    (sym c.in_ok-push-in-At.ensures.items)
    (unwinds (erased_bodies c.args.env.now) c.args.now.now (a.OfTerm c.in_ok-clone-in-At.field-0) c.args.args.now.items (e.OfType c.in_ok-clone-in-At-2.field-0) c.args.left.now.left
    ((sym c.form.ensures.is ∙ ap guide_tree c.in-At.is) ∙ ap (λ z. at_ z c.in-At.arg) (sym c.in_ok-clone-in-At-2.ensures.cases) ∙ ap (at_ c.in_ok-clone-in-At-2.field-0) (sym c.in_ok-clone-in-At.ensures.cases)))

pub returns-in_ok-clone-in-On-2 : goal.returns-in_ok-clone-in-On-2
returns-in_ok-clone-in-On-2 c =
    subst (λ z. IsMove (erased_bodies c.args.env.now) c.args.now.now c.args.args.now.items c.args.left.now.left z c.args.left.now.left (Ok (m.To (e.OfType c.in_ok-clone-in-On-2.field-0))))
    (sym c.in_ok-push-in-On.ensures.items)
    (unwinds (erased_bodies c.args.env.now) c.args.now.now (a.OfType c.in_ok-clone-in-On.field-0) c.args.args.now.items (e.OfType c.in_ok-clone-in-On-2.field-0) c.args.left.now.left
    ((sym c.form.ensures.is ∙ ap guide_tree c.in-On.is) ∙ ap (λ z. on z c.in-On.arg) (sym c.in_ok-clone-in-On-2.ensures.cases) ∙ ap (on c.in_ok-clone-in-On-2.field-0) (sym c.in_ok-clone-in-On.ensures.cases)))

pub returns-in_default : goal.returns-in_default
returns-in_default c =
    let k = rest_is_former c.form.result.now c.in_default.not-Var c.in_default.not-Name c.in_default.not-Tlam c.in_default.not-Xtlam c.in_default.not-At c.in_default.not-On in
    subst (λ z. IsMove (erased_bodies c.args.env.now) z c.args.args.now.items c.args.left.now.left c.args.args.now.items c.args.left.now.left (Ok m.Former))
    c.form.ensures.is (former_still (erased_bodies c.args.env.now) (guide_tree c.form.result.now) c.args.args.now.items c.args.left.now.left k.0 (inr k.1))
