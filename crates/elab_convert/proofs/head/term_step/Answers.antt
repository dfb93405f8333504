use Rattle.std.proofs.Common.{Ok, [], ◌∷◌, ◌++◌, ◌∙◌, ap, sym, subst}
use Rattle.cdle_model.specs.Forms.{ap as ap_tree}
use Rattle.elab_tree.specs.Forms.{pure_tree}
use Rattle.elab_convert.specs.declared.head.HeadMove.TheVariants as m
use Rattle.elab_convert.specs.declared.side.Arg.TheVariants as a
use Rattle.elab_convert.specs.declared.side.Erased.TheVariants as e
use Rattle.elab_convert.specs.declared.side.Root.TheVariants as r
use Rattle.elab_convert.specs.Bodies.{erased_bodies}
use Rattle.elab_convert.specs.Heads.{IsMove}
use Rattle.elab_convert.proofs.Steps.{variable_still, unwinds}
use Rattle.elab_convert.proofs.head.term_step.Goals as goal

pub returns-in-Var : goal.returns-in-Var
returns-in-Var c =
    subst (λ z. IsMove (erased_bodies c.args.env.now) z c.args.args.now.items c.args.left.now.left c.args.args.now.items c.args.left.now.left (Ok (m.Root (r.Variable c.in-Var.index))))
    (sym (sym c.form.ensures.is ∙ ap pure_tree c.in-Var.is)) (variable_still (erased_bodies c.args.env.now) c.in-Var.index c.args.args.now.items c.args.left.now.left)

pub returns-in-Name : goal.returns-in-Name
returns-in-Name c =
    subst (λ z. IsMove (erased_bodies c.args.env.now) z c.args.args.now.items c.args.left.now.left c.args.args.now.items c.unfold.new.left.left c.unfold.result)
    (sym (sym c.form.ensures.is ∙ ap pure_tree c.in-Name.is)) (c.unfold.ensures c.args.args.now.items)

pub returns-in-Some-OfPure : goal.returns-in-Some-OfPure
returns-in-Some-OfPure c =
    subst (λ z. IsMove (erased_bodies c.args.env.now) c.args.now.now z c.args.left.now.left c.pop.new.self.items c.contract.new.left.left c.contract.result)
    (sym (c.in-Some-OfPure.ensures.items ∙ ap (λ z. c.pop.new.self.items ++ z ∷ []) c.in-Some-OfPure.field-0-is))
    (subst (λ z. IsMove (erased_bodies c.args.env.now) z (c.pop.new.self.items ++ a.OfPure c.in-Some-OfPure.arg ∷ []) c.args.left.now.left c.pop.new.self.items c.contract.new.left.left c.contract.result)
    (sym (sym c.form.ensures.is ∙ ap pure_tree c.in-Function.is)) (c.contract.ensures (erased_bodies c.args.env.now) c.pop.new.self.items))

pub returns : goal.returns
returns c =
    subst (λ z. IsMove (erased_bodies c.args.env.now) c.args.now.now c.args.args.now.items c.args.left.now.left z c.args.left.now.left (Ok (m.To (e.Term c.in_ok-clone-in-Ap-2.field-0))))
    (sym c.in_ok-push-in-Ap.ensures.items)
    (unwinds (erased_bodies c.args.env.now) c.args.now.now (a.OfPure c.in_ok-clone-in-Ap.field-0) c.args.args.now.items (e.Term c.in_ok-clone-in-Ap-2.field-0) c.args.left.now.left
    ((sym c.form.ensures.is ∙ ap pure_tree c.in-Ap.is) ∙ ap (λ z. ap_tree z c.in-Ap.arg) (sym c.in_ok-clone-in-Ap-2.ensures.cases) ∙ ap (ap_tree c.in_ok-clone-in-Ap-2.field-0) (sym c.in_ok-clone-in-Ap.ensures.cases)))
