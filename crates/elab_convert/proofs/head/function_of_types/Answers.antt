use Rattle.std.proofs.Common.{[], ◌∷◌, ◌++◌, ◌∙◌, ap, arith, sym, subst}
use Rattle.cdle_model.specs.Forms.{guide_xtlam}
use Rattle.elab_convert.specs.declared.side.Arg.TheVariants as a
use Rattle.elab_convert.specs.Heads.{IsMove}
use Rattle.elab_convert.proofs.Steps.{stuck_on}
use Rattle.elab_convert.proofs.head.function_of_types.Goals as goal

pub returns-in-Some-OfType : goal.returns-in-Some-OfType
returns-in-Some-OfType c s =
    subst (λ z. IsMove s (guide_xtlam c.args.body.now) z c.args.left.now.left c.pop.new.self.items c.contract_on.new.left.left c.contract_on.result)
    (sym (c.in-Some-OfType.ensures.items ∙ ap (λ z. c.pop.new.self.items ++ z ∷ []) c.in-Some-OfType.field-0-is)) (c.contract_on.ensures s c.pop.new.self.items)

pub returns-in-Some-OfPure : goal.returns-in-Some-OfPure
returns-in-Some-OfPure c s =
    subst (λ z. IsMove s (guide_xtlam c.args.body.now) z c.args.left.now.left c.put_back.new.args.items c.args.left.now.left c.put_back.result)
    (sym (c.in-Some-OfPure.ensures.items ∙ ap (λ z. c.pop.new.self.items ++ z ∷ []) c.in-Some-OfPure.field-0-is))
    (c.put_back.ensures s (guide_xtlam c.args.body.now) c.args.left.now.left (stuck_on s c.args.body.now (a.OfPure c.in-Some-OfPure.arg) c.pop.new.self.items (λ t e. grind arith) c.args.left.now.left))

pub returns-in-Some-OfTerm : goal.returns-in-Some-OfTerm
returns-in-Some-OfTerm c s =
    subst (λ z. IsMove s (guide_xtlam c.args.body.now) z c.args.left.now.left c.put_back-in-Some-OfTerm.new.args.items c.args.left.now.left c.put_back-in-Some-OfTerm.result)
    (sym (c.in-Some-OfTerm.ensures.items ∙ ap (λ z. c.pop.new.self.items ++ z ∷ []) c.in-Some-OfTerm.field-0-is))
    (c.put_back-in-Some-OfTerm.ensures s (guide_xtlam c.args.body.now) c.args.left.now.left (stuck_on s c.args.body.now (a.OfTerm c.in-Some-OfTerm.arg) c.pop.new.self.items (λ t e. grind arith) c.args.left.now.left))
