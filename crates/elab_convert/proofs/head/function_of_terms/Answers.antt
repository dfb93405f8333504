use Rattle.std.proofs.Common.{[], ◌∷◌, ◌++◌, ◌∙◌, ap, arith, sym, subst}
use Rattle.cdle_model.specs.Forms.{guide_tlam}
use Rattle.elab_convert.specs.declared.side.Arg.TheVariants as a
use Rattle.elab_convert.specs.Heads.{IsMove}
use Rattle.elab_convert.proofs.Steps.{stuck_at}
use Rattle.elab_convert.proofs.head.function_of_terms.Goals as goal

pub returns-in-Some-OfTerm : goal.returns-in-Some-OfTerm
returns-in-Some-OfTerm c s =
    subst (λ z. IsMove s (guide_tlam c.args.body.now) z c.args.left.now.left c.pop.new.self.items c.contract_at.new.left.left c.contract_at.result)
    (sym (c.in-Some-OfTerm.ensures.items ∙ ap (λ z. c.pop.new.self.items ++ z ∷ []) c.in-Some-OfTerm.field-0-is)) (c.contract_at.ensures s c.pop.new.self.items)

pub returns-in-Some-OfPure : goal.returns-in-Some-OfPure
returns-in-Some-OfPure c s =
    subst (λ z. IsMove s (guide_tlam c.args.body.now) z c.args.left.now.left c.put_back.new.args.items c.args.left.now.left c.put_back.result)
    (sym (c.in-Some-OfPure.ensures.items ∙ ap (λ z. c.pop.new.self.items ++ z ∷ []) c.in-Some-OfPure.field-0-is))
    (c.put_back.ensures s (guide_tlam c.args.body.now) c.args.left.now.left (stuck_at s c.args.body.now (a.OfPure c.in-Some-OfPure.arg) c.pop.new.self.items (λ t e. grind arith) c.args.left.now.left))

pub returns-in-Some-OfType : goal.returns-in-Some-OfType
returns-in-Some-OfType c s =
    subst (λ z. IsMove s (guide_tlam c.args.body.now) z c.args.left.now.left c.put_back-in-Some-OfType.new.args.items c.args.left.now.left c.put_back-in-Some-OfType.result)
    (sym (c.in-Some-OfType.ensures.items ∙ ap (λ z. c.pop.new.self.items ++ z ∷ []) c.in-Some-OfType.field-0-is))
    (c.put_back-in-Some-OfType.ensures s (guide_tlam c.args.body.now) c.args.left.now.left (stuck_at s c.args.body.now (a.OfType c.in-Some-OfType.arg) c.pop.new.self.items (λ t e. grind arith) c.args.left.now.left))
