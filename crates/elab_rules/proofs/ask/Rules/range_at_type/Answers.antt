use Rattle.elab_model.specs.declared.codes.Code.TheVariants.{WantedKind}
use Rattle.elab_rules.specs.declared.place.At.TheVariants.{Whole}
use Rattle.elab_rules.proofs.Closing.{no_type_product, refused}
use Rattle.elab_rules.proofs.ask.Rules.range_at_type.Goals as goal

pub returns-in_default : goal.returns-in_default
returns-in_default c = rw (no_type_product c.form.result.now c.args.kind.now _ _ c.form.ensures.is c.in_default.not-Kpit) (refused _ c.args.self.now.env.now c.args.self.now.budget (Whole c.args.whole) WantedKind)
