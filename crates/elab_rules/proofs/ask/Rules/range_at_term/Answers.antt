use Rattle.elab_model.specs.declared.codes.Code.TheVariants.{WantedKind}
use Rattle.elab_rules.specs.declared.place.At.TheVariants.{Whole}
use Rattle.elab_rules.proofs.Closing.{no_term_product, refused}
use Rattle.elab_rules.proofs.ask.Rules.range_at_term.Goals as goal

pub returns-in_default : goal.returns-in_default
returns-in_default c = rw (no_term_product c.form.result.now c.args.kind.now _ _ c.form.ensures.is c.in_default.not-Kpi) (refused _ c.args.self.now.env.now c.args.self.now.budget (Whole c.args.whole) WantedKind)
