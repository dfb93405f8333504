use Rattle.std.proofs.Common.{Ok, Err, subst}
use Rattle.std.proofs.lemmas.Result.{err_from_is_err_and}
use Rattle.elab_model.specs.Questions.{limited}
use Rattle.elab_rules.specs.Answers.{Meets}
use Rattle.scoped_tree.specs.Trees.{place}
use Rattle.elab_rules.proofs.Steps.{given, no_memory}
use Rattle.elab_rules.proofs.Endings.{low_on, low_ends}
use Rattle.elab_rules.proofs.ask.Rules.kind_of_terms.Goals as goal

pub returns-in_err-product : goal.returns-in_err-product
returns-in_err-product c = let p = err_from_is_err_and c.from_residual.result c.from_residual.ensures.1 in rw (p.1, p.2) (no_memory _ _ _)

pub returns-in_err-low : goal.returns-in_err-low
returns-in_err-low c = let p = err_from_is_err_and c.from_residual-in_err-low.result c.from_residual-in_err-low.ensures.1 in rw (p.1, p.2) (subst (λ z. Meets c.args.self.now.env.now c.args.self.now.budget (limited (place c.args.form) z) (Err c.in_err-low.field-0.0)) c.in_ok-product.ensures (low_ends c.args.self.now.env.now c.args.self.now.budget (place c.args.form) c.in_ok-product.product c.depth.result _ _ c.depth.ensures.is c.in_err-low.ensures))

pub returns : goal.returns
returns c = subst (λ z. Meets c.args.self.now.env.now c.args.self.now.budget (limited (place c.args.form) z) (Ok c.in_ok-product.product)) c.in_ok-product.ensures (low_on c.args.self.now.env.now c.args.self.now.budget (place c.args.form) c.in_ok-product.product c.depth.result _ _ c.depth.ensures.is c.in_ok-low.ensures (given c.args.self.now.env.now c.args.self.now.budget _))
