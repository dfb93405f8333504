use Rattle.std.proofs.Common.{false}
use Rattle.std.proofs.lemmas.Result.{err_from_is_err_and}
use Rattle.elab_model.specs.Questions.{gives, rejects}
use Rattle.elab_model.specs.Rules.{either_product}
use Rattle.elab_model.specs.declared.codes.Code.TheVariants.{WantedFunction}
use Rattle.scoped_tree.specs.Trees.{place}
use Rattle.elab_rules.specs.Places.{spot}
use Rattle.elab_rules.specs.Endings.{over_term, over_type}
use Rattle.elab_rules.proofs.Steps.{head_on, head_ends}
use Rattle.elab_rules.proofs.ask.Rules.either_parts.Goals as goal

pub returns-in_err-head : goal.returns-in_err-head
returns-in_err-head c = let p = err_from_is_err_and c.from_residual.result c.from_residual.ensures.1 in rw (p.1, p.2) (head_ends c.args.self.now.env.now c.args.self.now.budget (place c.args.form) (spot c.args.at) false c.args.ty.now (λ h. either_product h (λ d b. gives (over_term d b)) (λ d b. gives (over_type d b)) (rejects (spot c.args.at) WantedFunction)) _ c.in_err-head.ensures)

pub returns : goal.returns
returns c = head_on c.args.self.now.env.now c.args.self.now.budget (place c.args.form) (spot c.args.at) false c.args.ty.now (λ h. either_product h (λ d b. gives (over_term d b)) (λ d b. gives (over_type d b)) (rejects (spot c.args.at) WantedFunction)) _ _ c.in_ok-head.ensures c.product.ensures
