use Rattle.std.proofs.Common.{false}
use Rattle.std.proofs.lemmas.Result.{err_from_is_err_and}
use Rattle.elab_model.specs.Questions.{gives, rejects}
use Rattle.elab_model.specs.Spines.{equation_parts}
use Rattle.elab_model.specs.declared.codes.Code.TheVariants.{WantedEquation}
use Rattle.scoped_tree.specs.Trees.{place}
use Rattle.elab_rules.specs.Places.{spot}
use Rattle.elab_rules.proofs.Steps.{head_on, head_ends}
use Rattle.elab_rules.proofs.ask.Rules.sides.Goals as goal

pub returns-in_err-head : goal.returns-in_err-head
returns-in_err-head c = let p = err_from_is_err_and c.from_residual.result c.from_residual.ensures.1 in rw (p.1, p.2) (head_ends c.args.self.now.env.now c.args.self.now.budget (place c.args.form) (spot c.args.at) false c.args.ty.now (λ h. equation_parts h (λ x y. gives (x, y)) (rejects (spot c.args.at) WantedEquation)) _ c.in_err-head.ensures)

pub returns : goal.returns
returns c = head_on c.args.self.now.env.now c.args.self.now.budget (place c.args.form) (spot c.args.at) false c.args.ty.now (λ h. equation_parts h (λ x y. gives (x, y)) (rejects (spot c.args.at) WantedEquation)) _ _ c.in_ok-head.ensures c.two_sides.ensures
