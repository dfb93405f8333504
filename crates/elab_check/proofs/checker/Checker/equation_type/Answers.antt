use Rattle.std.proofs.lemmas.Result.{err_from_is_err_and}
use Rattle.cdle_model.specs.Forms.{eq, star}
use Rattle.cdle_model.specs.Trees.{Tree}
use Rattle.elab_model.specs.Questions.{then}
use Rattle.elab_model.specs.Rules.{erase, gives_type}
use Rattle.elab_model.specs.Soundness.{no_encodings}
use Rattle.elab_reduce.specs.Items.{env_of}
use Rattle.elab_rules.proofs.Steps.{goes_on, ends}
use Rattle.scoped_tree.specs.Trees.{place}
use Rattle.elab_check.proofs.checker.Checker.equation_type.Goals as goal

pub returns-in_err-left : goal.returns-in_err-left
returns-in_err-left c = let p = err_from_is_err_and c.from_residual.result c.from_residual.ensures.1 in rw (p.1, p.2) (λ d. ends c.args.self.now.rules.env.now c.args.self.now.rules.budget (erase (env_of c.args.self.now.rules.env.now) no_encodings c.args.left.now) (λ (x : Tree). then (erase (env_of c.args.self.now.rules.env.now) no_encodings c.args.right.now) (λ (y : Tree). gives_type (place c.args.span) (eq x y) star)) _ c.in_err-left.ensures)

pub returns-in_err-right : goal.returns-in_err-right
returns-in_err-right c = let p = err_from_is_err_and c.from_residual-in_err-right.result c.from_residual-in_err-right.ensures.1 in rw (p.1, p.2) (λ d. goes_on c.args.self.now.rules.env.now c.args.self.now.rules.budget (erase (env_of c.args.self.now.rules.env.now) no_encodings c.args.left.now) (λ (x : Tree). then (erase (env_of c.args.self.now.rules.env.now) no_encodings c.args.right.now) (λ (y : Tree). gives_type (place c.args.span) (eq x y) star)) c.in_ok-left.left _ c.in_ok-left.ensures (ends c.args.self.now.rules.env.now c.args.self.now.rules.budget (erase (env_of c.args.self.now.rules.env.now) no_encodings c.args.right.now) (λ (y : Tree). gives_type (place c.args.span) (eq c.in_ok-left.left y) star) _ c.in_err-right.ensures))

pub returns : goal.returns
returns c = λ d. goes_on c.args.self.now.rules.env.now c.args.self.now.rules.budget (erase (env_of c.args.self.now.rules.env.now) no_encodings c.args.left.now) (λ (x : Tree). then (erase (env_of c.args.self.now.rules.env.now) no_encodings c.args.right.now) (λ (y : Tree). gives_type (place c.args.span) (eq x y) star)) c.in_ok-left.left _ c.in_ok-left.ensures (goes_on c.args.self.now.rules.env.now c.args.self.now.rules.budget (erase (env_of c.args.self.now.rules.env.now) no_encodings c.args.right.now) (λ (y : Tree). gives_type (place c.args.span) (eq c.in_ok-left.left y) star) c.in_ok-right.right _ c.in_ok-right.ensures c.equation.ensures)
