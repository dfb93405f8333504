use Rattle.std.proofs.lemmas.Result.{err_from_is_err_and}
use Rattle.cdle_model.specs.Trees.{Tree}
use Rattle.elab_model.specs.Questions.{then}
use Rattle.elab_model.specs.Rules.{erase}
use Rattle.elab_model.specs.ScopedForms.{letter}
use Rattle.elab_model.specs.Soundness.{no_encodings}
use Rattle.elab_reduce.specs.Items.{env_of}
use Rattle.elab_rules.specs.Equations.{reflexive_against}
use Rattle.elab_rules.proofs.Steps.{goes_on, ends}
use Rattle.scoped_tree.specs.Trees.{place}
use Rattle.elab_check.proofs.Rewriting.{equation_on, equation_ends}
use Rattle.elab_check.proofs.checker.Checker.reflexive_against.Goals as goal

pub returns-in_err-sides : goal.returns-in_err-sides
returns-in_err-sides c = let p = err_from_is_err_and c.from_residual.result c.from_residual.ensures.1 in rw (p.1, p.2) (equation_ends (place c.args.span) (letter (place c.args.span)) c.args.goal.now (λ (x y : Tree). then (erase (env_of c.args.self.now.rules.env.now) no_encodings c.args.kept.now) (λ (k : Tree). reflexive_against (place c.args.span) (x, y) k)) c.args.self.now.rules.env.now c.args.self.now.rules.budget _ c.in_err-sides.ensures)

pub returns-in_err-kept : goal.returns-in_err-kept
returns-in_err-kept c = let p = err_from_is_err_and c.from_residual-in_err-kept.result c.from_residual-in_err-kept.ensures.1 in rw (p.1, p.2) (equation_on (place c.args.span) (letter (place c.args.span)) c.args.goal.now (λ (x y : Tree). then (erase (env_of c.args.self.now.rules.env.now) no_encodings c.args.kept.now) (λ (k : Tree). reflexive_against (place c.args.span) (x, y) k)) c.args.self.now.rules.env.now c.args.self.now.rules.budget c.in_ok-sides.sides _ c.in_ok-sides.ensures (ends c.args.self.now.rules.env.now c.args.self.now.rules.budget (erase (env_of c.args.self.now.rules.env.now) no_encodings c.args.kept.now) (λ (k : Tree). reflexive_against (place c.args.span) c.in_ok-sides.sides k) _ c.in_err-kept.ensures))

pub returns : goal.returns
returns c = equation_on (place c.args.span) (letter (place c.args.span)) c.args.goal.now (λ (x y : Tree). then (erase (env_of c.args.self.now.rules.env.now) no_encodings c.args.kept.now) (λ (k : Tree). reflexive_against (place c.args.span) (x, y) k)) c.args.self.now.rules.env.now c.args.self.now.rules.budget c.in_ok-sides.sides _ c.in_ok-sides.ensures (goes_on c.args.self.now.rules.env.now c.args.self.now.rules.budget (erase (env_of c.args.self.now.rules.env.now) no_encodings c.args.kept.now) (λ (k : Tree). reflexive_against (place c.args.span) c.in_ok-sides.sides k) c.in_ok-kept.kept _ c.in_ok-kept.ensures c.reflexive_against.ensures)
