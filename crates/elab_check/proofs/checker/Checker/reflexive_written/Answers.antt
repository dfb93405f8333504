use Rattle.std.proofs.lemmas.Result.{err_from_is_err_and}
use Rattle.cdle_model.specs.Trees.{Tree}
use Rattle.elab_model.specs.Questions.{then}
use Rattle.elab_model.specs.Rules.{erase}
use Rattle.elab_model.specs.Soundness.{no_encodings}
use Rattle.elab_reduce.specs.Items.{env_of}
use Rattle.elab_rules.specs.Equations.{reflexive}
use Rattle.elab_rules.proofs.Steps.{goes_on, ends}
use Rattle.scoped_tree.specs.Trees.{place}
use Rattle.elab_check.proofs.checker.Checker.reflexive_written.Goals as goal

pub returns-in_err-side : goal.returns-in_err-side
returns-in_err-side c = let p = err_from_is_err_and c.from_residual.result c.from_residual.ensures.1 in rw (p.1, p.2) (ends c.args.self.now.rules.env.now c.args.self.now.rules.budget (erase (env_of c.args.self.now.rules.env.now) no_encodings c.args.side.now) (λ (x : Tree). then (erase (env_of c.args.self.now.rules.env.now) no_encodings c.args.kept.now) (λ (k : Tree). reflexive (place c.args.span) x k)) _ c.in_err-side.ensures)

pub returns-in_err-kept : goal.returns-in_err-kept
returns-in_err-kept c = let p = err_from_is_err_and c.from_residual-in_err-kept.result c.from_residual-in_err-kept.ensures.1 in rw (p.1, p.2) (goes_on c.args.self.now.rules.env.now c.args.self.now.rules.budget (erase (env_of c.args.self.now.rules.env.now) no_encodings c.args.side.now) (λ (x : Tree). then (erase (env_of c.args.self.now.rules.env.now) no_encodings c.args.kept.now) (λ (k : Tree). reflexive (place c.args.span) x k)) c.in_ok-side.side _ c.in_ok-side.ensures (ends c.args.self.now.rules.env.now c.args.self.now.rules.budget (erase (env_of c.args.self.now.rules.env.now) no_encodings c.args.kept.now) (λ (k : Tree). reflexive (place c.args.span) c.in_ok-side.side k) _ c.in_err-kept.ensures))

pub returns : goal.returns
returns c = goes_on c.args.self.now.rules.env.now c.args.self.now.rules.budget (erase (env_of c.args.self.now.rules.env.now) no_encodings c.args.side.now) (λ (x : Tree). then (erase (env_of c.args.self.now.rules.env.now) no_encodings c.args.kept.now) (λ (k : Tree). reflexive (place c.args.span) x k)) c.in_ok-side.side _ c.in_ok-side.ensures (goes_on c.args.self.now.rules.env.now c.args.self.now.rules.budget (erase (env_of c.args.self.now.rules.env.now) no_encodings c.args.kept.now) (λ (k : Tree). reflexive (place c.args.span) c.in_ok-side.side k) c.in_ok-kept.kept _ c.in_ok-kept.ensures c.reflexive.ensures)
