use Rattle.std.proofs.Common.{[]}
use Rattle.std.proofs.lemmas.Result.{err_from_is_err_and}
use Rattle.cdle_model.specs.Trees.{Tree}
use Rattle.source_model.specs.Heights.{span_of}
use Rattle.elab_model.specs.Questions.{gives, then}
use Rattle.elab_model.specs.Rules.{check, term, type}
use Rattle.elab_model.specs.Soundness.{no_encodings}
use Rattle.scoped_tree.specs.Trees.{place}
use Rattle.elab_reduce.specs.Items.{env_of}
use Rattle.elab_rules.proofs.Steps.{given, goes_on, ends}
use Rattle.elab_check.proofs.Chains.{star_at, star_on, star_ends}
use Rattle.elab_check.proofs.checker.Checker.definition.Goals as goal

pub returns-in_err-ty : goal.returns-in_err-ty
returns-in_err-ty c = let p = err_from_is_err_and c.from_residual.result c.from_residual.ensures.1 in rw (p.1, p.2) (star_ends (span_of c.args.ty.now) c.args.ty.now (type (env_of c.args.self.now.rules.env.now) no_encodings [] c.args.ty.now) (λ (a : Tree). then (check (env_of c.args.self.now.rules.env.now) no_encodings [] c.args.body.now (term (env_of c.args.self.now.rules.env.now) no_encodings [] c.args.body.now) a) (λ (t : Tree). gives (a, t))) c.args.self.now.rules.env.now c.args.self.now.rules.budget _ (star_at (place c.span.result) (span_of c.args.ty.now) c.args.ty.now (type (env_of c.args.self.now.rules.env.now) no_encodings [] c.args.ty.now) c.args.self.now.rules.env.now c.args.self.now.rules.budget _ c.span.ensures c.in_err-ty.ensures))

pub returns-in_err-body : goal.returns-in_err-body
returns-in_err-body c = let p = err_from_is_err_and c.from_residual-in_err-body.result c.from_residual-in_err-body.ensures.1 in rw (p.1, p.2) (star_on (span_of c.args.ty.now) c.args.ty.now (type (env_of c.args.self.now.rules.env.now) no_encodings [] c.args.ty.now) (λ (a : Tree). then (check (env_of c.args.self.now.rules.env.now) no_encodings [] c.args.body.now (term (env_of c.args.self.now.rules.env.now) no_encodings [] c.args.body.now) a) (λ (t : Tree). gives (a, t))) c.args.self.now.rules.env.now c.args.self.now.rules.budget _ _ (star_at (place c.span.result) (span_of c.args.ty.now) c.args.ty.now (type (env_of c.args.self.now.rules.env.now) no_encodings [] c.args.ty.now) c.args.self.now.rules.env.now c.args.self.now.rules.budget _ c.span.ensures c.in_ok-ty.ensures) (ends c.args.self.now.rules.env.now c.args.self.now.rules.budget (check (env_of c.args.self.now.rules.env.now) no_encodings [] c.args.body.now (term (env_of c.args.self.now.rules.env.now) no_encodings [] c.args.body.now) c.in_ok-ty.ty) (λ (t : Tree). gives (c.in_ok-ty.ty, t)) _ c.in_err-body.ensures))

pub returns : goal.returns
returns c = star_on (span_of c.args.ty.now) c.args.ty.now (type (env_of c.args.self.now.rules.env.now) no_encodings [] c.args.ty.now) (λ (a : Tree). then (check (env_of c.args.self.now.rules.env.now) no_encodings [] c.args.body.now (term (env_of c.args.self.now.rules.env.now) no_encodings [] c.args.body.now) a) (λ (t : Tree). gives (a, t))) c.args.self.now.rules.env.now c.args.self.now.rules.budget _ _ (star_at (place c.span.result) (span_of c.args.ty.now) c.args.ty.now (type (env_of c.args.self.now.rules.env.now) no_encodings [] c.args.ty.now) c.args.self.now.rules.env.now c.args.self.now.rules.budget _ c.span.ensures c.in_ok-ty.ensures) (goes_on c.args.self.now.rules.env.now c.args.self.now.rules.budget (check (env_of c.args.self.now.rules.env.now) no_encodings [] c.args.body.now (term (env_of c.args.self.now.rules.env.now) no_encodings [] c.args.body.now) c.in_ok-ty.ty) (λ (t : Tree). gives (c.in_ok-ty.ty, t)) c.in_ok-body.body _ c.in_ok-body.ensures (given c.args.self.now.rules.env.now c.args.self.now.rules.budget _))
