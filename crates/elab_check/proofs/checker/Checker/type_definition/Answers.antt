use Rattle.std.proofs.Common.{[]}
use Rattle.std.proofs.lemmas.Result.{err_from_is_err_and}
use Rattle.cdle_model.specs.Erasure.{erased}
use Rattle.cdle_model.specs.Trees.{Tree}
use Rattle.source_model.specs.Heights.{span_of}
use Rattle.elab_model.specs.Questions.{gives, ask_same, then}
use Rattle.elab_model.specs.Rules.{type, kind}
use Rattle.elab_model.specs.Soundness.{no_encodings}
use Rattle.elab_model.specs.Spines.{Typed}
use Rattle.elab_model.specs.declared.codes.Code.TheVariants.{WantedKind}
use Rattle.elab_reduce.specs.Items.{env_of}
use Rattle.elab_rules.proofs.Steps.{given, goes_on, ends, same_on, same_ends}
use Rattle.elab_check.proofs.checker.Checker.type_definition.Goals as goal

pub returns-in_err-kind : goal.returns-in_err-kind
returns-in_err-kind c = let p = err_from_is_err_and c.from_residual.result c.from_residual.ensures.1 in rw (p.1, p.2) (ends c.args.self.now.rules.env.now c.args.self.now.rules.budget (kind (env_of c.args.self.now.rules.env.now) no_encodings [] c.args.kind.now) (λ (k : Tree). then (type (env_of c.args.self.now.rules.env.now) no_encodings [] c.args.body.now) (λ (y : Typed). ask_same (span_of c.args.body.now) (span_of c.args.body.now) WantedKind (erased y.1) (erased k) (gives (k, y.0)))) _ c.in_err-kind.ensures)

pub returns-in_err-found : goal.returns-in_err-found
returns-in_err-found c = let p = err_from_is_err_and c.from_residual-in_err-found.result c.from_residual-in_err-found.ensures.1 in rw (p.1, p.2) (goes_on c.args.self.now.rules.env.now c.args.self.now.rules.budget (kind (env_of c.args.self.now.rules.env.now) no_encodings [] c.args.kind.now) (λ (k : Tree). then (type (env_of c.args.self.now.rules.env.now) no_encodings [] c.args.body.now) (λ (y : Typed). ask_same (span_of c.args.body.now) (span_of c.args.body.now) WantedKind (erased y.1) (erased k) (gives (k, y.0)))) c.in_ok-kind.kind _ c.in_ok-kind.ensures (ends c.args.self.now.rules.env.now c.args.self.now.rules.budget (type (env_of c.args.self.now.rules.env.now) no_encodings [] c.args.body.now) (λ (y : Typed). ask_same (span_of c.args.body.now) (span_of c.args.body.now) WantedKind (erased y.1) (erased c.in_ok-kind.kind) (gives (c.in_ok-kind.kind, y.0))) _ c.in_err-found.ensures))

pub returns-in_err-same_kinds : goal.returns-in_err-same_kinds
returns-in_err-same_kinds c = let p = err_from_is_err_and c.from_residual-in_err-same_kinds.result c.from_residual-in_err-same_kinds.ensures.1 in rw (p.1, p.2) (goes_on c.args.self.now.rules.env.now c.args.self.now.rules.budget (kind (env_of c.args.self.now.rules.env.now) no_encodings [] c.args.kind.now) (λ (k : Tree). then (type (env_of c.args.self.now.rules.env.now) no_encodings [] c.args.body.now) (λ (y : Typed). ask_same (span_of c.args.body.now) (span_of c.args.body.now) WantedKind (erased y.1) (erased k) (gives (k, y.0)))) c.in_ok-kind.kind _ c.in_ok-kind.ensures (goes_on c.args.self.now.rules.env.now c.args.self.now.rules.budget (type (env_of c.args.self.now.rules.env.now) no_encodings [] c.args.body.now) (λ (y : Typed). ask_same (span_of c.args.body.now) (span_of c.args.body.now) WantedKind (erased y.1) (erased c.in_ok-kind.kind) (gives (c.in_ok-kind.kind, y.0))) c.in_ok-found.found _ c.in_ok-found.ensures (rw (← c.span-span.ensures) (same_ends c.args.self.now.rules.env.now c.args.self.now.rules.budget _ _ WantedKind _ _ (gives (c.in_ok-kind.kind, c.in_ok-found.found.0)) _ c.in_err-same_kinds.ensures))))

pub returns : goal.returns
returns c = goes_on c.args.self.now.rules.env.now c.args.self.now.rules.budget (kind (env_of c.args.self.now.rules.env.now) no_encodings [] c.args.kind.now) (λ (k : Tree). then (type (env_of c.args.self.now.rules.env.now) no_encodings [] c.args.body.now) (λ (y : Typed). ask_same (span_of c.args.body.now) (span_of c.args.body.now) WantedKind (erased y.1) (erased k) (gives (k, y.0)))) c.in_ok-kind.kind _ c.in_ok-kind.ensures (goes_on c.args.self.now.rules.env.now c.args.self.now.rules.budget (type (env_of c.args.self.now.rules.env.now) no_encodings [] c.args.body.now) (λ (y : Typed). ask_same (span_of c.args.body.now) (span_of c.args.body.now) WantedKind (erased y.1) (erased c.in_ok-kind.kind) (gives (c.in_ok-kind.kind, y.0))) c.in_ok-found.found _ c.in_ok-found.ensures (rw (← c.span-span.ensures) (same_on c.args.self.now.rules.env.now c.args.self.now.rules.budget _ _ WantedKind _ _ (gives (c.in_ok-kind.kind, c.in_ok-found.found.0)) _ c.in_ok-same_kinds.ensures (given c.args.self.now.rules.env.now c.args.self.now.rules.budget _))))
