use Rattle.std.proofs.lemmas.Result.{err_from_is_err_and}
use Rattle.cdle_model.specs.Trees.{tapp_of, binary}
use Rattle.cdle_model.specs.Substitution.{put_written}
use Rattle.scoped_tree.specs.Trees.{place}
use Rattle.elab_rules.specs.Arguments.{with_made}
use Rattle.elab_rules.specs.Spines.{spine_of}
use Rattle.elab_rules.proofs.Steps.{no_memory}
use Rattle.elab_rules.proofs.Taking.{deep_type, made_of}
use Rattle.elab_rules.proofs.ask.Rules.applied_to_type.Goals as goal

pub returns-in_err-ty : goal.returns-in_err-ty
returns-in_err-ty c =
    let p = err_from_is_err_and c.from_residual.result c.from_residual.ensures.1 in rw (p.1, p.2) (deep_type c.args.self.now.env.now c.args.self.now.budget (place c.args.whole)
    (with_made (spine_of c.args.spine) (binary tapp_of c.args.spine.term c.args.arg.now) (put_written 0 c.args.arg.now c.args.range.now)) _ (c.in_err-ty.ensures _ c.put_type.ensures))

pub returns-in_err-term : goal.returns-in_err-term
returns-in_err-term c = let p = err_from_is_err_and c.from_residual-in_err-term.result c.from_residual-in_err-term.ensures.1 in rw (p.1, p.2) (no_memory _ _ _)

pub returns : goal.returns
returns c = made_of c.args.self.now.env.now c.args.self.now.budget (place c.args.whole) (spine_of c.args.spine) _ _ _ _ _ _ c.with_parts.ensures c.in_ok-term.ensures (c.in_ok-ty.ensures _ c.put_type.ensures) (c.made.ensures _ _)
