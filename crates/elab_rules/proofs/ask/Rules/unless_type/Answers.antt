use Rattle.std.proofs.Common.{false, sym, ◌∙◌}
use Rattle.std.proofs.lemmas.Result.{err_from_is_err_and}
use Rattle.cdle_model.specs.Trees.{allt_of}
use Rattle.elab_model.specs.Questions.{gives, then}
use Rattle.elab_model.specs.Spines.{leaves_out}
use Rattle.scoped_tree.specs.Trees.{place}
use Rattle.elab_rules.specs.Spines.{spine_of}
use Rattle.elab_rules.proofs.Steps.{ends, given, goes_on, no_memory}
use Rattle.elab_rules.proofs.Taking.{parts_off, parts_on}
use Rattle.elab_rules.proofs.ask.Rules.unless_type.Goals as goal

pub returns-in_err-kind : goal.returns-in_err-kind
returns-in_err-kind c = let p = err_from_is_err_and c.from_residual.result c.from_residual.ensures.1 in rw (p.1, p.2) (no_memory _ _ _)

pub returns-in-None : goal.returns-in-None
returns-in-None c = parts_off c.args.self.now.env.now c.args.self.now.budget allt_of c.args.spine.ty (λ k b. then (leaves_out (place c.args.whole) (spine_of c.args.spine) k b) (λ r. gives (false, r))) _ _ (sym c.in_ok-kind.ensures ∙ c.in-None.is) (given c.args.self.now.env.now c.args.self.now.budget _)

pub returns-in_err-leaves_out-in-Some : goal.returns-in_err-leaves_out-in-Some
returns-in_err-leaves_out-in-Some c =
    let p = err_from_is_err_and c.from_residual-in_err-leaves_out-in-Some.result c.from_residual-in_err-leaves_out-in-Some.ensures.1 in rw (p.1, p.2) (parts_on c.args.self.now.env.now c.args.self.now.budget allt_of c.args.spine.ty
    c.in-Some.kind c.in-Some.range (λ k b. then (leaves_out (place c.args.whole) (spine_of c.args.spine) k b) (λ r. gives (false, r))) _ _ (sym c.in_ok-kind.ensures ∙ c.in-Some.is)
    (ends c.args.self.now.env.now c.args.self.now.budget (leaves_out (place c.args.whole) (spine_of c.args.spine) c.in-Some.kind c.in-Some.range) (λ r. gives (false, r)) _ c.in_err-leaves_out-in-Some.ensures))

pub returns-in_ok-leaves_out-in-Some : goal.returns-in_ok-leaves_out-in-Some
returns-in_ok-leaves_out-in-Some c =
    parts_on c.args.self.now.env.now c.args.self.now.budget allt_of c.args.spine.ty c.in-Some.kind c.in-Some.range (λ k b. then (leaves_out (place c.args.whole) (spine_of c.args.spine) k b) (λ r. gives (false, r))) _ _ (sym c.in_ok-kind.ensures ∙ c.in-Some.is)
    (goes_on c.args.self.now.env.now c.args.self.now.budget (leaves_out (place c.args.whole) (spine_of c.args.spine) c.in-Some.kind c.in-Some.range) (λ r. gives (false, r)) _ _ c.in_ok-leaves_out-in-Some.ensures (given c.args.self.now.env.now c.args.self.now.budget _))
