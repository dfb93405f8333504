use Rattle.std.proofs.Common.{false}
use Rattle.std.proofs.lemmas.Result.{err_from_is_err_and}
use Rattle.elab_model.specs.Questions.{gives}
use Rattle.scoped_tree.specs.Trees.{place}
use Rattle.elab_rules.specs.Arguments.{with_made}
use Rattle.elab_rules.specs.Spines.{spine_of}
use Rattle.elab_rules.proofs.Steps.{given, head_on, head_ends}
use Rattle.elab_rules.proofs.ask.Rules.in_head_form.Goals as goal

pub returns-in_err-ty : goal.returns-in_err-ty
returns-in_err-ty c =
    let p = err_from_is_err_and c.from_residual.result c.from_residual.ensures.1 in rw (p.1, p.2) (head_ends c.args.self.now.env.now c.args.self.now.budget (place c.args.whole) (place c.args.spine.head) false c.args.spine.ty
    (λ h. gives (with_made (spine_of c.args.spine) c.args.spine.term h)) _ c.in_err-ty.ensures)

pub returns : goal.returns
returns c =
    head_on c.args.self.now.env.now c.args.self.now.budget (place c.args.whole) (place c.args.spine.head) false c.args.spine.ty (λ h. gives (with_made (spine_of c.args.spine) c.args.spine.term h)) _ _ c.in_ok-ty.ensures
    (given c.args.self.now.env.now c.args.self.now.budget _)
