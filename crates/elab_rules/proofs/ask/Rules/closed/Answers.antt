use Rattle.std.proofs.Common.{sym, ◌∙◌}
use Rattle.std.proofs.lemmas.Result.{err_from_is_err_and}
use Rattle.elab_model.specs.Instances.{solved_in}
use Rattle.elab_model.specs.Questions.{unless_deep}
use Rattle.elab_model.specs.declared.codes.Code.TheVariants.{ArgumentLeftOpen}
use Rattle.scoped_tree.specs.Trees.{place}
use Rattle.elab_rules.specs.declared.place.At.TheVariants.{Whole}
use Rattle.elab_rules.specs.Contexts.{entries}
use Rattle.elab_rules.proofs.Closing.{agreed_on, agreed_ends, gives_both, refused}
use Rattle.elab_rules.proofs.ask.Rules.closed.Goals as goal

pub returns-then-not-is_whole : goal.returns-then-not-is_whole
returns-then-not-is_whole c = rw (sym c.is_whole.ensures ∙ c.if-not-is_whole.true) (refused _ c.args.self.now.env.now c.args.self.now.budget (Whole c.args.whole) ArgumentLeftOpen)

pub returns-in_err-kinds_agree : goal.returns-in_err-kinds_agree
returns-in_err-kinds_agree c =
    let p = err_from_is_err_and c.from_residual.result c.from_residual.ensures.1 in rw (p.1, p.2) (rw (sym c.is_whole.ensures ∙ c.if-not-is_whole.false) (agreed_ends c.args.self.now.env.now c.args.self.now.budget (place c.args.whole) (entries c.args.context.now) c.args.spine.found c.args.spine.kinds.items (unless_deep (place c.args.whole) (solved_in c.args.spine.found c.args.spine.term) (gives_both (solved_in c.args.spine.found c.args.spine.term) (solved_in c.args.spine.found c.args.spine.ty))) _ c.in_err-kinds_agree.ensures))

pub returns : goal.returns
returns c =
    rw (sym c.is_whole.ensures ∙ c.if-not-is_whole.false)
    (agreed_on c.args.self.now.env.now c.args.self.now.budget (place c.args.whole) (entries c.args.context.now) c.args.spine.found c.args.spine.kinds.items (unless_deep (place c.args.whole) (solved_in c.args.spine.found c.args.spine.term) (gives_both (solved_in c.args.spine.found c.args.spine.term) (solved_in c.args.spine.found c.args.spine.ty))) c.filled.result c.in_ok-kinds_agree.ensures c.filled.ensures)
