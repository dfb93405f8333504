use Rattle.std.proofs.Common.{refl}
use Rattle.std.proofs.lemmas.Result.{err_from_is_err_and}
use Rattle.elab_model.specs.Instances.{solved_in}
use Rattle.scoped_tree.specs.Trees.{place}
use Rattle.elab_rules.specs.Arguments.{with_made}
use Rattle.elab_rules.specs.Spines.{spine_of}
use Rattle.elab_rules.proofs.Taking.{deep_type, gives_solved, made_of}
use Rattle.elab_rules.proofs.ask.Rules.solved.Goals as goal

pub returns-in_err-ty : goal.returns-in_err-ty
returns-in_err-ty c =
    let p = err_from_is_err_and c.from_residual.result c.from_residual.ensures.1 in rw (p.1, p.2) (deep_type c.args.self.now.env.now c.args.self.now.budget (place c.args.whole) (with_made (spine_of c.args.spine) c.args.spine.term (solved_in c.args.spine.found c.args.spine.ty)) _
    (c.in_err-ty.ensures _ (gives_solved c.args.spine.found _ c.args.spine.ty _ c.as_slice.ensures (c.solving_puts_what_is_found.ensures c.args.spine.found c.args.spine.ty) c.solve.ensures)))

pub returns : goal.returns
returns c =
    made_of c.args.self.now.env.now c.args.self.now.budget (place c.args.whole) (spine_of c.args.spine) _ _ _ _ _ _ refl refl
    (c.in_ok-ty.ensures _ (gives_solved c.args.spine.found _ c.args.spine.ty _ c.as_slice.ensures (c.solving_puts_what_is_found.ensures c.args.spine.found c.args.spine.ty) c.solve.ensures)) (c.made.ensures _ _)
