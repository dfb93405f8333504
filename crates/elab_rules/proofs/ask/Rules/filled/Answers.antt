use Rattle.std.proofs.Common.{Ok}
use Rattle.std.proofs.lemmas.Result.{err_from_is_err_and}
use Rattle.elab_model.specs.Instances.{solved_in}
use Rattle.scoped_tree.specs.Trees.{place}
use Rattle.elab_rules.proofs.Closing.{gives_both, gives_found, limited_on, limited_ends}
use Rattle.elab_rules.proofs.Steps.{no_memory, given}
use Rattle.elab_rules.proofs.ask.Rules.filled.Goals as goal

pub returns-in_err-term : goal.returns-in_err-term
returns-in_err-term c = let p = err_from_is_err_and c.from_residual.result c.from_residual.ensures.1 in rw (p.1, p.2) (limited_ends c.args.self.now.env.now c.args.self.now.budget (place c.args.whole) (solved_in c.args.spine.now.found c.args.spine.now.term) (λ t. gives_both t (solved_in c.args.spine.now.found c.args.spine.now.ty)) _ c.in_err-term.ensures)

pub returns-in-Ok : goal.returns-in-Ok
returns-in-Ok c =
    let h = gives_found c.args.spine.now.found _ c.args.spine.now.ty (Ok c.in-Ok.ty) c.as_slice.ensures c.in-Ok.ensures in
    limited_on c.args.self.now.env.now c.args.self.now.budget (place c.args.whole) (solved_in c.args.spine.now.found c.args.spine.now.term) (λ t. gives_both t (solved_in c.args.spine.now.found c.args.spine.now.ty)) c.in_ok-term.term (Ok (c.in_ok-term.term, c.in-Ok.ty)) c.in_ok-term.ensures (rw h.0 (given c.args.self.now.env.now c.args.self.now.budget (c.in_ok-term.term, (solved_in c.args.spine.now.found c.args.spine.now.ty))))

pub returns-in-Err : goal.returns-in-Err
returns-in-Err c = no_memory _ _ _
