use Rattle.elab_rules.proofs.Closing.{gives_found}
use Rattle.elab_rules.proofs.ask.Rules.solved_kind.Goals as goal

pub returns : goal.returns
returns c = c.limited_kind.ensures _ _ _ (gives_found c.args.found.now _ c.args.kind.now _ c.as_slice.ensures c.solve.ensures)
