use Rattle.scope_part.proofs.Bounds.{pattern_found}
use Rattle.scope_part.proofs.binders.find_in_pattern.Goals as goal

pub returns : goal.returns
returns c = pattern_found c.args.word.now c.args.index c.args.names.now c.patterns.found c.patterns.rest.now c.args.patterns.now c.in_default.ensures.cases c.patterns.invariant.same
