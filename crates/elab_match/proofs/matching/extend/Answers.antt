use Rattle.elab_match.proofs.Finding.{part_next}
use Rattle.elab_match.proofs.matching.extend.Goals as goal

pub returns-in_ok-push-in-Some-2 : goal.returns-in_ok-push-in-Some-2
returns-in_ok-push-in-Some-2 c =
    part_next c.args.solution.now c.args.found.now c.push-in-Some-2.new.self c.len-number.result c.args.pattern.now c.args.target.now c.in-Some-2.ty c.in_ok-ty.field-0 c.len-number.ensures
    c.in_default.ensures c.in_ok-ty.ensures c.in-Some-2.is c.in_ok-push-in-Some-2.ensures
