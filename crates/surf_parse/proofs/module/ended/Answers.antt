use Rattle.std.proofs.Common.{◌-◌, refl}
use Rattle.surf_parse.proofs.module.ended.Goals as goal

pub returns-in-Some : goal.returns-in-Some
returns-in-Some c = (c.in-Some.token, refl, λ vs. rw c.in-Some.ensures.next.rest refl)
