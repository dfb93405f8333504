use Rattle.build_outcome.proofs.Texts.{built_text}
use Rattle.build_outcome.proofs.reports.done.Goals as goal

pub returns-in_ok-format-in-Some : goal.returns-in_ok-format-in-Some
returns-in_ok-format-in-Some c = rw c.in-Some.is (built_text _ _ _ _ c.in_ok-format-in-Some.ensures.ok)
