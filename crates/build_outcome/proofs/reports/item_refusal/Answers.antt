use Rattle.build_outcome.proofs.Texts.{duplicate_text}
use Rattle.build_outcome.proofs.reports.item_refusal.Goals as goal

pub returns-in_ok-format-in-Duplicate : goal.returns-in_ok-format-in-Duplicate
returns-in_ok-format-in-Duplicate c = rw c.in-Duplicate.is (duplicate_text _ _ c.in_ok-format-in-Duplicate.ensures.ok)
