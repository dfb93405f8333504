use Rattle.build_outcome.proofs.Texts.{malformed_text}
use Rattle.build_outcome.proofs.reports.malformed.Goals as goal

pub returns : goal.returns
returns c = malformed_text _ _ _ _ _ _ _ _ c.in_ok-format.ensures.ok c.place_in-place.ensures.line c.place_in-place.ensures.column c.in_ok-what.ensures
