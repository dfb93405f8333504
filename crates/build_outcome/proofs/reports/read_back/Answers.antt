use Rattle.build_outcome.proofs.Texts.{read_back_text}
use Rattle.build_outcome.proofs.reports.read_back.Goals as goal

pub returns : goal.returns
returns c = read_back_text _ _ _ _ _ _ _ c.in_ok-format.ensures.ok c.in_ok-wrote.ensures c.in_ok-read.ensures
