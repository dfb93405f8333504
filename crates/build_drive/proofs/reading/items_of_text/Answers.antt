use Rattle.std.proofs.Common.{subst, sym}
use Rattle.core_text.specs.Scope.{known_names}
use Rattle.build_drive.specs.Answers.{IsEnd}
use Rattle.build_drive.proofs.reading.items_of_text.Goals as goal

pub malformed-requires-clause-fault : goal.malformed-requires-clause-fault
malformed-requires-clause-fault c = (known_names c.args.known.now, c.in-Err.ensures.err)

pub returns-in_ok-new-in-Err-clause-ended : goal.returns-in_ok-new-in-Err-clause-ended
returns-in_ok-new-in-Err-clause-ended c = (
  subst (IsEnd (known_names c.args.known.now) c.args.file.now c.args.text.now) (sym c.in_ok-new-in-Err.ensures.outcome) (c.in_ok-outcome-in-Err.ensures.ended (known_names c.args.known.now) c.in-Err.ensures.err),
  c.in_ok-new-in-Err.ensures.report,
)
