use Rattle.std.proofs.Common.{[]}
use Rattle.build_drive.proofs.OneOutcome.{not_spent, one_outcome, outcome_or_spent}
use Rattle.build_drive.proofs.laws.one_outcome_where_nothing_fails.Goals as goal

pub returns : goal.returns
returns c = record {
  there = λ f files budget. outcome_or_spent budget f files;
  one = λ f files budget t u o p h x g y. one_outcome budget f files t u o p h g x y;
  none = λ f files budget all i path t o r e h x. not_spent budget f [] files t o all h x r i path e;
}
