use Rattle.build_drive.proofs.OneBuild.{determined_or_spent, not_spent, one_determined}
use Rattle.build_drive.proofs.laws.one_outcome_of_build.Goals as goal

pub returns : goal.returns
returns c = record { there = determined_or_spent; one = one_determined; none = not_spent }
