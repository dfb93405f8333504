use Rattle.std.proofs.Common.{arith}
use Rattle.surf_reader.proofs.reader.Reader.patterns.Goals as goal

pub patterns-smaller : goal.patterns-smaller
patterns-smaller c = let h = c.in_ok-pattern.ensures.moves (c.in-Some.pattern, c.in-Some.next) (cc) in omega (arith, h)
