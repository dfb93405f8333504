use Rattle.std.proofs.Common.{◌≡◌, ◌≤◌, length, None}
use Rattle.scope_part.proofs.Bounds.{so_far}
use Rattle.scope_part.proofs.binders.find_in_pattern.Given as goal

abbrev pub invariant-patterns : goal.invariant-patterns
invariant-patterns l = record {
  lower : length l.rest ≤ length l.patterns;
  same : so_far l.word l.index l.names l.rest l.found ≡ so_far l.word l.index l.names l.patterns None;
}

abbrev pub decreases-patterns : goal.decreases-patterns
decreases-patterns l = length l.rest
