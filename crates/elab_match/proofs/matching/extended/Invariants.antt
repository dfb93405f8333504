use Rattle.std.proofs.Common.{◌-◌, ◌≤◌, length}
use Rattle.elab_match.proofs.Finding.{Leads}
use Rattle.elab_match.proofs.matching.extended.Given as goal

abbrev pub invariant-unknowns : goal.invariant-unknowns
invariant-unknowns l = (length l.found ≤ length l.solution) × Leads l.solution l.found l.pattern l.target

abbrev pub decreases-unknowns : goal.decreases-unknowns
decreases-unknowns l = length l.solution - length l.found
