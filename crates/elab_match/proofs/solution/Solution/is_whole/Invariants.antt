use Rattle.std.proofs.Common.{◌≡◌, drop}
use Rattle.elab_model.specs.Instances.{all_found}
use Rattle.elab_match.proofs.solution.Solution.is_whole.Given as goal

abbrev pub invariant-unknowns : goal.invariant-unknowns
invariant-unknowns l = all_found (drop l.ty-index l.ty-items) ≡ all_found l.self
