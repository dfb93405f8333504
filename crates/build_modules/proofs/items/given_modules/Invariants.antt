use Rattle.std.proofs.Common.{◌≡◌, false, length}
use Rattle.elab_reduce.specs.Items.{env_of}
use Rattle.build_modules.proofs.Given.{AreGiven}
use Rattle.build_modules.proofs.items.given_modules.Given as goal

abbrev pub invariant-modules : goal.invariant-modules
invariant-modules l = record {
  going : l.env.failed ≡ false;
  same : AreGiven l.budget l.scoped l.given.items (env_of l.env) l.rest;
}

abbrev pub decreases-modules : goal.decreases-modules
decreases-modules l = length l.rest
