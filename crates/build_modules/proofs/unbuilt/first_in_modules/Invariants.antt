use Rattle.std.proofs.Common.{◌≡◌, ◌+◌, length, map}
use Rattle.scoped_tree.specs.Items.{module_of}
use Rattle.modules_model.specs.ModuleTexts.{unbuilt_modules}
use Rattle.build_modules.specs.Steps.{placed_with}
use Rattle.build_modules.proofs.unbuilt.first_in_modules.Given as goal

abbrev pub invariant-modules : goal.invariant-modules
invariant-modules l = record {
  same : unbuilt_modules (map module_of l.modules) ≡ placed_with l.number (unbuilt_modules (map module_of l.rest));
  at : l.number + length l.rest ≡ length l.modules;
}

abbrev pub decreases-modules : goal.decreases-modules
decreases-modules l = length l.rest
