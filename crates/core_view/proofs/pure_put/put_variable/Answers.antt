use Rattle.cdle_model.specs.Classes.{with_use}
use Rattle.cdle_model.specs.Trees.{var}
use Rattle.core_tree.specs.Parts.{part_sort}
use Rattle.core_view.specs.Passed.{renumbered}
use Rattle.core_view.proofs.Parts.{fits_class}
use Rattle.core_view.proofs.pure_put.put_variable.Goals as goal

pub number-requires : goal.number-requires
number-requires c = fits_class (with_use (part_sort c.args.part.now) c.args.under) (renumbered c.args.from c.args.passed.now (var c.args.index)) c.requires.used
