use Rattle.std.proofs.Common.{◌≡◌, ◌++◌, ◌∷◌, ◌≤◌, ◌-◌, length, drop}
use Rattle.cdle_model.specs.Trees.{var}
use Rattle.elab_convert.specs.declared.side.Arg.TheVariants.{OfPure}
use Rattle.elab_convert.specs.Answers.{raised_all}
use Rattle.elab_convert.proofs.settle.raised_args.Given as goal

abbrev pub invariant-raised : goal.invariant-raised
invariant-raised l = (l.k ≤ length l.args.items) × (l.list.items ++ raised_all (drop l.k l.args.items) ≡ OfPure (var 0) ∷ raised_all l.args.items)

abbrev pub decreases-raised : goal.decreases-raised
decreases-raised l = length l.args.items - l.k
