use Rattle.elab_print_rows.proofs.same.+same_pure.Given as goal

abbrev pub decreases-same_pure : goal.decreases-same_pure
decreases-same_pure l = l.levels
