use Rattle.std.proofs.Common.{length}
use Rattle.build_modules.proofs.Printing.{ArePrinted}
use Rattle.build_modules.proofs.print.printed_files.Given as goal

abbrev pub invariant-files : goal.invariant-files
invariant-files l = record { same : ArePrinted l.files l.texts.items l.names.items l.rest }

abbrev pub decreases-files : goal.decreases-files
decreases-files l = length l.rest
