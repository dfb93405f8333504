use Rattle.build_drive.proofs.Items.{Stands}
use Rattle.build_drive.proofs.check.item_name.Given as goal

abbrev pub invariant-loop-file : goal.invariant-loop-file
invariant-loop-file l = Stands l.fn.files.items l.fn.item l.file-index l.number
