use Rattle.std.proofs.Common.{map, take}
use Rattle.build_writing.specs.Steps.{AreWritten}
use Rattle.build_writing.specs.Writing.{output_of}
use Rattle.build_writing.proofs.write.write_all.Given as goal

abbrev pub invariant-loop-number : goal.invariant-loop-number
invariant-loop-number g l = AreWritten (record { before = g.F.Folder.state l.fn.folder; after = g.F.Folder.state l.folder }) (take l.number (map output_of l.files))
