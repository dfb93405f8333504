use Rattle.std.proofs.Common.{◌≡◌, drop}
use Rattle.cdle_folder.specs.Memory.{altered}
use Rattle.cdle_folder.proofs.memory.altered_copy.Given as goal

abbrev pub invariant-loop-change : goal.invariant-loop-change
invariant-loop-change l = altered (drop l.change-index l.change-items) l.call l.bytes.items ≡ altered l.changes.items l.call l.file.items
