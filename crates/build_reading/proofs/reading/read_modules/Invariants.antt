use Rattle.std.proofs.Common.{◌-◌, length}
use Rattle.surf_parse.specs.Answers.{Grows}
use Rattle.build_reading.specs.Steps.{HasCome}
use Rattle.build_reading.proofs.reading.read_modules.Given as goal

-- so much was read from the start on
abbrev pub invariant-modules : goal.invariant-modules
invariant-modules g l = record {
  grows : Grows l.fn.names l.names;
  come : HasCome (record { before = g.F.Folder.state l.fn.folder; after = g.F.Folder.state l.folder }) l.fn.root l.names l.reading;
}

-- at most 500 are read
abbrev pub decreases-modules : goal.decreases-modules
decreases-modules g l = 501 - length l.reading.read.modules.items
