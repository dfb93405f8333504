use Rattle.std.proofs.Common.{◌≡◌, map, take}
use Rattle.build_writing.specs.Steps.{AreReadBack}
use Rattle.build_writing.specs.Writing.{output_of}
use Rattle.build_writing.proofs.read_back.read_all.Given as goal

abbrev pub invariant-loop-number : goal.invariant-loop-number
invariant-loop-number g l = record {
  same : map (λ bytes. bytes.items) l.read.items ≡ map (λ file. file.bytes.items) (take l.number l.files);
  read_back : AreReadBack (record { before = g.F.Folder.state l.fn.folder; after = g.F.Folder.state l.folder }) (take l.number (map output_of l.files));
}
