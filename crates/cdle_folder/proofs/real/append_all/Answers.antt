use Rattle.cdle_folder.proofs.Pieces.{appends_more, piece_within}
use Rattle.cdle_folder.proofs.real.append_all.Goals as goal

pub loop-at-preserved : goal.loop-at-preserved
loop-at-preserved g c = record {
  within = piece_within c.loop-at.at c.in-Ok.count c.args.bytes.now c.loop-at.invariant.within c.in-Ok.ensures.bound;
  written = appends_more (g.F.Write.contents c.args.file.now) (g.F.Write.contents c.loop-at.file) (g.F.Write.contents c.write.new.self) c.loop-at.at c.in-Ok.count c.args.bytes.now c.loop-at.invariant.written c.in-Ok.ensures.bytes;
}
