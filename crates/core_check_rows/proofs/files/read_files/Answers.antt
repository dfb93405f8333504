use Rattle.std.proofs.Common.{arith}
use Rattle.core_check_rows.proofs.Reading.{one_more}
use Rattle.core_check_rows.proofs.files.read_files.Goals as goal

pub loop-text-preserved : goal.loop-text-preserved
loop-text-preserved c = (
  tt,
  tt,
  one_more c.loop-text.files.items _ c.loop-text.items c.in_ok-file.file c.as_bytes.result.now _ _ _ c.loop-text.invariant.2 c.in_ok-file.ensures.ok c.in_ok-push.ensures.items c.in_ok-add.ensures.added
      c.in_ok-add.ensures.counted (omega (arith, c.len-items.ensures)),
)
