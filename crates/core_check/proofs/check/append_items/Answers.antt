use Rattle.std.proofs.Common.{refl}
use Rattle.core_check.proofs.Lists.{append_more}
use Rattle.core_check.proofs.check.append_items.Goals as goal

pub loop-item-preserved : goal.loop-item-preserved
loop-item-preserved c =
    append_more _ c.loop-item.items.items c.push.new.self.items _ _ c.as_slice-item-items.result.now c.loop-item.item-index c.item-item.result c.in_ok-push.ensures.items refl c.loop-item.invariant c.loop-item-test.true c.item-item.is
