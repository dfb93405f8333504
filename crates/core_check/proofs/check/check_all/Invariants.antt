use Rattle.std.proofs.Common.{drop, map}
use Rattle.std.specs.HashMap.{get_by_text}
use Rattle.core_tree.specs.Items.{written}
use Rattle.core_check.proofs.Standing.{Standing}
use Rattle.core_check.proofs.check.check_all.Given as goal

abbrev pub invariant-loop-item : goal.invariant-loop-item
invariant-loop-item l =
    Standing l.budget (map (λ item. written item.now) l.items) l.checked (drop l.item-index (map (λ item. written item.now) l.items)) (λ q. get_by_text l.names q)
