use Rattle.std.proofs.Common.{◌≡◌, map, arith}
use Rattle.std.proofs.lemmas.List.{length-map}
use Rattle.std.proofs.lemmas.Result.{err_from_is_err_and}
use Rattle.elab_tree.specs.Items.{written}
use Rattle.elab_item.proofs.Standing.{standing_next, standing_refused}
use Rattle.elab_item.proofs.items.all_items.Goals as goal

pub returns-in_err-next-clause-refused : goal.returns-in_err-next-clause-refused
returns-in_err-next-clause-refused c =
    let p = err_from_is_err_and c.from_residual.result c.from_residual.ensures.1 in
    let many = length-map c.loop-item.given.items written in
    let at : c.in-Ok.number ≡ c.loop-item.item-index = omega arith in
    rw (p.1, p.2) (standing_refused c.args.units c.args.env.now c.loop-item.env c.args.items.now c.loop-item.item-index (map written c.loop-item.given.items) c.item-item.result c.loop-item.invariant c.loop-item-test.true c.item-item.is
    c.in-Ok.number _ at c.in_err-next.ensures)

pub loop-item-preserved : goal.loop-item-preserved
loop-item-preserved c =
    standing_next c.args.units c.args.env.now c.loop-item.env c.args.items.now c.loop-item.item-index (map written c.loop-item.given.items) c.item-item.result c.loop-item.invariant c.loop-item-test.true c.item-item.is
    c.put.new.env (map written c.put.new.given.items) (written c.in_ok-next.next) c.in_ok-next.ensures c.in_ok-put.ensures.env c.in_ok-put.ensures.given
