use Rattle.core_tree.specs.Items.{written}
use Rattle.core_check.proofs.Verdicts.{item_found, item_fault}
use Rattle.core_check.proofs.check.check_item.Goals as goal

pub returns-in-Ok-clause-answer : goal.returns-in-Ok-clause-answer
returns-in-Ok-clause-answer c = item_found c.args.budget c.args.checked.now (written c.args.item.now) c.in-Ok.ensures.meets

pub returns-in-Err-clause-answer : goal.returns-in-Err-clause-answer
returns-in-Err-clause-answer c =
    item_fault c.args.budget c.args.checked.now (written c.args.item.now) c.len.result c.in-Err.fault c.of_item.result c.len.ensures c.of_item.ensures c.in-Err.ensures.meets
