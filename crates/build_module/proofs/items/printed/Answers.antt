use Rattle.std.proofs.Common.{◌∙◌, subst}
use Rattle.print_model.specs.Printed.{file_text}
use Rattle.elab_print.specs.Layouts.{IsFaultOf, all_written}
use Rattle.build_module.proofs.Given.{printed_deep, printed_ok}
use Rattle.build_module.proofs.items.printed.Goals as goal

pub returns-in-Ok : goal.returns-in-Ok
returns-in-Ok c = printed_ok c.args.items.now c.deref.result.now c.in-Ok.text (c.deref.ensures.value ∙ c.in_ok-names.ensures) c.in-Ok.ensures.ok

pub returns-in-Err-TooDeep : goal.returns-in-Err-TooDeep
returns-in-Err-TooDeep c = printed_deep c.args.items.now c.deref.result.now c.in-Err-TooDeep.item c.deep_item.result (c.deref.ensures.value ∙ c.in_ok-names.ensures)
    (subst (IsFaultOf (file_text c.deref.result.now (all_written c.args.items.now))) c.in-Err-TooDeep.field-0-is c.in-Err-TooDeep.ensures.err) c.deep_item.ensures
