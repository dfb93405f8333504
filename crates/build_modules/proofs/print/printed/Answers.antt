use Rattle.std.proofs.Common.{◌∙◌, ap, sym, subst}
use Rattle.print_model.specs.Printed.{file_text}
use Rattle.elab_print.specs.Layouts.{IsFaultOf, all_written}
use Rattle.build_modules.proofs.Printing.{all_map, deep_text}
use Rattle.build_modules.proofs.print.printed.Goals as goal

pub returns-in-Ok : goal.returns-in-Ok
returns-in-Ok c = sym (ap (file_text c.args.names.now) (all_map c.args.items.now)) ∙ c.in-Ok.ensures.ok

pub returns-in-Err-TooDeep : goal.returns-in-Err-TooDeep
returns-in-Err-TooDeep c = deep_text c.args.names.now c.args.items.now c.in-Err-TooDeep.item c.deep_item.result
    (subst (IsFaultOf (file_text c.args.names.now (all_written c.args.items.now))) c.in-Err-TooDeep.field-0-is c.in-Err-TooDeep.ensures.err) c.deep_item.ensures
