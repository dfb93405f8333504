use Rattle.std.proofs.Common.{List, subst}
use Rattle.std.specs.Global.{Vec}
use Rattle.elab_tree.specs.declared.items.OutItem.{OutItem}
use Rattle.build_modules.specs.Answers.{GivesTexts, items_of_each}
use Rattle.build_modules.proofs.Ends.{printed_answer}
use Rattle.build_modules.proofs.texts.given_texts.Goals as goal

pub returns-in-Ok : goal.returns-in-Ok
returns-in-Ok c =
    printed_answer (items_of_each c.in-Ok.items.items) _ c.printed_files.result c.in-Ok.ensures
    (subst (λ (files : List (Vec OutItem)). GivesTexts (items_of_each files) c.printed_files.result) c.deref.ensures.value c.printed_files.ensures)
