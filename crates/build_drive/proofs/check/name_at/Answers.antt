use Rattle.std.proofs.Common.{subst}
use Rattle.core_check.specs.Answer.{IsFaultOf}
use Rattle.core_check.specs.Items.{items_of}
use Rattle.build_drive.proofs.Numbers.{duplicate-within, ends-within, refused-within, undecided-below}
use Rattle.build_drive.proofs.check.name_at.Goals as goal

pub item_name-requires : goal.item_name-requires
item_name-requires c =
    let h = subst (IsFaultOf c.args.budget (items_of c.args.files.now.items)) c.in-Refused.is c.requires in refused-within h.0 (items_of c.args.files.now.items) _ _ h.1 h.2

pub item_name-requires-in-Duplicate : goal.item_name-requires-in-Duplicate
item_name-requires-in-Duplicate c =
    let h = subst (IsFaultOf c.args.budget (items_of c.args.files.now.items)) c.in-Duplicate.is c.requires in duplicate-within h.0 (items_of c.args.files.now.items) _ _ h.1

pub item_name-requires-in-Undecided : goal.item_name-requires-in-Undecided
item_name-requires-in-Undecided c =
    let h = subst (IsFaultOf c.args.budget (items_of c.args.files.now.items)) c.in-Undecided.is c.requires in undecided-below c.args.budget _ (items_of c.args.files.now.items) _ _ h.1

pub item_name-requires-in-TooDeep : goal.item_name-requires-in-TooDeep
item_name-requires-in-TooDeep c =
    let h = subst (IsFaultOf c.args.budget (items_of c.args.files.now.items)) c.in-TooDeep.is c.requires in ends-within h.0 (items_of c.args.files.now.items) _ _ h.1
