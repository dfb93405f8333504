use Rattle.std.proofs.Common.{◌≡◌, ◌++◌, map, take}
use Rattle.cdle_model.specs.Forms.{name_of}
use Rattle.elab_tree.specs.Items.{written}
use Rattle.build_modules.proofs.print.add_names.Given as goal

abbrev pub invariant-loop-item : goal.invariant-loop-item
invariant-loop-item l = l.names.items ≡ l.fn.names.items ++ map (λ item. name_of (written item)) (take l.item-index l.items)
