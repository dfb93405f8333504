use Rattle.std.proofs.Common.{length}
use Rattle.std.proofs.lemmas.List.{length-map}
use Rattle.scoped_tree.specs.Items.{exported_of, item_name}
use Rattle.surf_scope.proofs.Exporting.{exports_push}
use Rattle.surf_scope.proofs.exports.Exports.add.Goals as goal

pub invariant_of-self-2 : goal.invariant_of-self-2
invariant_of-self-2 c = record {
  counted = exports_push c.args.self.now.modules.items c.push.new.self.items c.in_ok-new.field-0 (exported_of c.args.«module».now) c.in_ok-count.count (length c.args.«module».now.names.items) c.in_ok-push.ensures.items c.in_ok-new.ensures (length-map c.args.«module».now.names.items item_name) c.in_ok-count.ensures;
}
