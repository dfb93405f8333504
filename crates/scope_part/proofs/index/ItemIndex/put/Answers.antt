use Rattle.std.proofs.Common.{ap, ◌∙◌, ℕ, arith}
use Rattle.std.proofs.lemmas.List.{length-map}
use Rattle.scoped_tree.specs.Items.{item_name}
use Rattle.scope_part.proofs.Indexed.{indexed_push, is_on}
use Rattle.scope_part.proofs.index.ItemIndex.put.Goals as goal

pub invariant_of-self : goal.invariant_of-self
invariant_of-self c = record {
  indexed = indexed_push c.args.self.now.latest c.insert.new.self c.args.self.now.names.items c.push.new.self.items c.args.key.items (c.args.name.sort, c.args.place) c.args.name
      (is_on c.insert.result _ c.insert.ensures.updates (c.insert.ensures.succeeds (omega (arith, c.requires.room.1)))) c.args.self.now.indexed c.in-Ok.ensures.items c.requires.same (ap (λ (n : ℕ). (c.args.name.sort, n)) (c.requires.place ∙ length-map c.args.self.now.names.items item_name));
}
