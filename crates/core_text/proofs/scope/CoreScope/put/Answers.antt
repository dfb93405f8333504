use Rattle.std.proofs.Common.{sym, ap, ◌∙◌, ℕ, arith}
use Rattle.core_text.proofs.Names.{indexed_more, is_on}
use Rattle.core_text.proofs.scope.CoreScope.put.Goals as goal

pub invariant_of-self : goal.invariant_of-self
invariant_of-self c = record {
  indexed = indexed_more c.args.self.now.latest c.insert.new.self c.args.self.now.entries.items c.push.new.self.items c.args.name.key.items (c.args.name.entry.sort, c.len-number.result) c.args.name.entry
      (is_on c.insert.result _ c.insert.ensures.updates (c.insert.ensures.succeeds (omega (arith, c.requires.room.1)))) c.args.self.now.indexed c.in-Ok.ensures.items (sym c.args.name.same) (ap (λ (n : ℕ). (c.args.name.entry.sort, n)) (c.len-number.ensures ∙ c.args.self.now.entries.ok.0));
}
