use Rattle.std.proofs.Common.{ap, ◌∙◌}
use Rattle.scope_part.specs.Entries.{standing_from}
use Rattle.scope_part.proofs.Indexed.{found_below, found_some}
use Rattle.scope_part.proofs.index.ItemIndex.latest.Goals as goal

pub returns-clause-from : goal.returns-clause-from
returns-clause-from c = λ n. ap (standing_from n) (c.copied.ensures ∙ c.get.ensures.value) ∙ c.args.self.now.indexed c.args.word.now n

pub returns-clause-below : goal.returns-clause-below
returns-clause-below c = found_below c.copied.result c.args.word.now c.args.self.now.names.items (ap (standing_from 0) (c.copied.ensures ∙ c.get.ensures.value) ∙ c.args.self.now.indexed c.args.word.now 0)

pub returns-clause-some : goal.returns-clause-some
returns-clause-some c = found_some c.copied.result c.args.word.now c.args.self.now.names.items (ap (standing_from 0) (c.copied.ensures ∙ c.get.ensures.value) ∙ c.args.self.now.indexed c.args.word.now 0)
