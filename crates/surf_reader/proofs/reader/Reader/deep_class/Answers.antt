use Rattle.std.proofs.Common.{refl, ap}
use Rattle.source_model.specs.Rows.{raised, class_row}
use Rattle.surf_reader.proofs.Steps.{by_misses, by_ends, by_deep}
use Rattle.surf_reader.proofs.Rules.{no_row, some_row}
use Rattle.surf_reader.proofs.reader.Reader.deep_class.Goals as goal

pub returns-in-None : goal.returns-in-None
returns-in-None c = λ n count vs. by_ends c.args.self.now (λ t. raised 0 (class_row n count t)) c.args.wanted c.args.at vs (c.in-None.ensures.none refl)

pub returns-then-begins_class : goal.returns-then-begins_class
returns-then-begins_class c = λ n count vs. let s = some_row (class_row n count c.in-Some.token.kind) (c.if-begins_class.ensures n count) in by_deep c.args.self.now (class_row n count) c.args.wanted c.args.at c.in-Some.token s.0 vs c.in-Some.ensures.next s.1

pub returns-else-begins_class : goal.returns-else-begins_class
returns-else-begins_class c = λ n count vs. by_misses c.args.self.now (λ t. raised 0 (class_row n count t)) c.args.wanted c.args.at c.in-Some.token vs c.in-Some.ensures.next (ap (raised 0) (no_row (class_row n count c.in-Some.token.kind) (c.if-begins_class.ensures n count)))
