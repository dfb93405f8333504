use Rattle.std.proofs.Common.{refl, ap}
use Rattle.source_model.specs.Rows.{raised, term_row}
use Rattle.source_model.specs.declared.wanted.Wanted.TheVariants as wanted
use Rattle.surf_reader.proofs.Steps.{by_misses, by_ends, by_deep}
use Rattle.surf_reader.proofs.Rules.{no_row, some_row}
use Rattle.surf_reader.proofs.reader.Reader.deep_term.Goals as goal

pub returns-in-None : goal.returns-in-None
returns-in-None c = λ n vs. by_ends c.args.self.now (λ t. raised 0 (term_row n t)) wanted.Term c.args.at vs (c.in-None.ensures.none refl)

pub returns-then-begins_term : goal.returns-then-begins_term
returns-then-begins_term c = λ n vs. let s = some_row (term_row n c.in-Some.token.kind) (c.if-begins_term.ensures n) in by_deep c.args.self.now (term_row n) wanted.Term c.args.at c.in-Some.token s.0 vs c.in-Some.ensures.next s.1

pub returns-else-begins_term : goal.returns-else-begins_term
returns-else-begins_term c = λ n vs. by_misses c.args.self.now (λ t. raised 0 (term_row n t)) wanted.Term c.args.at c.in-Some.token vs c.in-Some.ensures.next (ap (raised 0) (no_row (term_row n c.in-Some.token.kind) (c.if-begins_term.ensures n)))
