use Rattle.std.proofs.Common.{◌∙◌, Bool, [], refl, sym, ap}
use Rattle.source_model.specs.Grammar.{The}
use Rattle.source_model.specs.Rows.{row, only}
use Rattle.source_model.specs.Parsing.{word_of}
use Rattle.surf_reader.proofs.Steps.{begins, misses, ends}
use Rattle.surf_reader.proofs.reader.Reader.stands.Goals as goal

pub returns-then-is_same : goal.returns-then-is_same
unfolding row
returns-then-is_same c = λ vs. begins c.args.self.now (The c.args.kind c.args.wanted) c.args.at c.in-Some.token [] vs c.in-Some.ensures.next (ap (λ (b : Bool). only b []) (sym c.if-is_same.ensures))

pub returns-else-is_same : goal.returns-else-is_same
unfolding row word_of
returns-else-is_same c = λ vs. misses c.args.self.now (The c.args.kind c.args.wanted) c.args.at c.in-Some.token vs c.in-Some.ensures.next (ap (λ (b : Bool). only b []) (sym c.if-is_same.ensures)) ∙ refl

pub returns-in-None : goal.returns-in-None
unfolding word_of
returns-in-None c = λ vs. ends c.args.self.now (The c.args.kind c.args.wanted) c.args.at vs (c.in-None.ensures.none refl) ∙ refl
