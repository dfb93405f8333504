use Rattle.std.proofs.Common.{refl}
use Rattle.source_model.specs.Grammar.{HeadIsType}
use Rattle.source_model.specs.Parsing.{complaint}
use Rattle.source_model.proofs.Turns.{one_test}
use Rattle.surf_reader.specs.View.{given_of}
use Rattle.surf_reader.proofs.reader.Reader.head_type.Goals as goal

pub returns-in-OfType : goal.returns-in-OfType
unfolding complaint
returns-in-OfType c = λ d at vs. rw (one_test (given_of c.args.self.now) HeadIsType, c.in-OfType.is, c.levels.ensures.class) refl

pub returns-in-OfKind : goal.returns-in-OfKind
unfolding complaint
returns-in-OfKind c = λ d at vs. rw (one_test (given_of c.args.self.now) HeadIsType, c.in-OfKind.is, c.levels-in-OfKind.ensures.class) refl
