use Rattle.std.proofs.Common.{refl, sym}
use Rattle.source_model.specs.Grammar.{HasFewArguments}
use Rattle.source_model.specs.Parsing.{complaint}
use Rattle.source_model.proofs.Turns.{one_test}
use Rattle.surf_reader.specs.View.{given_of}
use Rattle.surf_parse.proofs.data.few_arguments.Goals as goal

pub returns-then-has_at_most : goal.returns-then-has_at_most
unfolding complaint
returns-then-has_at_most c = λ at vs. rw (one_test (given_of c.args.reader.now) HasFewArguments, sym c.if-has_at_most.ensures) refl

pub returns-else-has_at_most : goal.returns-else-has_at_most
unfolding complaint
returns-else-has_at_most c = λ at vs. rw (one_test (given_of c.args.reader.now) HasFewArguments, sym c.if-has_at_most.ensures) refl
