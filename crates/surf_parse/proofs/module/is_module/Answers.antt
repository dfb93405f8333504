use Rattle.std.proofs.Common.{◌-◌, refl, sym}
use Rattle.source_model.specs.Grammar.{IsModule}
use Rattle.source_model.specs.Parsing.{complaint}
use Rattle.source_model.proofs.Turns.{one_test}
use Rattle.surf_reader.specs.View.{given_of}
use Rattle.surf_parse.proofs.module.is_module.Goals as goal

pub returns-then-not-names_module : goal.returns-then-not-names_module
unfolding complaint
returns-then-not-names_module c = λ vs. rw (one_test (given_of c.args.reader.now) IsModule, sym c.if-not-names_module.ensures, c.latest.ensures) refl

pub returns : goal.returns
unfolding complaint
returns c = λ vs. rw (one_test (given_of c.args.reader.now) IsModule, sym c.if-not-names_module.ensures) refl
