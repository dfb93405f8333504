use Rattle.std.proofs.Common.{◌-◌, refl, sym}
use Rattle.source_model.specs.Grammar.{IsImportable}
use Rattle.source_model.specs.Parsing.{complaint}
use Rattle.source_model.proofs.Turns.{one_test}
use Rattle.surf_reader.specs.View.{given_of}
use Rattle.surf_parse.proofs.module.is_importable.Goals as goal

pub returns-then-is_reserved : goal.returns-then-is_reserved
unfolding complaint
returns-then-is_reserved c = λ vs. rw (one_test (given_of c.args.reader.now) IsImportable, sym c.if-is_reserved.ensures, c.latest.ensures) refl

pub returns : goal.returns
unfolding complaint
returns c = λ vs. rw (one_test (given_of c.args.reader.now) IsImportable, sym c.if-is_reserved.ensures) refl
