use Rattle.std.proofs.Common.{refl}
use Rattle.source_model.specs.Grammar as m
use Rattle.source_model.proofs.Turns.{one_make}
use Rattle.surf_reader.specs.View.{given_of}
use Rattle.surf_reader.proofs.Rules.{named_makes}
use Rattle.surf_reader.proofs.reader.Reader.term_name.Goals as goal

pub returns : goal.returns
returns c = λ vs. rw (c.in_ok-second.ensures, one_make (given_of c.args.self.now) m.Named, named_makes, c.in_ok-term.ensures, c.used.ensures) refl
