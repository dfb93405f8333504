use Rattle.std.proofs.Common.{refl}
use Rattle.source_model.specs.Grammar as m
use Rattle.source_model.specs.Made.{made}
use Rattle.source_model.proofs.Turns.{one_make}
use Rattle.surf_reader.specs.View.{given_of}
use Rattle.surf_reader.proofs.reader.Reader.lambda_end.Goals as goal

pub returns : goal.returns
unfolding made
returns c = λ d e f at vs. rw (c.in_ok-part.ensures, one_make (given_of c.args.self.now) m.Lambda, c.in_ok-ty.ensures, c.to_type.ensures) refl
