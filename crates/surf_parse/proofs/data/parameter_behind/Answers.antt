use Rattle.std.proofs.Common.{ℕ, ◌-◌, List, refl}
use Rattle.source_model.specs.Grammar.{Value, any}
use Rattle.source_model.specs.Grammar as m
use Rattle.source_model.specs.Made.{made}
use Rattle.source_model.proofs.Turns.{one_make}
use Rattle.surf_reader.specs.View.{given_of}
use Rattle.surf_parse.proofs.data.parameter_behind.Goals as goal

pub returns : goal.returns
unfolding made
returns c = λ d ps vs.
    let h = λ (us : List (Value ℕ)). c.in_ok-class.ensures any us refl in
    rw (c.in_ok-name.ensures, c.in_ok-at.ensures, h, c.in_ok-at-2.ensures, one_make (given_of c.args.reader.now) m.AParameter, c.a_parameter.ensures) refl
