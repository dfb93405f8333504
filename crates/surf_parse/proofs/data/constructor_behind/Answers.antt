use Rattle.std.proofs.Common.{ℕ, ◌-◌, List, refl}
use Rattle.source_model.specs.Grammar.{Value, of_type}
use Rattle.source_model.specs.Grammar as m
use Rattle.source_model.specs.Made.{made}
use Rattle.source_model.proofs.Turns.{one_make}
use Rattle.surf_reader.specs.View.{given_of}
use Rattle.surf_parse.proofs.data.constructor_behind.Goals as goal

pub returns : goal.returns
unfolding made
returns c = λ d cs vs.
    let h = λ (us : List (Value ℕ)). c.in_ok-first.ensures of_type us refl in
    rw (c.in_ok-name.ensures, c.in_ok-at.ensures, h, c.in_ok-ty.ensures, c.in_ok-few_arguments.ensures, one_make (given_of c.args.reader.now) m.AConstructor) refl
