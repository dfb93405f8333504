use Rattle.std.proofs.Common.{ℕ, ◌-◌, List, refl}
use Rattle.source_model.specs.Grammar.{Value, of_type}
use Rattle.source_model.specs.Grammar as m
use Rattle.source_model.specs.Made.{made}
use Rattle.source_model.proofs.Turns.{one_make}
use Rattle.surf_reader.specs.View.{given_of}
use Rattle.surf_parse.proofs.item.type_definition.Goals as goal

pub returns : goal.returns
unfolding made
returns c = λ b d e f vs.
    let h = λ (us : List (Value ℕ)). c.in_ok-first.ensures of_type us refl in
    rw (h, c.in_ok-body.ensures, c.in_ok-at.ensures, one_make (given_of c.args.reader.now) m.AnItem, c.type_defined.ensures.item) refl
