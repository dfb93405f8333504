use Rattle.std.proofs.Common.{◌≡◌, ◌∷◌, Ok, Err, refl, sym, rules}
use Rattle.source_model.specs.Grammar.{token, part, Test_, IsShallow}
use Rattle.source_model.specs.Grammar as m
use Rattle.source_model.specs.Made.{made}
use Rattle.source_model.specs.Parsing.{◌>>=◌, one}
use Rattle.source_model.proofs.Turns.{one_make}
use Rattle.surf_reader.specs.View.{given_of, here, Projects}
use Rattle.surf_reader.proofs.Steps.{fails_on, fails_same}
use Rattle.surf_reader.proofs.reader.Reader.second.Goals as goal

pub returns : goal.returns
unfolding made
returns c = λ f vs. rw (one_make (given_of c.args.self.now) m.Snd, sym c.term_to_token.ensures, sym c.in_ok-made.ensures, c.in_ok-shallow.ensures) refl

pub returns-in_err-shallow : goal.returns-in_err-shallow
unfolding made
returns-in_err-shallow c =
    let q : c.from_residual-in_err-shallow.result ≡ Err c.in_err-shallow.field-0.0 = search rules in
    let h : Projects c.args.self.now c.args.term.now c.args.token m.Snd (Err c.in_err-shallow.field-0.0) c.args.at = λ f vs.
    fails_same c.in_err-shallow.field-0.0 _ (one (given_of c.args.self.now) (Test_ IsShallow) (here c.args.self.now c.args.at (part f c.in_ok-made.made ∷ vs)) >>= λ q. Ok q) (rw (one_make (given_of c.args.self.now) m.Snd, sym c.term_to_token.ensures, sym c.in_ok-made.ensures) refl)
    (fails_on c.in_err-shallow.field-0.0 (one (given_of c.args.self.now) (Test_ IsShallow) (here c.args.self.now c.args.at (part f c.in_ok-made.made ∷ vs))) (λ q. Ok q) (c.in_err-shallow.ensures f vs)) in
    rw q h
