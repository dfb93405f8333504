use Rattle.std.proofs.Common.{◌≡◌, ◌∷◌, Ok, Err, refl, sym, ap, ◌∙◌, rules}
use Rattle.source_model.specs.Source.{Span, two, at_of}
use Rattle.source_model.specs.Grammar.{Test_, IsShallow, part}
use Rattle.source_model.specs.Grammar as m
use Rattle.source_model.specs.Made.{made}
use Rattle.source_model.specs.Parsing.{◌>>=◌, one}
use Rattle.source_model.proofs.Turns.{one_make}
use Rattle.surf_reader.specs.View.{given_of, here, type_part}
use Rattle.surf_reader.proofs.Steps.{closes_err, fails_on, fails_same}
use Rattle.surf_reader.proofs.reader.Reader.at_end.Goals as goal

pub returns : goal.returns
unfolding made
returns c =
    λ f g vs.
    let e = c.in_ok-ty.ensures ∙ ap (λ (s : Span). two s at_of c.args.head.now c.args.arg.now) c.over_type_and_term.ensures in
    rw (one_make (given_of c.args.self.now) m.At, sym e, c.in_ok-shallow_type.ensures) refl

pub returns-in_err-shallow_type : goal.returns-in_err-shallow_type
unfolding made
returns-in_err-shallow_type c =
    let q : c.from_residual-in_err-shallow_type.result ≡ Err c.in_err-shallow_type.field-0.0 = search rules in
    let e = c.in_ok-ty.ensures ∙ ap (λ (s : Span). two s at_of c.args.head.now c.args.arg.now) c.over_type_and_term.ensures in
    λ f g. closes_err c.args.self.now (type_part f) c.from_residual-in_err-shallow_type.result c.in_err-shallow_type.field-0.0 _ _ _ q (λ vs. fails_same c.in_err-shallow_type.field-0.0 _ (one (given_of c.args.self.now) (Test_ IsShallow) (here c.args.self.now c.args.at (part f c.in_ok-ty.ty ∷ vs)) >>= λ q. Ok q) (rw (one_make (given_of c.args.self.now) m.At, sym e) refl)
    (fails_on c.in_err-shallow_type.field-0.0 (one (given_of c.args.self.now) (Test_ IsShallow) (here c.args.self.now c.args.at (part f c.in_ok-ty.ty ∷ vs))) (λ q. Ok q) (c.in_err-shallow_type.ensures f vs)))
