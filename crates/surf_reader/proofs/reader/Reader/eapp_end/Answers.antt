use Rattle.std.proofs.Common.{◌≡◌, ◌∷◌, Ok, Err, refl, sym, ap, ◌∙◌, rules}
use Rattle.source_model.specs.Source.{Span, two, eapp_of}
use Rattle.source_model.specs.Grammar.{Test_, IsShallow, part}
use Rattle.source_model.specs.Grammar as m
use Rattle.source_model.specs.Made.{made}
use Rattle.source_model.specs.Parsing.{◌>>=◌, one}
use Rattle.source_model.proofs.Turns.{one_make}
use Rattle.surf_reader.specs.View.{given_of, here, term_on}
use Rattle.surf_reader.proofs.Steps.{closes_err, fails_on, fails_same}
use Rattle.surf_reader.proofs.reader.Reader.eapp_end.Goals as goal

pub returns : goal.returns
unfolding made
returns c =
    λ d f g vs.
    let e = c.in_ok-term.ensures ∙ ap (λ (s : Span). two s eapp_of c.args.head.now c.args.arg.now) c.over_terms.ensures in
    rw (one_make (given_of c.args.self.now) m.Eapp, sym e, c.in_ok-shallow.ensures) refl

pub returns-in_err-shallow : goal.returns-in_err-shallow
unfolding made
returns-in_err-shallow c =
    let q : c.from_residual-in_err-shallow.result ≡ Err c.in_err-shallow.field-0.0 = search rules in
    let e = c.in_ok-term.ensures ∙ ap (λ (s : Span). two s eapp_of c.args.head.now c.args.arg.now) c.over_terms.ensures in
    λ d f g. closes_err c.args.self.now (term_on f) c.from_residual-in_err-shallow.result c.in_err-shallow.field-0.0 _ _ _ q (λ vs. fails_same c.in_err-shallow.field-0.0 _ (one (given_of c.args.self.now) (Test_ IsShallow) (here c.args.self.now c.args.at (part f c.in_ok-term.term ∷ vs)) >>= λ q. Ok q) (rw (one_make (given_of c.args.self.now) m.Eapp, sym e) refl)
    (fails_on c.in_err-shallow.field-0.0 (one (given_of c.args.self.now) (Test_ IsShallow) (here c.args.self.now c.args.at (part f c.in_ok-term.term ∷ vs))) (λ q. Ok q) (c.in_err-shallow.ensures f vs)))
