use Rattle.std.proofs.Common.{◌≡◌, ◌∙◌, ◌+◌, [], ◌∷◌, Err, refl, ap, rules}
use Rattle.source_model.specs.Grammar.{token, part, Test_, Make, Read, IsShallow, Projections}
use Rattle.source_model.specs.Grammar as m
use Rattle.source_model.specs.Rows.{row, projection_row}
use Rattle.source_model.specs.Parsing.{one}
use Rattle.surf_reader.specs.View.{token_of, given_of, here, Projected}
use Rattle.surf_reader.proofs.Steps.{begins, misses, ends, fails_on, fails_same, bind_done, turn_then}
use Rattle.surf_reader.proofs.Rules.{projection_none}
use Rattle.surf_reader.proofs.reader.Reader.projection.Goals as goal

pub returns-in-None-clause-gives : goal.returns-in-None-clause-gives
returns-in-None-clause-gives c = λ vs. ends c.args.self.now Projections c.args.at (part c.args.first c.args.term.now ∷ vs) (c.in-None.ensures.none refl) ∙ refl

pub returns-in_ok-first-in-First-clause-gives : goal.returns-in_ok-first-in-First-clause-gives
unfolding row
returns-in_ok-first-in-First-clause-gives c =
    λ vs. begins c.args.self.now Projections c.args.at c.in-Some.token (Make m.Fst ∷ Test_ IsShallow ∷ Read Projections ∷ []) (part c.args.first c.args.term.now ∷ vs) c.in-Some.ensures.next (ap projection_row c.in-First.is)
    ∙ turn_then (given_of c.args.self.now) (Make m.Fst ∷ Test_ IsShallow ∷ []) (Read Projections ∷ []) (here c.args.self.now (c.args.at + 1) (token (token_of c.in-Some.token) ∷ part c.args.first c.args.term.now ∷ vs))
    ∙ rw (c.in_ok-first-in-First.ensures c.args.first vs) (bind_done (one (given_of c.args.self.now) (Read Projections) (here c.args.self.now (c.args.at + 1) (part c.args.first c.in_ok-first-in-First.field-0 ∷ vs))))

pub returns-in_err-first-in-First-clause-gives : goal.returns-in_err-first-in-First-clause-gives
unfolding row
returns-in_err-first-in-First-clause-gives c =
    let q : c.from_residual.result ≡ Err c.in_err-first-in-First.field-0.0 = search rules in
    let h : Projected c.args.self.now c.args.first c.args.term.now c.args.at (Err c.in_err-first-in-First.field-0.0) = λ vs.
    fails_same c.in_err-first-in-First.field-0.0 _ _
    (begins c.args.self.now Projections c.args.at c.in-Some.token (Make m.Fst ∷ Test_ IsShallow ∷ Read Projections ∷ []) (part c.args.first c.args.term.now ∷ vs) c.in-Some.ensures.next (ap projection_row c.in-First.is) ∙ turn_then (given_of c.args.self.now) (Make m.Fst ∷ Test_ IsShallow ∷ []) (Read Projections ∷ []) (here c.args.self.now (c.args.at + 1) (token (token_of c.in-Some.token) ∷ part c.args.first c.args.term.now ∷ vs)))
    (fails_on c.in_err-first-in-First.field-0.0 _ _ (c.in_err-first-in-First.ensures c.args.first vs)) in
    rw q h

pub returns-in_ok-second-in-Second-clause-gives : goal.returns-in_ok-second-in-Second-clause-gives
unfolding row
returns-in_ok-second-in-Second-clause-gives c =
    λ vs. begins c.args.self.now Projections c.args.at c.in-Some.token (Make m.Snd ∷ Test_ IsShallow ∷ Read Projections ∷ []) (part c.args.first c.args.term.now ∷ vs) c.in-Some.ensures.next (ap projection_row c.in-Second.is)
    ∙ turn_then (given_of c.args.self.now) (Make m.Snd ∷ Test_ IsShallow ∷ []) (Read Projections ∷ []) (here c.args.self.now (c.args.at + 1) (token (token_of c.in-Some.token) ∷ part c.args.first c.args.term.now ∷ vs))
    ∙ rw (c.in_ok-second-in-Second.ensures c.args.first vs) (bind_done (one (given_of c.args.self.now) (Read Projections) (here c.args.self.now (c.args.at + 1) (part c.args.first c.in_ok-second-in-Second.field-0 ∷ vs))))

pub returns-in_err-second-in-Second-clause-gives : goal.returns-in_err-second-in-Second-clause-gives
unfolding row
returns-in_err-second-in-Second-clause-gives c =
    let q : c.from_residual-in_err-second-in-Second.result ≡ Err c.in_err-second-in-Second.field-0.0 = search rules in
    let h : Projected c.args.self.now c.args.first c.args.term.now c.args.at (Err c.in_err-second-in-Second.field-0.0) = λ vs.
    fails_same c.in_err-second-in-Second.field-0.0 _ _
    (begins c.args.self.now Projections c.args.at c.in-Some.token (Make m.Snd ∷ Test_ IsShallow ∷ Read Projections ∷ []) (part c.args.first c.args.term.now ∷ vs) c.in-Some.ensures.next (ap projection_row c.in-Second.is) ∙ turn_then (given_of c.args.self.now) (Make m.Snd ∷ Test_ IsShallow ∷ []) (Read Projections ∷ []) (here c.args.self.now (c.args.at + 1) (token (token_of c.in-Some.token) ∷ part c.args.first c.args.term.now ∷ vs)))
    (fails_on c.in_err-second-in-Second.field-0.0 _ _ (c.in_err-second-in-Second.ensures c.args.first vs)) in
    rw q h

pub returns-in_default-clause-gives : goal.returns-in_default-clause-gives
unfolding row
returns-in_default-clause-gives c = λ vs. misses c.args.self.now Projections c.args.at c.in-Some.token (part c.args.first c.args.term.now ∷ vs) c.in-Some.ensures.next (projection_none c.in-Some.token.kind c.in_default.not-First c.in_default.not-Second) ∙ refl
