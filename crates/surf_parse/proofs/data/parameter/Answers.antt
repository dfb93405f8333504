use Rattle.std.proofs.Common.{◌≡◌, ◌∙◌, ℕ, ◌-◌, ◌+◌, ◌<◌, pred, Bool, List, [], ◌∷◌, ◌++◌, Err, refl, ap, rules, arith}
use Rattle.source_model.specs.Grammar.{Value, token, parameters, Test_, Read, HasRoomFor, Parameters}
use Rattle.source_model.specs.Rows.{row, Leaving, MustStand, only}
use Rattle.source_model.specs.declared.token.TokenKind.TheVariants as k
use Rattle.cdle_model.specs.declared.grammar.Count.TheVariants as many
use Rattle.surf_reader.specs.View.{token_of, given_of, here}
use Rattle.surf_parse.specs.Outer.{ParameterTree, Repeats, row_of_parameter, parameter_on}
use Rattle.surf_reader.proofs.Steps.{omitted, fails_same}
use Rattle.surf_parse.proofs.Ahead.{goes_on, goes_wrong, room_for, too_many}
use Rattle.surf_parse.proofs.data.parameter.Goals as goal

pub returns-in-None-clause-repeats : goal.returns-in-None-clause-repeats
unfolding row
returns-in-None-clause-repeats c = λ ps vs. omitted c.args.reader.now (Parameters c.args.room) k.Open c.args.at (Test_ (HasRoomFor many.Parameters c.args.room) ∷ row_of_parameter ++ Read (Parameters (pred c.args.room)) ∷ []) (parameters ps ∷ vs) (c.in-None.ensures.none refl) (λ t. refl) (λ e. let h : Leaving.Ends ≡ MustStand = e in absurd cc)

pub returns-then-room-eq0-clause-repeats : goal.returns-then-room-eq0-clause-repeats
unfolding row
returns-then-room-eq0-clause-repeats c = λ ps vs.
    let none : c.args.room ≡ 0 = let h = c.if-room-eq0.true in grind arith in
    too_many c.args.reader.now (Parameters c.args.room) many.Parameters c.args.room c.args.at c.in-Some.token (row_of_parameter ++ Read (Parameters (pred c.args.room)) ∷ []) (parameters ps ∷ vs) c.in-Some.ensures.taken.next (ap (λ (b : Bool). only b (Test_ (HasRoomFor many.Parameters c.args.room) ∷ row_of_parameter ++ Read (Parameters (pred c.args.room)) ∷ [])) c.in-Some.ensures.taken.same) none

pub returns-in_ok-parameter_behind-in-Some-clause-repeats : goal.returns-in_ok-parameter_behind-in-Some-clause-repeats
unfolding row
returns-in_ok-parameter_behind-in-Some-clause-repeats c = λ ps vs.
    let some : 0 < c.args.room = let h = c.if-room-eq0.false in grind arith in
    goes_on c.args.reader.now (Parameters c.args.room) (Parameters (pred c.args.room)) c.args.at c.in_ok-parameter_behind-in-Some.field-0.1 c.in-Some.token (Test_ (HasRoomFor many.Parameters c.args.room) ∷ row_of_parameter) (parameters ps ∷ vs) (parameter_on ps vs c.in_ok-parameter_behind-in-Some.field-0.0) c.in-Some.ensures.taken.next (ap (λ (b : Bool). only b (Test_ (HasRoomFor many.Parameters c.args.room) ∷ row_of_parameter ++ Read (Parameters (pred c.args.room)) ∷ [])) c.in-Some.ensures.taken.same)
    (room_for (given_of c.args.reader.now) many.Parameters c.args.room row_of_parameter (here c.args.reader.now (c.args.at + 1) (token (token_of c.in-Some.token) ∷ parameters ps ∷ vs)) some ∙ c.in_ok-parameter_behind-in-Some.ensures (token_of c.in-Some.token) ps vs)

pub returns-in_err-parameter_behind-in-Some-clause-repeats : goal.returns-in_err-parameter_behind-in-Some-clause-repeats
unfolding row
returns-in_err-parameter_behind-in-Some-clause-repeats c =
    let q : c.from_residual.result ≡ Err c.in_err-parameter_behind-in-Some.field-0.0 = search rules in
    let some : 0 < c.args.room = let h = c.if-room-eq0.false in grind arith in
    let h : (ps : List ParameterTree) (vs : List (Value ℕ)) → Repeats c.args.reader.now (Parameters c.args.room) (Parameters (pred c.args.room)) (parameters ps ∷ vs) (parameter_on ps vs) c.args.at (Err c.in_err-parameter_behind-in-Some.field-0.0) = λ ps vs.
    goes_wrong c.args.reader.now (Parameters c.args.room) (Parameters (pred c.args.room)) c.args.at c.in-Some.token (Test_ (HasRoomFor many.Parameters c.args.room) ∷ row_of_parameter) (parameters ps ∷ vs) c.in_err-parameter_behind-in-Some.field-0.0 c.in-Some.ensures.taken.next (ap (λ (b : Bool). only b (Test_ (HasRoomFor many.Parameters c.args.room) ∷ row_of_parameter ++ Read (Parameters (pred c.args.room)) ∷ [])) c.in-Some.ensures.taken.same)
    (fails_same c.in_err-parameter_behind-in-Some.field-0.0 _ _ (room_for (given_of c.args.reader.now) many.Parameters c.args.room row_of_parameter (here c.args.reader.now (c.args.at + 1) (token (token_of c.in-Some.token) ∷ parameters ps ∷ vs)) some) (c.in_err-parameter_behind-in-Some.ensures (token_of c.in-Some.token) ps vs)) in
    rw q h
