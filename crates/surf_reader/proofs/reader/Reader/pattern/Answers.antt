use Rattle.std.proofs.Common.{◌≡◌, ◌∙◌, ◌-◌, ◌+◌, ◌≤◌, [], ◌∷◌, ◌++◌, length, Err, refl, sym, ap, rules, arith}
use Rattle.source_model.specs.Grammar.{token, patterns, Make, Patterns}
use Rattle.source_model.specs.Grammar as m
use Rattle.source_model.specs.Rows.{row, binding, pattern_row}
use Rattle.source_model.specs.Made.{made}
use Rattle.source_model.proofs.Turns.{one_make}
use Rattle.surf_tree.specs.Forms.{pattern_of}
use Rattle.surf_reader.specs.View.{token_of, given_of, Patterned}
use Rattle.surf_reader.proofs.Steps.{misses, ends}
use Rattle.surf_reader.proofs.Rules.{pattern_none}
use Rattle.surf_reader.proofs.Loops.{again, again_fails, onward}
use Rattle.cdle_model.specs.declared.grammar.Mode.TheVariants as modes
use Rattle.surf_reader.proofs.reader.Reader.pattern.Goals as goal

pub returns-in-None-clause-gives : goal.returns-in-None-clause-gives
returns-in-None-clause-gives c = λ ps vs. ends c.args.self.now Patterns c.args.at (patterns ps ∷ vs) (c.in-None.ensures.none refl) ∙ refl

pub returns-in-Name-clause-gives : goal.returns-in-Name-clause-gives
unfolding row made
returns-in-Name-clause-gives c = λ ps vs. again c.args.self.now Patterns Patterns c.args.at c.in-Some.token (Make (m.APattern modes.Kept) ∷ []) (patterns ps ∷ vs) (c.args.at + 1) (patterns (ps ++ pattern_of c.named.result ∷ []) ∷ vs) c.in-Some.ensures.next (ap pattern_row c.in-Name.is) (rw (one_make (given_of c.args.self.now) (m.APattern modes.Kept), c.named.ensures) refl)

pub returns-in_ok-marked-in-Minus-clause-gives : goal.returns-in_ok-marked-in-Minus-clause-gives
unfolding row
returns-in_ok-marked-in-Minus-clause-gives c = λ ps vs. again c.args.self.now Patterns Patterns c.args.at c.in-Some.token (binding ∷ Make (m.APattern modes.Erased) ∷ []) (patterns ps ∷ vs) c.in_ok-marked-in-Minus.field-0.1 (patterns (ps ++ pattern_of c.in_ok-marked-in-Minus.field-0.0 ∷ []) ∷ vs) c.in-Some.ensures.next (ap pattern_row c.in-Minus.is) (c.in_ok-marked-in-Minus.ensures (token_of c.in-Some.token) ps vs)

pub returns-in_err-marked-in-Minus-clause-gives : goal.returns-in_err-marked-in-Minus-clause-gives
unfolding row
returns-in_err-marked-in-Minus-clause-gives c =
    let q : c.from_residual.result ≡ Err c.in_err-marked-in-Minus.field-0.0 = search rules in
    let h : Patterned c.args.self.now c.args.at (Err c.in_err-marked-in-Minus.field-0.0) = λ ps vs. again_fails c.args.self.now Patterns Patterns c.args.at c.in-Some.token (binding ∷ Make (m.APattern modes.Erased) ∷ []) (patterns ps ∷ vs) c.in_err-marked-in-Minus.field-0.0 c.in-Some.ensures.next (ap pattern_row c.in-Minus.is) (c.in_err-marked-in-Minus.ensures (token_of c.in-Some.token) ps vs) in
    rw q h

pub returns-in_ok-marked-in-Minus-clause-moves : goal.returns-in_ok-marked-in-Minus-clause-moves
returns-in_ok-marked-in-Minus-clause-moves c =
    λ x e.
    let s : c.in_ok-marked-in-Minus.field-0 ≡ x = cc in
    let o : length c.args.self.now.tokens.now - c.in_ok-marked-in-Minus.field-0.1 ≤ length c.args.self.now.tokens.now - (c.args.at + 1) = onward c.args.self.now (binding ∷ Make (m.APattern modes.Erased) ∷ []) (c.args.at + 1) c.in_ok-marked-in-Minus.field-0.1 _ _ (c.in_ok-marked-in-Minus.ensures (token_of c.in-Some.token) [] []) in
    rw (sym s) (omega (arith, o, c.in-Some.ensures.inside))

pub returns-in_ok-marked-in-MiddleDot-clause-gives : goal.returns-in_ok-marked-in-MiddleDot-clause-gives
unfolding row
returns-in_ok-marked-in-MiddleDot-clause-gives c = λ ps vs. again c.args.self.now Patterns Patterns c.args.at c.in-Some.token (binding ∷ Make (m.APattern modes.OfType) ∷ []) (patterns ps ∷ vs) c.in_ok-marked-in-MiddleDot.field-0.1 (patterns (ps ++ pattern_of c.in_ok-marked-in-MiddleDot.field-0.0 ∷ []) ∷ vs) c.in-Some.ensures.next (ap pattern_row c.in-MiddleDot.is) (c.in_ok-marked-in-MiddleDot.ensures (token_of c.in-Some.token) ps vs)

pub returns-in_err-marked-in-MiddleDot-clause-gives : goal.returns-in_err-marked-in-MiddleDot-clause-gives
unfolding row
returns-in_err-marked-in-MiddleDot-clause-gives c =
    let q : c.from_residual-in_err-marked-in-MiddleDot.result ≡ Err c.in_err-marked-in-MiddleDot.field-0.0 = search rules in
    let h : Patterned c.args.self.now c.args.at (Err c.in_err-marked-in-MiddleDot.field-0.0) = λ ps vs. again_fails c.args.self.now Patterns Patterns c.args.at c.in-Some.token (binding ∷ Make (m.APattern modes.OfType) ∷ []) (patterns ps ∷ vs) c.in_err-marked-in-MiddleDot.field-0.0 c.in-Some.ensures.next (ap pattern_row c.in-MiddleDot.is) (c.in_err-marked-in-MiddleDot.ensures (token_of c.in-Some.token) ps vs) in
    rw q h

pub returns-in_ok-marked-in-MiddleDot-clause-moves : goal.returns-in_ok-marked-in-MiddleDot-clause-moves
returns-in_ok-marked-in-MiddleDot-clause-moves c =
    λ x e.
    let s : c.in_ok-marked-in-MiddleDot.field-0 ≡ x = cc in
    let o : length c.args.self.now.tokens.now - c.in_ok-marked-in-MiddleDot.field-0.1 ≤ length c.args.self.now.tokens.now - (c.args.at + 1) = onward c.args.self.now (binding ∷ Make (m.APattern modes.OfType) ∷ []) (c.args.at + 1) c.in_ok-marked-in-MiddleDot.field-0.1 _ _ (c.in_ok-marked-in-MiddleDot.ensures (token_of c.in-Some.token) [] []) in
    rw (sym s) (omega (arith, o, c.in-Some.ensures.inside))

pub returns-in_default-clause-gives : goal.returns-in_default-clause-gives
unfolding row
returns-in_default-clause-gives c = λ ps vs. misses c.args.self.now Patterns c.args.at c.in-Some.token (patterns ps ∷ vs) c.in-Some.ensures.next (pattern_none c.in-Some.token.kind c.in_default.not-Name c.in_default.not-Minus c.in_default.not-MiddleDot) ∙ refl
