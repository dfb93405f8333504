use Rattle.std.proofs.Common.{◌-◌, [], ◌∷◌, refl, rules}
use Rattle.source_model.specs.Grammar.{token, part, module_so_far, Test_, Make, Read, Term, IsType}
use Rattle.source_model.specs.Grammar as m
use Rattle.source_model.specs.Rows.{sign, outermost}
use Rattle.source_model.specs.Made.{made}
use Rattle.source_model.specs.Parsing.{complaint}
use Rattle.source_model.specs.declared.token.TokenKind.TheVariants as k
use Rattle.source_model.proofs.Turns.{one_make, one_test}
use Rattle.surf_reader.specs.View.{given_of, on_token}
use Rattle.surf_parse.specs.Outer.{item_on}
use Rattle.surf_parse.proofs.Ahead.{told_front}
use Rattle.surf_parse.proofs.item.term_definition.Goals as goal

pub returns : goal.returns
unfolding made complaint
returns c = λ b d e f vs. rw (c.in_ok-body.ensures, one_test (given_of c.args.reader.now) IsType, c.levels.ensures.class, c.in_ok-at.ensures, one_make (given_of c.args.reader.now) m.AnItem, c.defined.ensures.item) refl

pub returns-in_err-at : goal.returns-in_err-at
unfolding complaint
returns-in_err-at c = λ b d e f. told_front c.args.reader.now (λ i vs. item_on b vs i) c.from_residual-in_err-at.result (Read (Term outermost) ∷ Test_ IsType ∷ []) (sign k.Period ∷ Make m.AnItem ∷ [])
    (λ vs. token e ∷ part f c.args.ty ∷ token d ∷ on_token c.args.name (module_so_far b ∷ vs)) (λ vs. part c.in_ok-body.field-0-0-0 c.in_ok-body.body ∷ token e ∷ part f c.args.ty ∷ token d ∷ on_token c.args.name (module_so_far b ∷ vs)) c.args.at c.in_ok-body.at
    (λ vs. rw (c.in_ok-body.ensures, one_test (given_of c.args.reader.now) IsType, c.levels.ensures.class) refl) (search rules)
