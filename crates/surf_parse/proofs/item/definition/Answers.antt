use Rattle.std.proofs.Common.{ℕ, ◌-◌, List, ◌∷◌, refl}
use Rattle.source_model.specs.Grammar.{Value, token, part, module_so_far, any}
use Rattle.surf_reader.specs.View.{token_of, given_of, here, on_token}
use Rattle.surf_parse.specs.Outer.{item_on}
use Rattle.surf_reader.proofs.Steps.{told_same}
use Rattle.surf_parse.proofs.Ahead.{body_of_type, body_of_term}
use Rattle.surf_parse.proofs.item.definition.Goals as goal

pub returns-in-OfType : goal.returns-in-OfType
returns-in-OfType c = λ b.
    let h = λ (us : List (Value ℕ)). c.in_ok-class.ensures any us refl in
    told_same c.args.reader.now (λ i vs. item_on b vs i) c.term_definition.result _ _
    (λ vs. rw (c.in_ok-at.ensures, h, c.in_ok-at-2.ensures, c.in-OfType.is, body_of_term (given_of c.args.reader.now) (here c.args.reader.now c.in_ok-at-2.at (token (token_of c.in_ok-at-2.field-0-0) ∷ part c.in_ok-class.field-0-0-0 c.in-OfType.ty ∷ token (token_of c.in_ok-at.field-0-0) ∷ on_token c.args.name (module_so_far b ∷ vs))) c.levels.ensures.class) refl)
    (c.term_definition.ensures b (token_of c.in_ok-at.field-0-0) (token_of c.in_ok-at-2.field-0-0) c.in_ok-class.field-0-0-0)

pub returns-in-OfKind : goal.returns-in-OfKind
returns-in-OfKind c = λ b.
    let h = λ (us : List (Value ℕ)). c.in_ok-class.ensures any us refl in
    told_same c.args.reader.now (λ i vs. item_on b vs i) c.type_definition.result _ _
    (λ vs. rw (c.in_ok-at.ensures, h, c.in_ok-at-2.ensures, c.in-OfKind.is, body_of_type (given_of c.args.reader.now) (here c.args.reader.now c.in_ok-at-2.at (token (token_of c.in_ok-at-2.field-0-0) ∷ part c.in_ok-class.field-0-0-0 c.in-OfKind.kind ∷ token (token_of c.in_ok-at.field-0-0) ∷ on_token c.args.name (module_so_far b ∷ vs))) c.levels-in-OfKind.ensures.class) refl)
    (c.type_definition.ensures b (token_of c.in_ok-at.field-0-0) (token_of c.in_ok-at-2.field-0-0) c.in_ok-class.field-0-0-0)
