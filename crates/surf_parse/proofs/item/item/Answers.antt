use Rattle.std.proofs.Common.{◌≡◌, ◌∙◌, ℕ, ◌-◌, ◌+◌, List, [], ◌∷◌, Err, refl, ap, subst, rules, arith}
use Rattle.source_model.specs.Source.{Module}
use Rattle.source_model.specs.Grammar.{Value, module_so_far, Items}
use Rattle.source_model.specs.Rows.{row, item_row}
use Rattle.surf_parse.specs.Outer.{Advances, Repeats, definition_row, datatype_row, item_on}
use Rattle.surf_reader.proofs.Steps.{misses, ends}
use Rattle.surf_parse.proofs.Ahead.{shrinks, goes_on, goes_wrong, item_none}
use Rattle.surf_parse.proofs.item.item.Goals as goal

pub returns-in-None-clause-repeats : goal.returns-in-None-clause-repeats
returns-in-None-clause-repeats c = λ b vs. ends c.args.reader.now Items c.args.at (module_so_far b ∷ vs) (c.in-None.ensures.none refl) ∙ refl

pub returns-in_default-clause-repeats : goal.returns-in_default-clause-repeats
unfolding row
returns-in_default-clause-repeats c = λ b vs. misses c.args.reader.now Items c.args.at c.in-Some.token (module_so_far b ∷ vs) c.in-Some.ensures.next (item_none c.in-Some.token.kind c.in_default.not-Name c.in_default.not-Data) ∙ refl

pub returns-in_ok-definition-in-Name-clause-repeats : goal.returns-in_ok-definition-in-Name-clause-repeats
unfolding row
returns-in_ok-definition-in-Name-clause-repeats c = λ b vs.
    goes_on c.args.reader.now Items Items c.args.at c.in_ok-definition-in-Name.field-0.1 c.in-Some.token definition_row (module_so_far b ∷ vs) (item_on b vs c.in_ok-definition-in-Name.field-0.0) c.in-Some.ensures.next (ap item_row c.in-Name.is) (c.in_ok-definition-in-Name.ensures b vs)

pub returns-in_err-definition-in-Name-clause-repeats : goal.returns-in_err-definition-in-Name-clause-repeats
unfolding row
returns-in_err-definition-in-Name-clause-repeats c =
    let q : c.from_residual.result ≡ Err c.in_err-definition-in-Name.field-0.0 = search rules in
    let h : (b : Module ℕ) (vs : List (Value ℕ)) → Repeats c.args.reader.now Items Items (module_so_far b ∷ vs) (item_on b vs) c.args.at (Err c.in_err-definition-in-Name.field-0.0) = λ b vs.
    goes_wrong c.args.reader.now Items Items c.args.at c.in-Some.token definition_row (module_so_far b ∷ vs) c.in_err-definition-in-Name.field-0.0 c.in-Some.ensures.next (ap item_row c.in-Name.is) (c.in_err-definition-in-Name.ensures b vs) in
    rw q h

pub returns-in_ok-definition-in-Name-clause-ahead : goal.returns-in_ok-definition-in-Name-clause-ahead
returns-in_ok-definition-in-Name-clause-ahead c = λ x e.
    let b : Module ℕ = record { name = 0; imports = []; items = [] } in
    let vs : List (Value ℕ) = [] in
    let h = shrinks c.args.reader.now definition_row (c.args.at + 1) c.in_ok-definition-in-Name.field-0.1 _ _ (c.in_ok-definition-in-Name.ensures b vs) in
    let q : c.in_ok-definition-in-Name.field-0 ≡ x = cc in
    subst (λ y. Advances c.args.reader.now c.args.at y.1) q (omega (arith, h, c.in-Some.ensures.inside))

pub returns-in_ok-datatype-in-Data-clause-repeats : goal.returns-in_ok-datatype-in-Data-clause-repeats
unfolding row
returns-in_ok-datatype-in-Data-clause-repeats c = λ b vs.
    goes_on c.args.reader.now Items Items c.args.at c.in_ok-datatype-in-Data.field-0.1 c.in-Some.token datatype_row (module_so_far b ∷ vs) (item_on b vs c.in_ok-datatype-in-Data.field-0.0) c.in-Some.ensures.next (ap item_row c.in-Data.is) (c.in_ok-datatype-in-Data.ensures b vs)

pub returns-in_err-datatype-in-Data-clause-repeats : goal.returns-in_err-datatype-in-Data-clause-repeats
unfolding row
returns-in_err-datatype-in-Data-clause-repeats c =
    let q : c.from_residual-in_err-datatype-in-Data.result ≡ Err c.in_err-datatype-in-Data.field-0.0 = search rules in
    let h : (b : Module ℕ) (vs : List (Value ℕ)) → Repeats c.args.reader.now Items Items (module_so_far b ∷ vs) (item_on b vs) c.args.at (Err c.in_err-datatype-in-Data.field-0.0) = λ b vs.
    goes_wrong c.args.reader.now Items Items c.args.at c.in-Some.token datatype_row (module_so_far b ∷ vs) c.in_err-datatype-in-Data.field-0.0 c.in-Some.ensures.next (ap item_row c.in-Data.is) (c.in_err-datatype-in-Data.ensures b vs) in
    rw q h

pub returns-in_ok-datatype-in-Data-clause-ahead : goal.returns-in_ok-datatype-in-Data-clause-ahead
returns-in_ok-datatype-in-Data-clause-ahead c = λ x e.
    let b : Module ℕ = record { name = 0; imports = []; items = [] } in
    let vs : List (Value ℕ) = [] in
    let h = shrinks c.args.reader.now datatype_row (c.args.at + 1) c.in_ok-datatype-in-Data.field-0.1 _ _ (c.in_ok-datatype-in-Data.ensures b vs) in
    let q : c.in_ok-datatype-in-Data.field-0 ≡ x = cc in
    subst (λ y. Advances c.args.reader.now c.args.at y.1) q (omega (arith, h, c.in-Some.ensures.inside))
