use Rattle.std.proofs.Common.{◌≡◌, ℕ, ◌-◌, ◌+◌, Bool, List, [], ◌∷◌, ◌++◌, Err, refl, ap, subst, rules, arith}
use Rattle.source_model.specs.Source.{Module}
use Rattle.source_model.specs.Grammar.{Value, module_so_far, Read, Imports}
use Rattle.source_model.specs.Rows.{row, Leaving, MustStand, only}
use Rattle.source_model.specs.declared.token.TokenKind.TheVariants as k
use Rattle.surf_reader.specs.View.{token_of, given_of}
use Rattle.surf_parse.specs.Outer.{Advances, Repeats, row_of_import, import_on}
use Rattle.surf_reader.proofs.Steps.{omitted}
use Rattle.surf_parse.proofs.Ahead.{shrinks, goes_on, goes_wrong}
use Rattle.surf_parse.proofs.module.import.Goals as goal

pub returns-in-None-clause-repeats : goal.returns-in-None-clause-repeats
unfolding row
returns-in-None-clause-repeats c = λ b vs. omitted c.args.reader.now Imports k.Import c.args.at (row_of_import ++ Read Imports ∷ []) (module_so_far b ∷ vs) (c.in-None.ensures.none refl) (λ t. refl) (λ e. let h : Leaving.Ends ≡ MustStand = e in absurd cc)

pub returns-in_ok-import_behind-in-Some-clause-repeats : goal.returns-in_ok-import_behind-in-Some-clause-repeats
unfolding row
returns-in_ok-import_behind-in-Some-clause-repeats c = λ b vs.
    goes_on c.args.reader.now Imports Imports c.args.at c.in_ok-import_behind-in-Some.field-0.1 c.in-Some.field-0 row_of_import (module_so_far b ∷ vs) (import_on (given_of c.args.reader.now).text b vs c.in_ok-import_behind-in-Some.field-0.0) c.in-Some.ensures.taken.next (ap (λ (w : Bool). only w (row_of_import ++ Read Imports ∷ [])) c.in-Some.ensures.taken.same) (c.in_ok-import_behind-in-Some.ensures (token_of c.in-Some.field-0) b vs)

pub returns-in_err-import_behind-in-Some-clause-repeats : goal.returns-in_err-import_behind-in-Some-clause-repeats
unfolding row
returns-in_err-import_behind-in-Some-clause-repeats c =
    let q : c.from_residual.result ≡ Err c.in_err-import_behind-in-Some.field-0.0 = search rules in
    let h : (b : Module ℕ) (vs : List (Value ℕ)) → Repeats c.args.reader.now Imports Imports (module_so_far b ∷ vs) (import_on (given_of c.args.reader.now).text b vs) c.args.at (Err c.in_err-import_behind-in-Some.field-0.0) = λ b vs.
    goes_wrong c.args.reader.now Imports Imports c.args.at c.in-Some.field-0 row_of_import (module_so_far b ∷ vs) c.in_err-import_behind-in-Some.field-0.0 c.in-Some.ensures.taken.next (ap (λ (w : Bool). only w (row_of_import ++ Read Imports ∷ [])) c.in-Some.ensures.taken.same) (c.in_err-import_behind-in-Some.ensures (token_of c.in-Some.field-0) b vs) in
    rw q h

pub returns-in_ok-import_behind-in-Some-clause-ahead : goal.returns-in_ok-import_behind-in-Some-clause-ahead
returns-in_ok-import_behind-in-Some-clause-ahead c = λ x e.
    let b : Module ℕ = record { name = 0; imports = []; items = [] } in
    let vs : List (Value ℕ) = [] in
    let h = shrinks c.args.reader.now row_of_import (c.args.at + 1) c.in_ok-import_behind-in-Some.field-0.1 _ _ (c.in_ok-import_behind-in-Some.ensures (token_of c.in-Some.field-0) b vs) in
    let q : c.in_ok-import_behind-in-Some.field-0 ≡ x = cc in
    subst (λ y. Advances c.args.reader.now c.args.at y.1) q (omega (arith, h, c.in-Some.ensures.inside))
