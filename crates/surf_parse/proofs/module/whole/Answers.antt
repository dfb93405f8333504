use Rattle.std.proofs.Common.{◌-◌, [], ◌∷◌, refl, rules}
use Rattle.source_model.specs.Grammar.{module_so_far, Test_, Make, Read, IsModule, Imports, Items}
use Rattle.source_model.specs.Grammar as m
use Rattle.source_model.specs.Rows.{sign, binding}
use Rattle.source_model.specs.Made.{made}
use Rattle.source_model.specs.declared.token.TokenKind.TheVariants as k
use Rattle.source_model.proofs.Turns.{one_make}
use Rattle.surf_reader.specs.View.{given_of}
use Rattle.surf_parse.specs.Outer.{module_value}
use Rattle.surf_parse.proofs.Ahead.{told_front}
use Rattle.surf_parse.proofs.module.whole.Goals as goal

pub returns : goal.returns
unfolding made
returns c = λ vs. rw (c.in_ok-at.ensures, c.in_ok-name.ensures, c.in_ok-is_module.ensures, c.in_ok-at-2.ensures, one_make (given_of c.args.reader.now) m.TheModule, c.in_ok-imports.ensures, c.in_ok-items.ensures) refl

pub returns-in_err-imports : goal.returns-in_err-imports
unfolding made
returns-in_err-imports c = told_front c.args.reader.now module_value c.from_residual-in_err-imports.result (sign k.Module ∷ binding ∷ Test_ IsModule ∷ sign k.Period ∷ Make m.TheModule ∷ []) (Read Imports ∷ Read Items ∷ []) (λ vs. vs)
    (λ vs. module_so_far (record { name = c.in_ok-name.name.name.0; imports = []; items = [] }) ∷ vs) 0 c.in_ok-at-2.at
    (λ vs. rw (c.in_ok-at.ensures, c.in_ok-name.ensures, c.in_ok-is_module.ensures, c.in_ok-at-2.ensures, one_make (given_of c.args.reader.now) m.TheModule) refl) (search rules)

pub returns-in_err-items : goal.returns-in_err-items
unfolding made
returns-in_err-items c = told_front c.args.reader.now module_value c.from_residual-in_err-items.result (sign k.Module ∷ binding ∷ Test_ IsModule ∷ sign k.Period ∷ Make m.TheModule ∷ []) (Read Imports ∷ Read Items ∷ []) (λ vs. vs)
    (λ vs. module_so_far (record { name = c.in_ok-name.name.name.0; imports = []; items = [] }) ∷ vs) 0 c.in_ok-at-2.at
    (λ vs. rw (c.in_ok-at.ensures, c.in_ok-name.ensures, c.in_ok-is_module.ensures, c.in_ok-at-2.ensures, one_make (given_of c.args.reader.now) m.TheModule) refl) (search rules)
