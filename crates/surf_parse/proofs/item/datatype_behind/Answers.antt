use Rattle.std.proofs.Common.{◌-◌, [], ◌∷◌, map, refl, rules}
use Rattle.source_model.specs.Grammar.{token, parameters, constructors, module_so_far, Make, Read, Constructors}
use Rattle.source_model.specs.Grammar as m
use Rattle.source_model.specs.Rows.{sign}
use Rattle.source_model.specs.Made.{made}
use Rattle.source_model.specs.declared.token.TokenKind.TheVariants as k
use Rattle.source_model.proofs.Turns.{one_make}
use Rattle.surf_tree.specs.Items.{parameter_of}
use Rattle.surf_reader.specs.View.{token_of, given_of, on_token}
use Rattle.surf_parse.specs.Outer.{item_on}
use Rattle.surf_parse.proofs.Ahead.{told_front}
use Rattle.surf_parse.proofs.item.datatype_behind.Goals as goal

pub returns : goal.returns
unfolding made
returns c = λ b d vs.
    rw (c.in_ok-at.ensures, c.in_ok-at-2.ensures, c.in_ok-at-3.ensures, one_make (given_of c.args.reader.now) m.NoConstructors, c.in_ok-ctors.ensures, c.in_ok-at-4.ensures, one_make (given_of c.args.reader.now) m.ADatatype) refl

pub returns-in_err-ctors : goal.returns-in_err-ctors
unfolding made
returns-in_err-ctors c = λ b d. told_front c.args.reader.now (λ i vs. item_on b vs i) c.from_residual-in_err-ctors.result (sign k.Colon ∷ sign k.Star ∷ sign k.Is ∷ Make m.NoConstructors ∷ []) (Read (Constructors 64) ∷ sign k.Period ∷ Make m.ADatatype ∷ [])
    (λ vs. parameters (map parameter_of c.args.params.items) ∷ on_token c.args.name (token d ∷ module_so_far b ∷ vs))
    (λ vs. constructors [] ∷ token (token_of c.in_ok-at-3.field-0-0) ∷ token (token_of c.in_ok-at-2.field-0-0) ∷ token (token_of c.in_ok-at.field-0-0) ∷ parameters (map parameter_of c.args.params.items) ∷ on_token c.args.name (token d ∷ module_so_far b ∷ vs))
    c.args.at c.in_ok-at-3.at (λ vs. rw (c.in_ok-at.ensures, c.in_ok-at-2.ensures, c.in_ok-at-3.ensures, one_make (given_of c.args.reader.now) m.NoConstructors) refl) (search rules)

pub returns-in_err-at-4 : goal.returns-in_err-at-4
unfolding made
returns-in_err-at-4 c = λ b d. told_front c.args.reader.now (λ i vs. item_on b vs i) c.from_residual-in_err-at-4.result (sign k.Colon ∷ sign k.Star ∷ sign k.Is ∷ Make m.NoConstructors ∷ []) (Read (Constructors 64) ∷ sign k.Period ∷ Make m.ADatatype ∷ [])
    (λ vs. parameters (map parameter_of c.args.params.items) ∷ on_token c.args.name (token d ∷ module_so_far b ∷ vs))
    (λ vs. constructors [] ∷ token (token_of c.in_ok-at-3.field-0-0) ∷ token (token_of c.in_ok-at-2.field-0-0) ∷ token (token_of c.in_ok-at.field-0-0) ∷ parameters (map parameter_of c.args.params.items) ∷ on_token c.args.name (token d ∷ module_so_far b ∷ vs))
    c.args.at c.in_ok-at-3.at (λ vs. rw (c.in_ok-at.ensures, c.in_ok-at-2.ensures, c.in_ok-at-3.ensures, one_make (given_of c.args.reader.now) m.NoConstructors) refl) (search rules)
