use Rattle.std.proofs.Common.{◌≡◌, [], ◌∷◌, refl}
use Rattle.source_model.specs.Grammar.{Make, Owner}
use Rattle.source_model.specs.Grammar as m
use Rattle.source_model.specs.Rows.{row, MustStand, LeftOut, binding}
use Rattle.source_model.specs.declared.token.TokenKind.TheVariants as k
use Rattle.surf_reader.specs.View.{token_of, owner_value}
use Rattle.surf_reader.proofs.Steps.{omitted, told_option}
use Rattle.surf_reader.proofs.reader.Reader.owner.Goals as goal

pub returns-in-Some : goal.returns-in-Some
unfolding row
returns-in-Some c = told_option c.args.self.now (λ t vs. owner_value t ∷ vs) c.second_name.result Owner k.Hash c.args.at c.in-Some.field-0 (binding ∷ Make m.Given ∷ []) c.in-Some.ensures.taken (λ vs t. refl) (c.second_name.ensures (token_of c.in-Some.field-0))

pub returns-in-None : goal.returns-in-None
unfolding row
returns-in-None c = λ vs. omitted c.args.self.now Owner k.Hash c.args.at (binding ∷ Make m.Given ∷ []) vs (c.in-None.ensures.none refl) (λ t. refl) (λ e. let h : LeftOut ≡ MustStand = e in absurd cc)
