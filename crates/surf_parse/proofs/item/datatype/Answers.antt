use Rattle.std.proofs.Common.{◌-◌, [], ◌∷◌, map, refl, rules}
use Rattle.source_model.specs.Grammar.{parameters, module_so_far, Make, Read, Parameters}
use Rattle.source_model.specs.Grammar as m
use Rattle.source_model.specs.Rows.{binding}
use Rattle.source_model.specs.Made.{made}
use Rattle.source_model.proofs.Turns.{one_make}
use Rattle.surf_tree.specs.Items.{parameter_of}
use Rattle.surf_reader.specs.View.{token_of, given_of, on_token}
use Rattle.surf_parse.specs.Outer.{constructors_row, item_on}
use Rattle.surf_reader.proofs.Steps.{told_more}
use Rattle.surf_parse.proofs.Ahead.{told_front}
use Rattle.surf_parse.proofs.item.datatype.Goals as goal

pub returns : goal.returns
unfolding made
returns c = λ b. told_front c.args.reader.now (λ i vs. item_on b vs i) c.datatype_behind.result (binding ∷ Make m.NoParameters ∷ []) (Read (Parameters 16) ∷ constructors_row) (λ vs. on_token c.args.word (module_so_far b ∷ vs))
    (λ vs. parameters [] ∷ on_token c.in_ok-name.name (on_token c.args.word (module_so_far b ∷ vs))) c.args.at c.in_ok-name.at (λ vs. rw (c.in_ok-name.ensures, one_make (given_of c.args.reader.now) m.NoParameters) refl)
    (told_more c.args.reader.now (λ i vs. item_on b vs i) c.datatype_behind.result (Read (Parameters 16)) constructors_row (λ vs. parameters [] ∷ on_token c.in_ok-name.name (on_token c.args.word (module_so_far b ∷ vs)))
    (λ vs. parameters (map parameter_of c.in_ok-params.params.items) ∷ on_token c.in_ok-name.name (on_token c.args.word (module_so_far b ∷ vs))) c.in_ok-name.at c.in_ok-params.at
    (λ vs. c.in_ok-params.ensures (on_token c.in_ok-name.name (on_token c.args.word (module_so_far b ∷ vs)))) (c.datatype_behind.ensures b (token_of c.args.word)))

pub returns-in_err-params : goal.returns-in_err-params
unfolding made
returns-in_err-params c = λ b. told_front c.args.reader.now (λ i vs. item_on b vs i) c.from_residual-in_err-params.result (binding ∷ Make m.NoParameters ∷ []) (Read (Parameters 16) ∷ constructors_row) (λ vs. on_token c.args.word (module_so_far b ∷ vs))
    (λ vs. parameters [] ∷ on_token c.in_ok-name.name (on_token c.args.word (module_so_far b ∷ vs))) c.args.at c.in_ok-name.at (λ vs. rw (c.in_ok-name.ensures, one_make (given_of c.args.reader.now) m.NoParameters) refl) (search rules)
