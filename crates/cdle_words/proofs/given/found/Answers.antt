use Rattle.std.proofs.Common.{◌∙◌, unwrap_or, [], codes, ap}
use Rattle.clap.specs.Words.{found_of}
use Rattle.clap.proofs.WalkLemmas.{first_value-rows, raw_values-rows}
use Rattle.cdle_words.proofs.given.found.Goals as goal

pub returns-clause-gives : goal.returns-clause-gives
returns-clause-gives c =
    let found = found_of c.args.matches.now in
    let values = c.in_ok-values.ensures ∙ ap (λ o. unwrap_or o []) (c.get_strs.ensures ∙ raw_values-rows found (codes "value")) in
    let budget = c.get_str-budget.ensures ∙ first_value-rows found (codes "budget") in
    λ i. record { values = values i; budget = budget i }
