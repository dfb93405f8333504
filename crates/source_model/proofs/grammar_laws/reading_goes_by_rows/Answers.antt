use Rattle.source_model.proofs.Turns.{one_end, one_make, one_test, one_token, run_turn}
use Rattle.source_model.proofs.grammar_laws.reading_goes_by_rows.Goals as goal

pub returns-clause-turn : goal.returns-clause-turn
returns-clause-turn c = λ g ws r. run_turn g ws r.at r.tokens r.values

pub returns-clause-token : goal.returns-clause-token
returns-clause-token c = one_token

pub returns-clause-end : goal.returns-clause-end
returns-clause-end c = one_end

pub returns-clause-making : goal.returns-clause-making
returns-clause-making c = one_make

pub returns-clause-test : goal.returns-clause-test
returns-clause-test c = one_test
