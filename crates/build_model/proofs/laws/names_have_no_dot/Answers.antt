use Rattle.std.specs.Prelude.{◌≡◌, false, map}
use Rattle.scope_model.specs.ItemNames.{called}
use Rattle.scope_model.proofs.SaidNames.{said_names}
use Rattle.build_model.specs.ModuleNames.{has_dot}
use Rattle.build_model.proofs.NoDots.{tokens_undotted}
use Rattle.build_model.proofs.laws.names_have_no_dot.Goals as goal

pub returns-clause-tokens : goal.returns-clause-tokens
returns-clause-tokens c = tokens_undotted

pub returns-clause-text : goal.returns-clause-text
returns-clause-text c = λ text ts g m u e s. said_names (λ w. has_dot w ≡ false) g (map (called text) ts) m (tokens_undotted text ts u e) s

pub returns-clause-table : goal.returns-clause-table
returns-clause-table c = λ g ts m. said_names (λ n. has_dot (g.text n) ≡ false) g ts m
