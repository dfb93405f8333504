-- The command whose words the parser reads, and what is taken of its answer.
use Rattle.std.specs.Prelude.{List, [], Some, true, codes, map, option_map, string_bytes, unwrap_or}
use Rattle.clap.specs.Simple.{App, new_app, new_rule, with_rule, on_top}
use Rattle.clap.specs.Walk.{Row, Rule, all_of, first_of}
use Rattle.clap.specs.declared.builder.action.ArgAction.TheVariants.{Append}
use Rattle.cdle_words.specs.Words.{Given, Word}
use Rattle.cdle_words.specs.declared.given.GivenWords.{GivenWords}

abbrev pub budget_rule : Rule
budget_rule = record (new_rule (codes "budget")) { long = Some (codes "budget") }

abbrev pub value_rule : Rule
value_rule = record (new_rule (codes "value")) { action = Some Append }

-- one option and any number of values, with the help and version flags off
abbrev pub words_app : Word → App
words_app name = with_rule (with_rule
    (on_top (λ s. record s { disable_help_flag = true; disable_version_flag = true }) (new_app name))
    budget_rule) value_rule

-- what the parser's rows hold
abbrev pub found_in : List Row → Given
found_in rows = record { values = unwrap_or (all_of (codes "value") rows) []; budget = first_of (codes "budget") rows }

-- what the code keeps of them
abbrev pub given_of : GivenWords → Given
given_of g = record { values = map string_bytes g.values.items; budget = option_map (λ s. s.now) g.budget }
