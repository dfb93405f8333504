-- The command that the code answers, as the definition has it.
use Rattle.std.specs.Prelude.{ℕ, map, string_bytes}
use Rattle.cdle_words.specs.Words.{Command, build, core}
use Rattle.cdle_words.specs.declared.asked.Asked.{Asked}
use Rattle.cdle_words.specs.declared.asked.Asked.TheVariants as asked

abbrev pub command_in : Asked → Command
command_in (asked.Core files budget) = core (map string_bytes files.items) budget
command_in (asked.Build name budget) = build (string_bytes name) budget

abbrev pub budget_in : Asked → ℕ
budget_in (asked.Core files budget) = budget
budget_in (asked.Build name budget) = budget
