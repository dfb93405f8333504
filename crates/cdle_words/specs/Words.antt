-- What the words of the command line ask for.
use Rattle.std.specs.Prelude.{◌==◌, ◌++◌, ◌&&◌, ℕ, Bool, true, false, List, [], ◌∷◌, Option, Some, None}
use Rattle.std.specs.Prelude.{codes, if◌then◌else◌, is_some, option_and_then, option_map, length, nat_le, nat_lt}
use Rattle.std.specs.Char.{is_ascii_digit}
use Rattle.std.specs.List.{list_all}
use Rattle.std.specs.Str.Parse.{digits_value}
use Rattle.std.specs.Str.{bytes_eq}
use Rattle.cdle_words.specs.ModuleNames.{is_module_name}

-- a word, by its bytes
abbrev pub Word : Type 0
Word = List ℕ

-- ---- options and values

-- what the words after the first give: the values in their order, and the budget as it is written
pub record Given : Type 0 where
  pub values : List Word
  pub budget : Option Word

abbrev pub nothing_given : Given
nothing_given = record { values = []; budget = None }

abbrev pub with_values : Given → List Word → Given
with_values given words = record given { values = given.values ++ words }

-- a budget may be given once
abbrev pub with_budget : Given → Word → Option Given
with_budget given word = if is_some given.budget then None else Some (record given { budget = Some word })

-- the word starts with a hyphen and has more behind it
abbrev pub is_hyphened : Word → Bool
is_hyphened [] = false
is_hyphened (b ∷ []) = false
is_hyphened (b ∷ c ∷ rest) = b == 45

-- the word is this option alone, or the option, `=` and a value
unfoldable pub option_word : Word → Word → Option (Option Word)
option_word [] [] = Some None
option_word [] (b ∷ rest) = if b == 61 then Some (Some rest) else None
option_word (c ∷ name) [] = None
option_word (c ∷ name) (b ∷ rest) = if c == b then option_word name rest else None

-- one word before `--`: `--budget`, whose value is the next word; `--budget=V`; or a value
abbrev pub read_word : Given → Word → Option (Option Word) → (Given → Bool → Option Given) → Option Given
read_word given word (Some None) next = next given true
read_word given word (Some (Some value)) next = option_and_then (λ g. next g false) (with_budget given value)
read_word given word None next = if is_hyphened word then None else next (with_values given (word ∷ [])) false

-- The words from the left, behind what was given. `waits` says that the word before them was `--budget`; behind `--` each word is a value.
unfoldable pub read_words : Given → Bool → List Word → Option Given
read_words given true [] = None
read_words given false [] = Some given
read_words given true (word ∷ words) =
    if is_hyphened word then None
    else option_and_then (λ g. read_words g false words) (with_budget given word)
read_words given false (word ∷ words) =
    if bytes_eq word (codes "--") then Some (with_values given words)
    else read_word given word (option_word (codes "--budget") word) (λ g waits. read_words g waits words)

-- ---- numbers

-- the number that the digits spell, where they are from one to `most`
abbrev pub number_of : ℕ → Word → Option ℕ
number_of most word =
    if nat_lt 0 (length word) && nat_le (length word) most && list_all is_ascii_digit word
    then Some (digits_value 10 word) else None

-- the number, where it is from one to `most`
abbrev pub within : ℕ → Option ℕ → Option ℕ
within most None = None
within most (Some n) = if nat_lt 0 n && nat_le n most then Some n else None

-- the units that a comparison may take: those that are written, or 200,000
abbrev pub budget_of : Option Word → Option ℕ
budget_of None = Some 200000
budget_of (Some word) = within 10000000 (number_of 8 word)

-- ---- commands

-- what is to be done, with this budget: to check these files, or to build the module of that name
pub data Command : Type 0 where
  core : List Word → ℕ → Command
  build : Word → ℕ → Command

-- `core` wants a file at least
abbrev pub core_of : List Word → ℕ → Option Command
core_of [] budget = None
core_of (file ∷ files) budget = Some (core (file ∷ files) budget)

abbrev pub core_given : Given → Option Command
core_given given = option_and_then (core_of given.values) (budget_of given.budget)

-- the one value, where it is a module's name
abbrev pub only_module : List Word → Option Word
only_module [] = None
only_module (name ∷ []) = if is_module_name name then Some name else None
only_module (name ∷ other ∷ more) = None

-- `build` wants a module's name and nothing more
abbrev pub build_of : List Word → ℕ → Option Command
build_of values budget = option_map (λ name. build name budget) (only_module values)

abbrev pub build_given : Given → Option Command
build_given given = option_and_then (build_of given.values) (budget_of given.budget)

-- what the words ask for; none where they are no command
abbrev pub command_of : List Word → Option Command
command_of [] = None
command_of (first ∷ words) =
    if bytes_eq first (codes "core") then option_and_then core_given (read_words nothing_given false words)
    else (if bytes_eq first (codes "build") then option_and_then build_given (read_words nothing_given false words) else None)
