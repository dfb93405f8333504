-- The lines of the reports of `build`, beside those that it shares with `core`.
use Rattle.std.specs.Prelude.{ℕ, List, ◌++◌, codes, Option, Some, None}
use Rattle.std.specs.Fmt.{decimal}
use Rattle.cdle_model.specs.Places.{line_of, column_of}
use Rattle.cdle_model.specs.Report.{Line, line}

-- the module was built, with so many modules and items
abbrev pub built_line : List ℕ → ℕ → ℕ → Line
built_line name modules items = line (codes "built " ++ (name ++ (codes " modules " ++ (decimal modules ++ (codes " items " ++ decimal items)))))

-- at that byte of the file, of this text, a form is refused
abbrev pub refused_there_line : List ℕ → List ℕ → ℕ → List ℕ → Line
refused_there_line file text at what = line (file ++ (codes ":" ++ (decimal (line_of text at) ++ (codes ":" ++ (decimal (column_of text at) ++ (codes ": refused: " ++ what))))))

-- the form there was undecided, with that budget
abbrev pub undecided_there_line : List ℕ → List ℕ → ℕ → ℕ → Line
undecided_there_line file text at budget = line (file ++ (codes ":" ++ (decimal (line_of text at) ++ (codes ":" ++ (decimal (column_of text at) ++ (codes ": undecided: budget " ++ decimal budget))))))

abbrev pub cannot_write_line : List ℕ → Line
cannot_write_line file = line (codes "cannot write " ++ file)

-- a byte, or that there is none
abbrev pub byte_word : Option ℕ → List ℕ
byte_word (Some byte) = decimal byte
byte_word None = codes "end"

-- what was read back of the file is not what was written, first at that byte
abbrev pub read_back_line : List ℕ → ℕ → Option ℕ → Option ℕ → Line
read_back_line file at wrote read = line (codes "read back " ++ (file ++ (codes " differs at byte " ++ (decimal at ++ (codes ": wrote " ++ (byte_word wrote ++ (codes ", read " ++ byte_word read)))))))
