-- Where a byte of a text stands for a reader: its line, and its column in characters, both from 1.
use Rattle.std.specs.Prelude.{ℕ, ◌+◌, ◌==◌, List, count_by, take}
use Rattle.std.specs.List.{after_last}
use Rattle.std.specs.Fmt.{char_count}

-- one more than the line feeds before it
abbrev pub line_of : List ℕ → ℕ → ℕ
line_of text at = count_by (λ b. b == 10) (take at text) + 1

-- one more than the characters between the last line feed before it, or the start, and it
abbrev pub column_of : List ℕ → ℕ → ℕ
column_of text at = char_count (after_last (λ b. b == 10) (take at text)) + 1
