-- The reports of the program, each one line: what the outcome of a command says, as bytes.
use Rattle.std.specs.Prelude.{ℕ, List, [], ◌∷◌, ◌++◌, codes}
use Rattle.std.specs.Fmt.{decimal}
use Rattle.cdle_model.specs.declared.grammar.CoreWanted.{CoreWanted}
use Rattle.cdle_model.specs.declared.grammar.CoreWanted.TheVariants as wanted
use Rattle.cdle_model.specs.declared.grammar.Count.{Count}
use Rattle.cdle_model.specs.declared.grammar.Count.TheVariants as count
use Rattle.cdle_model.specs.Places.{line_of, column_of}

abbrev pub Line : Type 0
Line = List ℕ

-- every report ends so
abbrev pub line : List ℕ → Line
line text = text ++ codes "\n"

-- the word for what the grammar wants
abbrev pub wanted_word : CoreWanted → List ℕ
wanted_word wanted.Core = codes "core"
wanted_word wanted.One = codes "1"
wanted_word wanted.Item = codes "item"
wanted_word wanted.Name = codes "name"
wanted_word wanted.Kind = codes "kind"
wanted_word wanted.Ty = codes "type"
wanted_word wanted.Term = codes "term"
wanted_word wanted.Pure = codes "pure term"
wanted_word wanted.Guide = codes "guide"
wanted_word wanted.GuideKind = codes "guide kind"
wanted_word wanted.Close = codes ")"

abbrev pub count_word : Count → List ℕ
count_word count.Bytes = codes "bytes"
count_word count.Nesting = codes "nesting"
count_word count.Depth = codes "depth"
count_word count.Items = codes "items"
count_word count.Modules = codes "modules"
count_word count.Constructors = codes "constructors"
count_word count.Arguments = codes "arguments"
count_word count.Parameters = codes "parameters"

-- the numbers of a path from the item inwards
abbrev pub path_text : List ℕ → List ℕ
path_text [] = []
path_text (n ∷ []) = decimal n
path_text (n ∷ m ∷ ns) = decimal n ++ (codes "/" ++ path_text (m ∷ ns))

-- so many items were accepted
abbrev pub accepted_line : ℕ → Line
accepted_line items = line (codes "accepted " ++ decimal items)

-- the file, of this text, does not meet its grammar or its scope at that byte
abbrev pub malformed_line : List ℕ → List ℕ → ℕ → List ℕ → Line
malformed_line file text at what = line (file ++ (codes ":" ++ (decimal (line_of text at) ++ (codes ":" ++ (decimal (column_of text at) ++ (codes ": malformed: " ++ what))))))

abbrev pub usage_line : Line
usage_line = line (codes "usage: cdle core FILE.. | cdle build MODULE | cdle make N [--budget N]")

-- the item is refused at that path, for that reason
abbrev pub refused_line : List ℕ → List ℕ → List ℕ → Line
refused_line item path reason = line (codes "refused " ++ (item ++ (codes " at " ++ (path_text path ++ (codes ": " ++ reason)))))

-- an earlier item has that name
abbrev pub duplicate_line : List ℕ → Line
duplicate_line item = line (codes "refused " ++ (item ++ codes ": duplicate"))

-- the check of the item was undecided at that path, with that budget
abbrev pub undecided_line : List ℕ → List ℕ → ℕ → Line
undecided_line item path budget = line (codes "undecided " ++ (item ++ (codes " at " ++ (path_text path ++ (codes ": budget " ++ decimal budget)))))

abbrev pub cannot_read_line : List ℕ → Line
cannot_read_line file = line (codes "cannot read " ++ file)

abbrev pub out_of_memory_line : Line
out_of_memory_line = line (codes "out of memory")

abbrev pub limit_line : List ℕ → Count → Line
limit_line name what = line (codes "limit " ++ (name ++ (codes ": " ++ count_word what)))

abbrev pub missing_line : List ℕ → Line
missing_line file = line (codes "missing " ++ file)
