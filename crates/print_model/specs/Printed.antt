-- Printed Core: the bytes by which items are written.
use Rattle.std.specs.Prelude.{ℕ, zero, suc, ◌+◌, ◌-◌, List, [], ◌∷◌, ◌++◌, get_or, codes, Option, Some, None, Result, Ok, Err}
use Rattle.std.specs.Fmt.{decimal}
use Rattle.cdle_model.specs.Trees.{Tree, var, name}
use Rattle.cdle_model.specs.Forms.{Written, name_of}
use Rattle.cdle_model.specs.Classes.{item_sort}
use Rattle.cdle_model.specs.declared.grammar.Sort.{Sort}
use Rattle.cdle_model.specs.declared.grammar.Sort.TheVariants.{OfTerm, OfType}
use Rattle.cdle_model.specs.declared.grammar.Class.{Class}
use Rattle.cdle_model.specs.declared.grammar.Piece.{Piece}
use Rattle.cdle_model.specs.declared.grammar.Piece.TheVariants.{Binder, Part, Under}
use Rattle.cdle_model.specs.CoreGrammar.{pieces, item_pieces, item_parts, Shape, form_in}

-- bytes, or nothing where there would be too many parentheses in each other
abbrev pub Text : Type 0
Text = Option (List ℕ)

-- two texts, a space before the first
abbrev pub spaced : Text → Text → Text
spaced (Some x) (Some y) = Some (32 ∷ (x ++ y))
spaced (Some x) None = None
spaced None y = None

-- a word and what follows it, in parentheses
abbrev pub enclosed : List ℕ → Text → Text
enclosed w (Some x) = Some (40 ∷ (w ++ (x ++ (41 ∷ []))))
enclosed w None = None

-- the binder inside k other binders
abbrev pub spelled : ℕ → List ℕ
spelled k = 95 ∷ decimal k

-- what prints a part of a class inside so many binders
abbrev pub Printer : Type 0
Printer = ℕ → Class → Tree → Text

-- the pieces of a form, inside so many binders, a space before each; other lists of parts are never printed
abbrev pub pieces_text : Printer → ℕ → List Piece → List Tree → Text
pieces_text print k [] us = Some []
pieces_text print k (Binder s ∷ ps) us = spaced (Some (spelled k)) (pieces_text print k ps us)
pieces_text print k (Part c ∷ ps) (u ∷ us) = spaced (print k c u) (pieces_text print k ps us)
pieces_text print k (Under c ∷ ps) (u ∷ us) = spaced (print (k + 1) c u) (pieces_text print k ps us)
pieces_text print k (Part c ∷ ps) [] = Some []
pieces_text print k (Under c ∷ ps) [] = Some []

-- what prints a form inside so many binders
abbrev pub FormPrinter : Type 0
FormPrinter = ℕ → Shape → Text

abbrev pub form_or_star : FormPrinter → ℕ → Option Shape → Text
form_or_star print k (Some s) = print k s
form_or_star print k None = Some (codes "*")

-- a variable by its binder's spelling, a name by that of its item
abbrev pub part_with : List (List ℕ) → FormPrinter → Printer
part_with names print k c (var i) = Some (spelled (k - (i + 1)))
part_with names print k c (name n) = Some (get_or names n [])
part_with names print k c t = form_or_star print k (form_in c t)

-- a form, where so many parentheses may still open, its own counted
unfoldable pub form_text : List (List ℕ) → ℕ → FormPrinter
form_text names zero k s = None
form_text names (suc left) k s = enclosed s.word (pieces_text (part_with names (form_text names left)) k (pieces s.form) s.parts)

-- a part of a class, inside which so many parentheses may open, over items of these names
abbrev pub part_text : List (List ℕ) → ℕ → Printer
part_text names left = part_with names (form_text names left)

-- ---- items and files

abbrev pub item_word : Sort → List ℕ
item_word OfTerm = codes "def"
item_word OfType = codes "type"

-- an item, in which 1,023 parentheses may open besides its own
abbrev pub item_text : List (List ℕ) → Written → Text
item_text names i = enclosed (item_word (item_sort i)) (spaced (Some (name_of i)) (pieces_text (part_text names 1023) 0 (item_pieces (item_sort i)) (item_parts i)))

-- a line, before what follows
abbrev pub line_before : List ℕ → Result (List ℕ) ℕ → Result (List ℕ) ℕ
line_before x (Ok y) = Ok (x ++ (10 ∷ y))
line_before x (Err n) = Err n

abbrev pub item_before : ℕ → Text → Result (List ℕ) ℕ → Result (List ℕ) ℕ
item_before n (Some x) r = line_before x r
item_before n None r = Err n

-- the items, each a line, the first with this number; or the number of the first that nests too deep
abbrev pub lines_text : List (List ℕ) → ℕ → List Written → Result (List ℕ) ℕ
lines_text names n [] = Ok []
lines_text names n (i ∷ is) = item_before n (item_text names i) (lines_text names (n + 1) is)

-- the text of a file for these items, over the names of all items by their numbers: those of the earlier files, and then its own
abbrev pub file_text : List (List ℕ) → List Written → Result (List ℕ) ℕ
file_text names is = line_before (codes "core 1") (lines_text names 0 is)
