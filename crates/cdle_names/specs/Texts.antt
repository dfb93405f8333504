-- The numbers of texts, each the place of its text in a list.
use Rattle.std.specs.Prelude.{ℕ, suc, List, [], ◌∷◌, if◌then◌else◌}
use Rattle.std.specs.Str.{bytes_eq}

-- the place of a text, or how many there are where none is it
abbrev pub number_of : List ℕ → List (List ℕ) → ℕ
number_of w [] = 0
number_of w (t ∷ ts) = if bytes_eq w t then 0 else suc (number_of w ts)

-- the texts as they are where one is that text, and else with it last
abbrev pub with_text : List ℕ → List (List ℕ) → List (List ℕ)
with_text w [] = w ∷ []
with_text w (t ∷ ts) = if bytes_eq w t then t ∷ ts else t ∷ with_text w ts
