-- The words that are a module's name.
use Rattle.std.specs.Prelude.{Bool, false, not, ◌&&◌, ◌||◌, ℕ, List, [], ◌∷◌, codes}
use Rattle.std.specs.List.{list_all}
use Rattle.std.specs.Str.{bytes_eq, chars}
use Rattle.source_model.specs.Parsing.{has_slash}
use Rattle.source_model.specs.SurfaceTokens.{continues_name, starts_name}

-- the characters are those of one name of a surface text
abbrev pub spell_name : List ℕ → Bool
spell_name [] = false
spell_name (c ∷ cs) = starts_name c && list_all continues_name cs

-- the words that are no names of a surface text, and the module that is always there
abbrev pub is_kept_word : List ℕ → Bool
is_kept_word w = bytes_eq w (codes "prelude") || bytes_eq w (codes "module") || bytes_eq w (codes "import") || bytes_eq w (codes "data")

-- the word is one name, without `/`, and none of the kept words
abbrev pub is_module_name : List ℕ → Bool
is_module_name w = spell_name (chars w) && not (has_slash w) && not (is_kept_word w)
