-- Names by number, and what they stand for.
use Rattle.std.specs.Prelude.{ℕ, List, [], slice_index_or, Option, Some, None}
use Rattle.cdle_model.specs.declared.grammar.Sort.{Sort}
use Rattle.cdle_names.specs.declared.table.NameId as table
use Rattle.source_model.specs.Source.{NameUse}
use Rattle.scope_model.specs.ScopeNames.{Text, Standing}
use Rattle.scoped_tree.specs.Trees.{reference}
use Rattle.scoped_tree.specs.declared.forms.Reference.{Reference}
use Rattle.surf_tree.specs.Forms.{number_or_none}

abbrev pub text_of : List Text → ℕ → Text
text_of names n = slice_index_or names n []

abbrev pub spelled_name : List Text → Option ℕ → Option Text
spelled_name names None = None
spelled_name names (Some n) = Some (text_of names n)

abbrev pub text_or_none : List Text → Option table.NameId → Option Text
text_or_none names x = spelled_name names (number_or_none x)

-- ---- names as they are used

abbrev pub spelled_use : List Text → NameUse ℕ → NameUse Text
spelled_use names u = record { owner = spelled_name names u.owner; name = text_of names u.name }

-- ---- what was found

abbrev pub standing_of : Option (Sort × Reference) → Option Standing
standing_of None = None
standing_of (Some x) = Some (x.0, reference x.1)
