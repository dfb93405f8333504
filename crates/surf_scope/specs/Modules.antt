-- Items and modules with the texts of their names.
use Rattle.std.specs.Prelude.{ℕ, List, map, Option}
use Rattle.source_model.specs.Source.{NameUse, Parameter, Constructor, Item, def_item, type_item, data_item, Module}
use Rattle.scope_model.specs.ScopeNames.{Text}
use Rattle.scope_part.specs.Around.{spelled_import}
use Rattle.scope_part.specs.Names.{spelled_name, text_of}
use Rattle.scope_part.specs.Spelled.{spelled}

abbrev pub spelled_parameter : List Text → Parameter (Option ℕ) (NameUse ℕ) → Parameter (Option Text) (NameUse Text)
spelled_parameter names p = record { span = p.span; binder = spelled_name names p.binder; sort = p.sort; class = spelled names p.class }

abbrev pub spelled_constructor : List Text → Constructor ℕ (Option ℕ) (NameUse ℕ) → Constructor Text (Option Text) (NameUse Text)
spelled_constructor names c = record { span = c.span; name = text_of names c.name; type = spelled names c.type }

abbrev pub spelled_item : List Text → Item ℕ → Item Text
spelled_item names (def_item s x t u) = def_item s (text_of names x) (spelled names t) (spelled names u)
spelled_item names (type_item s x t u) = type_item s (text_of names x) (spelled names t) (spelled names u)
spelled_item names (data_item s x ps cs) = data_item s (text_of names x) (map (spelled_parameter names) ps) (map (spelled_constructor names) cs)

abbrev pub spelled_items : List Text → List (Item ℕ) → List (Item Text)
spelled_items names is = map (spelled_item names) is

abbrev pub spelled_module : List Text → Module ℕ → Module Text
spelled_module names m = record { name = text_of names m.name; imports = map (spelled_import names) m.imports; items = spelled_items names m.items }

-- ---- each name has a text
