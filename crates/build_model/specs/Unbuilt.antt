-- The forms that are not built yet, which are datatypes, `μ` and `σ`: where the first of them stands in what has a scope.
use Rattle.std.specs.Prelude.{List, [], ◌∷◌, Option, Some, None}
use Rattle.source_model.specs.Source.{Span, use_of, leaf, one, two, bind, cases, branch, def_item, type_item, data_item}
use Rattle.scope_model.specs.Scoped.{Scoped, ScopedItem}
use Rattle.elab_model.specs.ScopedForms.{letter}

-- the first place that there is
abbrev pub first_place : Option Span → Option Span → Option Span
first_place (Some p) other = Some p
first_place None other = other

-- of a part, whose parts stand in the text in this order; `μ` and `σ` at their letter, which is before their parts
abbrev pub unbuilt : Scoped → Option Span
unbuilt (use_of p r) = None
unbuilt (leaf p l) = None
unbuilt (one p j t) = unbuilt t
unbuilt (two p j t u) = first_place (unbuilt t) (unbuilt u)
unbuilt (bind p f x t u) = first_place (unbuilt t) (unbuilt u)
unbuilt (cases p f x t m us) = Some (letter p)
unbuilt (branch p r ps t us) = first_place (unbuilt t) (unbuilt us)

-- of an item; a datatype at its name
abbrev pub unbuilt_item : ScopedItem → Option Span
unbuilt_item (def_item p x t u) = first_place (unbuilt t) (unbuilt u)
unbuilt_item (type_item p x t u) = first_place (unbuilt t) (unbuilt u)
unbuilt_item (data_item p d ps cs) = Some p

-- of items in their order
abbrev pub unbuilt_items : List ScopedItem → Option Span
unbuilt_items [] = None
unbuilt_items (i ∷ is) = first_place (unbuilt_item i) (unbuilt_items is)
