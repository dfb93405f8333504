-- The item and the module that the code's stand for.
use Rattle.std.specs.Prelude.{ℕ, Option, Some, map}
use Rattle.cdle_names.specs.declared.Span as names
use Rattle.cdle_names.specs.declared.table.NameId as table
use Rattle.cdle_model.specs.declared.grammar.Sort.{Sort}
use Rattle.cdle_model.specs.declared.grammar.Sort.TheVariants as sorts
use Rattle.source_model.specs.Source.{Span, NameUse, Parameter, Constructor, Item, def_item, type_item, data_item, Module}
use Rattle.surf_tree.specs.Forms.{class_tree, place}
use Rattle.surf_tree.specs.declared.items.SrcCtor.{SrcCtor}
use Rattle.surf_tree.specs.declared.items.SrcItem.{SrcItem}
use Rattle.surf_tree.specs.declared.items.SrcItem.TheVariants.{Def, TypeDef, Data}
use Rattle.surf_tree.specs.declared.items.SrcModule.{SrcModule}
use Rattle.surf_tree.specs.declared.items.SrcParam.{SrcParam}
use Rattle.surf_tree.specs.declared.node.SrcClass.{SrcClass}
use Rattle.surf_tree.specs.declared.node.SrcClass.TheVariants.{OfKind, OfType}

-- what a parameter of a class is: a type where the class is a kind, and else a term
abbrev pub sort_of : SrcClass → Sort
sort_of (OfKind a) = sorts.OfType
sort_of (OfType a) = sorts.OfTerm

abbrev pub parameter_of : SrcParam → Parameter (Option ℕ) (NameUse ℕ)
parameter_of p = record { span = place p.span; binder = Some p.name.0; sort = sort_of p.class; class = class_tree p.class }

abbrev pub constructor_of : SrcCtor → Constructor ℕ (Option ℕ) (NameUse ℕ)
constructor_of c = record { span = place c.span; name = c.name.0; type = c.ty }

abbrev pub item_of : SrcItem → Item ℕ
item_of (Def x s a t) = def_item (place s) x.0 a t
item_of (TypeDef x s a t) = type_item (place s) x.0 a t
item_of (Data x s ps cs) = data_item (place s) x.0 (map parameter_of ps.items) (map constructor_of cs.items)

-- an import, with the place of its name
abbrev pub import_of : table.NameId × names.Span → ℕ × Span
import_of i = (i.0.0, place i.1)

abbrev pub module_of : SrcModule → Module ℕ
module_of m = record { name = m.name.0; imports = map import_of m.imports.items; items = map item_of m.items.items }
