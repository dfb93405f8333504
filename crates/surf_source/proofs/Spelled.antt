-- A module with the texts of its names.
use Rattle.std.proofs.Common.{◌≡◌, ℕ, List, [], ◌∷◌, Option, Some, None, map, refl, sym, ap, subst, ◌∙◌}
use Rattle.std.specs.Option.{option_map}
use Rattle.scope_model.specs.ScopeNames.{Text}
use Rattle.source_model.specs.Source.{Span, use_of, leaf, one, two, bind, cases, branch, def_item, type_item, data_item, NameUse, Pattern, Parameter, Constructor, Tree, Item, Module}
use Rattle.scope_part.specs.Around.{spelled_import}
use Rattle.scope_part.specs.Names.{spelled_name, spelled_use, text_of}
use Rattle.scope_part.specs.Spelled.{spelled, spelled_patterns}
use Rattle.surf_parse.specs.Answers.{Grows}
use Rattle.surf_scope.specs.Modules.{spelled_parameter, spelled_constructor, spelled_item, spelled_module}
use Rattle.build_model.specs.ByText.{IsOfTable}
use Rattle.build_model.specs.Renamed.{renamed_use, renamed_pattern, renamed, renamed_parameter, renamed_constructor, renamed_item, renamed_module}
use Rattle.build_model.proofs.OneTable.{stays, grows}

all_alike : {X Y : Type 0} (f h : X → Y) (xs : List X) → ((x : X) → f x ≡ h x) → map f xs ≡ map h xs
all_alike f h [] e = refl
all_alike f h (x ∷ xs) e = λ i. e x i ∷ all_alike f h xs e i

module _ (names : List Text) where
  maybe_same : (o : Option ℕ) → spelled_name names o ≡ option_map (text_of names) o
  maybe_same None = refl
  maybe_same (Some x) = refl

  use_same : (u : NameUse ℕ) → spelled_use names u ≡ renamed_use (text_of names) u
  use_same u = λ i. record { owner = maybe_same u.owner i; name = text_of names u.name }

  patterns_same : (ps : List (Pattern (Option ℕ))) → spelled_patterns names ps ≡ map (renamed_pattern (text_of names)) ps
  patterns_same [] = refl
  patterns_same (p ∷ ps) = λ i. record { mode = p.mode; span = p.span; binder = maybe_same p.binder i } ∷ patterns_same ps i

  part_same : (t : Tree ℕ) → spelled names t ≡ renamed (text_of names) t
  unfolding spelled
  part_same (use_of s u) = ap (use_of s) (use_same u)
  part_same (leaf s l) = refl
  part_same (one s j t) = ap (one s j) (part_same t)
  part_same (two s j t u) = λ i. two s j (part_same t i) (part_same u i)
  part_same (bind s j x t u) = λ i. bind s j (maybe_same x i) (part_same t i) (part_same u i)
  part_same (cases s j x t m us) = λ i. cases s j (maybe_same x i) (part_same t i) (part_same m i) (part_same us i)
  part_same (branch s u ps t us) = λ i. branch s (use_same u i) (patterns_same ps i) (part_same t i) (part_same us i)

  parameter_same : (p : Parameter (Option ℕ) (NameUse ℕ)) → spelled_parameter names p ≡ renamed_parameter (text_of names) p
  parameter_same p = λ i. record { span = p.span; binder = maybe_same p.binder i; sort = p.sort; class = part_same p.class i }

  constructor_same : (c : Constructor ℕ (Option ℕ) (NameUse ℕ)) → spelled_constructor names c ≡ renamed_constructor (text_of names) c
  constructor_same c = λ i. record { span = c.span; name = text_of names c.name; type = part_same c.type i }

  item_same : (j : Item ℕ) → spelled_item names j ≡ renamed_item (text_of names) j
  item_same (def_item s x t u) = λ i. def_item s (text_of names x) (part_same t i) (part_same u i)
  item_same (type_item s x t u) = λ i. type_item s (text_of names x) (part_same t i) (part_same u i)
  item_same (data_item s x ps cs) = λ i. data_item s (text_of names x) (all_alike (spelled_parameter names) (renamed_parameter (text_of names)) ps parameter_same i)
      (all_alike (spelled_constructor names) (renamed_constructor (text_of names)) cs constructor_same i)

  pub module_same : (m : Module ℕ) → spelled_module names m ≡ renamed_module (text_of names) m
  module_same m = λ i. record {
    name = text_of names m.name;
    imports = all_alike (spelled_import names) (λ (x : ℕ × Span). (text_of names x.0, x.1)) m.imports (λ x. refl) i;
    items = all_alike (spelled_item names) (renamed_item (text_of names)) m.items item_same i;
  }

pub spelling_kept : (old new : List Text) (m : Module ℕ) → Grows old new → IsOfTable old m → spelled_module new m ≡ spelled_module old m
spelling_kept old new m g h =
    module_same new m ∙ ap (λ (table : List Text). renamed_module (text_of table) m) g.1 ∙ stays old g.0 m h ∙ sym (module_same old m)

pub table_kept : (old new : List Text) (m : Module ℕ) → Grows old new → IsOfTable old m → IsOfTable new m
table_kept old new m g h = subst (λ (table : List Text). IsOfTable table m) (sym g.1) (grows old g.0 m h)
