-- The number of Core items is that of their names, and no other where names are called otherwise.
use Rattle.std.proofs.Common.{◌≡◌, ℕ, suc, ◌+◌, Option, List, [], ◌∷◌, ◌++◌, length, map, refl, sym, ap, ap₂, ◌∙◌, arith}
use Rattle.std.proofs.lemmas.List.{length-append}
use Rattle.std.specs.Prelude.{codes}
use Rattle.cdle_model.specs.declared.grammar.Sort.TheVariants.{OfTerm}
use Rattle.source_model.specs.Source.{Constructor, NameUse, SourceItem, Item, def_item, type_item, data_item}
use Rattle.scope_model.specs.Scope.{all_names, constructor_names, item_names, of_sort}
use Rattle.scope_model.specs.ScopeNames.{Text}
use Rattle.build_model.specs.Renamed.{renamed_constructor, renamed_item}
use Rattle.build_module.specs.Counts.{item_count, items_count}

constructors_named : {B N : Type 0} (cs : List (Constructor Text B N)) → length (constructor_names cs) ≡ length cs
constructors_named [] = refl
constructors_named (c ∷ cs) = ap suc (constructors_named cs)

item_named : {B N : Type 0} (i : SourceItem Text B N) → length (item_names i) ≡ item_count i
item_named (def_item s x t u) = refl
item_named (type_item s x t u) = refl
item_named (data_item s x ps cs) =
    let m = length-append (constructor_names cs) (of_sort OfTerm (x ++ codes "/mu") ∷ of_sort OfTerm (x ++ codes "/sigma") ∷ []) in
    let k = constructors_named cs in
    omega (arith, m, k)

pub named : {B N : Type 0} (is : List (SourceItem Text B N)) → length (all_names is) ≡ items_count is
named [] = refl
named (i ∷ is) = length-append (item_names i) (all_names is) ∙ ap₂ ◌+◌ (item_named i) (named is)

constructors_renamed : {A B : Type 0} (f : A → B) (cs : List (Constructor A (Option A) (NameUse A))) → length (map (renamed_constructor f) cs) ≡ length cs
constructors_renamed f [] = refl
constructors_renamed f (c ∷ cs) = ap suc (constructors_renamed f cs)

item_renamed : {A B : Type 0} (f : A → B) (i : Item A) → item_count (renamed_item f i) ≡ item_count i
item_renamed f (def_item s x t u) = refl
item_renamed f (type_item s x t u) = refl
item_renamed f (data_item s x ps cs) = ap (◌+◌ 5) (constructors_renamed f cs)

pub renamed : {A B : Type 0} (f : A → B) (is : List (Item A)) → items_count (map (renamed_item f) is) ≡ items_count is
renamed f [] = refl
renamed f (i ∷ is) = ap₂ ◌+◌ (item_renamed f i) (renamed f is)
