-- The number of Core items is that of their names; and modules counted one after the other.
use Rattle.std.proofs.Common.{◌≡◌, ℕ, suc, ◌+◌, ◌≤◌, ◌<◌, true, false, Option, Some, None, List, [], ◌∷◌, ◌++◌, length, map, refl, sym, ap, ap₂, ◌∙◌, arith}
use Rattle.std.proofs.lemmas.List.{length-append}
use Rattle.std.proofs.lemmas.Bool.{le-ltb, lt-ltb}
use Rattle.std.specs.Prelude.{Bool, codes, if◌then◌else◌, nat_lt}
use Rattle.std.specs.Option.{option_map}
use Rattle.cdle_model.specs.declared.grammar.Sort.TheVariants.{OfTerm}
use Rattle.source_model.specs.Source.{Constructor, Item, Module, NameUse, def_item, type_item, data_item}
use Rattle.scope_model.specs.Scope.{all_names, constructor_names, item_names, of_sort}
use Rattle.scope_model.specs.ScopeNames.{Text}
use Rattle.scope_part.specs.Names.{text_of}
use Rattle.surf_scope.specs.Modules.{spelled_constructor, spelled_item, spelled_items}
use Rattle.modules_model.specs.ModuleTexts.{most_items, past_limit}
use Rattle.build_modules.specs.Counts.{item_count, items_count}
use Rattle.build_modules.specs.Steps.{placed}

module _ (names : List Text) where
  constructors_counted : (cs : List (Constructor ℕ (Option ℕ) (NameUse ℕ))) → length (constructor_names (map (spelled_constructor names) cs)) ≡ length cs
  constructors_counted [] = refl
  constructors_counted (c ∷ cs) = ap suc (constructors_counted cs)

  item_counted : (i : Item ℕ) → length (item_names (spelled_item names i)) ≡ item_count i
  item_counted (def_item s x t u) = refl
  item_counted (type_item s x t u) = refl
  item_counted (data_item s x ps cs) =
      let m = length-append (constructor_names (map (spelled_constructor names) cs)) (of_sort OfTerm (text_of names x ++ codes "/mu") ∷ of_sort OfTerm (text_of names x ++ codes "/sigma") ∷ []) in
      let k = constructors_counted cs in
      omega (arith, m, k)

  pub counted : (is : List (Item ℕ)) → length (all_names (spelled_items names is)) ≡ items_count is
  counted [] = refl
  counted (i ∷ is) = length-append (item_names (spelled_item names i)) (all_names (spelled_items names is)) ∙ ap₂ ◌+◌ (item_counted i) (counted is)

-- after so many modules, of which this is what all come to, so many Core items may still stand
pub record AreCounted (all rest : List (Module Text)) (left place : ℕ) : Type 0 where
  pub so_far : ℕ
  pub room : so_far + left ≡ 10000
  pub same : past_limit 0 all ≡ placed place (past_limit so_far rest)

one_placed : (k : ℕ) (x : Option ℕ) → placed k (option_map suc x) ≡ placed (k + 1) x
one_placed k None = refl
one_placed k (Some i) = let e : k + suc i ≡ k + 1 + i = omega arith in ap Some e

-- by whether there are too many with the next module
by_next : (all rest others : List (Module Text)) (m : Module Text) (left place : ℕ) (s : AreCounted all rest left place) (b : Bool) → rest ≡ m ∷ others → nat_lt most_items (s.so_far + length (all_names m.items)) ≡ b
    → past_limit 0 all ≡ placed place (if b then Some 0 else option_map suc (past_limit (s.so_far + length (all_names m.items)) others))
by_next all rest others m left place s b e h =
    s.same ∙ ap (λ ms. placed place (past_limit s.so_far ms)) e ∙ ap (λ d. placed place (if d then Some 0 else option_map suc (past_limit (s.so_far + length (all_names m.items)) others))) h

pub counting_goes_on : (all rest others : List (Module Text)) (m : Module Text) (left fewer place k : ℕ) → AreCounted all rest left place → rest ≡ m ∷ others → length (all_names m.items) ≡ k → fewer + k ≡ left → AreCounted all others fewer (place + 1)
counting_goes_on all rest others m left fewer place k s e c h =
    let room = s.room in
    let few : s.so_far + length (all_names m.items) ≤ 10000 = omega (arith, room, c, h) in
    record {
      so_far = s.so_far + length (all_names m.items);
      room = omega (arith, room, c, h);
      same = by_next all rest others m left place s false e (le-ltb 10000 (s.so_far + length (all_names m.items)) few) ∙ one_placed place (past_limit (s.so_far + length (all_names m.items)) others);
    }

pub counting_stops : (all rest others : List (Module Text)) (m : Module Text) (left place k : ℕ) → AreCounted all rest left place → rest ≡ m ∷ others → length (all_names m.items) ≡ k → left < k → Some place ≡ past_limit 0 all
counting_stops all rest others m left place k s e c h =
    let room = s.room in
    let many : 10000 < s.so_far + length (all_names m.items) = omega (arith, room, c, h) in
    let here : Some place ≡ placed place (Some 0) = ap Some (omega arith) in
    here ∙ sym (by_next all rest others m left place s true e (lt-ltb 10000 (s.so_far + length (all_names m.items)) many))
