-- The scope of a module from that of its items.
use Rattle.std.proofs.Common.{◌≡◌, List, [], ◌∷◌, ◌++◌, Result, Ok, Err, refl, sym, ap}
use Rattle.std.proofs.lemmas.List.{append-nil, append_assoc}
use Rattle.source_model.specs.Source.{Item}
use Rattle.scope_model.specs.Scope.{ScopeFault, ◌>>=◌, item_names, scoped_item, scoped_items}
use Rattle.scope_model.specs.ScopeNames.{Text, Around}
use Rattle.scope_model.specs.Scoped.{ScopedItem}
use Rattle.scope_part.specs.Results.{Fails}
use Rattle.scope_part.specs.declared.fault.ScopeFault as code
use Rattle.scope_part.proofs.Scoping.{passes_on}

-- items behind those that are done
abbrev pub items_on : Around → List ScopedItem → List (Item Text) → Result (List ScopedItem) ScopeFault
items_on a done is = scoped_items a is >>= λ js. Ok (done ++ js)

behind_one : (done : List ScopedItem) (x : ScopedItem) (r : Result (List ScopedItem) ScopeFault) → ((r >>= λ js. Ok (x ∷ js)) >>= λ js. Ok (done ++ js)) ≡ (r >>= λ js. Ok ((done ++ x ∷ []) ++ js))
behind_one done x (Ok js) = ap Ok (sym (append_assoc done (x ∷ []) js))
behind_one done x (Err e) = refl

starts_with : (r : Result (List ScopedItem) ScopeFault) → (r >>= λ js. Ok ([] ++ js)) ≡ r
starts_with (Ok js) = refl
starts_with (Err e) = refl

module _ (a : Around) where
  pub items_start : (is : List (Item Text)) → items_on a [] is ≡ scoped_items a is
  items_start is = starts_with (scoped_items a is)

  pub items_none : (done : List ScopedItem) → items_on a done [] ≡ Ok done
  unfolding scoped_items
  items_none done = ap Ok (append-nil done)

  pub item_fails : (e : code.ScopeFault) (done : List ScopedItem) (i : Item Text) (is : List (Item Text)) → Fails e (scoped_item a i) → Fails e (items_on a done (i ∷ is))
  unfolding scoped_items
  item_fails e done i is h = passes_on e (scoped_item a i >>= λ j. scoped_items (record a { own = a.own ++ item_names i }) is >>= λ js. Ok (j ∷ js)) (λ js. Ok (done ++ js)) (passes_on e (scoped_item a i) (λ j. scoped_items (record a { own = a.own ++ item_names i }) is >>= λ js. Ok (j ∷ js)) h)

  pub item_step : (done : List ScopedItem) (i : Item Text) (is : List (Item Text)) (j : ScopedItem) → scoped_item a i ≡ Ok j → items_on a done (i ∷ is) ≡ items_on (record a { own = a.own ++ item_names i }) (done ++ j ∷ []) is
  unfolding scoped_items
  item_step done i is j h = rw h (behind_one done j (scoped_items (record a { own = a.own ++ item_names i }) is))
