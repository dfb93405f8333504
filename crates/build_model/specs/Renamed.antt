-- A module with each name replaced by another, as the numbers of a table by their texts.
use Rattle.std.specs.Prelude.{map, Option}
use Rattle.std.specs.Option.{option_map}
use Rattle.source_model.specs.Source.{use_of, leaf, one, two, bind, cases, branch, Pattern, Parameter, Constructor, def_item, type_item, data_item, NameUse, Tree, Item, Module}

abbrev pub renamed_use : {A B : Type 0} → (A → B) → NameUse A → NameUse B
renamed_use f u = record { owner = option_map f u.owner; name = f u.name }

abbrev pub renamed_pattern : {A B : Type 0} → (A → B) → Pattern (Option A) → Pattern (Option B)
renamed_pattern f p = record { mode = p.mode; span = p.span; binder = option_map f p.binder }

abbrev pub renamed : {A B : Type 0} → (A → B) → Tree A → Tree B
renamed f (use_of s u) = use_of s (renamed_use f u)
renamed f (leaf s l) = leaf s l
renamed f (one s j t) = one s j (renamed f t)
renamed f (two s j t u) = two s j (renamed f t) (renamed f u)
renamed f (bind s j x t u) = bind s j (option_map f x) (renamed f t) (renamed f u)
renamed f (cases s j x t m us) = cases s j (option_map f x) (renamed f t) (renamed f m) (renamed f us)
renamed f (branch s u ps t us) = branch s (renamed_use f u) (map (renamed_pattern f) ps) (renamed f t) (renamed f us)

abbrev pub renamed_parameter : {A B : Type 0} → (A → B) → Parameter (Option A) (NameUse A) → Parameter (Option B) (NameUse B)
renamed_parameter f p = record { span = p.span; binder = option_map f p.binder; sort = p.sort; class = renamed f p.class }

abbrev pub renamed_constructor : {A B : Type 0} → (A → B) → Constructor A (Option A) (NameUse A) → Constructor B (Option B) (NameUse B)
renamed_constructor f c = record { span = c.span; name = f c.name; type = renamed f c.type }

abbrev pub renamed_item : {A B : Type 0} → (A → B) → Item A → Item B
renamed_item f (def_item s x t u) = def_item s (f x) (renamed f t) (renamed f u)
renamed_item f (type_item s x t u) = type_item s (f x) (renamed f t) (renamed f u)
renamed_item f (data_item s x ps cs) = data_item s (f x) (map (renamed_parameter f) ps) (map (renamed_constructor f) cs)

abbrev pub renamed_module : {A B : Type 0} → (A → B) → Module A → Module B
renamed_module f m = record { name = f m.name; imports = map (λ i. (f i.0, i.1)) m.imports; items = map (renamed_item f) m.items }
