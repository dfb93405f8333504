-- A module whose names are replaced by themselves is the same, and one whose names are replaced twice is so at once.
use Rattle.std.proofs.Common.{◌≡◌, List, [], ◌∷◌, Option, Some, None, map, refl, ap}
use Rattle.std.specs.Option.{option_map}
use Rattle.source_model.specs.Source.{Span, use_of, leaf, one, two, bind, cases, branch, def_item, type_item, data_item, NameUse, Pattern, Parameter, Constructor, Tree, Item, Module}
use Rattle.build_model.specs.Renamed.{renamed_use, renamed_pattern, renamed, renamed_parameter, renamed_constructor, renamed_item, renamed_module}

all_kept : {X : Type 0} (f : X → X) (xs : List X) → ((x : X) → f x ≡ x) → map f xs ≡ xs
all_kept f [] e = refl
all_kept f (x ∷ xs) e = rw (e x, all_kept f xs e) refl

all_twice : {X Y Z : Type 0} (f : X → Y) (g : Y → Z) (h : X → Z) (xs : List X) → ((x : X) → g (f x) ≡ h x) → map g (map f xs) ≡ map h xs
all_twice f g h [] e = refl
all_twice f g h (x ∷ xs) e = rw (e x, all_twice f g h xs e) refl

-- ---- by themselves

module _ {A : Type 0} where
  maybe_kept : (o : Option A) → option_map (λ x. x) o ≡ o
  maybe_kept None = refl
  maybe_kept (Some x) = refl

  use_kept : (u : NameUse A) → renamed_use (λ x. x) u ≡ u
  use_kept u = ap (λ (o : Option A). record u { owner = o }) (maybe_kept u.owner)

  pattern_kept : (p : Pattern (Option A)) → renamed_pattern (λ x. x) p ≡ p
  pattern_kept p = ap (λ (o : Option A). record p { binder = o }) (maybe_kept p.binder)

  part_kept : (t : Tree A) → renamed (λ x. x) t ≡ t
  part_kept (use_of s u) = ap (use_of s) (use_kept u)
  part_kept (leaf s l) = refl
  part_kept (one s j t) = ap (one s j) (part_kept t)
  part_kept (two s j t u) = λ i. two s j (part_kept t i) (part_kept u i)
  part_kept (bind s j x t u) = λ i. bind s j (maybe_kept x i) (part_kept t i) (part_kept u i)
  part_kept (cases s j x t m us) = λ i. cases s j (maybe_kept x i) (part_kept t i) (part_kept m i) (part_kept us i)
  part_kept (branch s u ps t us) = λ i. branch s (use_kept u i) (all_kept (renamed_pattern (λ x. x)) ps pattern_kept i) (part_kept t i) (part_kept us i)

  parameter_kept : (p : Parameter (Option A) (NameUse A)) → renamed_parameter (λ x. x) p ≡ p
  parameter_kept p = λ i. record p { binder = maybe_kept p.binder i; class = part_kept p.class i }

  constructor_kept : (c : Constructor A (Option A) (NameUse A)) → renamed_constructor (λ x. x) c ≡ c
  constructor_kept c = λ i. record c { type = part_kept c.type i }

  item_kept : (j : Item A) → renamed_item (λ x. x) j ≡ j
  item_kept (def_item s x t u) = λ i. def_item s x (part_kept t i) (part_kept u i)
  item_kept (type_item s x t u) = λ i. type_item s x (part_kept t i) (part_kept u i)
  item_kept (data_item s x ps cs) = λ i. data_item s x (all_kept (renamed_parameter (λ x. x)) ps parameter_kept i) (all_kept (renamed_constructor (λ x. x)) cs constructor_kept i)

  pub module_kept : (b : Module A) → renamed_module (λ x. x) b ≡ b
  module_kept b = λ i. record b { imports = all_kept (λ (x : A × Span). (x.0, x.1)) b.imports (λ x. refl) i; items = all_kept (renamed_item (λ x. x)) b.items item_kept i }

-- ---- twice

module _ {A B C : Type 0} (f : A → B) (g : B → C) (h : A → C) (e : (x : A) → g (f x) ≡ h x) where
  maybe_twice : (o : Option A) → option_map g (option_map f o) ≡ option_map h o
  maybe_twice None = refl
  maybe_twice (Some x) = ap Some (e x)

  use_twice : (u : NameUse A) → renamed_use g (renamed_use f u) ≡ renamed_use h u
  use_twice u = λ i. record { owner = maybe_twice u.owner i; name = e u.name i }

  pattern_twice : (p : Pattern (Option A)) → renamed_pattern g (renamed_pattern f p) ≡ renamed_pattern h p
  pattern_twice p = λ i. record { mode = p.mode; span = p.span; binder = maybe_twice p.binder i }

  part_twice : (t : Tree A) → renamed g (renamed f t) ≡ renamed h t
  part_twice (use_of s u) = ap (use_of s) (use_twice u)
  part_twice (leaf s l) = refl
  part_twice (one s j t) = ap (one s j) (part_twice t)
  part_twice (two s j t u) = λ i. two s j (part_twice t i) (part_twice u i)
  part_twice (bind s j x t u) = λ i. bind s j (maybe_twice x i) (part_twice t i) (part_twice u i)
  part_twice (cases s j x t m us) = λ i. cases s j (maybe_twice x i) (part_twice t i) (part_twice m i) (part_twice us i)
  part_twice (branch s u ps t us) = λ i. branch s (use_twice u i) (all_twice (renamed_pattern f) (renamed_pattern g) (renamed_pattern h) ps pattern_twice i) (part_twice t i) (part_twice us i)

  parameter_twice : (p : Parameter (Option A) (NameUse A)) → renamed_parameter g (renamed_parameter f p) ≡ renamed_parameter h p
  parameter_twice p = λ i. record { span = p.span; binder = maybe_twice p.binder i; sort = p.sort; class = part_twice p.class i }

  constructor_twice : (c : Constructor A (Option A) (NameUse A)) → renamed_constructor g (renamed_constructor f c) ≡ renamed_constructor h c
  constructor_twice c = λ i. record { span = c.span; name = e c.name i; type = part_twice c.type i }

  item_twice : (j : Item A) → renamed_item g (renamed_item f j) ≡ renamed_item h j
  item_twice (def_item s x t u) = λ i. def_item s (e x i) (part_twice t i) (part_twice u i)
  item_twice (type_item s x t u) = λ i. type_item s (e x i) (part_twice t i) (part_twice u i)
  item_twice (data_item s x ps cs) = λ i. data_item s (e x i) (all_twice (renamed_parameter f) (renamed_parameter g) (renamed_parameter h) ps parameter_twice i)
      (all_twice (renamed_constructor f) (renamed_constructor g) (renamed_constructor h) cs constructor_twice i)

  pub module_twice : (b : Module A) → renamed_module g (renamed_module f b) ≡ renamed_module h b
  module_twice b = λ i. record {
    name = e b.name i;
    imports = all_twice (λ (x : A × Span). (f x.0, x.1)) (λ (x : B × Span). (g x.0, x.1)) (λ (x : A × Span). (h x.0, x.1)) b.imports (λ x j. (e x.0 j, x.1)) i;
    items = all_twice (renamed_item f) (renamed_item g) (renamed_item h) b.items item_twice i;
  }
