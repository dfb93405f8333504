-- The forms of two parts that a rule looks for in a head form.
use Rattle.std.specs.Prelude.{◌≡◌, [], ◌∷◌, Result, Ok, Err, None}
use Rattle.cdle_model.specs.Trees.{Binder, pi_of, all_of, allt_of, iota_of, kpi_of, kpit_of, Tree}
use Rattle.cdle_model.specs.Check.{Reason, not_a_function, not_an_intersection, wrong_kind}
use Rattle.core_reduce.specs.declared.value.Former.{Former}
use Rattle.core_reduce.specs.declared.value.Former.TheVariants as f
use Rattle.core_reduce.specs.declared.value.Value.{Value}
use Rattle.core_reduce.specs.declared.value.Value.TheVariants as v
use Rattle.core_reduce.specs.Sides.{Sided}
use Rattle.core_reduce.specs.Values.{classes, former_class, former_parts, former_tree, value_tree}

-- the binders of products and intersections
abbrev pub binder_of : Former → Binder
binder_of f.All = all_of
binder_of f.Allt = allt_of
binder_of f.Iota = iota_of
binder_of f.Kpi = kpi_of
binder_of f.Kpit = kpit_of
binder_of x = pi_of

abbrev pub Binds : Former → Type 0
Binds f.Pi = Unit {0}
Binds f.All = Unit {0}
Binds f.Allt = Unit {0}
Binds f.Iota = Unit {0}
Binds f.Kpi = Unit {0}
Binds f.Kpit = Unit {0}
Binds x = ⊥

-- why a head form is refused that is no such form
abbrev pub other_form : Former → Tree → Reason
other_form f.Iota a = not_an_intersection a
other_form f.Kpi a = wrong_kind a None
other_form f.Kpit a = wrong_kind a None
other_form x a = not_a_function a

-- the value is of another form
abbrev pub IsOther : Former → Value → Type 0
IsOther x (v.Former y ps) = y ≡ x → ⊥
IsOther x v = Unit {0}

-- the two parts of the form, or the value, which is of another
abbrev pub IsSplit : Former → Value → Result (Sided × Sided) Value → Type 0
IsSplit x v (Ok p) = (classes (p.0 ∷ p.1 ∷ []) ≡ former_parts x) × (value_tree (former_class x) v ≡ former_tree x (p.0 ∷ p.1 ∷ []))
IsSplit x v (Err w) = (w ≡ v) × IsOther x v
