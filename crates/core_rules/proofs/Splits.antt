-- Head forms that are of a form that is looked for, and those that are not.
use Rattle.std.proofs.Common.{◌≡◌, suc, List, [], ◌∷◌, ◌++◌, length, None, refl, sym, ap, ◌∙◌, arith}
use Rattle.std.proofs.lemmas.List.{length-append}
use Rattle.cdle_model.specs.Trees.{of_pure, of_term, of_type, eq_of, Binder, pi_of, all_of, allt_of, iota_of, kpi_of, kpit_of, Binder-discrete, Tree, var, name, leaf, unary, fun, apply, binary, bind}
use Rattle.cdle_model.specs.Forms.{eq}
use Rattle.cdle_model.specs.Check.{Questions, binder_parts, equation_parts, wrong_kind}
use Rattle.core_reduce.specs.declared.side.SideClass.{SideClass}
use Rattle.core_reduce.specs.declared.side.SideClass.TheVariants.{OfPure, OfType, OfKind}
use Rattle.core_reduce.specs.declared.value.Former.{Former}
use Rattle.core_reduce.specs.declared.value.Former.TheVariants as f
use Rattle.core_reduce.specs.declared.value.Value.{Value}
use Rattle.core_reduce.specs.declared.value.Value.TheVariants as v
use Rattle.core_reduce.specs.Sides.{Sided}
use Rattle.core_reduce.specs.Values.{applied_to, classes, former_class, former_parts, former_tree, IsValueOf, value_tree}
use Rattle.core_rules.specs.Formers.{binder_of, Binds, IsOther, other_form}

-- the tree is not of this binder, and no function of pure terms
abbrev pub NotBound : Binder → Tree → Type 0
NotBound f (bind g a b) = f ≡ g → ⊥
NotBound f (fun of_pure p) = ⊥
NotBound f t = Unit {0}

pub not_bound : (f : Binder) (t : Tree) (k : Tree → Tree → Questions) (q : Questions) → NotBound f t → binder_parts f t k q ≡ q
not_bound f (bind g a b) k q h = by_test (Binder-discrete f g)
  where
    by_test : (d : Dec (f ≡ g)) → elim d [ yes e ↦ k a b | no e ↦ q ] ≡ q
    by_test (yes e) = absurd (h e)
    by_test (no e) = refl
not_bound f (fun of_pure p) k q h = absurd h
not_bound f (fun of_term p) k q h = refl
not_bound f (fun of_type p) k q h = refl
not_bound f (var i) k q h = refl
not_bound f (name i) k q h = refl
not_bound f (leaf l) k q h = refl
not_bound f (unary j p) k q h = refl
not_bound f (apply c p r) k q h = refl
not_bound f (binary j p r) k q h = refl

pub bound : (f : Binder) (a b : Tree) (k : Tree → Tree → Questions) (q : Questions) → binder_parts f (bind f a b) k q ≡ k a b
bound f a b k q = by_test (Binder-discrete f f)
  where
    by_test : (d : Dec (f ≡ f)) → elim d [ yes e ↦ k a b | no e ↦ q ] ≡ k a b
    by_test (yes e) = refl
    by_test (no e) = absurd (e refl)

-- the tree is no equation, and no function of pure terms
abbrev pub NotEquation : Tree → Type 0
NotEquation (eq p q) = ⊥
NotEquation (fun of_pure p) = ⊥
NotEquation t = Unit {0}

pub not_equation : (t : Tree) (k : Tree → Tree → Questions) (q : Questions) → NotEquation t → equation_parts t k q ≡ q
not_equation (binary eq_of a b) k q h = absurd h
not_equation (binary j a b) k q h = refl
not_equation (fun of_pure p) k q h = absurd h
not_equation (fun of_term p) k q h = refl
not_equation (fun of_type p) k q h = refl
not_equation (var i) k q h = refl
not_equation (name i) k q h = refl
not_equation (leaf l) k q h = refl
not_equation (unary j p) k q h = refl
not_equation (apply c p r) k q h = refl
not_equation (bind f a b) k q h = refl

-- a variable with arguments
abbrev pub IsNeutral : Tree → Type 0
IsNeutral (var i) = Unit {0}
IsNeutral (apply c p q) = Unit {0}
IsNeutral t = ⊥

neutral : (c : SideClass) (h : Tree) (xs : List Sided) → IsNeutral h → IsNeutral (applied_to c h xs)
neutral c h [] n = n
neutral c h (x ∷ xs) n = neutral c _ xs tt

neutral_bound : (f : Binder) (t : Tree) → IsNeutral t → NotBound f t
neutral_bound f (var i) n = tt
neutral_bound f (apply c p q) n = tt
neutral_bound f (name i) n = tt
neutral_bound f (leaf l) n = tt
neutral_bound f (unary j p) n = tt
neutral_bound f (fun c p) n = absurd n
neutral_bound f (binary j p q) n = tt
neutral_bound f (bind g p q) n = absurd n

neutral_equation : (t : Tree) → IsNeutral t → NotEquation t
neutral_equation (var i) n = tt
neutral_equation (apply c p q) n = tt
neutral_equation (name i) n = tt
neutral_equation (leaf l) n = tt
neutral_equation (unary j p) n = tt
neutral_equation (fun c p) n = absurd n
neutral_equation (binary j p q) n = absurd n
neutral_equation (bind g p q) n = tt

-- the forms by their parts
abbrev HaveOne : List Sided → Type 0
HaveOne ps = (a : Sided) × (ps ≡ a ∷ [])

one_part : (c : SideClass) (ps : List Sided) → classes ps ≡ c ∷ [] → HaveOne ps
one_part c [] e = absurd cc
one_part c (a ∷ []) e = (a, refl)
one_part c (a ∷ b ∷ ps) e = absurd cc

pub two_parts : (c d : SideClass) (ps : List Sided) → classes ps ≡ c ∷ d ∷ [] → (a : Sided) × (b : Sided) × (ps ≡ a ∷ b ∷ [])
two_parts c d [] e = absurd cc
two_parts c d (a ∷ []) e = absurd cc
two_parts c d (a ∷ b ∷ []) e = (a, b, refl)
two_parts c d (a ∷ b ∷ x ∷ ps) e = absurd cc

-- the former of a binder
abbrev former_back : Binder → Former
former_back pi_of = f.Pi
former_back all_of = f.All
former_back allt_of = f.Allt
former_back iota_of = f.Iota
former_back kpi_of = f.Kpi
former_back kpit_of = f.Kpit
former_back g = f.Star

back : (x : Former) → Binds x → former_back (binder_of x) ≡ x
back f.Pi b = refl
back f.All b = refl
back f.Allt b = refl
back f.Iota b = refl
back f.Kpi b = refl
back f.Kpit b = refl
back f.Tlam b = absurd b
back f.Xtlam b = absurd b
back f.At b = absurd b
back f.On b = absurd b
back f.Eq b = absurd b
back f.Star b = absurd b

-- a form of another binder
differs : (x y : Former) (g : Binder) → Binds x → (y ≡ x → ⊥) → former_back g ≡ y → binder_of x ≡ g → ⊥
differs x y g b n e i = n (sym e ∙ ap former_back (sym i) ∙ back x b)

other_former : (x y : Former) (ps : List Sided) → Binds x → (y ≡ x → ⊥) → classes ps ≡ former_parts y → NotBound (binder_of x) (former_tree y ps)
other_former x f.Pi ps b n e = let (l, r, i) = two_parts _ _ ps e in rw i (differs x f.Pi pi_of b n refl)
other_former x f.All ps b n e = let (l, r, i) = two_parts _ _ ps e in rw i (differs x f.All all_of b n refl)
other_former x f.Allt ps b n e = let (l, r, i) = two_parts _ _ ps e in rw i (differs x f.Allt allt_of b n refl)
other_former x f.Iota ps b n e = let (l, r, i) = two_parts _ _ ps e in rw i (differs x f.Iota iota_of b n refl)
other_former x f.Kpi ps b n e = let (l, r, i) = two_parts _ _ ps e in rw i (differs x f.Kpi kpi_of b n refl)
other_former x f.Kpit ps b n e = let (l, r, i) = two_parts _ _ ps e in rw i (differs x f.Kpit kpit_of b n refl)
other_former x f.Tlam ps b n e = let (p, i) = one_part _ ps e in rw i tt
other_former x f.Xtlam ps b n e = let (p, i) = one_part _ ps e in rw i tt
other_former x f.At ps b n e = let (l, r, i) = two_parts _ _ ps e in rw i tt
other_former x f.On ps b n e = let (l, r, i) = two_parts _ _ ps e in rw i tt
other_former x f.Eq ps b n e = let (l, r, i) = two_parts _ _ ps e in rw i tt
other_former x f.Star ps b n e = tt

pub other_value : (x : Former) (c : SideClass) (w : Value) → Binds x → former_class x ≡ c → IsValueOf c w → IsOther x w → NotBound (binder_of x) (value_tree c w)
other_value x OfType (v.Var i xs) b e h n = neutral_bound (binder_of x) _ (neutral OfType (var i) xs.items tt)
other_value x OfType (v.Former y ps) b e h n = other_former x y ps.items b n h.1
other_value x OfType (v.Fun p) b e h n = absurd h
other_value x OfKind (v.Var i xs) b e h n = absurd h
other_value x OfKind (v.Former y ps) b e h n = other_former x y ps.items b n h.1
other_value x OfKind (v.Fun p) b e h n = absurd h
other_value f.Pi OfPure w b e h n = absurd cc
other_value f.All OfPure w b e h n = absurd cc
other_value f.Allt OfPure w b e h n = absurd cc
other_value f.Iota OfPure w b e h n = absurd cc
other_value f.Kpi OfPure w b e h n = absurd cc
other_value f.Kpit OfPure w b e h n = absurd cc
other_value f.Tlam OfPure w b e h n = absurd b
other_value f.Xtlam OfPure w b e h n = absurd b
other_value f.At OfPure w b e h n = absurd b
other_value f.On OfPure w b e h n = absurd b
other_value f.Eq OfPure w b e h n = absurd b
other_value f.Star OfPure w b e h n = absurd b

-- a form with its two parts
pub same_former : (x : Former) (l r : Sided) → Binds x → former_tree x (l ∷ r ∷ []) ≡ bind (binder_of x) l.tree r.tree
same_former f.Pi l r b = refl
same_former f.All l r b = refl
same_former f.Allt l r b = refl
same_former f.Iota l r b = refl
same_former f.Kpi l r b = refl
same_former f.Kpit l r b = refl
same_former f.Tlam l r b = absurd b
same_former f.Xtlam l r b = absurd b
same_former f.At l r b = absurd b
same_former f.On l r b = absurd b
same_former f.Eq l r b = absurd b
same_former f.Star l r b = absurd b

-- equations
other_equation : (y : Former) (ps : List Sided) → (y ≡ f.Eq → ⊥) → classes ps ≡ former_parts y → NotEquation (former_tree y ps)
other_equation f.Eq ps n e = absurd (n refl)
other_equation f.Pi ps n e = let (l, r, i) = two_parts _ _ ps e in rw i tt
other_equation f.All ps n e = let (l, r, i) = two_parts _ _ ps e in rw i tt
other_equation f.Allt ps n e = let (l, r, i) = two_parts _ _ ps e in rw i tt
other_equation f.Iota ps n e = let (l, r, i) = two_parts _ _ ps e in rw i tt
other_equation f.Kpi ps n e = let (l, r, i) = two_parts _ _ ps e in rw i tt
other_equation f.Kpit ps n e = let (l, r, i) = two_parts _ _ ps e in rw i tt
other_equation f.Tlam ps n e = let (p, i) = one_part _ ps e in rw i tt
other_equation f.Xtlam ps n e = let (p, i) = one_part _ ps e in rw i tt
other_equation f.At ps n e = let (l, r, i) = two_parts _ _ ps e in rw i tt
other_equation f.On ps n e = let (l, r, i) = two_parts _ _ ps e in rw i tt
other_equation f.Star ps n e = tt

pub equation_value : (w : Value) → IsValueOf OfType w → IsOther f.Eq w → NotEquation (value_tree OfType w)
equation_value (v.Var i xs) h n = neutral_equation _ (neutral OfType (var i) xs.items tt)
equation_value (v.Former y ps) h n = other_equation y ps.items n h.1
equation_value (v.Fun p) h n = absurd h

length_classes : (ps : List Sided) → length (classes ps) ≡ length ps
length_classes [] = refl
length_classes (p ∷ ps) = ap suc (length_classes ps)

-- two parts that were taken from the end of a list
popped : (ps qs rs : List Sided) (l r : Sided) → length ps ≡ 2 → ps ≡ qs ++ r ∷ [] → qs ≡ rs ++ l ∷ [] → ps ≡ l ∷ r ∷ []
popped ps qs [] l r e f g = f ∙ ap (λ z. z ++ r ∷ []) g
popped ps qs (x ∷ rs) l r e f g =
    let b = ap length f in let c = ap length g in let d = length-append qs (r ∷ []) in let h = length-append (x ∷ rs) (l ∷ []) in absurd (omega arith)

module _ (x : Former) (ps : List Sided) (e : classes ps ≡ former_parts x) (two : length (former_parts x) ≡ 2) where
  are_two : length ps ≡ 2
  are_two = sym (length_classes ps) ∙ ap length e ∙ two

  pub some_part : ps ≡ [] → ⊥
  some_part f = let a = are_two in let b = ap length f in omega arith

  pub more_parts : (qs : List Sided) (r : Sided) → ps ≡ qs ++ r ∷ [] → qs ≡ [] → ⊥
  more_parts qs r f g = let a = are_two in let b = ap length f in let c = ap length g in let d = length-append qs (r ∷ []) in omega arith

  pub split_is : (qs rs : List Sided) (l r : Sided) → ps ≡ qs ++ r ∷ [] → qs ≡ rs ++ l ∷ [] → (classes (l ∷ r ∷ []) ≡ former_parts x) × (former_tree x ps ≡ former_tree x (l ∷ r ∷ []))
  split_is qs rs l r f g = let h = popped ps qs rs l r are_two f g in (ap classes (sym h) ∙ e, ap (former_tree x) h)

-- why a head form is refused that is no product of kinds
pub kind_other : (x : Former) (a : Tree) → Binds x → former_class x ≡ OfKind → other_form x a ≡ wrong_kind a None
kind_other f.Kpi a b e = refl
kind_other f.Kpit a b e = refl
kind_other f.Pi a b e = absurd cc
kind_other f.All a b e = absurd cc
kind_other f.Allt a b e = absurd cc
kind_other f.Iota a b e = absurd cc
kind_other f.Tlam a b e = absurd b
kind_other f.Xtlam a b e = absurd b
kind_other f.At a b e = absurd b
kind_other f.On a b e = absurd b
kind_other f.Eq a b e = absurd b
kind_other f.Star a b e = absurd b
