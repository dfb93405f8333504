-- Head forms: the trees for which values stand.
use Rattle.std.specs.Prelude.{◌≡◌, ◌<◌, List, [], ◌∷◌}
use Rattle.cdle_model.specs.Trees.{Function, of_pure, of_term, of_type, Tree, var, apply}
use Rattle.cdle_model.specs.Forms.{star, kpi, kpit, pi, all, allt, guide_tlam, guide_xtlam, at_, on, iota, eq, fn}
use Rattle.cdle_model.specs.Depth.{depth}
use Rattle.cdle_model.specs.Comparison.{Head, variable, constant, argument, head_of}
use Rattle.core_reduce.specs.declared.side.SideClass.{SideClass}
use Rattle.core_reduce.specs.declared.side.SideClass.TheVariants.{OfPure, OfType, OfKind}
use Rattle.core_reduce.specs.declared.value.Former.{Former}
use Rattle.core_reduce.specs.declared.value.Former.TheVariants as f
use Rattle.core_reduce.specs.declared.value.Value.{Value}
use Rattle.core_reduce.specs.declared.value.Value.TheVariants as v
use Rattle.core_reduce.specs.declared.whole.Whole.{Whole}
use Rattle.core_reduce.specs.Sides.{Sided, whole_sided}

-- by what a tree of the first class is applied to one of the second
abbrev pub applied_by : SideClass → SideClass → Function
applied_by OfPure c = of_pure
applied_by k OfPure = of_term
applied_by k c = of_type

-- a tree of the class applied to arguments, the innermost first
abbrev pub applied_to : SideClass → Tree → List Sided → Tree
applied_to k h [] = h
applied_to k h (x ∷ xs) = applied_to k (apply (applied_by k x.class) h x.tree) xs

-- the class of a former's trees
abbrev pub former_class : Former → SideClass
former_class f.Star = OfKind
former_class f.Kpi = OfKind
former_class f.Kpit = OfKind
former_class x = OfType

-- the classes of its parts
abbrev pub former_parts : Former → List SideClass
former_parts f.Star = []
former_parts f.Kpi = OfType ∷ OfKind ∷ []
former_parts f.Kpit = OfKind ∷ OfKind ∷ []
former_parts f.Pi = OfType ∷ OfType ∷ []
former_parts f.All = OfType ∷ OfType ∷ []
former_parts f.Allt = OfKind ∷ OfType ∷ []
former_parts f.Tlam = OfType ∷ []
former_parts f.Xtlam = OfType ∷ []
former_parts f.At = OfType ∷ OfPure ∷ []
former_parts f.On = OfType ∷ OfType ∷ []
former_parts f.Iota = OfType ∷ OfType ∷ []
former_parts f.Eq = OfPure ∷ OfPure ∷ []

-- a former with its parts; with any other number of parts it stands for nothing
abbrev pub former_tree : Former → List Sided → Tree
former_tree f.Kpi (a ∷ b ∷ []) = kpi a.tree b.tree
former_tree f.Kpit (a ∷ b ∷ []) = kpit a.tree b.tree
former_tree f.Pi (a ∷ b ∷ []) = pi a.tree b.tree
former_tree f.All (a ∷ b ∷ []) = all a.tree b.tree
former_tree f.Allt (a ∷ b ∷ []) = allt a.tree b.tree
former_tree f.Tlam (a ∷ []) = guide_tlam a.tree
former_tree f.Xtlam (a ∷ []) = guide_xtlam a.tree
former_tree f.At (a ∷ b ∷ []) = at_ a.tree b.tree
former_tree f.On (a ∷ b ∷ []) = on a.tree b.tree
former_tree f.Iota (a ∷ b ∷ []) = iota a.tree b.tree
former_tree f.Eq (a ∷ b ∷ []) = eq a.tree b.tree
former_tree x ps = star

abbrev pub classes : List Sided → List SideClass
classes [] = []
classes (x ∷ xs) = x.class ∷ classes xs

-- what a tree of the class may be applied to
abbrev pub IsArgument : SideClass → SideClass → Type 0
IsArgument OfPure OfPure = Unit {0}
IsArgument OfType OfPure = Unit {0}
IsArgument OfType OfType = Unit {0}
IsArgument k c = ⊥

abbrev pub AreArguments : SideClass → List Sided → Type 0
AreArguments k [] = Unit {0}
AreArguments k (x ∷ xs) = IsArgument k x.class × AreArguments k xs

-- the value is of the class
abbrev pub IsValueOf : SideClass → Value → Type 0
IsValueOf OfPure (v.Fun b) = b.class ≡ OfPure
IsValueOf k (v.Fun b) = ⊥
IsValueOf OfKind (v.Var i xs) = ⊥
IsValueOf k (v.Var i xs) = AreArguments k xs.items
IsValueOf k (v.Former x ps) = (former_class x ≡ k) × (classes ps.items ≡ former_parts x)

-- the tree for which a value of the class stands
abbrev pub value_tree : SideClass → Value → Tree
value_tree k (v.Fun b) = fn b.tree
value_tree k (v.Var i xs) = applied_to k (var i) xs.items
value_tree k (v.Former x ps) = former_tree x ps.items

-- a head that is no variable with arguments
abbrev pub IsOfForm : Head → Type 0
IsOfForm (variable i) = ⊥
IsOfForm (constant n) = ⊥
IsOfForm (argument c h) = ⊥
IsOfForm h = Unit {0}

-- a stuck application is not one of a variable, which is a value with all its arguments
abbrev pub IsStuck : Former → List Sided → Type 0
IsStuck f.At (x ∷ xs) = IsOfForm (head_of x.tree)
IsStuck f.On (x ∷ xs) = IsOfForm (head_of x.tree)
IsStuck x ps = Unit {0}

abbrev pub IsWhole : Value → Type 0
IsWhole (v.Former x ps) = IsStuck x ps.items
IsWhole v = Unit {0}

-- the value of the class stands for the tree
abbrev pub StandsFor : SideClass → Value → Tree → Type 0
StandsFor k v t = IsValueOf k v × (value_tree k v ≡ t) × IsWhole v

-- the tree is the side's, and one more form may stand over it
abbrev pub IsPart : Sided → Whole → Type 0
IsPart s r = (whole_sided r ≡ s) × (depth s.tree < 4096)
