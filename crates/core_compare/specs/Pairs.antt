-- The pairs that are left, and what becomes of one.
use Rattle.std.specs.Prelude.{◌≡◌, ℕ, ◌+◌, ◌≤◌, Bool, true, false, List, [], ◌∷◌, ◌++◌, Result, Ok, Err}
use Rattle.cdle_model.specs.declared.grammar.Sort.{Sort}
use Rattle.cdle_model.specs.Trees.{Tree}
use Rattle.cdle_model.specs.Machine.{run, spent}
use Rattle.cdle_model.specs.HeadForms.{deep}
use Rattle.cdle_model.specs.Comparison.{Pair, applied, into, differ, split, halted, pairs, take_pair, move}
use Rattle.core_reduce.specs.declared.side.SideClass.{SideClass}
use Rattle.core_reduce.specs.declared.side.SideClass.TheVariants.{OfPure}
use Rattle.core_reduce.specs.declared.value.Value.{Value}
use Rattle.core_reduce.specs.declared.value.Value.TheVariants as w
use Rattle.core_reduce.specs.declared.reduce.Stop.{Stop}
use Rattle.core_reduce.specs.declared.reduce.Stop.TheVariants.{Spent, TooDeep, NoMemory}
use Rattle.core_reduce.specs.Sides.{Sided, class_trees}
use Rattle.core_reduce.specs.Values.{classes, IsValueOf, IsWhole, value_tree}
use Rattle.core_compare.specs.declared.pairs.SidePair.{SidePair}
use Rattle.core_compare.specs.declared.comparison.Next.{Next}
use Rattle.core_compare.specs.declared.comparison.Next.TheVariants as n
use Rattle.core_compare.specs.Answers.{ArePlaced, Answers, AnswersApart}

-- the most variables of a pair that stands under so many binders
abbrev pub most : ℕ → ℕ
most binders = 4200000000 + binders

-- the two are of one class and in one context, under at most so many binders
pub record IsComparable (xs : List Sort) (d : SidePair) : Type 0 where
  pub class : d.left.class ≡ d.right.class
  pub few : d.binders ≤ 40000000
  pub placed : ArePlaced (most d.binders) xs (class_trees d.left.class) d.left.tree d.right.tree

abbrev pub AreComparable : List Sort → List SidePair → Type 0
AreComparable xs [] = Unit {0}
AreComparable xs (d ∷ ds) = IsComparable xs d × AreComparable xs ds

-- the pairs of a list before the pairs given, the last of the list first
abbrev pub stack : List Pair → List SidePair → List Pair
stack ps [] = ps
stack ps (d ∷ ds) = stack ((d.left.tree, d.right.tree) ∷ ps) ds

-- the pairs of the parts of two forms, the first one last
abbrev pub part_pairs : ℕ → List Sided → List Sided → List SidePair
part_pairs n [] ys = []
part_pairs n xs [] = []
part_pairs n (x ∷ xs) (y ∷ ys) = part_pairs n xs ys ++ (record { left = x; right = y; binders = n } ∷ [])

-- where the arguments are as many and of the same classes, their pairs were put on the list
abbrev pub MeetsArguments : ℕ → List Sided → List Sided → List SidePair → List SidePair → Bool → Type 0
MeetsArguments n xs ys old new true = (classes xs ≡ classes ys) × (new ≡ old ++ part_pairs n xs ys)
MeetsArguments n xs ys old new false = classes xs ≡ classes ys → ⊥

-- the value is of the class, and has all arguments of a variable
abbrev pub IsForm : SideClass → Value → Type 0
IsForm k v = IsValueOf k v × IsWhole v

-- two head forms of one class, in one context under so many binders
pub record AreForms (binders : ℕ) (v w : Value) : Type 0 where
  pub class : SideClass
  pub left : IsForm class v
  pub right : IsForm class w
  pub few : binders ≤ 40000000
  pub items : List Sort
  pub placed : ArePlaced (most binders) items (class_trees class) (value_tree class v) (value_tree class w)

-- in place of two head forms, the pairs of their parts were put on the list
pub record SettledInto (binders : ℕ) (v w : Value) (old new : List SidePair) : Type 0 where
  pub parts : (k : SideClass) → IsForm k v → IsForm k w → (ps : List Pair) × (split (value_tree k v) (value_tree k w) ≡ into ps) × (ps ++ stack [] old ≡ stack [] new)
  pub comparable : (k : SideClass) (xs : List Sort) → IsForm k v → IsForm k w → ArePlaced (most binders) xs (class_trees k) (value_tree k v) (value_tree k w)
      → AreComparable xs old → AreComparable xs new

abbrev pub MeetsSettle : ℕ → Value → Value → List SidePair → List SidePair → Bool → Type 0
MeetsSettle binders v w old new true = SettledInto binders v w old new
MeetsSettle binders v w old new false = (k : SideClass) → IsForm k v → IsForm k w → split (value_tree k v) (value_tree k w) ≡ differ

-- what is compared of a pure head form under a new variable: a function's body, or a variable with its arguments applied to the new variable
abbrev pub body_side : Value → Sided
body_side (w.Fun b) = b
body_side v = record { class = OfPure; tree = applied (value_tree OfPure v) }

-- a pair led to the list that is left
pub record TurnOn (xs : List Sort) (s : List Tree) (l r : Tree) (old new : List SidePair) (units left : ℕ) : Type 0 where
  pub used : ℕ
  pub leads : (n m : ℕ) → n ≡ used + m → run (move s) n (take_pair l r (stack [] old)) ≡ run (move s) m (pairs (stack [] new))
  pub taken : units ≤ used + left
  pub comparable : AreComparable xs old → AreComparable xs new

abbrev pub MeetsTurn : List Sort → List Tree → Tree → Tree → List SidePair → List SidePair → ℕ → ℕ → Result Next Stop → Type 0
MeetsTurn xs s l r old new units left (Ok n.On) = TurnOn xs s l r old new units left
MeetsTurn xs s l r old new units left (Ok (n.Apart v w)) = AnswersApart s (take_pair l r (stack [] old)) v w
MeetsTurn xs s l r old new units left (Err Spent) = run (move s) units (take_pair l r (stack [] old)) ≡ spent
MeetsTurn xs s l r old new units left (Err TooDeep) = Answers s (take_pair l r (stack [] old)) (halted deep)
MeetsTurn xs s l r old new units left (Err NoMemory) = Unit {0}
