-- What the answers of the comparison say, by its definition.
use Rattle.std.specs.Prelude.{◌≡◌, ℕ, ◌<◌, ◌≤◌, Bool, true, false, List, [], ◌∷◌, ◌++◌, Result, Ok, Err}
use Rattle.cdle_model.specs.Trees.{Tree}
use Rattle.cdle_model.specs.Machine.{Budgeted, run, answered, spent}
use Rattle.cdle_model.specs.HeadForms.{deep}
use Rattle.cdle_model.specs.Comparison.{Answer, Pair, into, differ, split, same, apart, halted, pairs, pairs_of, State, move}
use Rattle.elab_convert.specs.declared.side.Arg.{Arg}
use Rattle.elab_convert.specs.declared.side.ArgClass.{ArgClass}
use Rattle.elab_convert.specs.declared.side.SidePair.{SidePair}
use Rattle.elab_convert.specs.declared.former.Former.{Former}
use Rattle.elab_convert.specs.declared.stop.ConvertStop.{ConvertStop}
use Rattle.elab_convert.specs.declared.stop.ConvertStop.TheVariants.{Spent, TooDeep, NoMemory}
use Rattle.elab_convert.specs.Formers.{part_trees}
use Rattle.elab_convert.specs.Sides.{arg_class, arg_raised, arg_tree, stack}

-- what is answered where the comparison comes to this: the two are the same; they are apart; the units are spent; a tree is too deep; or
-- memory is wanted, of which nothing is said
abbrev pub IsAnswer : Budgeted Answer → Result Bool ConvertStop → Type 0
IsAnswer o (Ok true) = (left : ℕ) × (o ≡ answered same left)
IsAnswer o (Ok false) = (left : ℕ) × (a : Tree) × (b : Tree) × (o ≡ answered (apart a b) left)
IsAnswer o (Err Spent) = o ≡ spent
IsAnswer o (Err TooDeep) = (left : ℕ) × (o ≡ answered (halted deep) left)
IsAnswer o (Err NoMemory) = Unit {0}

-- the answer is that of the definition from these pairs on, with these units
abbrev pub IsCompared : List Tree → ℕ → List Pair → Result Bool ConvertStop → Type 0
IsCompared s n ps o = IsAnswer (run (move s) n (pairs ps)) o

-- the first pair led to the list that is left, with the units that are left; or to the answer
abbrev pub IsTurn : List Tree → ℕ → List Pair → ℕ → List Pair → Result Bool ConvertStop → Type 0
IsTurn s n ps m qs (Ok true) = (run (move s) n (pairs ps) ≡ run (move s) m (pairs qs)) × (m < n)
IsTurn s n ps m qs o = IsCompared s n ps o

-- so from a state at a pair that was taken
abbrev pub IsMeeting : List Tree → ℕ → State → ℕ → List Pair → Result Bool ConvertStop → Type 0
IsMeeting s n x m qs (Ok true) = (run (move s) n x ≡ run (move s) m (pairs qs)) × (m ≤ n)
IsMeeting s n x m qs o = IsAnswer (run (move s) n x) o

-- in place of two head forms the pairs of their parts were put on the list, or the two differ
abbrev pub IsSettled : Tree → Tree → List SidePair → List SidePair → Bool → Type 0
IsSettled a b old new true = (qs : List Pair) × (split a b ≡ into qs) × (stack [] new ≡ qs ++ stack [] old)
IsSettled a b old new false = split a b ≡ differ

abbrev pub raised_all : List Arg → List Arg
raised_all [] = []
raised_all (x ∷ xs) = arg_raised x ∷ raised_all xs

abbrev pub classes : List Arg → List ArgClass
classes [] = []
classes (x ∷ xs) = arg_class x ∷ classes xs

-- the pairs of two lists from the first on, before those given: the last is the next
abbrev pub zipped : List Pair → List Arg → List Arg → List Pair
zipped ps [] ys = ps
zipped ps (x ∷ xs) [] = ps
zipped ps (x ∷ xs) (y ∷ ys) = zipped ((arg_tree x, arg_tree y) ∷ ps) xs ys

-- the pairs of the arguments were put on the list, or their classes are not the same
abbrev pub ArePut : List Arg → List Arg → List SidePair → List SidePair → Bool → Type 0
ArePut xs ys old new true = (classes xs ≡ classes ys) × (stack [] new ≡ zipped (stack [] old) xs ys)
ArePut xs ys old new false = classes xs ≡ classes ys → ⊥

-- the pairs of the parts of two formers were put on the list, or the formers are two
abbrev pub ArePartsPut : Former → Former → List SidePair → List SidePair → Bool → Type 0
ArePartsPut f g old new true = (f.word ≡ g.word) × (stack [] new ≡ pairs_of (part_trees f.parts) (part_trees g.parts) ++ stack [] old)
ArePartsPut f g old new false = f.word ≡ g.word → ⊥
