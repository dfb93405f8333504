-- What the answers of comparison say by the definitions' comparison.
use Rattle.std.specs.Prelude.{◌≡◌, ℕ, ◌≤◌, List, [], ◌∷◌, length, Result, Ok, Err}
use Rattle.cdle_model.specs.declared.grammar.Sort.{Sort}
use Rattle.cdle_model.specs.Trees.{Tree}
use Rattle.cdle_model.specs.Classes.{TreeClass, within, Fits}
use Rattle.cdle_model.specs.Steps.{Joined}
use Rattle.cdle_model.specs.Machine.{answered, spent, run}
use Rattle.cdle_model.specs.HeadForms.{deep}
use Rattle.cdle_model.specs.Comparison.{Pair, Answer, same, apart, halted, State, pairs, move, compare}
use Rattle.core_reduce.specs.declared.side.SideClass.{SideClass}
use Rattle.core_reduce.specs.declared.value.Value.{Value}
use Rattle.core_reduce.specs.declared.reduce.Stop.{Stop}
use Rattle.core_reduce.specs.declared.reduce.Stop.TheVariants.{Spent, TooDeep, NoMemory}
use Rattle.core_reduce.specs.Values.{StandsFor}
use Rattle.core_compare.specs.declared.comparison.Answer as declared
use Rattle.core_compare.specs.declared.comparison.Answer.TheVariants as a

-- in one context of at most n variables, and over items of these sorts, both trees are of the class, with each variable and name used in its class
pub record ArePlaced (n : ℕ) (xs : List Sort) (c : TreeClass) (l r : Tree) : Type 0 where
  pub sorts : List Sort
  pub few : length sorts ≤ n
  pub left : Fits (within sorts xs) c l
  pub right : Fits (within sorts xs) c r

-- from where the comparison stands, it answers so at some budget
pub record Answers (s : List Tree) (t : State) (x : Answer) : Type 0 where
  pub units : ℕ
  pub rest : ℕ
  pub is : run (move s) units t ≡ answered x rest

-- it answers apart at some budget, at two head forms for which these values of one class stand
pub record AnswersApart (s : List Tree) (t : State) (v w : Value) : Type 0 where
  pub left : Tree
  pub right : Tree
  pub class : SideClass
  pub left_is : StandsFor class v left
  pub right_is : StandsFor class w right
  pub answers : Answers s t (apart left right)

-- of the pairs, with the units at entry: each answer is that of the definitions' comparison at some budget, and spent where that is spent
abbrev pub MeetsPairs : List Tree → List Pair → ℕ → Result declared.Answer Stop → Type 0
MeetsPairs s ps units (Ok a.Same) = Answers s (pairs ps) same
MeetsPairs s ps units (Ok (a.Apart v w)) = AnswersApart s (pairs ps) v w
MeetsPairs s ps units (Err Spent) = run (move s) units (pairs ps) ≡ spent
MeetsPairs s ps units (Err TooDeep) = Answers s (pairs ps) (halted deep)
MeetsPairs s ps units (Err NoMemory) = Unit {0}

abbrev pub MeetsCompare : List Tree → Tree → Tree → ℕ → Result declared.Answer Stop → Type 0
MeetsCompare s l r = MeetsPairs s ((l, r) ∷ [])

-- apart, at two head forms for which these values of one class stand
abbrev pub IsApart : Answer → Value → Value → Type 0
IsApart x v w = (b : Tree) × (c : Tree) × (k : SideClass) × (x ≡ apart b c) × StandsFor k v b × StandsFor k w c

-- where the definitions' comparison with the units at entry has an answer, this is it
abbrev pub AnswersSo : List Tree → Tree → Tree → ℕ → Result declared.Answer Stop → Type 0
AnswersSo s l r units (Ok a.Same) = (x : Answer) (rest : ℕ) → compare s units l r ≡ answered x rest → x ≡ same
AnswersSo s l r units (Ok (a.Apart v w)) = (x : Answer) (rest : ℕ) → compare s units l r ≡ answered x rest → IsApart x v w
AnswersSo s l r units (Err Spent) = (x : Answer) (rest : ℕ) → compare s units l r ≡ answered x rest → ⊥
AnswersSo s l r units (Err TooDeep) = (x : Answer) (rest : ℕ) → compare s units l r ≡ answered x rest → x ≡ halted deep
AnswersSo s l r units (Err NoMemory) = Unit {0}

-- where the answer is the same, the two are joined; where it is apart, they are not
abbrev pub Decides : List Tree → Tree → Tree → Result declared.Answer Stop → Type 0
Decides s l r (Ok a.Same) = Joined s l r
Decides s l r (Ok (a.Apart v w)) = Joined s l r → ⊥
Decides s l r (Err e) = Unit {0}
