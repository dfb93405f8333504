-- What the answers of head reduction say, by the definitions' head forms.
use Rattle.std.specs.Prelude.{◌≡◌, ◌⊎◌, ℕ, suc, ◌+◌, ◌≤◌, List, [], ◌∷◌, Option, Some, None, Result, Ok, Err}
use Rattle.std.specs.Borrow.{Bor}
use Rattle.cdle_model.specs.Trees.{Tree, var, name, fun, apply}
use Rattle.cdle_model.specs.Depth.{depth}
use Rattle.cdle_model.specs.Machine.{answered, spent}
use Rattle.cdle_model.specs.HeadForms.{deep, none, to, blocked, head_step, HeadAnswer, value, no_value, head_form}
use Rattle.core_tree.specs.declared.stop.PutStop.{PutStop}
use Rattle.core_tree.specs.declared.stop.PutStop.TheVariants as put
use Rattle.core_reduce.specs.declared.side.SideClass.{SideClass}
use Rattle.core_reduce.specs.declared.root.Root.{Root}
use Rattle.core_reduce.specs.declared.root.Root.TheVariants as r
use Rattle.core_reduce.specs.declared.root.Arg.{Arg}
use Rattle.core_reduce.specs.declared.value.Value.{Value}
use Rattle.core_reduce.specs.declared.reduce.Stop.{Stop}
use Rattle.core_reduce.specs.declared.reduce.Stop.TheVariants.{Spent, TooDeep, NoMemory}
use Rattle.core_reduce.specs.Sides.{root_class, root_tree, arg_function, spine}
use Rattle.core_reduce.specs.Values.{StandsFor}

-- v is the head form, and of the units at entry at most as many were taken as plain head reduction takes
pub record IsHeadForm (s : List Tree) (k : SideClass) (t : Tree) (old new : ℕ) (v : Value) : Type 0 where
  pub form : Tree
  pub stands : StandsFor k v form
  pub used : ℕ
  pub rest : ℕ
  pub is : head_form s (used + rest) t ≡ answered (value form) rest
  pub taken : old ≤ used + new

-- plain head reduction is deep at some budget
pub record IsDeep (s : List Tree) (t : Tree) : Type 0 where
  pub units : ℕ
  pub rest : ℕ
  pub is : head_form s units t ≡ answered (no_value deep) rest

abbrev pub MeetsHead : List Tree → SideClass → Tree → ℕ → ℕ → Result Value Stop → Type 0
MeetsHead s k t old new (Ok v) = IsHeadForm s k t old new v
MeetsHead s k t old new (Err Spent) = head_form s old t ≡ spent
MeetsHead s k t old new (Err TooDeep) = IsDeep s t
MeetsHead s k t old new (Err NoMemory) = Unit {0}

-- where plain head reduction with the units at entry has an answer, this is it
abbrev pub HeadSo : List Tree → SideClass → Tree → ℕ → Result Value Stop → Type 0
HeadSo s k t units (Ok v) = (x : HeadAnswer) (rest : ℕ) → head_form s units t ≡ answered x rest → (u : Tree) × (x ≡ value u) × StandsFor k v u
HeadSo s k t units (Err Spent) = (x : HeadAnswer) (rest : ℕ) → head_form s units t ≡ answered x rest → ⊥
HeadSo s k t units (Err TooDeep) = (x : HeadAnswer) (rest : ℕ) → head_form s units t ≡ answered x rest → x ≡ no_value deep
HeadSo s k t units (Err NoMemory) = Unit {0}

-- ---- one step

-- the innermost of the arguments, of which the outermost is the first
abbrev pub innermost : List Arg → Option Arg
innermost [] = None
innermost (x ∷ []) = Some x
innermost (x ∷ y ∷ xs) = innermost (y ∷ xs)

-- what is borrowed
abbrev pub seen : Option (Bor Arg) → Option Arg
seen None = None
seen (Some b) = Some b.now

-- a head with this innermost argument has no step
abbrev pub IsStill : Tree → Option Arg → Type 0
IsStill (name n) o = ⊥
IsStill (apply c p q) o = ⊥
IsStill (fun c p) (Some x) = arg_function x ≡ c → ⊥
IsStill t o = Unit {0}

-- what is no variable, no name and no application
abbrev pub IsOther : Tree → Type 0
IsOther (var i) = ⊥
IsOther (name n) = ⊥
IsOther (apply c p q) = ⊥
IsOther t = Unit {0}

abbrev pub put_stop_of : PutStop → Stop
put_stop_of put.TooDeep = TooDeep
put_stop_of put.NoMemory = NoMemory

-- an argument of the head was put on the list
pub record Unwound (h : Tree) (xs : List Arg) (old : ℕ) (u : Tree) (ys : List Arg) (new : ℕ) : Type 0 where
  pub is : spine u ys ≡ spine h xs
  pub units : new ≡ old
  pub smaller : suc (depth u) ≤ depth h

-- a step was made, with one unit
pub record Stepped (s : List Tree) (h : Tree) (xs : List Arg) (old : ℕ) (u : Tree) (ys : List Arg) (new : ℕ) : Type 0 where
  pub is : head_step s (spine h xs) ≡ to (spine u ys)
  pub units : old ≡ new + 1
  pub low : depth u ≤ 65535

-- no unit is left for a step
pub record Halts (s : List Tree) (h : Tree) (xs : List Arg) (old : ℕ) : Type 0 where
  pub is : head_step s (spine h xs) ≡ none → ⊥
  pub units : old ≡ 0

-- the head that is reached where a move was made
abbrev pub reached : Root → Result Unit Stop → Result Root Stop
reached h (Ok x) = Ok h
reached h (Err e) = Err e

-- the tree that is reached, as a head
abbrev pub as_pure : Result Tree Stop → Result Root Stop
as_pure (Ok t) = Ok (r.Pure t)
as_pure (Err e) = Err e

abbrev pub as_guide : Result Tree Stop → Result Root Stop
as_guide (Ok t) = Ok (r.Guide t)
as_guide (Err e) = Err e

abbrev pub MeetsStep : List Tree → SideClass → Tree → List Arg → ℕ → List Arg → ℕ → Result Root Stop → Type 0
MeetsStep s k h xs old ys new (Ok r) = (root_class r ≡ k) × (Unwound h xs old (root_tree r) ys new ⊎ Stepped s h xs old (root_tree r) ys new)
MeetsStep s k h xs old ys new (Err Spent) = Halts s h xs old
MeetsStep s k h xs old ys new (Err TooDeep) = (head_step s (spine h xs) ≡ blocked deep) × (old ≡ new + 1)
MeetsStep s k h xs old ys new (Err NoMemory) = Unit {0}
