-- What the reader's values stand for.
use Rattle.std.specs.Prelude.{◌≡◌, ℕ, ◌<◌, false, List, ◌++◌, drop, Result, Ok, Err}
use Rattle.std.specs.Str.{IsCharBoundary}
use Rattle.cdle_model.specs.Trees.{Tree}
use Rattle.cdle_model.specs.CoreFaults.{Fault, BadText, Unbound, WrongClass, TooDeep}
use Rattle.cdle_model.specs.CoreTokens.{IsWordAt, Token, tokens}
use Rattle.cdle_model.specs.CoreReading.{Read, ◌>>=◌}
use Rattle.core_text.specs.declared.error.CoreTextFault.{CoreTextFault}
use Rattle.core_text.specs.declared.error.CoreTextFault.TheVariants as faults

-- the tokens from a place on
abbrev pub rest : List ℕ → ℕ → List Token
rest bytes at = tokens false at (drop at bytes)

-- reading has this fault, unless memory ran out
abbrev pub Fails : {Y : Type 0} → CoreTextFault → Result Y Fault → Type 0
Fails faults.NoMemory read = Unit {0}
Fails (faults.NotUtf8 at) read = ⊥
Fails (faults.BadText at what) read = read ≡ Err (BadText at what)
Fails (faults.Unbound at) read = read ≡ Err (Unbound at)
Fails (faults.WrongClass at) read = read ≡ Err (WrongClass at)
Fails (faults.TooDeep at) read = read ≡ Err (TooDeep at)

-- what a function returned, seen by view, is what reading gives, unless memory ran out
abbrev pub Gives : {X Y : Type 0} → (X → Y) → Result X CoreTextFault → Result Y Fault → Type 0
Gives view (Ok x) read = read ≡ Ok (view x)
Gives view (Err e) read = Fails e read

-- a place further on, at which a character begins
pub record Advances (bytes : List ℕ) (from to : ℕ) : Type 0 where
  pub ahead : from < to
  pub boundary : IsCharBoundary bytes to

-- what was read before, and what is still read
abbrev pub with_front : List Tree → Read (List Tree) → Read (List Tree)
with_front front read = read >>= λ x. Ok (front ++ x.0, x.1)

-- a name that is wrong stands at that place, where a character begins
abbrev pub IsNamePlace : List ℕ → ℕ → Type 0
IsNamePlace bytes at = IsCharBoundary bytes at × (w : List ℕ) × IsWordAt bytes at w

abbrev pub IsPlaced : List ℕ → CoreTextFault → Type 0
IsPlaced bytes (faults.Unbound at) = IsNamePlace bytes at
IsPlaced bytes (faults.WrongClass at) = IsNamePlace bytes at
IsPlaced bytes e = Unit {0}

-- a wrong name stands just there
abbrev pub IsAt : ℕ → CoreTextFault → Type 0
IsAt at (faults.Unbound here) = here ≡ at
IsAt at (faults.WrongClass here) = here ≡ at
IsAt at e = Unit {0}
