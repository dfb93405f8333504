-- The faults of a Core text.
use Rattle.std.specs.Prelude.{ℕ, Bool, false, ◌==◌, if◌then◌else◌}
use Rattle.cdle_model.specs.declared.grammar.Class.{Class}
use Rattle.cdle_model.specs.declared.grammar.Class.TheVariants as class
use Rattle.cdle_model.specs.declared.grammar.CoreWanted.{CoreWanted}
use Rattle.cdle_model.specs.declared.grammar.CoreWanted.TheVariants as wanted
use Rattle.cdle_model.specs.CoreTokens.{Lexeme, Opens, Closes, Word}

-- each with its place
pub data Fault : Type 0 where
  BadText : ℕ → CoreWanted → Fault
  Unbound : ℕ → Fault
  WrongClass : ℕ → Fault
  TooDeep : ℕ → Fault

-- the word for a part of a class
abbrev pub wanted_part : Class → CoreWanted
wanted_part class.Kind = wanted.Kind
wanted_part class.Ty = wanted.Ty
wanted_part class.Term = wanted.Term
wanted_part class.Pure = wanted.Pure
wanted_part class.Guide = wanted.Guide
wanted_part class.GuideKind = wanted.GuideKind

-- a parenthesis that opens where no more may be open
abbrev pub passes_nesting : ℕ → Lexeme → Bool
passes_nesting left Opens = left == 0
passes_nesting left Closes = false
passes_nesting left (Word w) = false

-- the fault at a token that does not stand there, where so many parentheses may still open
abbrev pub unexpected : ℕ → ℕ → CoreWanted → Lexeme → Fault
unexpected left at what lexeme = if passes_nesting left lexeme then TooDeep at else BadText at what
