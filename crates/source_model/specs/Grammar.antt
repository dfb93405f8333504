-- The grammar of surface text as a table: what each symbol may begin with, and what then follows.
use Rattle.std.specs.Prelude.{ℕ, List, Option}
use Rattle.source_model.specs.Source.{Span, Pattern, Parameter, Constructor, Tree, Module, NameUse}
use Rattle.cdle_model.specs.declared.grammar.Count.{Count}
use Rattle.cdle_model.specs.declared.grammar.Mode.{Mode}
use Rattle.source_model.specs.declared.token.TokenKind.{TokenKind}
use Rattle.source_model.specs.declared.wanted.Wanted.{Wanted}

-- a token with its place, and what its text is called
pub record Token (A : Type 0) : Type 0 where
  pub kind : TokenKind
  pub span : Span
  pub name : A

-- a branch behind its `|`, with the place of its constructor
pub record Branch (A : Type 0) : Type 0 where
  pub span : Span
  pub owner : Option A
  pub name : A
  pub patterns : List (Pattern (Option A))
  pub part : Tree A

-- What was read and stands in no larger part yet, the latest first: tokens, parts, each with the place of its first token (parentheses counted),
-- an option's term with the place behind its last sign, that an option was left out, and lists that are still growing.
pub data Value (A : Type 0) : Type 0 where
  token : Token A → Value A
  part : ℕ → Tree A → Value A
  enclosed : ℕ → Tree A → Value A
  nothing : Value A
  patterns : List (Pattern (Option A)) → Value A
  branches : List (Branch A) → Value A
  parameters : List (Parameter (Option A) (NameUse A)) → Value A
  constructors : List (Constructor A (Option A) (NameUse A)) → Value A
  module_so_far : Module A → Value A

-- what a class must be: anything, a type, or a kind where the domain before it is one
pub data Need : Type 0 where
  any of_type as_domain : Need

-- What the grammar tests. A part that has ended is a type, is a kind where its domain is one, is not higher than 1,024, has not too many arguments;
-- the head of an argument that begins is a type; nesting may still rise so often, and there may be so many more of a quantity;
-- a name is the module's, or may be imported.
pub data Test : Type 0 where
  IsType Fits IsShallow HasFewArguments HeadIsType IsModule IsImportable : Test
  HasRoom : ℕ → Test
  HasRoomFor : Count → ℕ → Test

-- what the grammar makes of the latest values
pub data Making : Type 0 where
  Named Parenthesized Given Enclosed NoPatterns NoBranches NoParameters NoConstructors : Making
  Star Equation Product Forall Lambda Iota Arrow ErasedArrow At On : Making
  Lam Elam Rho Phi Delta Chi Flip Mu Sigma Pair Beta Fst Snd App Eapp Tapp ABranch : Making
  APattern : Mode → Making
  TheModule AnImport AnItem AParameter AConstructor ADatatype : Making

-- What the grammar speaks of. The numbers tell how often nesting may still rise; in a class, also how many arguments may still come where it is a
-- constructor's type. Behind a part come the options (`Owner` to `MaybeArrow`) and the repetitions, which may be left out.
pub data Symbol : Type 0 where
  The : TokenKind → Wanted → Symbol
  Term Spine Atom : ℕ → Symbol
  ClassAtom : ℕ → Wanted → Symbol
  Class : ℕ → Need → Option ℕ → Symbol
  Body : Symbol
  Owner : Symbol
  Annotation : ℕ → Need → Symbol
  Side KeptTerm TypeGiven Motive : ℕ → Symbol
  MaybeArrow : ℕ → Option ℕ → Symbol
  Projections Patterns : Symbol
  Arguments TypeArguments Branches : ℕ → Symbol
  Imports Items : Symbol
  Parameters Constructors : ℕ → Symbol

-- what is wanted next: a test, a making, or that a symbol is read
pub data Want : Type 0 where
  Test_ : Test → Want
  Make : Making → Want
  Read : Symbol → Want
