-- The rows of the grammar of surface text: what follows where a symbol begins with a token of that kind. Each row stands here behind its first token.
use Rattle.std.specs.Prelude.{ℕ, pred, eqb, Bool, true, false, List, [], ◌∷◌, ◌++◌, Option, Some, None}
use Rattle.source_model.specs.Heights.{is_kind}
use Rattle.source_model.specs.Grammar.{Value, token, part, Need, any, of_type, as_domain, Want, Test_, Make, Read, IsType, Fits, IsShallow, HasFewArguments, HeadIsType, IsModule, IsImportable, HasRoom, HasRoomFor, Symbol, The, Term, Spine, Atom, ClassAtom, Class, Body, Owner, Annotation, Side, KeptTerm, TypeGiven, Motive, MaybeArrow, Projections, Patterns, Arguments, TypeArguments, Branches, Imports, Items, Parameters, Constructors}
use Rattle.source_model.specs.Grammar as m
use Rattle.cdle_model.specs.declared.grammar.Mode.TheVariants.{Kept, Erased, OfType}
use Rattle.source_model.specs.declared.token.TokenKind.{TokenKind}
use Rattle.source_model.specs.declared.token.TokenKind.TheVariants as k
use Rattle.source_model.specs.declared.wanted.Wanted.TheVariants as wanted
use Rattle.cdle_model.specs.declared.grammar.Count.TheVariants as many

-- what follows, where the symbol begins so
abbrev pub Row : Type 0
Row = Option (List Want)

-- the row, and then these
abbrev pub ◌▸◌ : Row → List Want → Row
None ▸ ws = None
(Some vs) ▸ ws = Some (vs ++ ws)

infixl 30 ◌▸◌
-- a token that must stand there
abbrev pub sign : TokenKind → Want
sign t = Read (The t (wanted.Token t))

-- a name that must stand there
abbrev pub binding : Want
binding = Read (The k.Name wanted.Name)

-- kinds of tokens are told apart by number
abbrev pub kind_number : TokenKind → ℕ
kind_number k.Lambda = 0
kind_number k.BigLambda = 1
kind_number k.BigPi = 2
kind_number k.Iota = 3
kind_number k.Beta = 4
kind_number k.Rho = 5
kind_number k.Phi = 6
kind_number k.Delta = 7
kind_number k.Chi = 8
kind_number k.FinalSigma = 9
kind_number k.Mu = 10
kind_number k.Sigma = 11
kind_number k.Star = 12
kind_number k.ForAll = 13
kind_number k.Arrow = 14
kind_number k.ErasedArrow = 15
kind_number k.Equal = 16
kind_number k.MiddleDot = 17
kind_number k.First = 18
kind_number k.Second = 19
kind_number k.Period = 20
kind_number k.Colon = 21
kind_number k.Is = 22
kind_number k.Open = 23
kind_number k.Close = 24
kind_number k.OpenBracket = 25
kind_number k.CloseBracket = 26
kind_number k.OpenBrace = 27
kind_number k.CloseBrace = 28
kind_number k.Less = 29
kind_number k.Greater = 30
kind_number k.Comma = 31
kind_number k.Bar = 32
kind_number k.Minus = 33
kind_number k.At = 34
kind_number k.Hash = 35
kind_number k.Module = 36
kind_number k.Import = 37
kind_number k.Data = 38
kind_number k.Name = 39

-- two kinds of tokens are one
abbrev pub same_kind : TokenKind → TokenKind → Bool
same_kind s t = eqb (kind_number s) (kind_number t)

-- the row where the token is of that kind alone
abbrev pub only : Bool → List Want → Row
only true ws = Some ws
only false ws = None

-- ---- terms; inside them nesting may still rise so often

-- simple = name | "(" term ")" | "[" term "," term "]" | "β" [ "<" term ">" ] [ "{" term "}" ]
abbrev pub atom_row : ℕ → TokenKind → Row
atom_row n k.Name = Some (Read Owner ∷ Make m.Named ∷ [])
atom_row n k.Open = Some (Read (Term n) ∷ sign k.Close ∷ Make m.Parenthesized ∷ [])
atom_row n k.OpenBracket = Some (Read (Term n) ∷ sign k.Comma ∷ Read (Term n) ∷ sign k.CloseBracket ∷ Make m.Pair ∷ [])
atom_row n k.Beta = Some (Read (Side n) ∷ Read (KeptTerm n) ∷ Make m.Beta ∷ [])
atom_row n t = None

-- atom = simple { ".1" | ".2" }
abbrev pub whole_atom_row : ℕ → TokenKind → Row
whole_atom_row n t = atom_row n t ▸ (Read Projections ∷ [])

-- spine = atom { atom | "-" atom | "·" catom }
abbrev pub spine_row : ℕ → TokenKind → Row
spine_row n t = whole_atom_row n t ▸ (Read (Arguments n) ∷ [])

-- what `μ r .` and `σ` have behind them: spine [ "@" catom ] "{" { branch } "}"
abbrev pub case_rows : ℕ → List Want
case_rows n = Read (Spine n) ∷ Read (Motive n) ∷ sign k.OpenBrace ∷ Make m.NoBranches ∷ Read (Branches n) ∷ Read (The k.CloseBrace wanted.Branch) ∷ []

-- term: an abstraction, a form of its own letter, or a spine; the domain of a `λ` is a type
abbrev pub term_row : ℕ → TokenKind → Row
term_row n k.Lambda = Some (binding ∷ Read (Annotation n of_type) ∷ sign k.Period ∷ Read (Term n) ∷ Make m.Lam ∷ [])
term_row n k.BigLambda = Some (binding ∷ Read (Annotation n any) ∷ sign k.Period ∷ Read (Term n) ∷ Make m.Elam ∷ [])
term_row n k.Rho = Some (Read (Atom n) ∷ sign k.At ∷ binding ∷ sign k.Period ∷ Read (Class n of_type None) ∷ Test_ IsType ∷ sign k.Minus ∷ Read (Term n) ∷ Make m.Rho ∷ [])
term_row n k.Phi = Some (Read (Atom n) ∷ sign k.Minus ∷ Read (Atom n) ∷ sign k.OpenBrace ∷ Read (Term n) ∷ sign k.CloseBrace ∷ Make m.Phi ∷ [])
term_row n k.Delta = Some (Read (TypeGiven n) ∷ sign k.Minus ∷ Read (Atom n) ∷ Make m.Delta ∷ [])
term_row n k.Chi = Some (Read (ClassAtom n wanted.Ty) ∷ Test_ IsType ∷ sign k.Minus ∷ Read (Term n) ∷ Make m.Chi ∷ [])
term_row n k.FinalSigma = Some (Read (Atom n) ∷ Make m.Flip ∷ [])
term_row n k.Mu = Some (binding ∷ sign k.Period ∷ case_rows n ++ Make m.Mu ∷ [])
term_row n k.Sigma = Some (case_rows n ++ Make m.Sigma ∷ [])
term_row n t = spine_row n t

-- an argument of a term, behind the test that nesting may rise
abbrev pub argument_row : ℕ → TokenKind → Row
argument_row n k.Minus = Some (Read (Atom n) ∷ Make m.Eapp ∷ [])
argument_row n k.MiddleDot = Some (Read (ClassAtom n wanted.Ty) ∷ Test_ IsType ∷ Make m.Tapp ∷ [])
argument_row n t = whole_atom_row n t ▸ (Make m.App ∷ [])

-- ---- classes

-- the arguments that may still come behind one, where they are counted
abbrev pub one_less : Option ℕ → Option ℕ
one_less None = None
one_less (Some n) = Some (pred n)

-- where arguments are counted, one more may still come
abbrev pub counted : Option ℕ → List Want
counted None = []
counted (Some n) = Test_ (HasRoomFor many.Arguments n) ∷ []

-- catom = "★" | name | "(" class ")" | "{" term "≃" term "}"
abbrev pub class_atom_row : ℕ → TokenKind → Row
class_atom_row n k.Star = Some (Make m.Star ∷ [])
class_atom_row n k.Name = Some (Read Owner ∷ Make m.Named ∷ [])
class_atom_row n k.Open = Some (Read (Class n any None) ∷ sign k.Close ∷ Make m.Parenthesized ∷ [])
class_atom_row n k.OpenBrace = Some (Read (Term n) ∷ sign k.Equal ∷ Read (Term n) ∷ sign k.CloseBrace ∷ Make m.Equation ∷ [])
class_atom_row n t = None

-- class = ( "Π" | "∀" | "λ" | "ι" ) NAME ":" class "." class | catom { atom | "·" catom } [ ( "➔" | "➾" ) class ]; both parts of `ι`, and the
-- part of `∀` and of `λ`, are types, and the part of `Π` is a kind where its domain is one
abbrev pub class_row : ℕ → Option ℕ → TokenKind → Row
class_row n left k.BigPi = Some (counted left ++ binding ∷ sign k.Colon ∷ Read (Class n any None) ∷ sign k.Period ∷ Read (Class n as_domain (one_less left)) ∷ Test_ Fits ∷ Make m.Product ∷ [])
class_row n left k.ForAll = Some (counted left ++ binding ∷ sign k.Colon ∷ Read (Class n any None) ∷ sign k.Period ∷ Read (Class n of_type (one_less left)) ∷ Test_ IsType ∷ Make m.Forall ∷ [])
class_row n left k.Lambda = Some (binding ∷ sign k.Colon ∷ Read (Class n any None) ∷ sign k.Period ∷ Read (Class n of_type None) ∷ Test_ IsType ∷ Make m.Lambda ∷ [])
class_row n left k.Iota = Some (binding ∷ sign k.Colon ∷ Read (Class n of_type None) ∷ Test_ IsType ∷ sign k.Period ∷ Read (Class n of_type None) ∷ Test_ IsType ∷ Make m.Iota ∷ [])
class_row n left t = class_atom_row n t ▸ (Read (TypeArguments n) ∷ Read (MaybeArrow n left) ∷ [])

-- an argument of a type, behind the tests that the head is a type and that nesting may rise
abbrev pub type_argument_row : ℕ → TokenKind → Row
type_argument_row n k.MiddleDot = Some (Read (ClassAtom n wanted.Ty) ∷ Test_ IsType ∷ Make m.On ∷ [])
type_argument_row n t = whole_atom_row n t ▸ (Make m.At ∷ [])

-- behind a class: ( "➔" | "➾" ) class; behind `➾` a type stands
abbrev pub arrow_row : ℕ → Option ℕ → TokenKind → Row
arrow_row n left k.Arrow = Some (counted left ++ Read (Class n as_domain (one_less left)) ∷ Test_ Fits ∷ Make m.Arrow ∷ [])
arrow_row n left k.ErasedArrow = Some (counted left ++ Read (Class n of_type (one_less left)) ∷ Test_ IsType ∷ Make m.ErasedArrow ∷ [])
arrow_row n left t = None

-- ---- options and repetitions

-- { NAME | "-" NAME | "·" NAME } of a branch
abbrev pub pattern_row : TokenKind → Row
pattern_row k.Name = Some (Make (m.APattern Kept) ∷ Read Patterns ∷ [])
pattern_row k.Minus = Some (binding ∷ Make (m.APattern Erased) ∷ Read Patterns ∷ [])
pattern_row k.MiddleDot = Some (binding ∷ Make (m.APattern OfType) ∷ Read Patterns ∷ [])
pattern_row t = None

-- { ".1" | ".2" }; each makes a part of what is before it
abbrev pub projection_row : TokenKind → Row
projection_row k.First = Some (Make m.Fst ∷ Test_ IsShallow ∷ Read Projections ∷ [])
projection_row k.Second = Some (Make m.Snd ∷ Test_ IsShallow ∷ Read Projections ∷ [])
projection_row t = None

-- branch = "|" name { NAME | "-" NAME | "·" NAME } "➔" term
abbrev pub branch_row : ℕ → TokenKind → Row
branch_row n t = only (same_kind k.Bar t) (binding ∷ Read Owner ∷ Make m.Named ∷ Make m.NoPatterns ∷ Read Patterns ∷ sign k.Arrow ∷ Read (Term n) ∷ Make m.ABranch ∷ Read (Branches n) ∷ [])

-- [ "#" NAME ]
abbrev pub owner_row : TokenKind → Row
owner_row t = only (same_kind k.Hash t) (binding ∷ Make m.Given ∷ [])

-- [ ":" class ] of `λ` and `Λ`
abbrev pub annotation_row : ℕ → Need → TokenKind → Row
annotation_row n of_type t = only (same_kind k.Colon t) (Read (Class n of_type None) ∷ Test_ IsType ∷ Make m.Given ∷ [])
annotation_row n need t = only (same_kind k.Colon t) (Read (Class n any None) ∷ Make m.Given ∷ [])

-- [ "<" term ">" ]
abbrev pub side_row : ℕ → TokenKind → Row
side_row n t = only (same_kind k.Less t) (Read (Term n) ∷ sign k.Greater ∷ Make m.Enclosed ∷ [])

-- [ "{" term "}" ]
abbrev pub kept_row : ℕ → TokenKind → Row
kept_row n t = only (same_kind k.OpenBrace t) (Read (Term n) ∷ sign k.CloseBrace ∷ Make m.Enclosed ∷ [])

-- [ "@" catom ]
abbrev pub motive_row : ℕ → TokenKind → Row
motive_row n t = only (same_kind k.At t) (Read (ClassAtom n wanted.Ty) ∷ Test_ IsType ∷ Make m.Given ∷ [])

-- ---- items; nesting begins with the outermost term or class

-- with the outermost term or class itself, which nests nothing, this is one more than nesting may rise
abbrev pub outermost : ℕ
outermost = 257

-- { "import" NAME "." }
abbrev pub import_row : TokenKind → Row
import_row t = only (same_kind k.Import t) (binding ∷ Test_ IsImportable ∷ sign k.Period ∷ Make m.AnImport ∷ Read Imports ∷ [])

-- { "(" NAME ":" class ")" } of a datatype
abbrev pub parameter_row : ℕ → TokenKind → Row
parameter_row n t = only (same_kind k.Open t) (Test_ (HasRoomFor many.Parameters n) ∷ binding ∷ sign k.Colon ∷ Read (Class outermost any None) ∷ sign k.Close ∷ Make m.AParameter ∷ Read (Parameters (pred n)) ∷ [])

-- { "|" NAME ":" type } of a datatype
abbrev pub constructor_row : ℕ → TokenKind → Row
constructor_row n t = only (same_kind k.Bar t) (Test_ (HasRoomFor many.Constructors n) ∷ binding ∷ sign k.Colon ∷ Read (Class outermost of_type (Some 32)) ∷ Test_ IsType ∷ Test_ HasFewArguments ∷ Make m.AConstructor ∷ Read (Constructors (pred n)) ∷ [])

-- { item }: a definition, or a datatype
abbrev pub item_row : TokenKind → Row
item_row k.Name = Some (sign k.Colon ∷ Read (Class outermost any None) ∷ sign k.Is ∷ Read Body ∷ Test_ IsType ∷ sign k.Period ∷ Make m.AnItem ∷ Read Items ∷ [])
item_row k.Data = Some (binding ∷ Make m.NoParameters ∷ Read (Parameters 16) ∷ sign k.Colon ∷ sign k.Star ∷ sign k.Is ∷ Make m.NoConstructors ∷ Read (Constructors 64) ∷ sign k.Period ∷ Make m.ADatatype ∷ Read Items ∷ [])
item_row t = None

-- what a module begins with
abbrev pub a_module : List Want
a_module = sign k.Module ∷ binding ∷ Test_ IsModule ∷ sign k.Period ∷ Make m.TheModule ∷ Read Imports ∷ Read Items ∷ []

-- the class of the item of which the body is wanted, behind its `=`, is a kind
abbrev pub body_is_type : {A : Type 0} → List (Value A) → Bool
body_is_type (token t ∷ part f c ∷ vs) = is_kind c
body_is_type vs = false

-- what stands behind the `=`: a type where the item's class is a kind, else a term
abbrev pub body_row : Bool → TokenKind → Row
body_row true t = class_row (pred outermost) None t
body_row false t = term_row (pred outermost) t

-- where nesting rises with a term, a class or an argument
abbrev pub raised : ℕ → Row → Row
raised n None = None
raised n (Some ws) = Some (Test_ (HasRoom n) ∷ ws)

-- the head of an argument must be a type, before the argument is read
abbrev pub behind_type : Row → Row
behind_type None = None
behind_type (Some ws) = Some (Test_ HeadIsType ∷ ws)

-- what follows a token of that kind, where the symbol may begin with it
unfoldable pub row : {A : Type 0} → Symbol → List (Value A) → TokenKind → Row
row (The s w) vs t = only (same_kind s t) []
row (Term n) vs t = raised n (term_row (pred n) t)
row (Spine n) vs t = spine_row n t
row (Atom n) vs t = whole_atom_row n t
row (ClassAtom n w) vs t = class_atom_row n t
row (Class n need left) vs t = raised n (class_row (pred n) left t)
row Body vs t = raised outermost (body_row (body_is_type vs) t)
row Owner vs t = owner_row t
row (Annotation n need) vs t = annotation_row n need t
row (Side n) vs t = side_row n t
row (KeptTerm n) vs t = kept_row n t
row (TypeGiven n) vs t = class_atom_row n t ▸ (Test_ IsType ∷ [])
row (Motive n) vs t = motive_row n t
row (MaybeArrow n left) vs t = arrow_row n left t
row Projections vs t = projection_row t
row Patterns vs t = pattern_row t
row (Arguments n) vs t = raised n (argument_row (pred n) t ▸ (Test_ IsShallow ∷ Read (Arguments (pred n)) ∷ []))
row (TypeArguments n) vs t = behind_type (raised n (type_argument_row (pred n) t ▸ (Test_ IsShallow ∷ Read (TypeArguments (pred n)) ∷ [])))
row (Branches n) vs t = branch_row n t
row Imports vs t = import_row t
row Items vs t = item_row t
row (Parameters n) vs t = parameter_row n t
row (Constructors n) vs t = constructor_row n t

-- ---- what may be left out

-- an option that may be left out, which is then told, and a repetition that may end
pub data Leaving : Type 0 where
  MustStand LeftOut NotGiven Ends : Leaving

-- what comes of a symbol that does not begin
abbrev pub leaving : Symbol → Leaving
leaving Owner = LeftOut
leaving (Side n) = LeftOut
leaving (KeptTerm n) = LeftOut
leaving (Annotation n need) = NotGiven
leaving (TypeGiven n) = NotGiven
leaving (Motive n) = NotGiven
leaving (MaybeArrow n left) = Ends
leaving Projections = Ends
leaving Patterns = Ends
leaving (Arguments n) = Ends
leaving (TypeArguments n) = Ends
leaving (Branches n) = Ends
leaving Imports = Ends
leaving Items = Ends
leaving (Parameters n) = Ends
leaving (Constructors n) = Ends
leaving s = MustStand
