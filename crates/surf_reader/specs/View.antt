-- What the parser's values stand for, and how its contracts read.
use Rattle.std.specs.Prelude.{◌≡◌, Bool, true, false, ℕ, zero, suc, ◌+◌, ◌-◌, List, [], ◌∷◌, ◌++◌, cond, map, drop, get_or, Option, Some, None, Result, Ok, Err}
use Rattle.std.specs.Global.{Vec}
use Rattle.source_model.specs.Source.{Pattern, Tree, two, cases, beta_of, mu_of, sigma_of}
use Rattle.source_model.specs.Grammar.{Token, Value, token, nothing, enclosed, part, branches, patterns, Branch, Test, Making, Want, Test_, Make, Read, IsType, IsShallow, Fits, Need, of_type, as_domain, any, Symbol, Class, TypeArguments, Arguments, Projections, Patterns}
use Rattle.source_model.specs.Grammar as m
use Rattle.source_model.specs.declared.token.TokenKind.{TokenKind}
use Rattle.source_model.specs.declared.token.TokenKind.TheVariants as k
use Rattle.source_model.specs.declared.wanted.Wanted.{Wanted}
use Rattle.source_model.specs.declared.wanted.Wanted.TheVariants as wanted
use Rattle.source_model.specs.Rows.{Row, raised, same_kind, counted, one_less, binding, sign}
use Rattle.source_model.specs.Made.{use_alone, use_in, span, behind, inner}
use Rattle.source_model.specs.Parsing.{Given, Fault, Unexpected, TooDeep, TooMany, State, Reading, one, turn, unless, need_word}
use Rattle.source_model.specs.Heights.{is_kind}
use Rattle.surf_tree.specs.Forms.{place, chain, class_given, class_tree, given, number_or_none, pattern_of}
use Rattle.surf_tree.specs.declared.node.SrcClass.{SrcClass}
use Rattle.surf_tree.specs.declared.node.SrcBranch.{SrcBranch}
use Rattle.surf_tree.specs.declared.node.SrcPattern.{SrcPattern}
use Rattle.cdle_model.specs.declared.grammar.Mode.{Mode}
use Rattle.surf_reader.specs.declared.token.Named.{Named}
use Rattle.surf_reader.specs.declared.reader.Reader.{Reader}
use Rattle.surf_reader.specs.declared.error.ParseFault.{ParseFault}
use Rattle.surf_reader.specs.declared.error.ParseFault.TheVariants as faults
use Rattle.surf_reader.specs.declared.binder.Binder.{Binder}
use Rattle.surf_reader.specs.declared.binder.Binder.TheVariants as binders

-- ---- tokens

abbrev pub token_of : Named → Token ℕ
token_of t = record { kind = t.kind; span = place t.span; name = t.name.0 }

-- the tokens from a place in the list on, and the place in the text of the one before
unfoldable pub rest : List Named → ℕ → List (Token ℕ)
rest ts at = drop at (map token_of ts)

unfoldable pub before : List Named → ℕ → ℕ
before ts zero = 0
before [] (suc n) = 0
before (t ∷ ts) (suc zero) = t.span.from
before (t ∷ ts) (suc n) = before ts n

-- the token that is next
pub record Next (r : Reader) (at : ℕ) (t : Named) : Type 0 where
  pub rest : rest r.tokens.now at ≡ token_of t ∷ rest r.tokens.now (at + 1)
  pub before : before r.tokens.now (at + 1) ≡ t.span.from

-- the token that is next, which is of that kind
pub record Taken (r : Reader) (kind : TokenKind) (at : ℕ) (t : Named) : Type 0 where
  pub next : Next r at t
  pub same : same_kind kind t.kind ≡ true

-- that no token of that kind is next
pub data Lacks (r : Reader) (kind : TokenKind) (at : ℕ) : Type 0 where
  at_end : rest r.tokens.now at ≡ [] → Lacks r kind at
  other : (t : Named) → Next r at t → same_kind kind t.kind ≡ false → Lacks r kind at

-- what the reader goes by
abbrev pub given_of : Reader → Given ℕ
given_of r = record { text = λ n. get_or r.names.now n []; module_name = r.«module».now; end = r.end }

abbrev pub here : Reader → ℕ → List (Value ℕ) → State ℕ
here r at vs = record { at = before r.tokens.now at; tokens = rest r.tokens.now at; values = vs }

-- ---- how contracts read

-- reading has this fault, unless memory ran out
abbrev pub Fails : ParseFault → Reading ℕ → Type 0
Fails faults.NoMemory read = Unit {0}
Fails (faults.Unexpected at what) read = read ≡ Err (Unexpected at what)
Fails (faults.TooDeep at) read = read ≡ Err (TooDeep at)
Fails (faults.TooMany at what) read = read ≡ Err (TooMany at what)

-- Whatever was read before, this reading goes on to a place and leaves the values with this on them; or it has this fault.
abbrev pub Told : {X : Type 0} → Reader → (X → List (Value ℕ) → List (Value ℕ)) → Result (X × ℕ) ParseFault → (List (Value ℕ) → Reading ℕ) → Type 0
Told r put (Ok x) read = (vs : List (Value ℕ)) → read vs ≡ Ok (here r x.1 (put x.0 vs))
Told r put (Err e) read = (vs : List (Value ℕ)) → Fails e (read vs)

-- so reads a symbol
abbrev pub Gives : {X : Type 0} → Reader → (X → List (Value ℕ) → List (Value ℕ)) → Result (X × ℕ) ParseFault → Symbol → ℕ → Type 0
Gives r put result s at = Told r put result (λ vs. one (given_of r) (Read s) (here r at vs))

-- so reads what is wanted behind values that stand there
abbrev pub Goes : {X : Type 0} → Reader → (X → List (Value ℕ) → List (Value ℕ)) → Result (X × ℕ) ParseFault → List Want → (List (Value ℕ) → List (Value ℕ)) → ℕ → Type 0
Goes r put result ws under at = Told r put result (λ vs. turn (given_of r) ws (here r at (under vs)))

-- what is read by a row, where that must stand
abbrev pub by_front : Given ℕ → Wanted → State ℕ → Token ℕ → List (Token ℕ) → Row → Reading ℕ
by_front g w s t ts (Some front) = turn g front (record { at = t.span.from; tokens = ts; values = token t ∷ s.values })
by_front g w s t ts None = Err (Unexpected t.span.from w)

abbrev pub by_tokens : Given ℕ → (TokenKind → Row) → Wanted → State ℕ → List (Token ℕ) → Reading ℕ
by_tokens g f w s [] = Err (Unexpected g.end w)
by_tokens g f w s (t ∷ ts) = by_front g w s t ts (f t.kind)

abbrev pub by : Given ℕ → (TokenKind → Row) → Wanted → State ℕ → Reading ℕ
by g f w s = by_tokens g f w s s.tokens

abbrev pub Reads : {X : Type 0} → Reader → (X → List (Value ℕ) → List (Value ℕ)) → Result (X × ℕ) ParseFault → (TokenKind → Row) → Wanted → ℕ → Type 0
Reads r put result f w at = Told r put result (λ vs. by (given_of r) f w (here r at vs))

abbrev pub begins_row : Row → Bool
begins_row None = false
begins_row (Some ws) = true

-- where no nesting is left: what begins so is too deep, else this word is wanted
abbrev pub IsDeep : Reader → ParseFault → (TokenKind → Row) → Wanted → ℕ → Type 0
IsDeep r e f w at = (vs : List (Value ℕ)) → Fails e (by (given_of r) (λ t. raised 0 (f t)) w (here r at vs))

-- a test of the latest values, which then stand as before, or otherwise
abbrev pub Tested : {X : Type 0} → Reader → (X → List (Value ℕ) → List (Value ℕ)) → Result X ParseFault → Test → (List (Value ℕ) → List (Value ℕ)) → ℕ → Type 0
Tested r put (Ok x) q under at = (vs : List (Value ℕ)) → one (given_of r) (Test_ q) (here r at (under vs)) ≡ Ok (here r at (put x vs))
Tested r put (Err e) q under at = (vs : List (Value ℕ)) → Fails e (one (given_of r) (Test_ q) (here r at (under vs)))

-- the end of a row, which reads no token
abbrev pub Ends : {X : Type 0} → Reader → (X → List (Value ℕ) → List (Value ℕ)) → Result X ParseFault → List Want → (List (Value ℕ) → List (Value ℕ)) → Type 0
Ends r put (Ok x) ws under = (at : ℕ) (vs : List (Value ℕ)) → turn (given_of r) ws (here r at (under vs)) ≡ Ok (here r at (put x vs))
Ends r put (Err e) ws under = (at : ℕ) (vs : List (Value ℕ)) → Fails e (turn (given_of r) ws (here r at (under vs)))

-- the same at a place, before which a part ended
abbrev pub Closes : {X : Type 0} → Reader → (X → List (Value ℕ) → List (Value ℕ)) → Result X ParseFault → List Want → (List (Value ℕ) → List (Value ℕ)) → ℕ → Type 0
Closes r put (Ok x) ws under at = (vs : List (Value ℕ)) → turn (given_of r) ws (here r at (under vs)) ≡ Ok (here r at (put x vs))
Closes r put (Err e) ws under at = (vs : List (Value ℕ)) → Fails e (turn (given_of r) ws (here r at (under vs)))

-- ---- values

abbrev pub owner_value : Option Named → Value ℕ
owner_value None = nothing
owner_value (Some t) = token (token_of t)

abbrev pub on_token : Named → List (Value ℕ) → List (Value ℕ)
on_token t vs = token (token_of t) ∷ vs

-- a part with the place of its first token
abbrev pub term_part : ℕ × Tree ℕ → List (Value ℕ) → List (Value ℕ)
term_part x vs = part x.0 x.1 ∷ vs

abbrev pub class_part : ℕ × SrcClass → List (Value ℕ) → List (Value ℕ)
class_part x vs = part x.0 (class_tree x.1) ∷ vs

abbrev pub type_given : ℕ × Option (Tree ℕ) → List (Value ℕ) → List (Value ℕ)
type_given x vs = part x.0 (given x.1) ∷ vs

abbrev pub class_on : Named → SrcClass → List (Value ℕ) → List (Value ℕ)
class_on t c vs = part t.span.from (class_tree c) ∷ vs

-- the type that a name is, with the second name behind its `#`
abbrev pub name_tree : Named → Option Named → Tree ℕ
name_tree f None = use_alone (token_of f)
name_tree f (Some x) = use_in (token_of f) (token_of x)

-- ---- classes

-- a class, whatever it must be, where its wanted word is this one
abbrev pub ClassGives : Reader → Result ((ℕ × SrcClass) × ℕ) ParseFault → ℕ → Option ℕ → Wanted → ℕ → Type 0
ClassGives r (Ok x) left count w at = (need : Need) (vs : List (Value ℕ)) → need_word need vs ≡ w → one (given_of r) (Read (Class left need count)) (here r at vs) ≡ Ok (here r x.1 (class_part x.0 vs))
ClassGives r (Err e) left count w at = (need : Need) (vs : List (Value ℕ)) → need_word need vs ≡ w → Fails e (one (given_of r) (Read (Class left need count)) (here r at vs))

-- what the part of a binder must be, and how its row ends
abbrev pub need_of : Binder → Need
need_of binders.Product = as_domain
need_of b = of_type

abbrev pub ends_of : Binder → List Want
ends_of binders.Product = Test_ Fits ∷ Make m.Product ∷ []
ends_of binders.Forall = Test_ IsType ∷ Make m.Forall ∷ []
ends_of binders.Lambda = Test_ IsType ∷ Make m.Lambda ∷ []

-- the word of a part behind a domain
abbrev pub part_word : Need → Tree ℕ → Wanted
part_word as_domain a = cond (is_kind a) wanted.Kind wanted.Class
part_word of_type a = wanted.Ty
part_word any a = wanted.Class

abbrev pub binder_row : ℕ → Option ℕ → Binder → List Want
binder_row n left b = counted left ++ binding ∷ sign k.Colon ∷ Read (Class n any None) ∷ sign k.Period ∷ Read (Class n (need_of b) (one_less left)) ∷ ends_of b

-- the same of `➔` and `➾`
abbrev pub arrow_need : Bool → Need
arrow_need false = as_domain
arrow_need true = of_type

abbrev pub arrow_ends : Bool → List Want
arrow_ends false = Test_ Fits ∷ Make m.Arrow ∷ []
arrow_ends true = Test_ IsType ∷ Make m.ErasedArrow ∷ []

-- whether the part of a product fits its domain
abbrev pub fits : ℕ → Tree ℕ → Tree ℕ → Option Fault
fits f a b = cond (is_kind a) (unless (is_kind b) (Unexpected f wanted.Kind)) None

-- where arguments are counted, one more may come, whatever is wanted then
abbrev pub Counted : Reader → Result Unit ParseFault → Option ℕ → ℕ → Type 0
Counted r (Ok u) count at = (ws : List Want) (vs : List (Value ℕ)) → turn (given_of r) (counted count ++ ws) (here r at vs) ≡ turn (given_of r) ws (here r at vs)
Counted r (Err e) count at = (ws : List Want) (vs : List (Value ℕ)) → Fails e (turn (given_of r) (counted count ++ ws) (here r at vs))

abbrev pub arrow_tail : ℕ → Option ℕ → Bool → List Want
arrow_tail n left erased = counted left ++ Read (Class n (arrow_need erased) (one_less left)) ∷ arrow_ends erased

abbrev pub type_part : ℕ → Tree ℕ → List (Value ℕ) → List (Value ℕ)
type_part first t vs = part first t ∷ vs

-- One more argument of a class that begins at a place, or none, or a fault.
abbrev pub ClassArgued : Reader → ℕ → ℕ → Tree ℕ → ℕ → Result (Option (SrcClass × ℕ)) ParseFault → Type 0
ClassArgued r left first t at (Ok (Some x)) = (vs : List (Value ℕ)) → one (given_of r) (Read (TypeArguments left)) (here r at (part first t ∷ vs)) ≡ one (given_of r) (Read (TypeArguments (left - 1))) (here r x.1 (part first (class_tree x.0) ∷ vs))
ClassArgued r left first t at (Ok None) = (vs : List (Value ℕ)) → one (given_of r) (Read (TypeArguments left)) (here r at (part first t ∷ vs)) ≡ Ok (here r at (part first t ∷ vs))
ClassArgued r left first t at (Err e) = (vs : List (Value ℕ)) → Fails e (one (given_of r) (Read (TypeArguments left)) (here r at (part first t ∷ vs)))

-- ---- terms

-- an option's term with the place behind its last sign, or that it was left out
abbrev pub enclosed_of : Option (ℕ × Tree ℕ) → Value ℕ
enclosed_of None = nothing
enclosed_of (Some x) = enclosed x.0 x.1

abbrev pub enclosed_value : Option (ℕ × Tree ℕ) → List (Value ℕ) → List (Value ℕ)
enclosed_value x vs = enclosed_of x ∷ vs

-- what `β` makes of its options
abbrev pub beta_tree : Named → Option (ℕ × Tree ℕ) → Option (ℕ × Tree ℕ) → Tree ℕ
beta_tree t u v = two (span t.span.from (behind (enclosed_of v) (behind (enclosed_of u) t.span.to))) beta_of (inner (enclosed_of u)) (inner (enclosed_of v))

-- One more projection of a part, by its making, which is not too high.
abbrev pub Projects : Reader → Tree ℕ → Named → Making → Result (Tree ℕ) ParseFault → ℕ → Type 0
Projects r t d f (Ok u) at = (first : ℕ) (vs : List (Value ℕ)) → turn (given_of r) (Make f ∷ Test_ IsShallow ∷ []) (here r at (token (token_of d) ∷ part first t ∷ vs)) ≡ Ok (here r at (part first u ∷ vs))
Projects r t d f (Err e) at = (first : ℕ) (vs : List (Value ℕ)) → Fails e (turn (given_of r) (Make f ∷ Test_ IsShallow ∷ []) (here r at (token (token_of d) ∷ part first t ∷ vs)))

-- One more projection of a part that begins at a place, or none, or a fault.
abbrev pub Projected : Reader → ℕ → Tree ℕ → ℕ → Result (Option (Tree ℕ)) ParseFault → Type 0
Projected r first t at (Ok (Some u)) = (vs : List (Value ℕ)) → one (given_of r) (Read Projections) (here r at (part first t ∷ vs)) ≡ one (given_of r) (Read Projections) (here r (at + 1) (part first u ∷ vs))
Projected r first t at (Ok None) = (vs : List (Value ℕ)) → one (given_of r) (Read Projections) (here r at (part first t ∷ vs)) ≡ Ok (here r at (part first t ∷ vs))
Projected r first t at (Err e) = (vs : List (Value ℕ)) → Fails e (one (given_of r) (Read Projections) (here r at (part first t ∷ vs)))

abbrev pub term_on : ℕ → Tree ℕ → List (Value ℕ) → List (Value ℕ)
term_on first t vs = part first t ∷ vs

abbrev pub class_given_part : ℕ × Option SrcClass → List (Value ℕ) → List (Value ℕ)
class_given_part x vs = part x.0 (class_given x.1) ∷ vs

-- One more argument of a term that begins at a place, or none, or a fault.
abbrev pub Argued : Reader → ℕ → ℕ → Tree ℕ → ℕ → Result (Option (Tree ℕ × ℕ)) ParseFault → Type 0
Argued r left first t at (Ok (Some x)) = (vs : List (Value ℕ)) → one (given_of r) (Read (Arguments left)) (here r at (part first t ∷ vs)) ≡ one (given_of r) (Read (Arguments (left - 1))) (here r x.1 (part first x.0 ∷ vs))
Argued r left first t at (Ok None) = (vs : List (Value ℕ)) → one (given_of r) (Read (Arguments left)) (here r at (part first t ∷ vs)) ≡ Ok (here r at (part first t ∷ vs))
Argued r left first t at (Err e) = (vs : List (Value ℕ)) → Fails e (one (given_of r) (Read (Arguments left)) (here r at (part first t ∷ vs)))

-- ---- cases

-- what stands on the values before the term that is taken apart
abbrev pub case_under : Token ℕ → Named → Option Named → List (Value ℕ) → List (Value ℕ)
case_under d letter None vs = on_token letter vs
case_under d letter (Some x) vs = token d ∷ on_token x (on_token letter vs)

abbrev pub case_making : Option Named → List Want
case_making None = Make m.Sigma ∷ []
case_making (Some x) = Make m.Mu ∷ []

abbrev pub case_tree : Named → Option Named → Named → Tree ℕ → Tree ℕ → List SrcBranch → Tree ℕ
case_tree letter None close p a bs = cases (span letter.span.from close.span.to) sigma_of None p a (chain bs)
case_tree letter (Some x) close p a bs = cases (span letter.span.from close.span.to) mu_of (Some x.name.0) p a (chain bs)

abbrev pub branch_value : SrcBranch → Branch ℕ
branch_value b = record { span = place b.span; owner = number_or_none b.ctor.«module»; name = b.ctor.name.0; patterns = map pattern_of b.args.items; part = b.part }

-- one more branch, and all of them
abbrev pub branch_of : List (Branch ℕ) → SrcBranch → List (Value ℕ) → List (Value ℕ)
branch_of bs b vs = branches (bs ++ branch_value b ∷ []) ∷ vs

abbrev pub branches_of : Vec SrcBranch → List (Value ℕ) → List (Value ℕ)
branches_of bs vs = branches (map branch_value bs.items) ∷ vs

abbrev pub branch_row_behind : ℕ → List Want
branch_row_behind n = binding ∷ Read m.Owner ∷ Make m.Named ∷ Make m.NoPatterns ∷ Read Patterns ∷ sign k.Arrow ∷ Read (m.Term n) ∷ Make m.ABranch ∷ []

abbrev pub pattern_with : Mode → Named → Pattern (Option ℕ)
pattern_with mode x = record { mode = mode; span = place x.span; binder = Some x.name.0 }

abbrev pub patterns_of : Vec SrcPattern → List (Value ℕ) → List (Value ℕ)
patterns_of ps vs = patterns (map pattern_of ps.items) ∷ vs

-- One more name of a pattern, or none, or a fault.
abbrev pub Patterned : Reader → ℕ → Result (Option (SrcPattern × ℕ)) ParseFault → Type 0
Patterned r at (Ok (Some x)) = (ps : List (Pattern (Option ℕ))) (vs : List (Value ℕ)) → one (given_of r) (Read Patterns) (here r at (patterns ps ∷ vs)) ≡ one (given_of r) (Read Patterns) (here r x.1 (patterns (ps ++ pattern_of x.0 ∷ []) ∷ vs))
Patterned r at (Ok None) = (ps : List (Pattern (Option ℕ))) (vs : List (Value ℕ)) → one (given_of r) (Read Patterns) (here r at (patterns ps ∷ vs)) ≡ Ok (here r at (patterns ps ∷ vs))
Patterned r at (Err e) = (ps : List (Pattern (Option ℕ))) (vs : List (Value ℕ)) → Fails e (one (given_of r) (Read Patterns) (here r at (patterns ps ∷ vs)))

-- One more branch, or none, or a fault.
abbrev pub Branched : Reader → ℕ → ℕ → Result (Option (SrcBranch × ℕ)) ParseFault → Type 0
Branched r left at (Ok (Some x)) = (bs : List (Branch ℕ)) (vs : List (Value ℕ)) → one (given_of r) (Read (m.Branches left)) (here r at (branches bs ∷ vs)) ≡ one (given_of r) (Read (m.Branches left)) (here r x.1 (branch_of bs x.0 vs))
Branched r left at (Ok None) = (bs : List (Branch ℕ)) (vs : List (Value ℕ)) → one (given_of r) (Read (m.Branches left)) (here r at (branches bs ∷ vs)) ≡ Ok (here r at (branches bs ∷ vs))
Branched r left at (Err e) = (bs : List (Branch ℕ)) (vs : List (Value ℕ)) → Fails e (one (given_of r) (Read (m.Branches left)) (here r at (branches bs ∷ vs)))
