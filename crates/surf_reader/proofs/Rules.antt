-- What the rows of the grammar come to, each where the parser reads it.
use Rattle.std.proofs.Common.{◌≡◌, ℕ, suc, pred, ◌+◌, true, false, eqb, List, [], ◌∷◌, ◌++◌, Option, Some, None, Result, Ok, Err, refl, sym, ap, ◌∙◌, append_assoc, arith}
use Rattle.std.proofs.lemmas.Bool.Decides.{nat_tests}
use Rattle.source_model.specs.declared.token.TokenKind.{TokenKind}
use Rattle.source_model.specs.declared.token.TokenKind.TheVariants as k
use Rattle.source_model.specs.declared.wanted.Wanted.{Wanted}
use Rattle.source_model.specs.declared.wanted.Wanted.TheVariants as wanted
use Rattle.source_model.specs.Source.{Tree}
use Rattle.source_model.specs.Grammar.{Token, Value, token, part, Want, Making, Read, Make, Test_, Fits, IsShallow, HeadIsType, HasRoom, IsType, TypeGiven, Need, any, of_type, as_domain, Atom, Spine, Term, ClassAtom, Class, Arguments, TypeArguments, MaybeArrow, Projections}
use Rattle.source_model.specs.Grammar as m
use Rattle.source_model.specs.Rows.{row, Row, ◌▸◌, raised, behind_type, atom_row, whole_atom_row, spine_row, term_row, argument_row, class_atom_row, class_row, type_argument_row, arrow_row, pattern_row, projection_row}
use Rattle.source_model.specs.Made.{made}
use Rattle.source_model.specs.Parsing.{Given, Fault, TooDeep, State, Reading, ◌>>=◌, one, turn, complaint, judged, need_word, word_of}
use Rattle.source_model.proofs.Turns.{one_make, one_test}
use Rattle.surf_tree.specs.declared.node.SrcClass.{SrcClass}
use Rattle.surf_reader.specs.View.{token_of, given_of, here, rest, Next, Fails, Ends, begins_row, by, by_front, by_tokens, owner_value, name_tree, part_word, Reads, ClassGives, class_part}
use Rattle.surf_reader.specs.declared.token.Named.{Named}
use Rattle.surf_reader.specs.declared.reader.Reader.{Reader}
use Rattle.surf_reader.specs.declared.error.ParseFault.{ParseFault}
use Rattle.surf_reader.proofs.Steps.{begins, fails_on, fails_same, room, one_by, by_begins, by_then, by_raised}

-- ---- names

pub named_makes : (text : ℕ → List ℕ) (f : Named) (s : Option Named) (vs : List (Value ℕ)) → made text m.Named (owner_value s ∷ token (token_of f) ∷ vs) ≡ part f.span.from (name_tree f s) ∷ vs
unfolding made
named_makes text f None vs = refl
named_makes text f (Some x) vs = refl

-- ---- the ends of rows

-- a product, whose part fits its domain
pub product_ends : (r : Reader) (put : SrcClass → List (Value ℕ) → List (Value ℕ)) (res : Result SrcClass ParseFault) (f : Making) (complaints : Option Fault) (under : List (Value ℕ) → List (Value ℕ))
    → ((at : ℕ) (vs : List (Value ℕ)) → complaint (given_of r) Fits at (under vs) ≡ complaints)
    → ((p : SrcClass) → res ≡ Ok p → complaints ≡ None)
    → ((e : ParseFault) → res ≡ Err e → (q : State ℕ) → Fails e (judged q complaints))
    → ((p : SrcClass) → res ≡ Ok p → (vs : List (Value ℕ)) → made (given_of r).text f (under vs) ≡ put p vs)
    → Ends r put res (Test_ Fits ∷ Make f ∷ []) under
product_ends r put (Ok p) f complaints under c t e h = λ at vs. rw (one_test (given_of r) Fits, c (here r at vs).at vs, t p refl, one_make (given_of r) f, h p refl vs) refl
product_ends r put (Err d) f complaints under c t e h = λ at vs.
    fails_on d _ _ (fails_same d _ _ (one_test (given_of r) Fits (here r at (under vs)) ∙ ap (judged (here r at (under vs))) (c (here r at vs).at vs)) (e d refl (here r at (under vs))))

-- ---- rows that there are not, and rows that are another's

pub class_atom_none : (n : ℕ) (t : TokenKind) → ¬ (t ≡ k.Star) → ¬ (t ≡ k.Name) → ¬ (t ≡ k.Open) → ¬ (t ≡ k.OpenBrace) → class_atom_row n t ≡ None
class_atom_none n k.Star h _ _ _ = absurd (h refl)
class_atom_none n k.Name _ h _ _ = absurd (h refl)
class_atom_none n k.Open _ _ h _ = absurd (h refl)
class_atom_none n k.OpenBrace _ _ _ h = absurd (h refl)
class_atom_none n t _ _ _ _ = refl

pub atom_none : (n : ℕ) (t : TokenKind) → ¬ (t ≡ k.Name) → ¬ (t ≡ k.Open) → ¬ (t ≡ k.OpenBracket) → ¬ (t ≡ k.Beta) → atom_row n t ≡ None
atom_none n k.Name h _ _ _ = absurd (h refl)
atom_none n k.Open _ h _ _ = absurd (h refl)
atom_none n k.OpenBracket _ _ h _ = absurd (h refl)
atom_none n k.Beta _ _ _ h = absurd (h refl)
atom_none n t _ _ _ _ = refl

pub class_none : (n : ℕ) (count : Option ℕ) (t : TokenKind) → ¬ (t ≡ k.BigPi) → ¬ (t ≡ k.ForAll) → ¬ (t ≡ k.Lambda) → ¬ (t ≡ k.Iota) → ¬ (t ≡ k.Star) → ¬ (t ≡ k.Name) → ¬ (t ≡ k.Open) → ¬ (t ≡ k.OpenBrace) → class_row n count t ≡ None
class_none n count k.BigPi h _ _ _ _ _ _ _ = absurd (h refl)
class_none n count k.ForAll _ h _ _ _ _ _ _ = absurd (h refl)
class_none n count k.Lambda _ _ h _ _ _ _ _ = absurd (h refl)
class_none n count k.Iota _ _ _ h _ _ _ _ = absurd (h refl)
class_none n count k.Star _ _ _ _ h _ _ _ = absurd (h refl)
class_none n count k.Name _ _ _ _ _ h _ _ = absurd (h refl)
class_none n count k.Open _ _ _ _ _ _ h _ = absurd (h refl)
class_none n count k.OpenBrace _ _ _ _ _ _ _ h = absurd (h refl)
class_none n count t _ _ _ _ _ _ _ _ = refl

pub class_other : (n : ℕ) (count : Option ℕ) (t : TokenKind) → ¬ (t ≡ k.BigPi) → ¬ (t ≡ k.ForAll) → ¬ (t ≡ k.Lambda) → ¬ (t ≡ k.Iota) → class_row n count t ≡ (class_atom_row n t ▸ (Read (TypeArguments n) ∷ Read (MaybeArrow n count) ∷ []))
class_other n count k.BigPi h _ _ _ = absurd (h refl)
class_other n count k.ForAll _ h _ _ = absurd (h refl)
class_other n count k.Lambda _ _ h _ = absurd (h refl)
class_other n count k.Iota _ _ _ h = absurd (h refl)
class_other n count t _ _ _ _ = refl

pub type_argument_none : (n : ℕ) (t : TokenKind) → ¬ (t ≡ k.MiddleDot) → ¬ (t ≡ k.Name) → ¬ (t ≡ k.Open) → ¬ (t ≡ k.OpenBracket) → ¬ (t ≡ k.Beta) → type_argument_row n t ≡ None
type_argument_none n k.MiddleDot h _ _ _ _ = absurd (h refl)
type_argument_none n k.Name _ h _ _ _ = absurd (h refl)
type_argument_none n k.Open _ _ h _ _ = absurd (h refl)
type_argument_none n k.OpenBracket _ _ _ h _ = absurd (h refl)
type_argument_none n k.Beta _ _ _ _ h = absurd (h refl)
type_argument_none n t _ _ _ _ _ = refl

pub type_argument_other : (n : ℕ) (t : TokenKind) → ¬ (t ≡ k.MiddleDot) → type_argument_row n t ≡ (whole_atom_row n t ▸ (Make m.At ∷ []))
type_argument_other n k.MiddleDot h = absurd (h refl)
type_argument_other n t _ = refl

pub arrow_none : (n : ℕ) (count : Option ℕ) (t : TokenKind) → ¬ (t ≡ k.Arrow) → ¬ (t ≡ k.ErasedArrow) → arrow_row n count t ≡ None
arrow_none n count k.Arrow h _ = absurd (h refl)
arrow_none n count k.ErasedArrow _ h = absurd (h refl)
arrow_none n count t _ _ = refl

pub term_none : (n : ℕ) (t : TokenKind) → ¬ (t ≡ k.Lambda) → ¬ (t ≡ k.BigLambda) → ¬ (t ≡ k.Rho) → ¬ (t ≡ k.Phi) → ¬ (t ≡ k.Delta) → ¬ (t ≡ k.Chi) → ¬ (t ≡ k.FinalSigma) → ¬ (t ≡ k.Mu) → ¬ (t ≡ k.Sigma) → ¬ (t ≡ k.Name) → ¬ (t ≡ k.Open) → ¬ (t ≡ k.OpenBracket) → ¬ (t ≡ k.Beta) → term_row n t ≡ None
term_none n k.Lambda h _ _ _ _ _ _ _ _ _ _ _ _ = absurd (h refl)
term_none n k.BigLambda _ h _ _ _ _ _ _ _ _ _ _ _ = absurd (h refl)
term_none n k.Rho _ _ h _ _ _ _ _ _ _ _ _ _ = absurd (h refl)
term_none n k.Phi _ _ _ h _ _ _ _ _ _ _ _ _ = absurd (h refl)
term_none n k.Delta _ _ _ _ h _ _ _ _ _ _ _ _ = absurd (h refl)
term_none n k.Chi _ _ _ _ _ h _ _ _ _ _ _ _ = absurd (h refl)
term_none n k.FinalSigma _ _ _ _ _ _ h _ _ _ _ _ _ = absurd (h refl)
term_none n k.Mu _ _ _ _ _ _ _ h _ _ _ _ _ = absurd (h refl)
term_none n k.Sigma _ _ _ _ _ _ _ _ h _ _ _ _ = absurd (h refl)
term_none n k.Name _ _ _ _ _ _ _ _ _ h _ _ _ = absurd (h refl)
term_none n k.Open _ _ _ _ _ _ _ _ _ _ h _ _ = absurd (h refl)
term_none n k.OpenBracket _ _ _ _ _ _ _ _ _ _ _ h _ = absurd (h refl)
term_none n k.Beta _ _ _ _ _ _ _ _ _ _ _ _ h = absurd (h refl)
term_none n t _ _ _ _ _ _ _ _ _ _ _ _ _ = refl

pub term_other : (n : ℕ) (t : TokenKind) → ¬ (t ≡ k.Lambda) → ¬ (t ≡ k.BigLambda) → ¬ (t ≡ k.Rho) → ¬ (t ≡ k.Phi) → ¬ (t ≡ k.Delta) → ¬ (t ≡ k.Chi) → ¬ (t ≡ k.FinalSigma) → ¬ (t ≡ k.Mu) → ¬ (t ≡ k.Sigma) → term_row n t ≡ (spine_row n t)
term_other n k.Lambda h _ _ _ _ _ _ _ _ = absurd (h refl)
term_other n k.BigLambda _ h _ _ _ _ _ _ _ = absurd (h refl)
term_other n k.Rho _ _ h _ _ _ _ _ _ = absurd (h refl)
term_other n k.Phi _ _ _ h _ _ _ _ _ = absurd (h refl)
term_other n k.Delta _ _ _ _ h _ _ _ _ = absurd (h refl)
term_other n k.Chi _ _ _ _ _ h _ _ _ = absurd (h refl)
term_other n k.FinalSigma _ _ _ _ _ _ h _ _ = absurd (h refl)
term_other n k.Mu _ _ _ _ _ _ _ h _ = absurd (h refl)
term_other n k.Sigma _ _ _ _ _ _ _ _ h = absurd (h refl)
term_other n t _ _ _ _ _ _ _ _ _ = refl

pub argument_none : (n : ℕ) (t : TokenKind) → ¬ (t ≡ k.Minus) → ¬ (t ≡ k.MiddleDot) → ¬ (t ≡ k.Name) → ¬ (t ≡ k.Open) → ¬ (t ≡ k.OpenBracket) → ¬ (t ≡ k.Beta) → argument_row n t ≡ None
argument_none n k.Minus h _ _ _ _ _ = absurd (h refl)
argument_none n k.MiddleDot _ h _ _ _ _ = absurd (h refl)
argument_none n k.Name _ _ h _ _ _ = absurd (h refl)
argument_none n k.Open _ _ _ h _ _ = absurd (h refl)
argument_none n k.OpenBracket _ _ _ _ h _ = absurd (h refl)
argument_none n k.Beta _ _ _ _ _ h = absurd (h refl)
argument_none n t _ _ _ _ _ _ = refl

pub argument_other : (n : ℕ) (t : TokenKind) → ¬ (t ≡ k.Minus) → ¬ (t ≡ k.MiddleDot) → argument_row n t ≡ (whole_atom_row n t ▸ (Make m.App ∷ []))
argument_other n k.Minus h _ = absurd (h refl)
argument_other n k.MiddleDot _ h = absurd (h refl)
argument_other n t _ _ = refl

pub projection_none : (t : TokenKind) → ¬ (t ≡ k.First) → ¬ (t ≡ k.Second) → projection_row t ≡ None
projection_none k.First h _ = absurd (h refl)
projection_none k.Second _ h = absurd (h refl)
projection_none t _ _ = refl

pub pattern_none : (t : TokenKind) → ¬ (t ≡ k.Name) → ¬ (t ≡ k.Minus) → ¬ (t ≡ k.MiddleDot) → pattern_row t ≡ None
pattern_none k.Name h _ _ = absurd (h refl)
pattern_none k.Minus _ h _ = absurd (h refl)
pattern_none k.MiddleDot _ _ h = absurd (h refl)
pattern_none t _ _ _ = refl

pub no_row : (f : Row) → begins_row f ≡ false → f ≡ None
no_row None e = refl
no_row (Some ws) e = absurd cc

pub some_row : (f : Row) → begins_row f ≡ true → (front : List Want) × (f ≡ Some front)
some_row None e = absurd cc
some_row (Some ws) e = (ws, refl)

-- rows that are the same at the token that is next
pub by_same : (r : Reader) (f h : TokenKind → Row) (w : Wanted) (at : ℕ) (t : Named) (vs : List (Value ℕ)) → Next r at t → f t.kind ≡ h t.kind → by (given_of r) f w (here r at vs) ≡ by (given_of r) h w (here r at vs)
by_same r f h w at t vs n e =
    ap (by_tokens (given_of r) f w (here r at vs)) n.rest
    ∙ ap (by_front (given_of r) w (here r at vs) (token_of t) (rest r.tokens.now (at + 1))) e
    ∙ sym (ap (by_tokens (given_of r) h w (here r at vs)) n.rest)

-- ---- symbols by their rows

pub class_atom_is : (g : Given ℕ) (n : ℕ) (w : Wanted) (q : State ℕ) → one g (Read (ClassAtom n w)) q ≡ by g (class_atom_row n) w q
unfolding row word_of
class_atom_is g n w q = one_by g (ClassAtom n w) q refl

pub class_head_is : (g : Given ℕ) (n : ℕ) (w : Wanted) (ws : List Want) (q : State ℕ) → by g (λ t. class_atom_row n t ▸ ws) w q ≡ (one g (Read (ClassAtom n w)) q >>= λ p. turn g ws p)
class_head_is g n w ws q = by_then g (class_atom_row n) ws w q ∙ ap (λ (p : Reading ℕ). p >>= λ s. turn g ws s) (sym (class_atom_is g n w q))

pub whole_atom_is : (g : Given ℕ) (n : ℕ) (q : State ℕ) → one g (Read (Atom n)) q ≡ by g (whole_atom_row n) wanted.Term q
unfolding row word_of
whole_atom_is g n q = one_by g (Atom n) q refl

-- an atom is a simple one, and then its projections
pub atom_is : (g : Given ℕ) (n : ℕ) (q : State ℕ) → one g (Read (Atom n)) q ≡ (by g (atom_row n) wanted.Term q >>= λ p. turn g (Read Projections ∷ []) p)
atom_is g n q = whole_atom_is g n q ∙ by_then g (atom_row n) (Read Projections ∷ []) wanted.Term q

pub atom_then : (g : Given ℕ) (n : ℕ) (ws : List Want) (q : State ℕ) → by g (λ t. whole_atom_row n t ▸ ws) wanted.Term q ≡ turn g (Read (Atom n) ∷ ws) q
atom_then g n ws q = by_then g (whole_atom_row n) ws wanted.Term q ∙ ap (λ (p : Reading ℕ). p >>= λ s. turn g ws s) (sym (whole_atom_is g n q))

row_twice : (f : Row) (ws xs : List Want) → ((f ▸ ws) ▸ xs) ≡ (f ▸ (ws ++ xs))
row_twice None ws xs = refl
row_twice (Some us) ws xs = ap (λ (l : List Want). Some l) (append_assoc us ws xs)

by_all : (g : Given ℕ) (f h : TokenKind → Row) (w : Wanted) (q : State ℕ) → ((t : TokenKind) → f t ≡ h t) → by g f w q ≡ by g h w q
by_all g f h w q e = tokens_all q.tokens
  where
    tokens_all : (ts : List (Token ℕ)) → by_tokens g f w q ts ≡ by_tokens g h w q ts
    tokens_all [] = refl
    tokens_all (t ∷ ts) = ap (by_front g w q t ts) (e t.kind)

-- what begins with an atom, in two parts
pub atom_then_twice : (g : Given ℕ) (n : ℕ) (ws xs : List Want) (q : State ℕ) → by g (λ t. whole_atom_row n t ▸ ws ▸ xs) wanted.Term q ≡ turn g (Read (Atom n) ∷ ws ++ xs) q
atom_then_twice g n ws xs q = by_all g (λ t. whole_atom_row n t ▸ ws ▸ xs) (λ t. whole_atom_row n t ▸ (ws ++ xs)) wanted.Term q (λ t. row_twice (whole_atom_row n t) ws xs) ∙ atom_then g n (ws ++ xs) q

pub spine_by : (g : Given ℕ) (n : ℕ) (q : State ℕ) → one g (Read (Spine n)) q ≡ by g (spine_row n) wanted.Term q
unfolding row word_of
spine_by g n q = one_by g (Spine n) q refl

pub spine_is : (g : Given ℕ) (n : ℕ) (q : State ℕ) → one g (Read (Spine n)) q ≡ turn g (Read (Atom n) ∷ Read (Arguments n) ∷ []) q
spine_is g n q = spine_by g n q ∙ atom_then g n (Read (Arguments n) ∷ []) q

pub term_goes : (g : Given ℕ) (left n : ℕ) (q : State ℕ) → left ≡ suc n → one g (Read (Term left)) q ≡ by g (term_row n) wanted.Term q
unfolding row word_of
term_goes g left n q e = ap (λ (l : ℕ). one g (Read (Term l)) q) e ∙ one_by g (Term (suc n)) q refl ∙ by_raised g n (term_row n) wanted.Term q

pub term_deep : (g : Given ℕ) (left : ℕ) (q : State ℕ) → left ≡ 0 → one g (Read (Term left)) q ≡ by g (λ t. raised 0 (term_row 0 t)) wanted.Term q
unfolding row word_of
term_deep g left q e = ap (λ (l : ℕ). one g (Read (Term l)) q) e ∙ one_by g (Term 0) q refl

pub class_goes : (g : Given ℕ) (left n : ℕ) (need : Need) (count : Option ℕ) (w : Wanted) (q : State ℕ) → left ≡ suc n → need_word need q.values ≡ w → one g (Read (Class left need count)) q ≡ by g (class_row n count) w q
unfolding row word_of
class_goes g left n need count w q e d =
    ap (λ (l : ℕ). one g (Read (Class l need count)) q) e ∙ one_by g (Class (suc n) need count) q refl ∙ by_raised g n (class_row n count) (need_word need q.values) q
    ∙ ap (λ (v : Wanted). by g (class_row n count) v q) d

pub class_deep : (g : Given ℕ) (left : ℕ) (need : Need) (count : Option ℕ) (w : Wanted) (q : State ℕ) → left ≡ 0 → need_word need q.values ≡ w → one g (Read (Class left need count)) q ≡ by g (λ t. raised 0 (class_row 0 count t)) w q
unfolding row word_of
class_deep g left need count w q e d =
    ap (λ (l : ℕ). one g (Read (Class l need count)) q) e ∙ one_by g (Class 0 need count) q refl ∙ ap (λ (v : Wanted). by g (λ t. raised 0 (class_row 0 count t)) v q) d

-- the word of a part behind a domain
pub need_is : (need : Need) (d : Token ℕ) (f : ℕ) (a : Tree ℕ) (vs : List (Value ℕ)) → need_word need (token d ∷ part f a ∷ vs) ≡ part_word need a
need_is any d f a vs = refl
need_is of_type d f a vs = refl
need_is as_domain d f a vs = refl

-- ---- arguments

-- the argument that is next, where nesting may still rise
pub argument_goes : (r : Reader) (left n at : ℕ) (t : Named) (vs : List (Value ℕ)) → Next r at t → left ≡ suc n → begins_row (argument_row n t.kind) ≡ true
    → one (given_of r) (Read (Arguments left)) (here r at vs) ≡ (by (given_of r) (λ k. argument_row n k ▸ (Test_ IsShallow ∷ [])) wanted.Term (here r at vs) >>= λ p. turn (given_of r) (Read (Arguments n) ∷ []) p)
unfolding row
argument_goes r left n at t vs x e b =
    let s = some_row (argument_row n t.kind) b in
    ap (λ (l : ℕ). one (given_of r) (Read (Arguments l)) (here r at vs)) e
    ∙ begins r (Arguments (suc n)) at t (Test_ (HasRoom (suc n)) ∷ s.0 ++ Test_ IsShallow ∷ Read (Arguments n) ∷ []) vs x (ap (λ (f : Row). raised (suc n) (f ▸ (Test_ IsShallow ∷ Read (Arguments n) ∷ []))) s.1)
    ∙ ap (λ (p : Reading ℕ). p >>= λ q. turn (given_of r) (s.0 ++ Test_ IsShallow ∷ Read (Arguments n) ∷ []) q) (room (given_of r) n (here r (at + 1) (token (token_of t) ∷ vs)))
    ∙ sym (by_begins r (λ k. argument_row n k ▸ (Test_ IsShallow ∷ Read (Arguments n) ∷ [])) wanted.Term at t (s.0 ++ Test_ IsShallow ∷ Read (Arguments n) ∷ []) vs x (ap (λ (f : Row). f ▸ (Test_ IsShallow ∷ Read (Arguments n) ∷ [])) s.1))
    ∙ sym (by_all (given_of r) (λ k. argument_row n k ▸ (Test_ IsShallow ∷ []) ▸ (Read (Arguments n) ∷ [])) (λ k. argument_row n k ▸ (Test_ IsShallow ∷ Read (Arguments n) ∷ [])) wanted.Term (here r at vs) (λ k. row_twice (argument_row n k) (Test_ IsShallow ∷ []) (Read (Arguments n) ∷ [])))
    ∙ by_then (given_of r) (λ k. argument_row n k ▸ (Test_ IsShallow ∷ [])) (Read (Arguments n) ∷ []) wanted.Term (here r at vs)

pub argument_deep : (r : Reader) (left at : ℕ) (t : Named) (vs : List (Value ℕ)) → Next r at t → left ≡ 0 → begins_row (argument_row 0 t.kind) ≡ true
    → one (given_of r) (Read (Arguments left)) (here r at vs) ≡ Err (TooDeep t.span.from)
unfolding row complaint
argument_deep r left at t vs x e b =
    let s = some_row (argument_row 0 t.kind) b in
    ap (λ (l : ℕ). one (given_of r) (Read (Arguments l)) (here r at vs)) e
    ∙ begins r (Arguments 0) at t (Test_ (HasRoom 0) ∷ s.0 ++ Test_ IsShallow ∷ Read (Arguments 0) ∷ []) vs x (ap (λ (f : Row). raised 0 (f ▸ (Test_ IsShallow ∷ Read (Arguments 0) ∷ []))) s.1)
    ∙ rw (one_test (given_of r) (HasRoom 0), x.before) refl

-- the same of types, whose head must be a type
type_argument_begins : (r : Reader) (left at : ℕ) (t : Named) (vs : List (Value ℕ)) → Next r at t → (s : (front : List Want) × (type_argument_row (pred left) t.kind ≡ Some front))
    → one (given_of r) (Read (TypeArguments left)) (here r at vs)
    ≡ (one (given_of r) (Test_ HeadIsType) (here r (at + 1) (token (token_of t) ∷ vs)) >>= λ q. turn (given_of r) (Test_ (HasRoom left) ∷ s.0 ++ Test_ IsShallow ∷ Read (TypeArguments (pred left)) ∷ []) q)
unfolding row
type_argument_begins r left at t vs x s =
    begins r (TypeArguments left) at t (Test_ HeadIsType ∷ Test_ (HasRoom left) ∷ s.0 ++ Test_ IsShallow ∷ Read (TypeArguments (pred left)) ∷ []) vs x
    (ap (λ (f : Row). behind_type (raised left (f ▸ (Test_ IsShallow ∷ Read (TypeArguments (pred left)) ∷ [])))) s.1)

pub type_argument_fails : (r : Reader) (left at : ℕ) (t : Named) (vs : List (Value ℕ)) (e : ParseFault) → Next r at t → begins_row (type_argument_row (pred left) t.kind) ≡ true
    → Fails e (one (given_of r) (Test_ HeadIsType) (here r (at + 1) (token (token_of t) ∷ vs))) → Fails e (one (given_of r) (Read (TypeArguments left)) (here r at vs))
type_argument_fails r left at t vs e x b h =
    fails_same e _ _ (type_argument_begins r left at t vs x (some_row (type_argument_row (pred left) t.kind) b)) (fails_on e _ _ h)

pub type_argument_deep : (r : Reader) (left at : ℕ) (t : Named) (vs us : List (Value ℕ)) → Next r at t → left ≡ 0 → begins_row (type_argument_row (pred left) t.kind) ≡ true
    → one (given_of r) (Test_ HeadIsType) (here r (at + 1) (token (token_of t) ∷ vs)) ≡ Ok (here r (at + 1) us) → one (given_of r) (Read (TypeArguments left)) (here r at vs) ≡ Err (TooDeep t.span.from)
unfolding complaint
type_argument_deep r left at t vs us x e b h =
    let none : eqb left 0 ≡ true = grind (arith, nat_tests) in
    type_argument_begins r left at t vs x (some_row (type_argument_row (pred left) t.kind) b) ∙ rw (h, one_test (given_of r) (HasRoom left), none, x.before) refl

pub type_argument_goes : (r : Reader) (left n at : ℕ) (t : Named) (vs us : List (Value ℕ)) → Next r at t → left ≡ suc n → begins_row (type_argument_row n t.kind) ≡ true
    → one (given_of r) (Test_ HeadIsType) (here r (at + 1) (token (token_of t) ∷ vs)) ≡ Ok (here r (at + 1) (token (token_of t) ∷ us))
    → one (given_of r) (Read (TypeArguments left)) (here r at vs) ≡ (by (given_of r) (λ k. type_argument_row n k ▸ (Test_ IsShallow ∷ [])) wanted.Term (here r at us) >>= λ p. turn (given_of r) (Read (TypeArguments n) ∷ []) p)
type_argument_goes r left n at t vs us x e b h =
    let s = some_row (type_argument_row n t.kind) b in
    ap (λ (l : ℕ). one (given_of r) (Read (TypeArguments l)) (here r at vs)) e
    ∙ type_argument_begins r (suc n) at t vs x s
    ∙ ap (λ (p : Reading ℕ). p >>= λ q. turn (given_of r) (Test_ (HasRoom (suc n)) ∷ s.0 ++ Test_ IsShallow ∷ Read (TypeArguments n) ∷ []) q) h
    ∙ ap (λ (p : Reading ℕ). p >>= λ q. turn (given_of r) (s.0 ++ Test_ IsShallow ∷ Read (TypeArguments n) ∷ []) q) (room (given_of r) n (here r (at + 1) (token (token_of t) ∷ us)))
    ∙ sym (by_begins r (λ k. type_argument_row n k ▸ (Test_ IsShallow ∷ Read (TypeArguments n) ∷ [])) wanted.Term at t (s.0 ++ Test_ IsShallow ∷ Read (TypeArguments n) ∷ []) us x (ap (λ (f : Row). f ▸ (Test_ IsShallow ∷ Read (TypeArguments n) ∷ [])) s.1))
    ∙ sym (by_all (given_of r) (λ k. type_argument_row n k ▸ (Test_ IsShallow ∷ []) ▸ (Read (TypeArguments n) ∷ [])) (λ k. type_argument_row n k ▸ (Test_ IsShallow ∷ Read (TypeArguments n) ∷ [])) wanted.Term (here r at us) (λ k. row_twice (type_argument_row n k) (Test_ IsShallow ∷ []) (Read (TypeArguments n) ∷ [])))
    ∙ by_then (given_of r) (λ k. type_argument_row n k ▸ (Test_ IsShallow ∷ [])) (Read (TypeArguments n) ∷ []) wanted.Term (here r at us)

-- ---- options and forms

pub type_given_is : (r : Reader) (n at : ℕ) (t : Named) (vs : List (Value ℕ)) → Next r at t → begins_row (class_atom_row n t.kind) ≡ true
    → one (given_of r) (Read (TypeGiven n)) (here r at vs) ≡ turn (given_of r) (Read (ClassAtom n wanted.Ty) ∷ Test_ IsType ∷ []) (here r at vs)
unfolding row
type_given_is r n at t vs x b =
    let s = some_row (class_atom_row n t.kind) b in
    begins r (TypeGiven n) at t (s.0 ++ Test_ IsType ∷ []) vs x (ap (λ (f : Row). f ▸ (Test_ IsType ∷ [])) s.1)
    ∙ sym (by_begins r (λ k. class_atom_row n k ▸ (Test_ IsType ∷ [])) wanted.Ty at t (s.0 ++ Test_ IsType ∷ []) vs x (ap (λ (f : Row). f ▸ (Test_ IsType ∷ [])) s.1))
    ∙ class_head_is (given_of r) n wanted.Ty (Test_ IsType ∷ []) (here r at vs)

-- a class by its row, whatever it must be
pub class_told : (r : Reader) (res : Result ((ℕ × SrcClass) × ℕ) ParseFault) (left n : ℕ) (count : Option ℕ) (w : Wanted) (at : ℕ) → left ≡ suc n → Reads r class_part res (class_row n count) w at → ClassGives r res left count w at
class_told r (Ok x) left n count w at e h = λ need vs d. class_goes (given_of r) left n need count w (here r at vs) e d ∙ h vs
class_told r (Err f) left n count w at e h = λ need vs d. fails_same f _ _ (class_goes (given_of r) left n need count w (here r at vs) e d) (h vs)
