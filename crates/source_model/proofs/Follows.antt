-- What may follow a symbol in the rows: a token that begins none of the options and repetitions with which the symbol can end.
use Rattle.std.proofs.Common.{◌≡◌, ℕ, pred, ◌<◌, Bool, true, false, List, [], ◌∷◌, ◌++◌, Option, Some, None, refl, ap, arith}
use Rattle.source_model.specs.Grammar.{Value, Need, any, of_type, as_domain, Test, Making, Symbol, The, Term, Spine, Atom, ClassAtom, Class, Body, Owner, Annotation, Side, KeptTerm, TypeGiven, Motive, MaybeArrow, Projections, Patterns, Arguments, TypeArguments, Branches, Imports, Items, Parameters, Constructors, Want, Test_, Make, Read}
use Rattle.source_model.specs.Grammar as m
use Rattle.source_model.specs.declared.token.TokenKind.{TokenKind}
use Rattle.source_model.specs.declared.token.TokenKind.TheVariants as k
use Rattle.source_model.specs.Rows.{Row, ◌▸◌, only, same_kind, atom_row, whole_atom_row, spine_row, term_row, argument_row, class_atom_row, class_row, type_argument_row, arrow_row, pattern_row, projection_row, annotation_row, item_row, body_is_type, body_row, raised, behind_type, row, outermost}

-- a shortest text of what a symbol must have: nothing for what may be left out, but for the braces behind `β`, which are taken
abbrev pub shortest : Symbol → List TokenKind
shortest (The t w) = t ∷ []
shortest (Term n) = k.Name ∷ []
shortest (Spine n) = k.Name ∷ []
shortest (Atom n) = k.Name ∷ []
shortest (ClassAtom n w) = k.Name ∷ []
shortest (Class n need left) = k.Name ∷ []
shortest Body = k.Name ∷ []
shortest (KeptTerm n) = k.OpenBrace ∷ k.Name ∷ k.CloseBrace ∷ []
shortest s = []

-- What a token can go on with, of what has been read: with a name or an atom up to rank 1, with a class up to rank 3, with a term up to rank 4; with
-- other options and repetitions up to rank 5; with nothing at rank 6. `➔` alone has rank 3, and `-` alone rank 4.
abbrev pub rank : TokenKind → ℕ
rank k.Hash = 1
rank k.First = 1
rank k.Second = 1
rank k.MiddleDot = 2
rank k.Name = 2
rank k.Open = 2
rank k.OpenBracket = 2
rank k.Beta = 2
rank k.ErasedArrow = 2
rank k.Arrow = 3
rank k.Minus = 4
rank k.Colon = 5
rank k.Bar = 5
rank k.At = 5
rank k.Less = 5
rank k.Import = 5
rank k.Data = 5
rank t = 6

-- A token of that rank may follow the symbol, or with rank 6 the end: it goes on with nothing that the symbol has read, and where the symbol may be left
-- out it does not begin it. Braces are not left out before others, so anything may follow them.
abbrev pub MayFollow : Symbol → ℕ → Type 0
MayFollow (The t w) r = Unit {0}
MayFollow (KeptTerm n) r = Unit {0}
MayFollow Owner r = 1 < r
MayFollow (Atom n) r = 1 < r
MayFollow (ClassAtom n w) r = 1 < r
MayFollow Projections r = 1 < r
MayFollow (Class n need left) r = 3 < r
MayFollow (TypeArguments n) r = 3 < r
MayFollow (MaybeArrow n left) r = 3 < r
MayFollow (Term n) r = 4 < r
MayFollow (Spine n) r = 4 < r
MayFollow (Arguments n) r = 4 < r
MayFollow Body r = 4 < r
MayFollow (Parameters n) r = 4 < r
MayFollow (TypeGiven n) r = r ≡ 4
MayFollow Patterns r = r ≡ 3
MayFollow s r = 5 < r

-- the rank of the first of these, before a token of a rank
abbrev pub rank_of_first : List TokenKind → ℕ → ℕ
rank_of_first [] r = r
rank_of_first (t ∷ ts) r = rank t

-- the rank of the first token that the wants must have
abbrev pub rank_ahead : List Want → ℕ → ℕ
rank_ahead [] r = r
rank_ahead (Test_ q ∷ ws) r = rank_ahead ws r
rank_ahead (Make f ∷ ws) r = rank_ahead ws r
rank_ahead (Read s ∷ ws) r = rank_of_first (shortest s) (rank_ahead ws r)

-- what each of the wants must have may follow those before it
abbrev pub Follow : List Want → ℕ → Type 0
Follow [] r = Unit {0}
Follow (Test_ q ∷ ws) r = Follow ws r
Follow (Make f ∷ ws) r = Follow ws r
Follow (Read s ∷ ws) r = MayFollow s (rank_ahead ws r) × Follow ws r

ahead_append : (ws xs : List Want) (r : ℕ) → rank_ahead (ws ++ xs) r ≡ rank_ahead ws (rank_ahead xs r)
ahead_append [] xs r = refl
ahead_append (Test_ q ∷ ws) xs r = ahead_append ws xs r
ahead_append (Make f ∷ ws) xs r = ahead_append ws xs r
ahead_append (Read s ∷ ws) xs r = ap (rank_of_first (shortest s)) (ahead_append ws xs r)

pub follow_append : (ws xs : List Want) (r : ℕ) → Follow ws (rank_ahead xs r) → Follow xs r → Follow (ws ++ xs) r
follow_append [] xs r h j = j
follow_append (Test_ q ∷ ws) xs r h j = follow_append ws xs r h j
follow_append (Make f ∷ ws) xs r h j = follow_append ws xs r h j
follow_append (Read s ∷ ws) xs r h j = (rw (ahead_append ws xs r) h.0, follow_append ws xs r h.1 j)

-- ---- rows

abbrev pub FollowRow : Row → ℕ → Type 0
FollowRow None r = Unit {0}
FollowRow (Some ws) r = Follow ws r

follow_on : (front : Row) (ws : List Want) (r : ℕ) → FollowRow front (rank_ahead ws r) → Follow ws r → FollowRow (front ▸ ws) r
follow_on None ws r h j = tt
follow_on (Some front) ws r h j = follow_append front ws r h j

follow_only : (b : Bool) (ws : List Want) (r : ℕ) → Follow ws r → FollowRow (only b ws) r
follow_only true ws r h = h
follow_only false ws r h = tt

follow_raised : (n : ℕ) (front : Row) (r : ℕ) → FollowRow front r → FollowRow (raised n front) r
follow_raised n None r h = tt
follow_raised n (Some ws) r h = h

follow_behind : (front : Row) (r : ℕ) → FollowRow front r → FollowRow (behind_type front) r
follow_behind None r h = tt
follow_behind (Some ws) r h = h

atom : (n : ℕ) (t : TokenKind) (r : ℕ) → 1 < r → FollowRow (atom_row n t) r
atom n k.Name r h = omega arith
atom n k.Open r h = omega arith
atom n k.OpenBracket r h = omega arith
atom n k.Beta r h = omega arith
atom n t r h = tt

whole_atom : (n : ℕ) (t : TokenKind) (r : ℕ) → 1 < r → FollowRow (whole_atom_row n t) r
whole_atom n t r h = follow_on (atom_row n t) (Read Projections ∷ []) r (atom n t r h) (h, tt)

spine : (n : ℕ) (t : TokenKind) (r : ℕ) → 4 < r → FollowRow (spine_row n t) r
spine n t r h = follow_on (whole_atom_row n t) (Read (Arguments n) ∷ []) r (whole_atom n t r (omega arith)) (h, tt)

term : (n : ℕ) (t : TokenKind) (r : ℕ) → 4 < r → FollowRow (term_row n t) r
term n k.Lambda r h = omega arith
term n k.BigLambda r h = omega arith
term n k.Rho r h = omega arith
term n k.Phi r h = omega arith
term n k.Delta r h = omega arith
term n k.Chi r h = omega arith
term n k.FinalSigma r h = omega arith
term n k.Mu r h = omega arith
term n k.Sigma r h = omega arith
term n t r h = spine n t r h

class_atom : (n : ℕ) (t : TokenKind) (r : ℕ) → 1 < r → FollowRow (class_atom_row n t) r
class_atom n k.Star r h = tt
class_atom n k.Name r h = omega arith
class_atom n k.Open r h = omega arith
class_atom n k.OpenBrace r h = omega arith
class_atom n t r h = tt

class : (n : ℕ) (left : Option ℕ) (t : TokenKind) (r : ℕ) → 3 < r → FollowRow (class_row n left t) r
class n None k.BigPi r h = omega arith
class n (Some c) k.BigPi r h = omega arith
class n None k.ForAll r h = omega arith
class n (Some c) k.ForAll r h = omega arith
class n left k.Lambda r h = omega arith
class n left k.Iota r h = omega arith
class n left t r h = follow_on (class_atom_row n t) (Read (TypeArguments n) ∷ Read (MaybeArrow n left) ∷ []) r (class_atom n t r (omega arith)) (h, (h, tt))

body : (b : Bool) (t : TokenKind) (r : ℕ) → 4 < r → FollowRow (body_row b t) r
body true t r h = class (pred outermost) None t r (omega arith)
body false t r h = term (pred outermost) t r h

argument : (n : ℕ) (t : TokenKind) (r : ℕ) → 1 < r → FollowRow (argument_row n t) r
argument n k.Minus r h = omega arith
argument n k.MiddleDot r h = omega arith
argument n t r h = follow_on (whole_atom_row n t) (Make m.App ∷ []) r (whole_atom n t r h) tt

type_argument : (n : ℕ) (t : TokenKind) (r : ℕ) → 1 < r → FollowRow (type_argument_row n t) r
type_argument n k.MiddleDot r h = omega arith
type_argument n t r h = follow_on (whole_atom_row n t) (Make m.At ∷ []) r (whole_atom n t r h) tt

abbrev arguments_row : ℕ → TokenKind → Row
arguments_row n t = argument_row (pred n) t ▸ (Test_ m.IsShallow ∷ Read (Arguments (pred n)) ∷ [])

arguments : (n : ℕ) (t : TokenKind) (r : ℕ) → 4 < r → FollowRow (arguments_row n t) r
arguments n t r h = follow_on (argument_row (pred n) t) (Test_ m.IsShallow ∷ Read (Arguments (pred n)) ∷ []) r (argument (pred n) t r (omega arith)) (h, tt)

abbrev type_arguments_row : ℕ → TokenKind → Row
type_arguments_row n t = type_argument_row (pred n) t ▸ (Test_ m.IsShallow ∷ Read (TypeArguments (pred n)) ∷ [])

type_arguments : (n : ℕ) (t : TokenKind) (r : ℕ) → 3 < r → FollowRow (type_arguments_row n t) r
type_arguments n t r h = follow_on (type_argument_row (pred n) t) (Test_ m.IsShallow ∷ Read (TypeArguments (pred n)) ∷ []) r (type_argument (pred n) t r (omega arith)) (h, tt)

arrow : (n : ℕ) (left : Option ℕ) (t : TokenKind) (r : ℕ) → 3 < r → FollowRow (arrow_row n left t) r
arrow n None k.Arrow r h = omega arith
arrow n (Some c) k.Arrow r h = omega arith
arrow n None k.ErasedArrow r h = omega arith
arrow n (Some c) k.ErasedArrow r h = omega arith
arrow n left t r h = tt

patterns_follow : (t : TokenKind) (r : ℕ) → r ≡ 3 → FollowRow (pattern_row t) r
patterns_follow k.Name r h = omega arith
patterns_follow k.Minus r h = omega arith
patterns_follow k.MiddleDot r h = omega arith
patterns_follow t r h = tt

projection : (t : TokenKind) (r : ℕ) → 1 < r → FollowRow (projection_row t) r
projection k.First r h = omega arith
projection k.Second r h = omega arith
projection t r h = tt

annotation : (n : ℕ) (need : Need) (t : TokenKind) (r : ℕ) → 5 < r → FollowRow (annotation_row n need t) r
annotation n of_type t r h = follow_only (same_kind k.Colon t) _ r (omega arith)
annotation n any t r h = follow_only (same_kind k.Colon t) _ r (omega arith)
annotation n as_domain t r h = follow_only (same_kind k.Colon t) _ r (omega arith)

item : (t : TokenKind) (r : ℕ) → 5 < r → FollowRow (item_row t) r
item k.Name r h = omega arith
item k.Data r h = omega arith
item t r h = tt

pub row_follows : {A : Type 0} (s : Symbol) (vs : List (Value A)) (t : TokenKind) (r : ℕ) → MayFollow s r → FollowRow (row s vs t) r
unfolding row
row_follows (The u w) vs t r h = follow_only (same_kind u t) [] r tt
row_follows (Term n) vs t r h = follow_raised n (term_row (pred n) t) r (term (pred n) t r h)
row_follows (Spine n) vs t r h = spine n t r h
row_follows (Atom n) vs t r h = whole_atom n t r h
row_follows (ClassAtom n w) vs t r h = class_atom n t r h
row_follows (Class n need left) vs t r h = follow_raised n (class_row (pred n) left t) r (class (pred n) left t r h)
row_follows Body vs t r h = follow_raised outermost (body_row (body_is_type vs) t) r (body (body_is_type vs) t r h)
row_follows Owner vs t r h = follow_only (same_kind k.Hash t) _ r (omega arith)
row_follows (Annotation n need) vs t r h = annotation n need t r h
row_follows (Side n) vs t r h = follow_only (same_kind k.Less t) _ r (omega arith)
row_follows (KeptTerm n) vs t r h = follow_only (same_kind k.OpenBrace t) _ r (omega arith)
row_follows (TypeGiven n) vs t r h = follow_on (class_atom_row n t) _ r (class_atom n t r (omega arith)) tt
row_follows (Motive n) vs t r h = follow_only (same_kind k.At t) _ r (omega arith)
row_follows (MaybeArrow n left) vs t r h = arrow n left t r h
row_follows Projections vs t r h = projection t r h
row_follows Patterns vs t r h = patterns_follow t r h
row_follows (Arguments n) vs t r h = follow_raised n (arguments_row n t) r (arguments n t r h)
row_follows (TypeArguments n) vs t r h = follow_behind (raised n (type_arguments_row n t)) r (follow_raised n (type_arguments_row n t) r (type_arguments n t r h))
row_follows (Branches n) vs t r h = follow_only (same_kind k.Bar t) _ r (omega arith)
row_follows Imports vs t r h = follow_only (same_kind k.Import t) _ r (omega arith)
row_follows Items vs t r h = item t r h
row_follows (Parameters n) vs t r h = follow_only (same_kind k.Open t) _ r (omega arith)
row_follows (Constructors n) vs t r h = follow_only (same_kind k.Bar t) _ r (omega arith)

-- ---- what follows an option or a repetition does not begin it

no_hash : (t : TokenKind) → 1 < rank t → same_kind k.Hash t ≡ false
no_hash k.Hash h = absurd (omega arith)
no_hash t h = refl

no_open : (t : TokenKind) → 4 < rank t → same_kind k.Open t ≡ false
no_open k.Open h = absurd (omega arith)
no_open t h = refl

no_colon : (t : TokenKind) → 5 < rank t → same_kind k.Colon t ≡ false
no_colon k.Colon h = absurd (omega arith)
no_colon t h = refl

no_less : (t : TokenKind) → 5 < rank t → same_kind k.Less t ≡ false
no_less k.Less h = absurd (omega arith)
no_less t h = refl

no_at : (t : TokenKind) → 5 < rank t → same_kind k.At t ≡ false
no_at k.At h = absurd (omega arith)
no_at t h = refl

no_bar : (t : TokenKind) → 5 < rank t → same_kind k.Bar t ≡ false
no_bar k.Bar h = absurd (omega arith)
no_bar t h = refl

no_import : (t : TokenKind) → 5 < rank t → same_kind k.Import t ≡ false
no_import k.Import h = absurd (omega arith)
no_import t h = refl

no_annotation : (n : ℕ) (need : Need) (t : TokenKind) → 5 < rank t → annotation_row n need t ≡ None
no_annotation n of_type t h = rw (no_colon t h) refl
no_annotation n any t h = rw (no_colon t h) refl
no_annotation n as_domain t h = rw (no_colon t h) refl

no_class_atom : (n : ℕ) (t : TokenKind) → rank t ≡ 4 → class_atom_row n t ≡ None
no_class_atom n k.Star h = absurd (omega arith)
no_class_atom n k.Name h = absurd (omega arith)
no_class_atom n k.Open h = absurd (omega arith)
no_class_atom n k.OpenBrace h = absurd (omega arith)
no_class_atom n t h = refl

no_arrow : (n : ℕ) (left : Option ℕ) (t : TokenKind) → 3 < rank t → arrow_row n left t ≡ None
no_arrow n left k.Arrow h = absurd (omega arith)
no_arrow n left k.ErasedArrow h = absurd (omega arith)
no_arrow n left t h = refl

no_projection : (t : TokenKind) → 1 < rank t → projection_row t ≡ None
no_projection k.First h = absurd (omega arith)
no_projection k.Second h = absurd (omega arith)
no_projection t h = refl

no_pattern : (t : TokenKind) → rank t ≡ 3 → pattern_row t ≡ None
no_pattern k.Name h = absurd (omega arith)
no_pattern k.Minus h = absurd (omega arith)
no_pattern k.MiddleDot h = absurd (omega arith)
no_pattern t h = refl

no_argument : (n : ℕ) (t : TokenKind) → 4 < rank t → argument_row n t ≡ None
no_argument n k.Minus h = absurd (omega arith)
no_argument n k.MiddleDot h = absurd (omega arith)
no_argument n k.Name h = absurd (omega arith)
no_argument n k.Open h = absurd (omega arith)
no_argument n k.OpenBracket h = absurd (omega arith)
no_argument n k.Beta h = absurd (omega arith)
no_argument n t h = refl

no_type_argument : (n : ℕ) (t : TokenKind) → 3 < rank t → type_argument_row n t ≡ None
no_type_argument n k.MiddleDot h = absurd (omega arith)
no_type_argument n k.Name h = absurd (omega arith)
no_type_argument n k.Open h = absurd (omega arith)
no_type_argument n k.OpenBracket h = absurd (omega arith)
no_type_argument n k.Beta h = absurd (omega arith)
no_type_argument n t h = refl

no_item : (t : TokenKind) → 5 < rank t → item_row t ≡ None
no_item k.Name h = absurd (omega arith)
no_item k.Data h = absurd (omega arith)
no_item t h = refl

pub begins_not : {A : Type 0} (s : Symbol) (vs : List (Value A)) (t : TokenKind) → shortest s ≡ [] → MayFollow s (rank t) → row s vs t ≡ None
unfolding row
begins_not Owner vs t e h = rw (no_hash t h) refl
begins_not (Annotation n need) vs t e h = no_annotation n need t h
begins_not (Side n) vs t e h = rw (no_less t h) refl
begins_not (TypeGiven n) vs t e h = rw (no_class_atom n t h) refl
begins_not (Motive n) vs t e h = rw (no_at t h) refl
begins_not (MaybeArrow n left) vs t e h = no_arrow n left t h
begins_not Projections vs t e h = no_projection t h
begins_not Patterns vs t e h = no_pattern t h
begins_not (Arguments n) vs t e h = rw (no_argument (pred n) t h) refl
begins_not (TypeArguments n) vs t e h = rw (no_type_argument (pred n) t h) refl
begins_not (Branches n) vs t e h = rw (no_bar t h) refl
begins_not Imports vs t e h = rw (no_import t h) refl
begins_not Items vs t e h = no_item t h
begins_not (Parameters n) vs t e h = rw (no_open t h) refl
begins_not (Constructors n) vs t e h = rw (no_bar t h) refl
begins_not s vs t e h = absurd cc
