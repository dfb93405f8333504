-- The shapes that each row leaves: one more of the symbol's shape, whatever stands below.
use Rattle.std.proofs.Common.{◌≡◌, ℕ, pred, Bool, true, false, cond, List, [], ◌∷◌, ◌++◌, Option, Some, None, refl, ◌∙◌}
use Rattle.source_model.specs.Grammar.{Value, Need, any, of_type, as_domain, Test, Making, Symbol, The, Term, Spine, Atom, ClassAtom, Class, Body, Owner, Annotation, Side, KeptTerm, TypeGiven, Motive, MaybeArrow, Projections, Patterns, Arguments, TypeArguments, Branches, Imports, Items, Parameters, Constructors, Want, Test_, Make, Read}
use Rattle.source_model.specs.Grammar as m
use Rattle.source_model.specs.declared.token.TokenKind.{TokenKind}
use Rattle.source_model.specs.declared.token.TokenKind.TheVariants as k
use Rattle.source_model.specs.Rows.{Row, ◌▸◌, only, same_kind, atom_row, whole_atom_row, spine_row, term_row, argument_row, class_atom_row, class_row, type_argument_row, arrow_row, pattern_row, projection_row, annotation_row, item_row, body_is_type, body_row, raised, behind_type, row, outermost}
use Rattle.source_model.proofs.Shapes.{Shape, a_token, a_part, an_option, an_owner, some_patterns, some_branches, some_parameters, some_constructors, a_module_so_far, taken, given}

-- ---- what wants leave

-- what a repetition or a further part of a class grows from, above the shapes that the symbol leaves alone
abbrev pub grown : Symbol → List Shape
grown (MaybeArrow n left) = a_part ∷ []
grown Projections = a_part ∷ []
grown Patterns = some_patterns ∷ []
grown (Arguments n) = a_part ∷ []
grown (TypeArguments n) = a_part ∷ []
grown (Branches n) = some_branches ∷ []
grown Imports = a_module_so_far ∷ []
grown Items = a_module_so_far ∷ []
grown (Parameters n) = some_parameters ∷ []
grown (Constructors n) = some_constructors ∷ []
grown s = []

-- what a symbol leaves; where an owner is given it is a token
abbrev pub left_by : Symbol → Shape
left_by (The t w) = a_token
left_by Owner = an_owner
left_by (Side n) = an_option
left_by (KeptTerm n) = an_option
left_by Patterns = some_patterns
left_by (Branches n) = some_branches
left_by Imports = a_module_so_far
left_by Items = a_module_so_far
left_by (Parameters n) = some_parameters
left_by (Constructors n) = some_constructors
left_by s = a_part

abbrev pub left_by_row : Symbol → Shape
left_by_row Owner = a_token
left_by_row s = left_by s

abbrev same_shape : Shape → Shape → Bool
same_shape a_token a_token = true
same_shape a_part a_part = true
same_shape an_option an_option = true
same_shape an_owner an_owner = true
same_shape some_patterns some_patterns = true
same_shape some_branches some_branches = true
same_shape some_parameters some_parameters = true
same_shape some_constructors some_constructors = true
same_shape a_module_so_far a_module_so_far = true
same_shape s u = false

same_shape_is : (s u : Shape) → same_shape s u ≡ true → u ≡ s
same_shape_is a_token a_token e = refl
same_shape_is a_part a_part e = refl
same_shape_is an_option an_option e = refl
same_shape_is an_owner an_owner e = refl
same_shape_is some_patterns some_patterns e = refl
same_shape_is some_branches some_branches e = refl
same_shape_is some_parameters some_parameters e = refl
same_shape_is some_constructors some_constructors e = refl
same_shape_is a_module_so_far a_module_so_far e = refl
same_shape_is s u e = absurd cc

abbrev pub Shapes : Type 0
Shapes = Option (List Shape)

-- the shapes behind the first ones, where these stand first
abbrev pub without : List Shape → List Shape → Shapes
without [] us = Some us
without (s ∷ ss) [] = None
without (s ∷ ss) (u ∷ us) = cond (same_shape s u) (without ss us) None

same_without : (b : Bool) (s u : Shape) (ss us xs : List Shape)
    → same_shape s u ≡ b → (without ss us ≡ Some xs → us ≡ ss ++ xs) → cond b (without ss us) None ≡ Some xs → u ∷ us ≡ s ∷ ss ++ xs
same_without true s u ss us xs same h e = rw (same_shape_is s u same, h e) refl
same_without false s u ss us xs same h e = absurd cc

pub without_is : (ss us xs : List Shape) → without ss us ≡ Some xs → us ≡ ss ++ xs
without_is [] us xs e = cc
without_is (s ∷ ss) [] xs e = absurd cc
without_is (s ∷ ss) (u ∷ us) xs e = same_without (same_shape s u) s u ss us xs refl (λ d. without_is ss us xs d) e

abbrev pub with_one : Shape → Shapes → Shapes
with_one s None = None
with_one s (Some us) = Some (s ∷ us)

pub with_one_is : (s : Shape) (r : Shapes) (vs : List Shape) → with_one s r ≡ Some vs → (us : List Shape) × (r ≡ Some us) × (vs ≡ s ∷ us)
with_one_is s None vs e = absurd cc
with_one_is s (Some us) vs e = (us, refl, cc)

abbrev pub given_from : List Shape → Shapes
given_from (s ∷ a_token ∷ ss) = Some (s ∷ ss)
given_from ss = None

abbrev pub behind_making : Making → List Shape → Shapes
behind_making m.Given us = given_from us
behind_making f us = with_one (given f) (without (taken f) us)

abbrev pub behind_want : Want → List Shape → Shapes
behind_want (Test_ q) us = Some us
behind_want (Make f) us = behind_making f us
behind_want (Read s) us = with_one (left_by s) (without (grown s) us)

abbrev pub and_then : Shapes → (List Shape → Shapes) → Shapes
and_then None f = None
and_then (Some us) f = f us

abbrev pub behind_all : List Want → List Shape → Shapes
behind_all [] us = Some us
behind_all (w ∷ ws) us = and_then (behind_want w us) (λ vs. behind_all ws vs)

append_step : (r : Shapes) (f g k : List Shape → Shapes) → ((us : List Shape) → f us ≡ and_then (g us) k) → and_then r f ≡ and_then (and_then r g) k
append_step None f g k h = refl
append_step (Some us) f g k h = h us

behind_append : (ws xs : List Want) (us : List Shape) → behind_all (ws ++ xs) us ≡ and_then (behind_all ws us) (λ vs. behind_all xs vs)
behind_append [] xs us = refl
behind_append (w ∷ ws) xs us = append_step (behind_want w us) (λ vs. behind_all (ws ++ xs) vs) (λ vs. behind_all ws vs) (λ vs. behind_all xs vs) (λ vs. behind_append ws xs vs)

-- ---- rows

-- where there is a row, it leads from these shapes to those
abbrev pub Leads : Row → List Shape → List Shape → Type 0
Leads None us vs = Unit {0}
Leads (Some ws) us vs = behind_all ws us ≡ Some vs

lead_on : (r : Row) (ws : List Want) (us vs xs : List Shape) → Leads r us vs → behind_all ws vs ≡ Some xs → Leads (r ▸ ws) us xs
lead_on None ws us vs xs h e = tt
lead_on (Some front) ws us vs xs h e = behind_append front ws us ∙ rw h e

lead_only : (b : Bool) (ws : List Want) (us vs : List Shape) → behind_all ws us ≡ Some vs → Leads (only b ws) us vs
lead_only true ws us vs e = e
lead_only false ws us vs e = tt

lead_raised : (n : ℕ) (r : Row) (us vs : List Shape) → Leads r us vs → Leads (raised n r) us vs
lead_raised n None us vs h = tt
lead_raised n (Some ws) us vs h = h

lead_behind : (r : Row) (us vs : List Shape) → Leads r us vs → Leads (behind_type r) us vs
lead_behind None us vs h = tt
lead_behind (Some ws) us vs h = h

module _ (ss : List Shape) where
  -- a part is made, behind its first token
  abbrev MakesPart : Row → Type 0
  MakesPart r = Leads r (a_token ∷ ss) (a_part ∷ ss)

  atom : (n : ℕ) (t : TokenKind) → MakesPart (atom_row n t)
  atom n k.Name = refl
  atom n k.Open = refl
  atom n k.OpenBracket = refl
  atom n k.Beta = refl
  atom n t = tt

  whole_atom : (n : ℕ) (t : TokenKind) → MakesPart (whole_atom_row n t)
  whole_atom n t = lead_on (atom_row n t) (Read Projections ∷ []) (a_token ∷ ss) (a_part ∷ ss) (a_part ∷ ss) (atom n t) refl

  spine : (n : ℕ) (t : TokenKind) → MakesPart (spine_row n t)
  spine n t = lead_on (whole_atom_row n t) (Read (Arguments n) ∷ []) (a_token ∷ ss) (a_part ∷ ss) (a_part ∷ ss) (whole_atom n t) refl

  term : (n : ℕ) (t : TokenKind) → MakesPart (term_row n t)
  term n k.Lambda = refl
  term n k.BigLambda = refl
  term n k.Rho = refl
  term n k.Phi = refl
  term n k.Delta = refl
  term n k.Chi = refl
  term n k.FinalSigma = refl
  term n k.Mu = refl
  term n k.Sigma = refl
  term n t = spine n t

  class_atom : (n : ℕ) (t : TokenKind) → MakesPart (class_atom_row n t)
  class_atom n k.Star = refl
  class_atom n k.Name = refl
  class_atom n k.Open = refl
  class_atom n k.OpenBrace = refl
  class_atom n t = tt

  class : (n : ℕ) (left : Option ℕ) (t : TokenKind) → MakesPart (class_row n left t)
  class n None k.BigPi = refl
  class n (Some c) k.BigPi = refl
  class n None k.ForAll = refl
  class n (Some c) k.ForAll = refl
  class n left k.Lambda = refl
  class n left k.Iota = refl
  class n left t = lead_on (class_atom_row n t) (Read (TypeArguments n) ∷ Read (MaybeArrow n left) ∷ []) (a_token ∷ ss) (a_part ∷ ss) (a_part ∷ ss) (class_atom n t) refl

  body : (b : Bool) (t : TokenKind) → MakesPart (body_row b t)
  body true t = class (pred outermost) None t
  body false t = term (pred outermost) t

-- an argument's first token stands above the head
argument : (ss : List Shape) (n : ℕ) (t : TokenKind) → Leads (argument_row n t) (a_token ∷ a_part ∷ ss) (a_part ∷ ss)
argument ss n k.Minus = refl
argument ss n k.MiddleDot = refl
argument ss n t = lead_on (whole_atom_row n t) (Make m.App ∷ []) (a_token ∷ a_part ∷ ss) (a_part ∷ a_part ∷ ss) (a_part ∷ ss) (whole_atom (a_part ∷ ss) n t) refl

type_argument : (ss : List Shape) (n : ℕ) (t : TokenKind) → Leads (type_argument_row n t) (a_token ∷ a_part ∷ ss) (a_part ∷ ss)
type_argument ss n k.MiddleDot = refl
type_argument ss n t = lead_on (whole_atom_row n t) (Make m.At ∷ []) (a_token ∷ a_part ∷ ss) (a_part ∷ a_part ∷ ss) (a_part ∷ ss) (whole_atom (a_part ∷ ss) n t) refl

arguments : (ss : List Shape) (n : ℕ) (t : TokenKind)
    → Leads (raised n (argument_row (pred n) t ▸ (Test_ m.IsShallow ∷ Read (Arguments (pred n)) ∷ []))) (a_token ∷ a_part ∷ ss) (a_part ∷ ss)
arguments ss n t =
    lead_raised n _ (a_token ∷ a_part ∷ ss) (a_part ∷ ss) (lead_on (argument_row (pred n) t) _ (a_token ∷ a_part ∷ ss) (a_part ∷ ss) (a_part ∷ ss) (argument ss (pred n) t) refl)

type_arguments : (ss : List Shape) (n : ℕ) (t : TokenKind)
    → Leads (raised n (type_argument_row (pred n) t ▸ (Test_ m.IsShallow ∷ Read (TypeArguments (pred n)) ∷ []))) (a_token ∷ a_part ∷ ss) (a_part ∷ ss)
type_arguments ss n t =
    lead_raised n _ (a_token ∷ a_part ∷ ss) (a_part ∷ ss) (lead_on (type_argument_row (pred n) t) _ (a_token ∷ a_part ∷ ss) (a_part ∷ ss) (a_part ∷ ss) (type_argument ss (pred n) t) refl)

arrow : (ss : List Shape) (n : ℕ) (left : Option ℕ) (t : TokenKind) → Leads (arrow_row n left t) (a_token ∷ a_part ∷ ss) (a_part ∷ ss)
arrow ss n None k.Arrow = refl
arrow ss n (Some c) k.Arrow = refl
arrow ss n None k.ErasedArrow = refl
arrow ss n (Some c) k.ErasedArrow = refl
arrow ss n left t = tt

pattern_leads : (ss : List Shape) (t : TokenKind) → Leads (pattern_row t) (a_token ∷ some_patterns ∷ ss) (some_patterns ∷ ss)
pattern_leads ss k.Name = refl
pattern_leads ss k.Minus = refl
pattern_leads ss k.MiddleDot = refl
pattern_leads ss t = tt

projection : (ss : List Shape) (t : TokenKind) → Leads (projection_row t) (a_token ∷ a_part ∷ ss) (a_part ∷ ss)
projection ss k.First = refl
projection ss k.Second = refl
projection ss t = tt

annotation : (ss : List Shape) (n : ℕ) (need : Need) (t : TokenKind) → Leads (annotation_row n need t) (a_token ∷ ss) (a_part ∷ ss)
annotation ss n of_type t = lead_only (same_kind k.Colon t) _ (a_token ∷ ss) (a_part ∷ ss) refl
annotation ss n any t = lead_only (same_kind k.Colon t) _ (a_token ∷ ss) (a_part ∷ ss) refl
annotation ss n as_domain t = lead_only (same_kind k.Colon t) _ (a_token ∷ ss) (a_part ∷ ss) refl

item : (ss : List Shape) (t : TokenKind) → Leads (item_row t) (a_token ∷ a_module_so_far ∷ ss) (a_module_so_far ∷ ss)
item ss k.Name = refl
item ss k.Data = refl
item ss t = tt

pub row_leads : {A : Type 0} (s : Symbol) (vs : List (Value A)) (t : TokenKind) (ss : List Shape) → Leads (row s vs t) (a_token ∷ grown s ++ ss) (left_by_row s ∷ ss)
unfolding row
row_leads (The u w) vs t ss = lead_only (same_kind u t) [] (a_token ∷ ss) (a_token ∷ ss) refl
row_leads (Term n) vs t ss = lead_raised n _ (a_token ∷ ss) (a_part ∷ ss) (term ss (pred n) t)
row_leads (Spine n) vs t ss = spine ss n t
row_leads (Atom n) vs t ss = whole_atom ss n t
row_leads (ClassAtom n w) vs t ss = class_atom ss n t
row_leads (Class n need left) vs t ss = lead_raised n _ (a_token ∷ ss) (a_part ∷ ss) (class ss (pred n) left t)
row_leads Body vs t ss = lead_raised outermost _ (a_token ∷ ss) (a_part ∷ ss) (body ss (body_is_type vs) t)
row_leads Owner vs t ss = lead_only (same_kind k.Hash t) _ (a_token ∷ ss) (a_token ∷ ss) refl
row_leads (Annotation n need) vs t ss = annotation ss n need t
row_leads (Side n) vs t ss = lead_only (same_kind k.Less t) _ (a_token ∷ ss) (an_option ∷ ss) refl
row_leads (KeptTerm n) vs t ss = lead_only (same_kind k.OpenBrace t) _ (a_token ∷ ss) (an_option ∷ ss) refl
row_leads (TypeGiven n) vs t ss = lead_on (class_atom_row n t) _ (a_token ∷ ss) (a_part ∷ ss) (a_part ∷ ss) (class_atom ss n t) refl
row_leads (Motive n) vs t ss = lead_only (same_kind k.At t) _ (a_token ∷ ss) (a_part ∷ ss) refl
row_leads (MaybeArrow n left) vs t ss = arrow ss n left t
row_leads Projections vs t ss = projection ss t
row_leads Patterns vs t ss = pattern_leads ss t
row_leads (Arguments n) vs t ss = arguments ss n t
row_leads (TypeArguments n) vs t ss = lead_behind _ (a_token ∷ a_part ∷ ss) (a_part ∷ ss) (type_arguments ss n t)
row_leads (Branches n) vs t ss = lead_only (same_kind k.Bar t) _ (a_token ∷ some_branches ∷ ss) (some_branches ∷ ss) refl
row_leads Imports vs t ss = lead_only (same_kind k.Import t) _ (a_token ∷ a_module_so_far ∷ ss) (a_module_so_far ∷ ss) refl
row_leads Items vs t ss = item ss t
row_leads (Parameters n) vs t ss = lead_only (same_kind k.Open t) _ (a_token ∷ some_parameters ∷ ss) (some_parameters ∷ ss) refl
row_leads (Constructors n) vs t ss = lead_only (same_kind k.Bar t) _ (a_token ∷ some_constructors ∷ ss) (some_constructors ∷ ss) refl
