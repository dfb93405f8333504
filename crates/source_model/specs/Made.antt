-- What each row of the grammar makes of its values, the latest first, and what it tests.
use Rattle.std.specs.Prelude.{ℕ, cond, List, [], ◌∷◌, ◌++◌, Option, Some, None}
use Rattle.std.specs.Str.{bytes_eq}
use Rattle.std.specs.List.{list_any}
use Rattle.cdle_model.specs.declared.grammar.Sort.TheVariants.{OfTerm, OfType}
use Rattle.source_model.specs.Source.{Span, use_of, leaf, one, two, bind, cases, branch, none, nowhere, star_of, fst_of, snd_of, flip_of, app_of, eapp_of, tapp_of, at_of, on_of, pair_of, eq_of, beta_of, delta_of, chi_of, phi_of, rho_of, group_of, pi_of, all_of, allt_of, tlam_of, xtlam_of, iota_of, kpi_of, kpit_of, lam_of, elam_of, xlam_of, unclassed_of, guide_of, mu_of, sigma_of, Pattern, Parameter, Constructor, def_item, type_item, data_item, NameUse, Tree, Module, Item}
use Rattle.source_model.specs.Heights.{span_of, is_kind, is_none}
use Rattle.source_model.specs.Grammar.{Token, Branch, Value, token, part, enclosed, nothing, patterns, branches, parameters, constructors, module_so_far, Making}
use Rattle.source_model.specs.Grammar as m
use Rattle.source_model.specs.Rows.{Leaving, LeftOut, NotGiven}

-- ---- parts of a tree

-- the bytes between two places
abbrev pub span : ℕ → ℕ → Span
span from to = record { from = from; to = to }

-- where a part begins
abbrev pub from_of : {A : Type 0} → Tree A → ℕ
from_of t = (span_of t).from

-- where it ends
abbrev pub to_of : {A : Type 0} → Tree A → ℕ
to_of t = (span_of t).to

-- from a part to another's end
abbrev pub across : {A : Type 0} → Tree A → Tree A → Span
across t u = span (from_of t) (to_of u)

-- a part from a token on, which is its first
abbrev pub from_sign : {A : Type 0} → Token A → ℕ → (Span → Tree A) → Value A
from_sign t to tree = part t.span.from (tree (span t.span.from to))

-- a name alone, and one with a module
abbrev pub use_alone : {A : Type 0} → Token A → Tree A
use_alone x = use_of x.span (record { owner = None; name = x.name })

-- a name of a module, as `M#x`: the name last, the module's before it
abbrev pub use_in : {A : Type 0} → Token A → Token A → Tree A
use_in m x = use_of (span m.span.from x.span.to) (record { owner = Some m.name; name = x.name })

-- `Π x : A . B` and `A ➔ B`
abbrev pub product : {A : Type 0} → Span → Option A → Tree A → Tree A → Tree A
product s x a b = bind s (cond (is_kind b) (cond (is_kind a) kpit_of kpi_of) pi_of) x a b

-- `∀ x : A . B` and `A ➾ B`
abbrev pub forall : {A : Type 0} → Span → Option A → Tree A → Tree A → Tree A
forall s x a b = bind s (cond (is_kind a) allt_of all_of) x a b

-- `Λ x . t`, and with a class
abbrev pub erased_lambda : {A : Type 0} → Span → A → Tree A → Tree A → Tree A
erased_lambda s x a t = bind s (cond (is_none a) unclassed_of (cond (is_kind a) xlam_of elam_of)) (Some x) a t

-- the tree of an option, and the place behind it, or behind what is before it
abbrev pub inner : {A : Type 0} → Value A → Tree A
inner (enclosed to t) = t
inner v = none nowhere

-- the place behind the option's last sign, or the place given where it was left out
abbrev pub behind : {A : Type 0} → Value A → ℕ → ℕ
behind (enclosed to t) before = to
behind v before = before

-- branches as one tree
abbrev pub chained : {A : Type 0} → List (Branch A) → Tree A
chained [] = none nowhere
chained (b ∷ bs) = branch b.span (record { owner = b.owner; name = b.name }) b.patterns b.part (chained bs)

-- a branch, of its constructor, its pattern and its part
abbrev pub a_branch : {A : Type 0} → Tree A → List (Pattern (Option A)) → Tree A → List (Branch A)
a_branch (use_of s n) ps t = record { span = s; owner = n.owner; name = n.name; patterns = ps; part = t } ∷ []
a_branch c ps t = []

-- ---- items

-- a module with one more item, which is its last
abbrev pub with_item : {A : Type 0} → Item A → Module A → Module A
with_item i b = record b { items = b.items ++ i ∷ [] }

-- importing twice adds nothing
abbrev pub with_import : {A : Type 0} → (A → List ℕ) → Token A → Module A → Module A
with_import text x b = cond (list_any (λ i. bytes_eq (text x.name) (text i.0)) b.imports) b (record b { imports = b.imports ++ (x.name, x.span) ∷ [] })

-- an item by the class of what it defines
abbrev pub defined : {A : Type 0} → Token A → Tree A → Tree A → Item A
defined x c t = cond (is_kind c) (type_item x.span x.name c t) (def_item x.span x.name c t)

-- a parameter of a datatype, of its name and its class
abbrev pub a_parameter : {A : Type 0} → Token A → Tree A → Parameter (Option A) (NameUse A)
a_parameter x c = record { span = x.span; binder = Some x.name; sort = cond (is_kind c) OfType OfTerm; class = c }

-- a constructor, of its name and its type
abbrev pub a_constructor : {A : Type 0} → Token A → Tree A → Constructor A (Option A) (NameUse A)
a_constructor x c = record { span = x.span; name = x.name; type = c }

-- ---- the values behind a row, by what stood in it; other values never stand there; names are told apart by their texts

unfoldable pub made : {A : Type 0} → (A → List ℕ) → Making → List (Value A) → List (Value A)
made text m.Named (nothing ∷ token x ∷ vs) = part x.span.from (use_alone x) ∷ vs
made text m.Named (token x ∷ token n ∷ vs) = part n.span.from (use_in n x) ∷ vs
made text m.Parenthesized (token c ∷ part f t ∷ token o ∷ vs) = part o.span.from t ∷ vs
made text m.Given (v ∷ token o ∷ vs) = v ∷ vs
made text m.Enclosed (token c ∷ part f t ∷ token o ∷ vs) = enclosed c.span.to t ∷ vs
made text m.NoPatterns vs = patterns [] ∷ vs
made text m.NoBranches vs = branches [] ∷ vs
made text m.NoParameters vs = parameters [] ∷ vs
made text m.NoConstructors vs = constructors [] ∷ vs
made text m.Star (token t ∷ vs) = part t.span.from (leaf t.span star_of) ∷ vs
made text m.Equation (token c ∷ part g u ∷ token e ∷ part f t ∷ token o ∷ vs) = from_sign o c.span.to (λ s. two s eq_of t u) ∷ vs
made text m.Product (part g b ∷ token d ∷ part f a ∷ token c ∷ token x ∷ token o ∷ vs) = from_sign o (to_of b) (λ s. product s (Some x.name) a b) ∷ vs
made text m.Forall (part g b ∷ token d ∷ part f a ∷ token c ∷ token x ∷ token o ∷ vs) = from_sign o (to_of b) (λ s. forall s (Some x.name) a b) ∷ vs
made text m.Lambda (part g b ∷ token d ∷ part f a ∷ token c ∷ token x ∷ token o ∷ vs) = from_sign o (to_of b) (λ s. bind s (cond (is_kind a) xtlam_of tlam_of) (Some x.name) a b) ∷ vs
made text m.Iota (part g b ∷ token d ∷ part f a ∷ token c ∷ token x ∷ token o ∷ vs) = from_sign o (to_of b) (λ s. bind s iota_of (Some x.name) a b) ∷ vs
made text m.Arrow (part g b ∷ token d ∷ part f a ∷ vs) = part f (product (across a b) None a b) ∷ vs
made text m.ErasedArrow (part g b ∷ token d ∷ part f a ∷ vs) = part f (forall (across a b) None a b) ∷ vs
made text m.At (part g u ∷ part f t ∷ vs) = part f (two (across t u) at_of t u) ∷ vs
made text m.On (part g u ∷ token d ∷ part f t ∷ vs) = part f (two (across t u) on_of t u) ∷ vs
made text m.Lam (part g t ∷ token d ∷ part f a ∷ token x ∷ token o ∷ vs) = from_sign o (to_of t) (λ s. bind s lam_of (Some x.name) a t) ∷ vs
made text m.Elam (part g t ∷ token d ∷ part f a ∷ token x ∷ token o ∷ vs) = from_sign o (to_of t) (λ s. erased_lambda s x.name a t) ∷ vs
made text m.Rho (part h t ∷ token d ∷ part g a ∷ token p ∷ token x ∷ token e ∷ part f q ∷ token o ∷ vs) =
    from_sign o (to_of t) (λ s. two s rho_of (bind s guide_of (Some x.name) q a) t) ∷ vs
made text m.Phi (token c ∷ part h p ∷ token b ∷ part g t ∷ token d ∷ part f q ∷ token o ∷ vs) = from_sign o c.span.to (λ s. two s phi_of (two s group_of q t) p) ∷ vs
made text m.Delta (part g q ∷ token d ∷ part f a ∷ token o ∷ vs) = from_sign o (to_of q) (λ s. two s delta_of a q) ∷ vs
made text m.Chi (part g t ∷ token d ∷ part f a ∷ token o ∷ vs) = from_sign o (to_of t) (λ s. two s chi_of a t) ∷ vs
made text m.Flip (part f q ∷ token o ∷ vs) = from_sign o (to_of q) (λ s. one s flip_of q) ∷ vs
made text m.Mu (token c ∷ branches bs ∷ token b ∷ part g a ∷ part f t ∷ token d ∷ token x ∷ token o ∷ vs) = from_sign o c.span.to (λ s. cases s mu_of (Some x.name) t a (chained bs)) ∷ vs
made text m.Sigma (token c ∷ branches bs ∷ token b ∷ part g a ∷ part f t ∷ token o ∷ vs) = from_sign o c.span.to (λ s. cases s sigma_of None t a (chained bs)) ∷ vs
made text m.Pair (token c ∷ part g u ∷ token d ∷ part f t ∷ token o ∷ vs) = from_sign o c.span.to (λ s. two s pair_of t u) ∷ vs
made text m.Beta (v ∷ u ∷ token o ∷ vs) = from_sign o (behind v (behind u o.span.to)) (λ s. two s beta_of (inner u) (inner v)) ∷ vs
made text m.Fst (token d ∷ part f t ∷ vs) = part f (one (span (from_of t) d.span.to) fst_of t) ∷ vs
made text m.Snd (token d ∷ part f t ∷ vs) = part f (one (span (from_of t) d.span.to) snd_of t) ∷ vs
made text m.App (part g u ∷ part f t ∷ vs) = part f (two (across t u) app_of t u) ∷ vs
made text m.Eapp (part g u ∷ token d ∷ part f t ∷ vs) = part f (two (across t u) eapp_of t u) ∷ vs
made text m.Tapp (part g u ∷ token d ∷ part f t ∷ vs) = part f (two (across t u) tapp_of t u) ∷ vs
made text (m.APattern mode) (token x ∷ patterns ps ∷ vs) = patterns (ps ++ record { mode = mode; span = x.span; binder = Some x.name } ∷ []) ∷ vs
made text (m.APattern mode) (token x ∷ token d ∷ patterns ps ∷ vs) = patterns (ps ++ record { mode = mode; span = x.span; binder = Some x.name } ∷ []) ∷ vs
made text m.ABranch (part g t ∷ token d ∷ patterns ps ∷ part f c ∷ token b ∷ branches bs ∷ vs) = branches (bs ++ a_branch c ps t) ∷ vs
made text m.TheModule (token d ∷ token x ∷ token o ∷ vs) = module_so_far (record { name = x.name; imports = []; items = [] }) ∷ vs
made text m.AnImport (token d ∷ token x ∷ token i ∷ module_so_far b ∷ vs) = module_so_far (with_import text x b) ∷ vs
made text m.AnItem (token d ∷ part g t ∷ token e ∷ part f c ∷ token b ∷ token x ∷ module_so_far a ∷ vs) = module_so_far (with_item (defined x c t) a) ∷ vs
made text m.AParameter (token d ∷ part f c ∷ token b ∷ token x ∷ token o ∷ parameters ps ∷ vs) = parameters (ps ++ a_parameter x c ∷ []) ∷ vs
made text m.AConstructor (part f c ∷ token b ∷ token x ∷ token o ∷ constructors cs ∷ vs) = constructors (cs ++ a_constructor x c ∷ []) ∷ vs
made text m.ADatatype (token d ∷ constructors cs ∷ token i ∷ token t ∷ token c ∷ parameters ps ∷ token x ∷ token o ∷ module_so_far b ∷ vs) =
    module_so_far (with_item (data_item x.span x.name ps cs) b) ∷ vs
made text f vs = vs

-- the values where an option is left out, or a repetition ends
abbrev pub left_out : {A : Type 0} → Leaving → List (Value A) → List (Value A)
left_out LeftOut vs = nothing ∷ vs
left_out NotGiven vs = part 0 (none nowhere) ∷ vs
left_out l vs = vs
