-- Binders are found layer by layer.
use Rattle.std.proofs.Common.{◌≡◌, ℕ, suc, ◌+◌, Bool, true, false, if◌then◌else◌, List, [], ◌∷◌, ◌++◌, Option, Some, None, length, map, refl, sym, ap, ◌∙◌, arith}
use Rattle.std.proofs.lemmas.List.{append_assoc}
use Rattle.cdle_model.specs.declared.grammar.Sort.{Sort}
use Rattle.source_model.specs.Source.{Pattern}
use Rattle.scope_model.specs.Scope.{hides, mode_sort, with_patterns}
use Rattle.scope_model.specs.ScopeNames.{Text, Bound, Standing, Variable, standing, bound, or_else, is_called}
use Rattle.scoped_tree.specs.declared.forms.CaseForm.TheVariants as c
use Rattle.scoped_tree.specs.declared.forms.Reference.{Reference}
use Rattle.scoped_tree.specs.declared.forms.Reference.TheVariants as r
use Rattle.surf_tree.specs.Forms.{pattern_of}
use Rattle.surf_tree.specs.declared.node.SrcPattern.{SrcPattern}
use Rattle.scope_part.specs.Layers.{layer_bounds, layer_length, pattern_bounds}
use Rattle.scope_part.specs.Names.{spelled_name, standing_of}
use Rattle.scope_part.specs.Spelled.{spelled_patterns}
use Rattle.scope_part.specs.declared.binders.Layer.{Layer}
use Rattle.scope_part.specs.declared.binders.Layer.TheVariants as y

or_assoc : (a b c : Option Standing) → or_else (or_else a b) c ≡ or_else a (or_else b c)
or_assoc (Some x) b c = refl
or_assoc None b c = refl

or_none : (a : Option Standing) → or_else a None ≡ a
or_none (Some x) = refl
or_none None = refl

-- ---- one layer and those outside of it

or_if : (b : Bool) (v : Standing) (x y : Option Standing) → (if b then Some v else or_else x y) ≡ or_else (if b then Some v else x) y
or_if true v x y = refl
or_if false v x y = refl

bound_join : (w : Text) (n : ℕ) (xs ys : List Bound) → bound w n (xs ++ ys) ≡ or_else (bound w n xs) (bound w (n + length xs) ys)
unfolding bound
bound_join w n [] ys = ap (λ m. bound w m ys) (omega arith)
bound_join w n (x ∷ xs) ys = ap (λ t. if is_called w x.name then Some (standing n x.binding) else t) (bound_join w (n + 1) xs ys ∙ ap (λ m. or_else (bound w (n + 1) xs) (bound w m ys)) (omega arith)) ∙ or_if (is_called w x.name) (standing n x.binding) (bound w (n + 1) xs) (bound w (n + suc (length xs)) ys)

-- ---- patterns

abbrev bound_of : Pattern (Option Text) → Bound
bound_of p = record { name = p.binder; binding = Variable (mode_sort p.mode) }

abbrev spelled_bound : List Text → SrcPattern → Bound
spelled_bound names p = record { name = spelled_name names (Some p.name.0); binding = Variable (mode_sort p.mode) }

pub with_split : (ps : List (Pattern (Option Text))) (bs : List Bound) → with_patterns ps bs ≡ with_patterns ps [] ++ bs
with_split [] bs = refl
with_split (p ∷ ps) bs = with_split ps (bound_of p ∷ bs) ∙ sym (ap (λ xs. xs ++ bs) (with_split ps (bound_of p ∷ [])) ∙ append_assoc (with_patterns ps []) (bound_of p ∷ []) bs)

length_with : (ps : List (Pattern (Option Text))) (bs : List Bound) → length (with_patterns ps bs) ≡ length ps + length bs
length_with [] bs = omega arith
length_with (p ∷ ps) bs = omega (arith, length_with ps (bound_of p ∷ bs))

length_spelled : (names : List Text) (ps : List SrcPattern) → length (spelled_patterns names (map pattern_of ps)) ≡ length ps
length_spelled names [] = refl
length_spelled names (p ∷ ps) = ap suc (length_spelled names ps)

pub bound_none : (w : Text) (n : ℕ) → bound w n [] ≡ None
unfolding bound
bound_none w n = refl

pub layer_here : (w : Text) (n : ℕ) (xs ys : List Bound) (v : Standing) → Some v ≡ bound w n xs → Some v ≡ bound w n (xs ++ ys)
layer_here w n xs ys v e = sym (bound_join w n xs ys ∙ ap (λ x. or_else x (bound w (n + length xs) ys)) (sym e))

long : (names : List Text) (l : Layer) → length (layer_bounds names l) ≡ layer_length l
long names (y.Variable x s) = refl
long names (y.Case c.Mu x) = refl
long names (y.Case c.Sigma x) = refl
long names (y.Pattern ps) = omega (arith, length_with (spelled_patterns names (map pattern_of ps.now)) [], length_spelled names ps.now)

pub layer_on : (w : Text) (n m : ℕ) (names : List Text) (l : Layer) (ys : List Bound) → m ≡ n + layer_length l → None ≡ bound w n (layer_bounds names l) → bound w n (layer_bounds names l ++ ys) ≡ bound w m ys
layer_on w n m names l ys k e = bound_join w n (layer_bounds names l) ys ∙ ap (λ x. or_else x (bound w (n + length (layer_bounds names l)) ys)) (sym e) ∙ ap (λ i. bound w i ys) (omega (arith, k, long names l))

-- with what was found so far
unfoldable pub so_far : Text → ℕ → List Text → List SrcPattern → Option (Sort × Reference) → Option Standing
so_far w n names ps found = or_else (bound w n (pattern_bounds names ps)) (standing_of found)

if_or : (b : Bool) (s : Sort) (n : ℕ) (found : Option (Sort × Reference)) → or_else (if b then Some (standing n (Variable s)) else None) (standing_of found) ≡ standing_of (if b then Some (s, r.Variable n) else found)
if_or true s n found = refl
if_or false s n found = refl

bound_one : (w : Text) (n : ℕ) (b : Bound) → bound w n (b ∷ []) ≡ (if is_called w b.name then Some (standing n b.binding) else None)
unfolding bound
bound_one w n b = refl

pub pattern_step : (w : Text) (n : ℕ) (names : List Text) (p : SrcPattern) (ps : List SrcPattern) (found : Option (Sort × Reference)) →
    so_far w n names (p ∷ ps) found ≡ so_far w n names ps (if is_called w (spelled_name names (Some p.name.0)) then Some (mode_sort p.mode, r.Variable (n + length ps)) else found)
unfolding so_far
pattern_step w n names p ps found =
    ap (λ xs. or_else (bound w n xs) (standing_of found)) (with_split (spelled_patterns names (map pattern_of ps)) (spelled_bound names p ∷ []))
    ∙ ap (λ x. or_else x (standing_of found)) (bound_join w n (pattern_bounds names ps) (spelled_bound names p ∷ []))
    ∙ ap (λ m. or_else (or_else (bound w n (pattern_bounds names ps)) (bound w m (spelled_bound names p ∷ []))) (standing_of found)) (omega (arith, length_with (spelled_patterns names (map pattern_of ps)) [], length_spelled names ps))
    ∙ ap (λ x. or_else (or_else (bound w n (pattern_bounds names ps)) x) (standing_of found)) (bound_one w (n + length ps) (spelled_bound names p))
    ∙ or_assoc (bound w n (pattern_bounds names ps)) (if is_called w (spelled_name names (Some p.name.0)) then Some (standing (n + length ps) (Variable (mode_sort p.mode))) else None) (standing_of found)
    ∙ ap (or_else (bound w n (pattern_bounds names ps))) (if_or (is_called w (spelled_name names (Some p.name.0))) (mode_sort p.mode) (n + length ps) found)

pub pattern_found : (w : Text) (n : ℕ) (names : List Text) (found : Option (Sort × Reference)) (rest all : List SrcPattern) → length rest ≡ 0 → so_far w n names rest found ≡ so_far w n names all None → standing_of found ≡ bound w n (pattern_bounds names all)
unfolding so_far bound
pattern_found w n names found [] all e h = h ∙ or_none (bound w n (pattern_bounds names all))
pattern_found w n names found (p ∷ ps) all e h = absurd (omega arith)

-- ---- whether one is called so

if_true : (b : Bool) → (if b then true else true) ≡ true
if_true true = refl
if_true false = refl

if_join : (b x y z : Bool) → z ≡ (if x then true else y) → (if b then true else z) ≡ (if (if b then true else x) then true else y)
if_join true x y z e = refl
if_join false x y z e = e

hides_join : (w : Text) (xs ys : List Bound) → hides w (xs ++ ys) ≡ (if hides w xs then true else hides w ys)
hides_join w [] ys = refl
hides_join w (x ∷ xs) ys = if_join (is_called w x.name) (hides w xs) (hides w ys) (hides w (xs ++ ys)) (hides_join w xs ys)

pub hidden_here : (w : Text) (names : List Text) (p : SrcPattern) (ps : List SrcPattern) (bs : List Bound) → is_called w (spelled_name names (Some p.name.0)) ≡ true →
    hides w (with_patterns (spelled_patterns names (map pattern_of (p ∷ ps))) bs) ≡ true
hidden_here w names p ps bs e =
    ap (hides w) (with_split (spelled_patterns names (map pattern_of ps)) (spelled_bound names p ∷ bs))
    ∙ hides_join w (pattern_bounds names ps) (spelled_bound names p ∷ bs)
    ∙ rw e (if_true (hides w (pattern_bounds names ps)))

pub hidden_on : (w : Text) (names : List Text) (p : SrcPattern) (ps : List SrcPattern) (bs : List Bound) → is_called w (spelled_name names (Some p.name.0)) ≡ false →
    hides w (with_patterns (spelled_patterns names (map pattern_of (p ∷ ps))) bs) ≡ hides w (with_patterns (spelled_patterns names (map pattern_of ps)) bs)
hidden_on w names p ps bs e =
    ap (hides w) (with_split (spelled_patterns names (map pattern_of ps)) (spelled_bound names p ∷ bs))
    ∙ hides_join w (pattern_bounds names ps) (spelled_bound names p ∷ bs)
    ∙ rw e (sym (ap (hides w) (with_split (spelled_patterns names (map pattern_of ps)) bs) ∙ hides_join w (pattern_bounds names ps) bs))
