-- The code of a tree whose scope is known, by which proofs tell trees apart.
use Rattle.std.specs.Prelude.{◌≡◌, ℕ, List, [], ◌∷◌, get_or}
use Rattle.std.specs.Coded.{Coded}
use mathlib.Core.Path.{refl, sym, ◌∙◌, ap}
use base.Stored.{Gv, gnil, gnum, gcons, num}
use Rattle.cdle_model.specs.declared.grammar.Mode.{Mode}
use Rattle.cdle_model.specs.declared.grammar.Mode.TheVariants.{Kept, Erased, OfType}
use Rattle.scope_model.specs.Scoped.{Reference, variable, item, cast, Scoped}
use Rattle.source_model.specs.Source.{Span, Pattern, use_of, leaf, one, two, bind, cases, branch, SourceLeaf, star_of, none_of, SourceOne, fst_of, snd_of, flip_of, SourceTwo, app_of, eapp_of, tapp_of, at_of, on_of, pair_of, eq_of, beta_of, delta_of, chi_of, phi_of, rho_of, group_of, SourceBinder, pi_of, all_of, allt_of, tlam_of, xtlam_of, iota_of, kpi_of, kpit_of, lam_of, elam_of, xlam_of, unclassed_of, guide_of, CaseForm, mu_of, sigma_of}

-- ---- forms by number

abbrev leaf_number : SourceLeaf → ℕ
leaf_number star_of = 0
leaf_number none_of = 1

abbrev leaf_at : ℕ → SourceLeaf
leaf_at n = get_or (star_of ∷ none_of ∷ []) n star_of

leaf_back : (f : SourceLeaf) → leaf_at (leaf_number f) ≡ f
leaf_back star_of = refl
leaf_back none_of = refl

abbrev one_number : SourceOne → ℕ
one_number fst_of = 0
one_number snd_of = 1
one_number flip_of = 2

abbrev one_at : ℕ → SourceOne
one_at n = get_or (fst_of ∷ snd_of ∷ flip_of ∷ []) n fst_of

one_back : (f : SourceOne) → one_at (one_number f) ≡ f
one_back fst_of = refl
one_back snd_of = refl
one_back flip_of = refl

abbrev case_number : CaseForm → ℕ
case_number mu_of = 0
case_number sigma_of = 1

abbrev case_at : ℕ → CaseForm
case_at n = get_or (mu_of ∷ sigma_of ∷ []) n mu_of

case_back : (f : CaseForm) → case_at (case_number f) ≡ f
case_back mu_of = refl
case_back sigma_of = refl

abbrev mode_number : Mode → ℕ
mode_number Kept = 0
mode_number Erased = 1
mode_number OfType = 2

abbrev mode_at : ℕ → Mode
mode_at n = get_or (Kept ∷ Erased ∷ OfType ∷ []) n Kept

mode_back : (m : Mode) → mode_at (mode_number m) ≡ m
mode_back Kept = refl
mode_back Erased = refl
mode_back OfType = refl

abbrev two_number : SourceTwo → ℕ
two_number app_of = 0
two_number eapp_of = 1
two_number tapp_of = 2
two_number at_of = 3
two_number on_of = 4
two_number pair_of = 5
two_number eq_of = 6
two_number beta_of = 7
two_number delta_of = 8
two_number chi_of = 9
two_number phi_of = 10
two_number rho_of = 11
two_number group_of = 12

abbrev two_at : ℕ → SourceTwo
two_at n = get_or (app_of ∷ eapp_of ∷ tapp_of ∷ at_of ∷ on_of ∷ pair_of ∷ eq_of ∷ beta_of ∷ delta_of ∷ chi_of ∷ phi_of ∷ rho_of ∷ group_of ∷ []) n app_of

two_back : (f : SourceTwo) → two_at (two_number f) ≡ f
two_back app_of = refl
two_back eapp_of = refl
two_back tapp_of = refl
two_back at_of = refl
two_back on_of = refl
two_back pair_of = refl
two_back eq_of = refl
two_back beta_of = refl
two_back delta_of = refl
two_back chi_of = refl
two_back phi_of = refl
two_back rho_of = refl
two_back group_of = refl

abbrev binder_number : SourceBinder → ℕ
binder_number pi_of = 0
binder_number all_of = 1
binder_number allt_of = 2
binder_number tlam_of = 3
binder_number xtlam_of = 4
binder_number iota_of = 5
binder_number kpi_of = 6
binder_number kpit_of = 7
binder_number lam_of = 8
binder_number elam_of = 9
binder_number xlam_of = 10
binder_number unclassed_of = 11
binder_number guide_of = 12

abbrev binder_at : ℕ → SourceBinder
binder_at n = get_or (pi_of ∷ all_of ∷ allt_of ∷ tlam_of ∷ xtlam_of ∷ iota_of ∷ kpi_of ∷ kpit_of ∷ lam_of ∷ elam_of ∷ xlam_of ∷ unclassed_of ∷ guide_of ∷ []) n pi_of

binder_back : (f : SourceBinder) → binder_at (binder_number f) ≡ f
binder_back pi_of = refl
binder_back all_of = refl
binder_back allt_of = refl
binder_back tlam_of = refl
binder_back xtlam_of = refl
binder_back iota_of = refl
binder_back kpi_of = refl
binder_back kpit_of = refl
binder_back lam_of = refl
binder_back elam_of = refl
binder_back xlam_of = refl
binder_back unclassed_of = refl
binder_back guide_of = refl

-- ---- what stands in a form beside its parts

abbrev span_code : Span → Gv
span_code s = gcons (gnum s.from) (gnum s.to)

abbrev span_at : Gv → Span
span_at (gcons f t) = record { from = num f; to = num t }
span_at g = record { from = 0; to = 0 }

abbrev use_code : Reference → Gv
use_code (variable n) = gcons (gnum 0) (gnum n)
use_code (item n) = gcons (gnum 1) (gnum n)
use_code (cast n) = gcons (gnum 2) (gnum n)

abbrev use_at : Gv → Reference
use_at (gcons k n) = get_or (variable (num n) ∷ item (num n) ∷ cast (num n) ∷ []) (num k) (variable 0)
use_at g = variable 0

use_back : (n : Reference) → use_at (use_code n) ≡ n
use_back (variable n) = refl
use_back (item n) = refl
use_back (cast n) = refl

abbrev pattern_code : Pattern (Unit {0}) → Gv
pattern_code p = gcons (gnum (mode_number p.mode)) (span_code p.span)

abbrev pattern_at : Gv → Pattern (Unit {0})
pattern_at (gcons m s) = record { mode = mode_at (num m); span = span_at s; binder = tt }
pattern_at g = record { mode = Kept; span = span_at g; binder = tt }

pattern_back : (p : Pattern (Unit {0})) → pattern_at (pattern_code p) ≡ p
pattern_back p = λ k. record { mode = mode_back p.mode k; span = p.span; binder = tt }

abbrev patterns_code : List (Pattern (Unit {0})) → Gv
patterns_code [] = gnil
patterns_code (p ∷ ps) = gcons (pattern_code p) (patterns_code ps)

abbrev patterns_at : Gv → List (Pattern (Unit {0}))
patterns_at (gcons p ps) = pattern_at p ∷ patterns_at ps
patterns_at g = []

patterns_back : (ps : List (Pattern (Unit {0}))) → patterns_at (patterns_code ps) ≡ ps
patterns_back [] = refl
patterns_back (p ∷ ps) = λ k. pattern_back p k ∷ patterns_back ps k

-- ---- trees: what stands beside the parts, and then as many parts

abbrev pub code : Scoped → Gv
code (use_of s n) = gcons (gcons gnil (gcons (span_code s) (use_code n))) gnil
code (leaf s f) = gcons (gcons (gnum (leaf_number f)) (span_code s)) gnil
code (one s f p) = gcons (gcons (gnum (one_number f)) (span_code s)) (gcons (code p) gnil)
code (two s f p q) = gcons (gcons (gnum (two_number f)) (span_code s)) (gcons (code p) (gcons (code q) gnil))
code (bind s f x p q) = gcons (gcons (gcons (gnum (binder_number f)) gnil) (span_code s)) (gcons (code p) (gcons (code q) gnil))
code (cases s f x p m bs) = gcons (gcons (gcons (gnum (case_number f)) gnil) (span_code s)) (gcons (code p) (gcons (code m) (gcons (code bs) gnil)))
code (branch s n xs p bs) = gcons (gcons gnil (gcons (span_code s) (gcons (use_code n) (patterns_code xs)))) (gcons (code p) (gcons (code bs) gnil))

abbrev nothing_at : Scoped
nothing_at = leaf (record { from = 0; to = 0 }) none_of

abbrev no_parts : Gv → Scoped
no_parts (gcons gnil (gcons s n)) = use_of (span_at s) (use_at n)
no_parts (gcons (gnum f) s) = leaf (span_at s) (leaf_at f)
no_parts g = nothing_at

abbrev one_part : Gv → Scoped → Scoped
one_part (gcons f s) p = one (span_at s) (one_at (num f)) p
one_part g p = nothing_at

abbrev two_parts : Gv → Scoped → Scoped → Scoped
two_parts (gcons (gnum f) s) p q = two (span_at s) (two_at f) p q
two_parts (gcons (gcons f x) s) p q = bind (span_at s) (binder_at (num f)) tt p q
two_parts (gcons gnil (gcons s (gcons n xs))) p q = branch (span_at s) (use_at n) (patterns_at xs) p q
two_parts g p q = nothing_at

abbrev three_parts : Gv → Scoped → Scoped → Scoped → Scoped
three_parts (gcons (gcons f x) s) p m bs = cases (span_at s) (case_at (num f)) tt p m bs
three_parts g p m bs = nothing_at

abbrev pub decode : Gv → Scoped
decode (gcons h gnil) = no_parts h
decode (gcons h (gcons p gnil)) = one_part h (decode p)
decode (gcons h (gcons p (gcons q gnil))) = two_parts h (decode p) (decode q)
decode (gcons h (gcons p (gcons q (gcons r gnil)))) = three_parts h (decode p) (decode q) (decode r)
decode g = nothing_at

pub back : (t : Scoped) → decode (code t) ≡ t
back (use_of s n) = λ k. use_of s (use_back n k)
back (leaf s f) = λ k. leaf s (leaf_back f k)
back (one s f p) = λ k. one s (one_back f k) (back p k)
back (two s f p q) = λ k. two s (two_back f k) (back p k) (back q k)
back (bind s f x p q) = λ k. bind s (binder_back f k) tt (back p k) (back q k)
back (cases s f x p m bs) = λ k. cases s (case_back f k) tt (back p k) (back m k) (back bs k)
back (branch s n xs p bs) = λ k. branch s (use_back n k) (patterns_back xs k) (back p k) (back bs k)

abbrev pub coded_tree : Coded (Scoped)
coded_tree = record { code = code; inj = λ x y p. sym (back x) ∙ ap decode p ∙ back y }
