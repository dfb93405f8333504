-- A tree whose scope is known fits it.
use Rattle.std.proofs.Common.{◌≡◌, Bool, true, false, if◌then◌else◌, List, [], ◌∷◌, ◌++◌, Option, Some, None, Ok, Err, ◌⊎◌, inl, inr, refl, sym, subst}
use Rattle.std.proofs.lemmas.Slice.Eq.{bytes_eq-Decides}
use Rattle.cdle_model.specs.declared.grammar.Sort.{Sort}
use Rattle.cdle_model.specs.declared.grammar.Sort.TheVariants.{OfTerm, OfType}
use Rattle.cdle_model.specs.CoreNames.{same_sort}
use Rattle.source_model.specs.Source.{Span, use_of, leaf, one, two, bind, cases, branch, SourceBinder, pi_of, all_of, allt_of, tlam_of, xtlam_of, iota_of, kpi_of, kpit_of, lam_of, elam_of, xlam_of, unclassed_of, guide_of, CaseForm, mu_of, sigma_of, Pattern, NameUse, Tree}
use Rattle.scope_model.specs.Scoped.{Reference, Scoped}
use Rattle.scope_model.specs.ScopeNames.{Text, Variable, Bound, Around, Standing, is_called, stands}
use Rattle.scope_model.specs.Scope.{ScopeFault, ◌>>=◌, left_sort, right_sort, domain_sort, body_sort, binder_sort, mode_sort, of_case, with_patterns, is_use, first_of_two, unless_hidden, hides, first_use, classed, with_class, wanted_as, bare, scoped}
use Rattle.scope_model.specs.ScopeFits.{Binders, binding_of, IsOfSort, case_bindings, under_patterns, FitsScope}
use Rattle.scope_model.proofs.Results.{and_then}
use Rattle.scope_model.proofs.Standings.{binders, IsSeen, AreSeen, all_seen, still_seen, seen_under, IsAround, stands_fits}

same_is : (s t : Sort) → same_sort s t ≡ true → s ≡ t
same_is OfTerm OfTerm e = refl
same_is OfTerm OfType e = absurd cc
same_is OfType OfTerm e = absurd cc
same_is OfType OfType e = refl

if_same : (b : Bool) (r q : Reference) (g : ScopeFault) → (if b then Ok r else Err g) ≡ Ok q → (b ≡ true) × (r ≡ q)
if_same true r q g e = (refl, cc)
if_same false r q g e = absurd cc

wanted_is : (p : Span) (s : Sort) (o : Option Standing) (r : Reference) → wanted_as p s o ≡ Ok r → o ≡ Some (s, r)
wanted_is p s None r e = absurd cc
wanted_is p s (Some x) r e = let b = if_same (same_sort s x.0) x.1 r _ e in let one = same_is s x.0 b.0 in λ i. Some (sym one i, b.1 i)

-- the part does not use the name
abbrev Unused : List Bound → Sort → Tree Text → Text → Type 0
Unused ob s t x = first_use x ob s t ≡ None

name_fits : (a : Around) (xs : List Sort) (bs : List Bound) (vs : Binders) (p : Span) (s : Sort) (u : NameUse Text) (r : Reference) (Q : Text → Type 0) → IsAround a xs → AreSeen Q bs vs
    → (is_use u.name u ≡ true → Q u.name → ⊥) → wanted_as p s (stands a bs u) ≡ Ok r → IsOfSort vs xs s r
name_fits a xs bs vs p s u r Q h seen kept e = stands_fits a xs bs vs u (s, r) Q h seen kept (wanted_is p s (stands a bs u) r e)

binders-case : (f : CaseForm) (r : Option Text) → binders (of_case f r) ≡ case_bindings f
binders-case mu_of r = refl
binders-case sigma_of r = refl

patterns-append : (ps : List (Pattern (Option Text))) (ob bs : List Bound) → with_patterns ps ob ++ bs ≡ with_patterns ps (ob ++ bs)
patterns-append [] ob bs = refl
patterns-append (p ∷ ps) ob bs = patterns-append ps (record { name = p.binder; binding = Variable (mode_sort p.mode) } ∷ ob) bs

binders-patterns : (ps : List (Pattern (Option Text))) (ob : List Bound) (vs : Binders) → binders (with_patterns ps ob) ++ vs ≡ under_patterns (bare ps) (binders ob ++ vs)
binders-patterns [] ob vs = refl
binders-patterns (p ∷ ps) ob vs = binders-patterns ps (record { name = p.binder; binding = Variable (mode_sort p.mode) } ∷ ob) vs

domain_class : (o : Option Sort) → OfType ≡ domain_sort (classed o)
domain_class None = refl
domain_class (Some OfTerm) = refl
domain_class (Some OfType) = refl

body_class : (o : Option Sort) → OfTerm ≡ body_sort (classed o)
body_class None = refl
body_class (Some OfTerm) = refl
body_class (Some OfType) = refl

domain_same : (f : SourceBinder) (x : Option Text) (u : Tree Text) → domain_sort f ≡ domain_sort (with_class f x u)
domain_same pi_of x u = refl
domain_same all_of x u = refl
domain_same allt_of x u = refl
domain_same tlam_of x u = refl
domain_same xtlam_of x u = refl
domain_same iota_of x u = refl
domain_same kpi_of x u = refl
domain_same kpit_of x u = refl
domain_same lam_of x u = refl
domain_same elam_of x u = refl
domain_same xlam_of x u = refl
domain_same guide_of x u = refl
domain_same unclassed_of None u = refl
domain_same unclassed_of (Some x) u = domain_class (first_use x [] OfTerm u)

body_same : (f : SourceBinder) (x : Option Text) (u : Tree Text) → body_sort f ≡ body_sort (with_class f x u)
body_same pi_of x u = refl
body_same all_of x u = refl
body_same allt_of x u = refl
body_same tlam_of x u = refl
body_same xtlam_of x u = refl
body_same iota_of x u = refl
body_same kpi_of x u = refl
body_same kpit_of x u = refl
body_same lam_of x u = refl
body_same elam_of x u = refl
body_same xlam_of x u = refl
body_same guide_of x u = refl
body_same unclassed_of None u = refl
body_same unclassed_of (Some x) u = body_class (first_use x [] OfTerm u)

-- ---- names that are not used

first_none : (o p : Option Sort) → first_of_two o p ≡ None → o ≡ None
first_none None p e = refl
first_none (Some s) p e = absurd cc

second_none : (o p : Option Sort) → first_of_two o p ≡ None → p ≡ None
second_none None p e = e
second_none (Some s) p e = absurd cc

hidden_or_none : (b : Bool) (o : Option Sort) → unless_hidden b o ≡ None → (b ≡ true) ⊎ (o ≡ None)
hidden_or_none true o e = inl refl
hidden_or_none false o e = inr e

not_used : (b : Bool) (s : Sort) → b ≡ true → (if b then Some s else None) ≡ None → ⊥
not_used true s b e = absurd cc
not_used false s b e = absurd cc

called_is : (y x : Text) → is_called y (Some x) ≡ true → y ≡ x
called_is y x e = (bytes_eq-Decides y x).0 e

-- a `Λ` without a class has no first use
class_seen : (x : Text) (o : Option Sort) (u : Tree Text) → first_use x [] OfTerm u ≡ o → IsSeen (Unused [] OfTerm u) (record { name = Some x; binding = Variable (binder_sort (classed o)) }) (binding_of (classed o))
class_seen x None u e = λ y c. subst (λ (z : Text). first_use z [] OfTerm u ≡ None) (sym (called_is y x c)) e
class_seen x (Some OfTerm) u e = refl
class_seen x (Some OfType) u e = refl

binder_seen : (f : SourceBinder) (x : Option Text) (u : Tree Text) → IsSeen (Unused [] (body_sort f) u) (record { name = x; binding = Variable (binder_sort (with_class f x u)) }) (binding_of (with_class f x u))
binder_seen pi_of x u = refl
binder_seen all_of x u = refl
binder_seen allt_of x u = refl
binder_seen tlam_of x u = refl
binder_seen xtlam_of x u = refl
binder_seen iota_of x u = refl
binder_seen kpi_of x u = refl
binder_seen kpit_of x u = refl
binder_seen lam_of x u = refl
binder_seen elam_of x u = refl
binder_seen xlam_of x u = refl
binder_seen guide_of x u = refl
binder_seen unclassed_of None u = λ y c. absurd cc
binder_seen unclassed_of (Some x) u = class_seen x (first_use x [] OfTerm u) u refl

-- under a binder, which hides its name
under_binder : (bs : List Bound) (vs : Binders) (f : SourceBinder) (x : Option Text) (t u : Tree Text) → AreSeen (λ y. first_of_two (first_use y [] (domain_sort f) t) (unless_hidden (is_called y x) (first_use y [] (body_sort f) u)) ≡ None) bs vs
    → AreSeen (Unused [] (body_sort f) u) (record { name = x; binding = Variable (binder_sort (with_class f x u)) } ∷ bs) (binding_of (with_class f x u) ∷ vs)
under_binder bs vs f x t u s = (
  binder_seen f x u,
  still_seen _ (λ y. (is_called y x ≡ true) ⊎ (first_use y [] (body_sort f) u ≡ None)) bs vs
      (λ y e. hidden_or_none (is_called y x) (first_use y [] (body_sort f) u) (second_none (first_use y [] (domain_sort f) t) _ e)) s,
)

-- the uses of a branch, of its part and of the branches behind it
abbrev branch_use : List Bound → NameUse Text → List (Pattern (Option Text)) → Tree Text → Tree Text → Text → Option Sort
branch_use ob c ps t us y = first_of_two (if is_use y c then Some OfTerm else None) (first_of_two (unless_hidden (hides y (with_patterns ps ob)) (first_use y [] OfTerm t)) (first_use y ob OfTerm us))

under_pattern : (ob bs : List Bound) (vs : Binders) (c : NameUse Text) (ps : List (Pattern (Option Text))) (t us : Tree Text) → AreSeen (λ y. branch_use ob c ps t us y ≡ None) bs vs
    → AreSeen (Unused [] OfTerm t) (with_patterns ps (ob ++ bs)) (under_patterns (bare ps) (binders ob ++ vs))
under_pattern ob bs vs c ps t us s =
    let more : List Bound = with_patterns ps ob in
    let seen : AreSeen (Unused [] OfTerm t) (more ++ bs) (binders more ++ vs) = seen_under (Unused [] OfTerm t) more bs vs
    (still_seen _ (λ y. (hides y more ≡ true) ⊎ (first_use y [] OfTerm t ≡ None)) bs vs
    (λ y e. hidden_or_none (hides y more) (first_use y [] OfTerm t) (first_none _ (first_use y ob OfTerm us) (second_none (if is_use y c then Some OfTerm else None) _ e))) s) in
    subst (λ (l : List Bound). AreSeen (Unused [] OfTerm t) l (under_patterns (bare ps) (binders ob ++ vs))) (patterns-append ps ob bs)
    (subst (λ (l : Binders). AreSeen (Unused [] OfTerm t) (more ++ bs) l) (binders-patterns ps ob vs) seen)

behind_branch : (ob bs : List Bound) (vs : Binders) (c : NameUse Text) (ps : List (Pattern (Option Text))) (t us : Tree Text) → AreSeen (λ y. branch_use ob c ps t us y ≡ None) bs vs → AreSeen (Unused ob OfTerm us) bs vs
behind_branch ob bs vs c ps t us s = still_seen _ (Unused ob OfTerm us) bs vs
    (λ y e. second_none (unless_hidden (hides y (with_patterns ps ob)) (first_use y [] OfTerm t)) _ (second_none (if is_use y c then Some OfTerm else None) _ e)) s

scoped_fits : (a : Around) (xs : List Sort) → IsAround a xs → (ob bs : List Bound) (vs : Binders) (s : Sort) (t : Tree Text) (v : Scoped) → AreSeen (Unused ob s t) bs vs → scoped a ob bs s t ≡ Ok v → FitsScope (binders ob) vs xs s v
unfolding scoped first_use
scoped_fits a xs h ob bs vs s (use_of p u) v seen e =
    let r = and_then (wanted_as p s (stands a bs u)) (λ r. Ok (use_of p r)) v e in
    let same : use_of p r.0 ≡ v = cc in
    subst (FitsScope (binders ob) vs xs s) same (name_fits a xs bs vs p s u r.0 (Unused ob s (use_of p u)) h seen (not_used (is_use u.name u) s) r.1)
scoped_fits a xs h ob bs vs s (leaf p l) v seen e = let same : leaf p l ≡ v = cc in subst (FitsScope (binders ob) vs xs s) same tt
scoped_fits a xs h ob bs vs s (one p j t) v seen e =
    let r = and_then (scoped a [] bs OfTerm t) (λ w. Ok (one p j w)) v e in
    let same : one p j r.0 ≡ v = cc in
    subst (FitsScope (binders ob) vs xs s) same (scoped_fits a xs h [] bs vs OfTerm t r.0 seen r.1)
scoped_fits a xs h ob bs vs s (two p j t u) v seen e =
    let r = and_then (scoped a [] bs (left_sort j) t) (λ w. scoped a [] bs (right_sort j) u >>= λ z. Ok (two p j w z)) v e in
    let q = and_then (scoped a [] bs (right_sort j) u) (λ z. Ok (two p j r.0 z)) v r.2 in
    let same : two p j r.0 q.0 ≡ v = cc in
    let left = still_seen (Unused ob s (two p j t u)) (Unused [] (left_sort j) t) bs vs (λ y f. first_none (first_use y [] (left_sort j) t) (first_use y [] (right_sort j) u) f) seen in
    let right = still_seen (Unused ob s (two p j t u)) (Unused [] (right_sort j) u) bs vs (λ y f. second_none (first_use y [] (left_sort j) t) (first_use y [] (right_sort j) u) f) seen in
    subst (FitsScope (binders ob) vs xs s) same (scoped_fits a xs h [] bs vs (left_sort j) t r.0 left r.1, scoped_fits a xs h [] bs vs (right_sort j) u q.0 right q.1)
scoped_fits a xs h ob bs vs s (bind p f x t u) v seen e =
    let g = with_class f x u in
    let b : Bound = record { name = x; binding = Variable (binder_sort g) } in
    let r = and_then (scoped a [] bs (domain_sort f) t) (λ w. scoped a [] (b ∷ bs) (body_sort f) u >>= λ z. Ok (bind p g tt w z)) v e in
    let q = and_then (scoped a [] (b ∷ bs) (body_sort f) u) (λ z. Ok (bind p g tt r.0 z)) v r.2 in
    let same : bind p g tt r.0 q.0 ≡ v = cc in
    let domain = still_seen (Unused ob s (bind p f x t u)) (Unused [] (domain_sort f) t) bs vs (λ y k. first_none (first_use y [] (domain_sort f) t) (unless_hidden (is_called y x) (first_use y [] (body_sort f) u)) k) seen in
    let one = scoped_fits a xs h [] bs vs (domain_sort f) t r.0 domain r.1 in
    let two = scoped_fits a xs h [] (b ∷ bs) (binding_of g ∷ vs) (body_sort f) u q.0 (under_binder bs vs f x t u seen) q.1 in
    subst (FitsScope (binders ob) vs xs s) same
    (subst (λ (o : Sort). FitsScope [] vs xs o r.0) (domain_same f x u) one, subst (λ (o : Sort). FitsScope [] (binding_of g ∷ vs) xs o q.0) (body_same f x u) two)
scoped_fits a xs h ob bs vs s (cases p f x t m us) v seen e =
    let r = and_then (scoped a [] bs OfTerm t) (λ w. scoped a [] bs OfType m >>= λ n. scoped a (of_case f x) bs OfTerm us >>= λ ws. Ok (cases p f tt w n ws)) v e in
    let q = and_then (scoped a [] bs OfType m) (λ n. scoped a (of_case f x) bs OfTerm us >>= λ ws. Ok (cases p f tt r.0 n ws)) v r.2 in
    let k = and_then (scoped a (of_case f x) bs OfTerm us) (λ ws. Ok (cases p f tt r.0 q.0 ws)) v q.2 in
    let same : cases p f tt r.0 q.0 k.0 ≡ v = cc in
    let rest : AreSeen (λ y. first_of_two (first_use y [] OfType m) (first_use y (of_case f x) OfTerm us) ≡ None) bs vs =
    still_seen (Unused ob s (cases p f x t m us)) _ bs vs (λ y z. second_none (first_use y [] OfTerm t) _ z) seen in
    let taken = still_seen (Unused ob s (cases p f x t m us)) (Unused [] OfTerm t) bs vs (λ y z. first_none (first_use y [] OfTerm t) _ z) seen in
    let motive = still_seen _ (Unused [] OfType m) bs vs (λ y z. first_none (first_use y [] OfType m) (first_use y (of_case f x) OfTerm us) z) rest in
    let branches = still_seen _ (Unused (of_case f x) OfTerm us) bs vs (λ y z. second_none (first_use y [] OfType m) (first_use y (of_case f x) OfTerm us) z) rest in
    let three = scoped_fits a xs h (of_case f x) bs vs OfTerm us k.0 branches k.1 in
    subst (FitsScope (binders ob) vs xs s) {x = cases p f tt r.0 q.0 k.0} same
    (scoped_fits a xs h [] bs vs OfTerm t r.0 taken r.1, scoped_fits a xs h [] bs vs OfType m q.0 motive q.1, subst (λ (l : Binders). FitsScope l vs xs OfTerm k.0) (binders-case f x) three)
scoped_fits a xs h ob bs vs s (branch p c ps t us) v seen e =
    let n = and_then (wanted_as p OfTerm (stands a bs c)) (λ r. scoped a [] (with_patterns ps (ob ++ bs)) OfTerm t >>= λ w. scoped a ob bs OfTerm us >>= λ ws. Ok (branch p r (bare ps) w ws)) v e in
    let r = and_then (scoped a [] (with_patterns ps (ob ++ bs)) OfTerm t) (λ w. scoped a ob bs OfTerm us >>= λ ws. Ok (branch p n.0 (bare ps) w ws)) v n.2 in
    let k = and_then (scoped a ob bs OfTerm us) (λ ws. Ok (branch p n.0 (bare ps) r.0 ws)) v r.2 in
    let same : branch p n.0 (bare ps) r.0 k.0 ≡ v = cc in
    let one = scoped_fits a xs h [] (with_patterns ps (ob ++ bs)) (under_patterns (bare ps) (binders ob ++ vs)) OfTerm t r.0 (under_pattern ob bs vs c ps t us seen) r.1 in
    subst (FitsScope (binders ob) vs xs s) {x = branch p n.0 (bare ps) r.0 k.0} same (
      name_fits a xs bs vs p OfTerm c n.0 (λ y. branch_use ob c ps t us y ≡ None) h seen (λ b z. not_used (is_use c.name c) OfTerm b (first_none (if is_use c.name c then Some OfTerm else None) _ z)) n.1,
      one,
      scoped_fits a xs h ob bs vs OfTerm us k.0 (behind_branch ob bs vs c ps t us seen) k.1,
    )

-- under binders all of which it may use
pub open_fits : (a : Around) (xs : List Sort) → IsAround a xs → (bs : List Bound) (s : Sort) (t : Tree Text) (v : Scoped) → scoped a [] bs s t ≡ Ok v → FitsScope [] (binders bs) xs s v
open_fits a xs h bs s t v e = scoped_fits a xs h [] bs (binders bs) s t v (all_seen (Unused [] s t) bs) e
