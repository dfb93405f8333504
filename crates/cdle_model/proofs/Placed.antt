-- What the tables of classes say of the parts of a tree: from one statement on the parts to another, to a plain statement, two at once,
-- and that the parts of an erased class are of erased classes.
use Rattle.std.proofs.Common.{◌≡◌, refl}
use Rattle.cdle_model.specs.declared.grammar.Sort.{Sort}
use Rattle.cdle_model.specs.declared.grammar.Sort.TheVariants.{OfTerm, OfType}
use Rattle.cdle_model.specs.Trees.{of_pure, of_term, of_type, eq_of, pi_of, all_of, allt_of, iota_of, kpi_of, kpit_of, Unary, Binary, Function, Binder}
use Rattle.cdle_model.specs.Classes.{TreeClass, terms, types, kinds, pure_terms, guides, guide_kinds, term_pairs, guided_proofs, typed_terms, Places, part, body, parts, domain, AsSort, AsPart, AsBody, AsParts, AsDomain, unary_places, fun_places, apply_places, binary_places, bind_places}
use Rattle.cdle_model.specs.Fitting.{IsErased, class_of}

-- ---- from one statement to another

pub map_sort : (c : TreeClass) {P Q : Sort → Type 0} → ((x : Sort) → P x → Q x) → AsSort c P → AsSort c Q
map_sort terms f h = f _ h
map_sort types f h = f _ h
map_sort pure_terms f h = f _ h
map_sort guides f h = f _ h
map_sort kinds f h = absurd h
map_sort guide_kinds f h = absurd h
map_sort term_pairs f h = absurd h
map_sort guided_proofs f h = absurd h
map_sort typed_terms f h = absurd h

pub map_part : (ps : Places) (P Q : TreeClass → Type 0) → ((x : TreeClass) → P x → Q x) → AsPart ps P → AsPart ps Q
map_part (part x) P Q f h = f x h
map_part ps P Q f h = absurd h

pub map_body : (ps : Places) (P Q : Sort → TreeClass → Type 0) → ((v : Sort) (x : TreeClass) → P v x → Q v x) → AsBody ps P → AsBody ps Q
map_body (body v x) P Q f h = f v x h
map_body ps P Q f h = absurd h

pub map_parts : (ps : Places) (P Q R S : TreeClass → Type 0) → ((x : TreeClass) → P x → R x) → ((x : TreeClass) → Q x → S x) → AsParts ps P Q → AsParts ps R S
map_parts (parts x y) P Q R S f g h = (f x h.0, g y h.1)
map_parts ps P Q R S f g h = absurd h

pub map_domain : (ps : Places) (P R : TreeClass → Type 0) (Q S : Sort → TreeClass → Type 0) → ((x : TreeClass) → P x → R x) → ((v : Sort) (x : TreeClass) → Q v x → S v x)
    → AsDomain ps P Q → AsDomain ps R S
map_domain (domain x v y) P R Q S f g h = (f x h.0, g v y h.1)
map_domain ps P R Q S f g h = absurd h

-- ---- to a plain statement

pub sort_to : (c : TreeClass) (P : Sort → Type 0) {K : Type 0} → ((x : Sort) → P x → K) → AsSort c P → K
sort_to terms P f h = f OfTerm h
sort_to types P f h = f OfType h
sort_to pure_terms P f h = f OfTerm h
sort_to guides P f h = f OfType h
sort_to kinds P f h = absurd h
sort_to guide_kinds P f h = absurd h
sort_to term_pairs P f h = absurd h
sort_to guided_proofs P f h = absurd h
sort_to typed_terms P f h = absurd h

pub part_to : (ps : Places) (P : TreeClass → Type 0) {K : Type 0} → ((x : TreeClass) → P x → K) → AsPart ps P → K
part_to (part x) P f h = f x h
part_to ps P f h = absurd h

pub body_to : (ps : Places) (P : Sort → TreeClass → Type 0) {K : Type 0} → ((v : Sort) (x : TreeClass) → P v x → K) → AsBody ps P → K
body_to (body v x) P f h = f v x h
body_to ps P f h = absurd h

pub parts_to : (ps : Places) (P Q : TreeClass → Type 0) {K L : Type 0} → ((x : TreeClass) → P x → K) → ((x : TreeClass) → Q x → L) → AsParts ps P Q → K × L
parts_to (parts x y) P Q f g h = (f x h.0, g y h.1)
parts_to ps P Q f g h = absurd h

pub domain_to : (ps : Places) (P : TreeClass → Type 0) (Q : Sort → TreeClass → Type 0) {K L : Type 0} → ((x : TreeClass) → P x → K) → ((v : Sort) (x : TreeClass) → Q v x → L)
    → AsDomain ps P Q → K × L
domain_to (domain x v y) P Q f g h = (f x h.0, g v y h.1)
domain_to ps P Q f g h = absurd h

-- ---- two at once

pub body_both : (ps : Places) (P Q : Sort → TreeClass → Type 0) → AsBody ps P → AsBody ps Q → AsBody ps (λ v x. P v x × Q v x)
body_both (body v x) P Q h k = (h, k)
body_both ps P Q h k = absurd h

pub parts_both : (ps : Places) (P Q R S : TreeClass → Type 0) → AsParts ps P Q → AsParts ps R S → AsParts ps (λ x. P x × R x) (λ x. Q x × S x)
parts_both (parts x y) P Q R S h k = ((h.0, k.0), (h.1, k.1))
parts_both ps P Q R S h k = absurd h

pub domain_both : (ps : Places) (P R : TreeClass → Type 0) (Q S : Sort → TreeClass → Type 0) → AsDomain ps P Q → AsDomain ps R S → AsDomain ps (λ x. P x × R x) (λ v x. Q v x × S v x)
domain_both (domain x v y) P R Q S h k = ((h.0, k.0), (h.1, k.1))
domain_both ps P R Q S h k = absurd h

-- ---- erased classes

pub sort_erased : (c : TreeClass) (P : Sort → Type 0) → IsErased c → AsSort c P → (x : Sort) × P x × (class_of x ≡ c)
sort_erased pure_terms P e h = (OfTerm, h, refl)
sort_erased guides P e h = (OfType, h, refl)
sort_erased guide_kinds P e h = absurd h
sort_erased c P e h = absurd e

pub no_unary : (c : TreeClass) (j : Unary) (P : TreeClass → Type 0) → IsErased c → AsPart (unary_places c j) P → ⊥
no_unary terms j P e h = e
no_unary c j P e h = h

pub fun_erased : (c : TreeClass) (f : Function) (P : Sort → TreeClass → Type 0) → IsErased c → AsBody (fun_places c f) P → AsBody (fun_places c f) (λ v x. IsErased x × P v x)
fun_erased pure_terms of_pure P e h = (tt, h)
fun_erased guides of_term P e h = (tt, h)
fun_erased guides of_type P e h = (tt, h)
fun_erased c f P e h = absurd h

pub apply_erased : (c : TreeClass) (f : Function) (P Q : TreeClass → Type 0) → IsErased c → AsParts (apply_places c f) P Q
    → AsParts (apply_places c f) (λ x. IsErased x × P x) (λ x. IsErased x × Q x)
apply_erased pure_terms of_pure P Q e h = ((tt, h.0), (tt, h.1))
apply_erased guides of_term P Q e h = ((tt, h.0), (tt, h.1))
apply_erased guides of_type P Q e h = ((tt, h.0), (tt, h.1))
apply_erased types f P Q e h = absurd e
apply_erased c f P Q e h = absurd h

pub binary_erased : (c : TreeClass) (j : Binary) (P Q : TreeClass → Type 0) → IsErased c → AsParts (binary_places c j) P Q
    → AsParts (binary_places c j) (λ x. IsErased x × P x) (λ x. IsErased x × Q x)
binary_erased guides eq_of P Q e h = ((tt, h.0), (tt, h.1))
binary_erased pure_terms j P Q e h = absurd h
binary_erased guides j P Q e h = absurd h
binary_erased guide_kinds j P Q e h = absurd h
binary_erased c j P Q e h = absurd e

pub bind_erased : (c : TreeClass) (f : Binder) (P : TreeClass → Type 0) (Q : Sort → TreeClass → Type 0) → IsErased c → AsDomain (bind_places c f) P Q
    → AsDomain (bind_places c f) (λ x. IsErased x × P x) (λ v x. IsErased x × Q v x)
bind_erased guides pi_of P Q e h = ((tt, h.0), (tt, h.1))
bind_erased guides all_of P Q e h = ((tt, h.0), (tt, h.1))
bind_erased guides allt_of P Q e h = ((tt, h.0), (tt, h.1))
bind_erased guides iota_of P Q e h = ((tt, h.0), (tt, h.1))
bind_erased guide_kinds kpi_of P Q e h = ((tt, h.0), (tt, h.1))
bind_erased guide_kinds kpit_of P Q e h = ((tt, h.0), (tt, h.1))
bind_erased pure_terms f P Q e h = absurd h
bind_erased guides f P Q e h = absurd h
bind_erased guide_kinds f P Q e h = absurd h
bind_erased c f P Q e h = absurd e
