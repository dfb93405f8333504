-- What a name stands for is there, and of the sort that is told.
use Rattle.std.proofs.Common.{◌≡◌, ℕ, zero, suc, ◌+◌, Bool, true, false, ◌||◌, if◌then◌else◌, List, [], ◌∷◌, ◌++◌, Option, Some, None, length, map, ◌⊎◌, inl, inr, refl, sym, ap, subst, ◌∙◌, arith}
use Rattle.std.specs.Prelude.{slice_get}
use Rattle.std.specs.Str.{bytes_eq}
use Rattle.std.proofs.lemmas.Slice.Eq.{bytes_eq-Decides}
use Rattle.cdle_model.specs.declared.grammar.Sort.{Sort}
use Rattle.cdle_model.specs.CoreNames.{Name}
use Rattle.source_model.specs.Source.{NameUse}
use Rattle.scope_model.specs.Scoped.{item}
use Rattle.scope_model.specs.ScopeNames.{Text, Binding, Variable, Proof, Bound, Exported, Around, Standing, standing, is_called, is_one_of, or_else, bound, listed, exported, imported, prelude, stands, stands_alone, stands_in, with_owner}
use Rattle.scope_model.specs.Scope.{is_use, hides}
use Rattle.scope_model.specs.ScopeFits.{Binders, IsOfSort, AreNumbered, sorts, known_sorts}

-- what each of these binds
abbrev pub binders : List Bound → Binders
binders bs = map (λ b. Some b.binding) bs

-- ---- binders as a part sees them that uses no name of Q

-- it binds what it binds, or none where its name is of Q
abbrev pub IsSeen : (Text → Type 0) → Bound → Option Binding → Type 0
IsSeen Q b None = (x : Text) → is_called x b.name ≡ true → Q x
IsSeen Q b (Some v) = v ≡ b.binding

-- each of them, the innermost first, which hides the others of its name
abbrev pub AreSeen : (Text → Type 0) → List Bound → Binders → Type 0
AreSeen Q [] [] = Unit {0}
AreSeen Q [] (v ∷ vs) = ⊥
AreSeen Q (b ∷ bs) [] = ⊥
AreSeen Q (b ∷ bs) (v ∷ vs) = IsSeen Q b v × AreSeen (λ x. (is_called x b.name ≡ true) ⊎ Q x) bs vs

pub all_seen : (Q : Text → Type 0) (bs : List Bound) → AreSeen Q bs (binders bs)
all_seen Q [] = tt
all_seen Q (b ∷ bs) = (refl, all_seen (λ x. (is_called x b.name ≡ true) ⊎ Q x) bs)

seen_still : (Q R : Text → Type 0) (b : Bound) (v : Option Binding) → ((x : Text) → Q x → R x) → IsSeen Q b v → IsSeen R b v
seen_still Q R b None f s = λ x e. f x (s x e)
seen_still Q R b (Some v) f s = s

or_still : (A B C : Type 0) → (B → C) → A ⊎ B → A ⊎ C
or_still A B C f (inl a) = inl a
or_still A B C f (inr b) = inr (f b)

-- a part that uses fewer names
pub still_seen : (Q R : Text → Type 0) (bs : List Bound) (vs : Binders) → ((x : Text) → Q x → R x) → AreSeen Q bs vs → AreSeen R bs vs
still_seen Q R [] [] f s = tt
still_seen Q R [] (v ∷ vs) f s = s
still_seen Q R (b ∷ bs) [] f s = s
still_seen Q R (b ∷ bs) (v ∷ vs) f s = (seen_still Q R b v f s.0, still_seen (λ x. (is_called x b.name ≡ true) ⊎ Q x) (λ x. (is_called x b.name ≡ true) ⊎ R x) bs vs (λ x q. or_still (is_called x b.name ≡ true) (Q x) (R x) (f x) q) s.1)

is_hidden : (b : Bool) (c : Bool) {C : Type 0} → ((if b then true else c) ≡ true) ⊎ C → (c ≡ true) ⊎ ((b ≡ true) ⊎ C)
is_hidden true c (inl e) = inr (inl refl)
is_hidden true c (inr q) = inr (inr q)
is_hidden false c (inl e) = inl e
is_hidden false c (inr q) = inr (inr q)

not_hidden : {C : Type 0} → (false ≡ true) ⊎ C → C
not_hidden (inl e) = absurd cc
not_hidden (inr q) = q

-- a part under more binders, which hide what is called so
pub seen_under : (Q : Text → Type 0) (more bs : List Bound) (vs : Binders) → AreSeen (λ x. (hides x more ≡ true) ⊎ Q x) bs vs → AreSeen Q (more ++ bs) (binders more ++ vs)
seen_under Q [] bs vs s = still_seen (λ x. (hides x [] ≡ true) ⊎ Q x) Q bs vs (λ x q. not_hidden q) s
seen_under Q (n ∷ more) bs vs s = (
  refl,
  seen_under (λ x. (is_called x n.name ≡ true) ⊎ Q x) more bs vs
      (still_seen (λ x. (hides x (n ∷ more) ≡ true) ⊎ Q x) (λ x. (hides x more ≡ true) ⊎ ((is_called x n.name ≡ true) ⊎ Q x)) bs vs (λ x q. is_hidden (is_called x n.name) (hides x more) q) s),
)

-- ---- a name of a binder

-- a reference to what is behind the first n
abbrev IsBehind : ℕ → Binders → Standing → Type 0
IsBehind n vs x = (k : ℕ) × (v : Binding) × (slice_get vs k ≡ Some (Some v)) × (x ≡ standing (n + k) v)

if_bound : (w : Text) (t : Bool) (n : ℕ) (b : Bound) (v : Option Binding) (vs : Binders) (o : Option Standing) (x : Standing) (Q : Text → Type 0) → is_called w b.name ≡ t → IsSeen Q b v → (Q w → ⊥)
    → (is_called w b.name ≡ false → o ≡ Some x → IsBehind (n + 1) vs x) → (if t then Some (standing n b.binding) else o) ≡ Some x → IsBehind n (v ∷ vs) x
if_bound w true n b None vs o x Q c s kept h e = absurd (kept (s w c))
if_bound w true n b (Some v) vs o x Q c s kept h e =
    let same : standing n b.binding ≡ x = cc in
    let p : n ≡ n + 0 = omega arith in
    (0, v, refl, sym same ∙ ap (λ (y : Binding). standing n y) (sym s) ∙ ap (λ (m : ℕ). standing m v) p)
if_bound w false n b v vs o x Q c s kept h e = let f = h c e in let p : (n + 1) + f.0 ≡ n + suc f.0 = omega arith in (suc f.0, f.1, f.2, f.3 ∙ ap (λ (m : ℕ). standing m f.1) p)

not_either : (b : Bool) {C : Type 0} → b ≡ false → (C → ⊥) → (b ≡ true) ⊎ C → ⊥
not_either b e kept (inl t) = absurd cc
not_either b e kept (inr q) = kept q

bound_is : (w : Text) (n : ℕ) (bs : List Bound) (vs : Binders) (x : Standing) (Q : Text → Type 0) → AreSeen Q bs vs → (Q w → ⊥) → bound w n bs ≡ Some x → IsBehind n vs x
unfolding bound
bound_is w n [] vs x Q s kept e = absurd cc
bound_is w n (b ∷ bs) [] x Q s kept e = absurd s
bound_is w n (b ∷ bs) (v ∷ vs) x Q s kept e = if_bound w (is_called w b.name) n b v vs (bound w (n + 1) bs) x Q refl s.0 kept
    (λ c f. bound_is w (n + 1) bs vs x (λ y. (is_called y b.name ≡ true) ⊎ Q y) s.1 (not_either (is_called w b.name) c kept) f) e

standing_fits : (vs : Binders) (xs : List Sort) (i : ℕ) (v : Binding) → slice_get vs i ≡ Some (Some v) → IsOfSort vs xs (standing i v).0 (standing i v).1
standing_fits vs xs i (Variable s) e = e
standing_fits vs xs i Proof e = (refl, e)

bound_fits : (w : Text) (bs : List Bound) (vs : Binders) (xs : List Sort) (x : Standing) (Q : Text → Type 0) → AreSeen Q bs vs → (Q w → ⊥) → bound w 0 bs ≡ Some x → IsOfSort vs xs x.0 x.1
bound_fits w bs vs xs x Q s kept e =
    let b = bound_is w 0 bs vs x Q s kept e in
    let p : 0 + b.0 ≡ b.0 = omega arith in
    let same : x ≡ standing b.0 b.1 = b.3 ∙ ap (λ (m : ℕ). standing m b.1) p in
    subst (λ (y : Standing). IsOfSort vs xs y.0 y.1) (sym same) (standing_fits vs xs b.0 b.1 b.2)

-- ---- items

-- among the items that begin with the number
abbrev IsFrom : ℕ → List Sort → Standing → Type 0
IsFrom n xs x = (k : ℕ) × (slice_get xs k ≡ Some x.0) × (x.1 ≡ item (n + k))

or_case : (o p : Option Standing) (x : Standing) {P : Type 0} → (o ≡ Some x → P) → (p ≡ Some x → P) → or_else o p ≡ Some x → P
or_case (Some y) p x f g e = f e
or_case None p x f g e = g e

if_here : (b : Bool) (n : ℕ) (y : Name) (ys : List Name) (x : Standing) → (if b then Some (y.sort, item n) else None) ≡ Some x → IsFrom n (sorts (y ∷ ys)) x
if_here true n y ys x e = let one : y.sort ≡ x.0 = cc in let two : item n ≡ x.1 = cc in let p : n ≡ n + 0 = omega arith in (0, ap (λ (s : Sort). Some s) one, sym two ∙ ap (λ (m : ℕ). item m) p)
if_here false n y ys x e = absurd cc

listed_is : (w : Text) (n : ℕ) (ys : List Name) (x : Standing) → listed w n ys ≡ Some x → IsFrom n (sorts ys) x
unfolding listed
listed_is w n [] x e = absurd cc
listed_is w n (y ∷ ys) x e = or_case (listed w (n + 1) ys) (if bytes_eq w y.text then Some (y.sort, item n) else None) x
    (λ f. let b = listed_is w (n + 1) ys x f in let p : (n + 1) + b.0 ≡ n + suc b.0 = omega arith in (suc b.0, b.1, b.2 ∙ ap (λ (m : ℕ). item m) p))
    (if_here (bytes_eq w y.text) n y ys x) e

get_front : (xs ys : List Sort) (k : ℕ) (s : Sort) → slice_get xs k ≡ Some s → slice_get (xs ++ ys) k ≡ Some s
get_front [] ys k s e = absurd cc
get_front (x ∷ xs) ys zero s e = e
get_front (x ∷ xs) ys (suc k) s e = get_front xs ys k s e

get_behind : (xs ys : List Sort) (k : ℕ) (s : Sort) → slice_get ys k ≡ Some s → slice_get (xs ++ ys) (length xs + k) ≡ Some s
get_behind [] ys k s e = let p : k ≡ 0 + k = omega arith in subst (λ (m : ℕ). slice_get ys m ≡ Some s) p e
get_behind (x ∷ xs) ys k s e = let p : suc (length xs + k) ≡ suc (length xs) + k = omega arith in subst (λ (m : ℕ). slice_get (x ∷ (xs ++ ys)) m ≡ Some s) p (get_behind xs ys k s e)

length-sorts : (ys : List Name) → length (sorts ys) ≡ length ys
length-sorts [] = refl
length-sorts (y ∷ ys) = ap (λ (n : ℕ). suc n) (length-sorts ys)

if_module : (b : Bool) (n : ℕ) (w : Text) (y : Exported) (ys : List Exported) (o : Option Standing) (x : Standing) → y.first ≡ n → (o ≡ Some x → IsFrom (n + length y.items) (known_sorts ys) x)
    → (if b then listed w y.first y.items else o) ≡ Some x → IsFrom n (known_sorts (y ∷ ys)) x
if_module true n w y ys o x p h e = let b = listed_is w y.first y.items x e in (b.0, get_front (sorts y.items) (known_sorts ys) b.0 x.0 b.1, b.2 ∙ ap (λ (m : ℕ). item (m + b.0)) p)
if_module false n w y ys o x p h e =
    let b = h e in
    let q : (n + length y.items) + b.0 ≡ n + (length (sorts y.items) + b.0) = omega (arith, length-sorts y.items) in
    (length (sorts y.items) + b.0, get_behind (sorts y.items) (known_sorts ys) b.0 x.0 b.1, b.2 ∙ ap (λ (m : ℕ). item m) q)

exported_is : (m w : Text) (n : ℕ) (ys : List Exported) (x : Standing) → AreNumbered n ys → exported m w ys ≡ Some x → IsFrom n (known_sorts ys) x
unfolding exported
exported_is m w n [] x a e = absurd cc
exported_is m w n (y ∷ ys) x a e = if_module (bytes_eq m y.name) n w y ys (exported m w ys) x a.0 (exported_is m w (n + length y.items) ys x a.1) e

imported_is : (ms : List Text) (w : Text) (n : ℕ) (ys : List Exported) (x : Standing) → AreNumbered n ys → imported ms w ys ≡ Some x → IsFrom n (known_sorts ys) x
unfolding imported
imported_is [] w n ys x a e = absurd cc
imported_is (m ∷ ms) w n ys x a e = or_case (exported m w ys) (imported ms w ys) x (exported_is m w n ys x a) (imported_is ms w n ys x a) e

-- ---- a name

-- the modules and the items before are numbered one after the other
pub record IsAround (a : Around) (xs : List Sort) : Type 0 where
  pub numbered : AreNumbered 0 a.modules
  pub first : a.first ≡ length (known_sorts a.modules)
  pub all : xs ≡ known_sorts a.modules ++ sorts a.own

of_known : (a : Around) (xs : List Sort) (vs : Binders) (x : Standing) → IsAround a xs → IsFrom 0 (known_sorts a.modules) x → IsOfSort vs xs x.0 x.1
of_known a xs vs x h b =
    let p : 0 + b.0 ≡ b.0 = omega arith in
    subst (IsOfSort vs xs x.0) (sym (b.2 ∙ ap (λ (m : ℕ). item m) p)) (subst (λ (l : List Sort). slice_get l b.0 ≡ Some x.0) (sym h.all) (get_front (known_sorts a.modules) (sorts a.own) b.0 x.0 b.1))

of_own : (a : Around) (xs : List Sort) (vs : Binders) (x : Standing) → IsAround a xs → IsFrom a.first (sorts a.own) x → IsOfSort vs xs x.0 x.1
of_own a xs vs x h b =
    let there : slice_get xs (length (known_sorts a.modules) + b.0) ≡ Some x.0 = subst (λ (l : List Sort). slice_get l (length (known_sorts a.modules) + b.0) ≡ Some x.0) (sym h.all) (get_behind (known_sorts a.modules) (sorts a.own) b.0 x.0 b.1) in
    subst (IsOfSort vs xs x.0) (sym (b.2 ∙ ap (λ (m : ℕ). item (m + b.0)) h.first)) there

alone_fits : (a : Around) (xs : List Sort) (bs : List Bound) (vs : Binders) (w : Text) (x : Standing) (Q : Text → Type 0) → IsAround a xs → AreSeen Q bs vs → (Q w → ⊥) → stands_alone a bs w ≡ Some x → IsOfSort vs xs x.0 x.1
alone_fits a xs bs vs w x Q h s kept e =
    or_case (bound w 0 bs) (or_else (listed w a.first a.own) (or_else (imported a.imports w a.modules) (exported prelude w a.modules))) x (bound_fits w bs vs xs x Q s kept)
    (or_case (listed w a.first a.own) (or_else (imported a.imports w a.modules) (exported prelude w a.modules)) x (λ f. of_own a xs vs x h (listed_is w a.first a.own x f))
    (or_case (imported a.imports w a.modules) (exported prelude w a.modules) x (λ f. of_known a xs vs x h (imported_is a.imports w 0 a.modules x h.numbered f)) (λ f. of_known a xs vs x h (exported_is prelude w 0 a.modules x h.numbered f)))) e

if_in : (b c : Bool) (o p : Option Standing) (x : Standing) {P : Type 0} → (o ≡ Some x → P) → (p ≡ Some x → P) → (if b then o else (if c then p else None)) ≡ Some x → P
if_in true c o p x f g e = f e
if_in false true o p x f g e = g e
if_in false false o p x f g e = absurd cc

in_fits : (a : Around) (xs : List Sort) (vs : Binders) (m w : Text) (x : Standing) → IsAround a xs → stands_in a m w ≡ Some x → IsOfSort vs xs x.0 x.1
in_fits a xs vs m w x h e = if_in (bytes_eq m a.name) (bytes_eq m prelude || is_one_of m a.imports) (listed w a.first a.own) (exported m w a.modules) x
    (λ f. of_own a xs vs x h (listed_is w a.first a.own x f)) (λ f. of_known a xs vs x h (exported_is m w 0 a.modules x h.numbered f)) e

owner_fits : (a : Around) (xs : List Sort) (bs : List Bound) (vs : Binders) (o : Option Text) (w : Text) (x : Standing) (Q : Text → Type 0) → IsAround a xs → AreSeen Q bs vs
    → (is_use w (record { owner = o; name = w }) ≡ true → Q w → ⊥) → with_owner a bs o w ≡ Some x → IsOfSort vs xs x.0 x.1
owner_fits a xs bs vs None w x Q h s kept e = alone_fits a xs bs vs w x Q h s (kept ((bytes_eq-Decides w w).1 refl)) e
owner_fits a xs bs vs (Some m) w x Q h s kept e = in_fits a xs vs m w x h e

-- what stands for a name that is used is seen
pub stands_fits : (a : Around) (xs : List Sort) (bs : List Bound) (vs : Binders) (u : NameUse Text) (x : Standing) (Q : Text → Type 0) → IsAround a xs → AreSeen Q bs vs
    → (is_use u.name u ≡ true → Q u.name → ⊥) → stands a bs u ≡ Some x → IsOfSort vs xs x.0 x.1
unfolding stands
stands_fits a xs bs vs u x Q h s kept e = owner_fits a xs bs vs u.owner u.name x Q h s kept e
