-- Derivations by Core's rules: of terms, types and kinds in a context over a signature, and of a list of items.
use Rattle.std.specs.Prelude.{◌≡◌, ℕ, zero, suc, true, List, [], ◌∷◌, ◌++◌, Option, Some, None, slice_get, option_map}
use Rattle.cdle_model.specs.Trees.{Tree, var, name, shift, put, lacks}
use Rattle.cdle_model.specs.Forms.{star, kpi, kpit, pi, all, allt, tlam, xtlam, at_, on, iota, eq, fn, lam, elam, xlam, app, eapp, tapp, pair, fst, snd, beta, rho, phi, delta, Written, def_item, type_item, name_of}
use Rattle.cdle_model.specs.Erasure.{erased}
use Rattle.cdle_model.specs.Steps.{Joined}

-- what is known of a variable or an item: the erased type of a term, or the erased kind of a type
pub data Entry : Type 0 where
  term_of : Tree → Entry
  type_of : Tree → Entry

-- the entry under one more binder
abbrev pub raised : Entry → Entry
raised (term_of a) = term_of (shift 0 1 a)
raised (type_of k) = type_of (shift 0 1 k)

-- what is known of a variable in a context: the innermost entry is the first, and each is over those after it
abbrev pub entry : List Entry → ℕ → Option Entry
entry [] i = None
entry (e ∷ es) zero = Some (raised e)
entry (e ∷ es) (suc i) = option_map raised (entry es i)

-- an item of a signature: what is known of it, and its erased body
pub record Item : Type 0 where
  pub known : Entry
  pub body : Tree

-- the erased bodies, over which trees step
abbrev pub bodies : List Item → List Tree
bodies [] = []
bodies (i ∷ is) = i.body ∷ bodies is

-- what is known of an item
abbrev pub item : List Item → ℕ → Option Entry
item is n = option_map (λ (i : Item). i.known) (slice_get is n)

-- what is derived: a term has a type, a type has a kind, a kind is one (then the last tree says nothing, and is `*` in each rule)
pub data Judgement : Type 0 where
  a_term a_type a_kind : Judgement

-- `λx.λy.x` and `λx.λy.y`
abbrev pub true_pure : Tree
true_pure = fn (fn (var 1))

abbrev pub false_pure : Tree
false_pure = fn (fn (var 0))

mutual
  -- a derivation whose last rule is that of a form
  pub data Rule (is : List Item) : Judgement → List Entry → Tree → Tree → Type 0 where
    -- terms
    var_term : {c : List Entry} {i : ℕ} {a : Tree} → entry c i ≡ Some (term_of a) → Rule is a_term c (var i) a
    name_term : {c : List Entry} {n : ℕ} {a : Tree} → item is n ≡ Some (term_of a)
        → Rule is a_term c (name n) a
    lam_rule : {c : List Entry} {a t b : Tree} → Has is a_type c a star → Has is a_term (term_of (erased a) ∷ c) t b
        → Rule is a_term c (lam a t) (pi (erased a) b)
    elam_rule : {c : List Entry} {a t b : Tree} → Has is a_type c a star → Has is a_term (term_of (erased a) ∷ c) t b → lacks 0 (erased t) ≡ true
        → Rule is a_term c (elam a t) (all (erased a) b)
    xlam_rule : {c : List Entry} {k t b : Tree} → Has is a_kind c k star → Has is a_term (type_of (erased k) ∷ c) t b
        → Rule is a_term c (xlam k t) (allt (erased k) b)
    app_rule : {c : List Entry} {t u a b : Tree} → Has is a_term c t (pi a b) → Has is a_term c u a
        → Rule is a_term c (app t u) (put 0 (erased u) b)
    eapp_rule : {c : List Entry} {t u a b : Tree} → Has is a_term c t (all a b) → Has is a_term c u a
        → Rule is a_term c (eapp t u) (put 0 (erased u) b)
    tapp_rule : {c : List Entry} {t a k b : Tree} → Has is a_term c t (allt k b) → Has is a_type c a k
        → Rule is a_term c (tapp t a) (put 0 (erased a) b)
    pair_rule : {c : List Entry} {t u a b : Tree} → Has is a_term c t a → Has is a_type (term_of a ∷ c) b star
        → Has is a_term c u (put 0 (erased t) (erased b)) → Joined (bodies is) (erased t) (erased u)
        → Rule is a_term c (pair t u b) (iota a (erased b))
    fst_rule : {c : List Entry} {t a b : Tree} → Has is a_term c t (iota a b) → Rule is a_term c (fst t) a
    snd_rule : {c : List Entry} {t a b : Tree} → Has is a_term c t (iota a b)
        → Rule is a_term c (snd t) (put 0 (erased t) b)
    beta_rule : {c : List Entry} {p k : Tree} → Rule is a_term c (beta p k) (eq p p)
    rho_rule : {c : List Entry} {q g a t l r : Tree} → Has is a_term c q (eq l r) → Has is a_type c a star
        → Joined (bodies is) (erased a) (put 0 l g) → Has is a_term c t (put 0 r g)
        → Rule is a_term c (rho q g a t) (erased a)
    phi_rule : {c : List Entry} {q t p a l r : Tree} → Has is a_term c q (eq l r) → Has is a_term c t a
        → Joined (bodies is) l (erased t) → Joined (bodies is) r p
        → Rule is a_term c (phi q t p) a
    delta_rule : {c : List Entry} {q a l r : Tree} → Has is a_type c a star → Has is a_term c q (eq l r)
        → Joined (bodies is) l true_pure → Joined (bodies is) r false_pure
        → Rule is a_term c (delta a q) (erased a)
    -- types
    var_type : {c : List Entry} {i : ℕ} {k : Tree} → entry c i ≡ Some (type_of k) → Rule is a_type c (var i) k
    name_type : {c : List Entry} {n : ℕ} {k : Tree} → item is n ≡ Some (type_of k)
        → Rule is a_type c (name n) k
    pi_rule : {c : List Entry} {a b : Tree} → Has is a_type c a star → Has is a_type (term_of (erased a) ∷ c) b star
        → Rule is a_type c (pi a b) star
    all_rule : {c : List Entry} {a b : Tree} → Has is a_type c a star → Has is a_type (term_of (erased a) ∷ c) b star
        → Rule is a_type c (all a b) star
    iota_rule : {c : List Entry} {a b : Tree} → Has is a_type c a star → Has is a_type (term_of (erased a) ∷ c) b star
        → Rule is a_type c (iota a b) star
    allt_rule : {c : List Entry} {k b : Tree} → Has is a_kind c k star → Has is a_type (type_of (erased k) ∷ c) b star
        → Rule is a_type c (allt k b) star
    tlam_rule : {c : List Entry} {a b k : Tree} → Has is a_type c a star → Has is a_type (term_of (erased a) ∷ c) b k
        → Rule is a_type c (tlam a b) (kpi (erased a) k)
    xtlam_rule : {c : List Entry} {k b l : Tree} → Has is a_kind c k star → Has is a_type (type_of (erased k) ∷ c) b l
        → Rule is a_type c (xtlam k b) (kpit (erased k) l)
    at_rule : {c : List Entry} {a t b k : Tree} → Has is a_type c a (kpi b k) → Has is a_term c t b
        → Rule is a_type c (at_ a t) (put 0 (erased t) k)
    on_rule : {c : List Entry} {a b k l : Tree} → Has is a_type c a (kpit k l) → Has is a_type c b k
        → Rule is a_type c (on a b) (put 0 (erased b) l)
    eq_rule : {c : List Entry} {p q : Tree} → Rule is a_type c (eq p q) star
    -- kinds
    star_rule : {c : List Entry} → Rule is a_kind c star star
    kpi_rule : {c : List Entry} {a k : Tree} → Has is a_type c a star → Has is a_kind (term_of (erased a) ∷ c) k star
        → Rule is a_kind c (kpi a k) star
    kpit_rule : {c : List Entry} {k l : Tree} → Has is a_kind c k star → Has is a_kind (type_of (erased k) ∷ c) l star
        → Rule is a_kind c (kpit k l) star

  -- a derivation: of a form, or by conversion
  pub data Has (is : List Item) : Judgement → List Entry → Tree → Tree → Type 0 where
    by_rule : {j : Judgement} {c : List Entry} {t a : Tree} → Rule is j c t a → Has is j c t a
    converted : {j : Judgement} {c : List Entry} {t a b : Tree} → Has is j c t a → Joined (bodies is) a b → Has is j c t b

-- what an item adds to the signature
abbrev pub signed : Written → Item
signed (def_item x a t) = record { known = term_of (erased a); body = erased t }
signed (type_item x k a) = record { known = type_of (erased k); body = erased a }

-- the signature of a list of items
abbrev pub signature : List Written → List Item
signature [] = []
signature (w ∷ ws) = signed w ∷ signature ws

-- no item of the list has this name
abbrev pub IsNew : List ℕ → List Written → Type 0
IsNew x [] = Unit {0}
IsNew x (w ∷ ws) = (name_of w ≡ x → ⊥) × IsNew x ws

-- an item has a derivation, at its written type or kind
abbrev pub HasItem : List Item → Written → Type 0
HasItem is (def_item x a t) = Has is a_type [] a star × Has is a_term [] t (erased a)
HasItem is (type_item x k a) = Has is a_kind [] k star × Has is a_type [] a (erased k)

-- each item of the second list has a new name and a derivation, over the items of the first and those before it
abbrev pub DerivedAfter : List Written → List Written → Type 0
DerivedAfter es [] = Unit {0}
DerivedAfter es (w ∷ ws) = IsNew (name_of w) es × HasItem (signature es) w × DerivedAfter (es ++ (w ∷ [])) ws

-- a list of items has a derivation: each name differs from all earlier ones, and each item has one over the earlier items
abbrev pub AreDerived : List Written → Type 0
AreDerived = DerivedAfter []
