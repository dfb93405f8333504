-- The forms of scoped trees as patterns; `s_` stands before the name that Core's form of that kind has. And the forms of items.
use Rattle.std.specs.Prelude.{ℕ, ◌+◌, List}
use Rattle.source_model.specs.Source.{Span, star_of, none_of, fst_of, snd_of, flip_of, app_of, eapp_of, tapp_of, at_of, on_of, pair_of, beta_of, delta_of, chi_of, eq_of, phi_of, rho_of, group_of, pi_of, all_of, allt_of, tlam_of, xtlam_of, iota_of, kpi_of, kpit_of, lam_of, elam_of, xlam_of, unclassed_of, guide_of, use_of, leaf, one, two, bind, def_item, type_item}
use Rattle.scope_model.specs.Scoped.{Reference, Scoped, ScopedItem}

-- the sign at which a form begins: a Greek letter, or a bracket
abbrev pub letter : Span → Span
letter s = record { from = s.from; to = s.from + 2 }

abbrev pub bracket : Span → Span
bracket s = record { from = s.from; to = s.from + 1 }

-- a part that is left out
pattern abbrev pub left_out : Span → Scoped
left_out s = leaf s none_of

-- ---- terms

pattern abbrev pub s_name : Span → Reference → Scoped
s_name s n = use_of s n

pattern abbrev pub s_lam : Span → Unit {0} → Scoped → Scoped → Scoped
s_lam s x a t = bind s lam_of x a t

pattern abbrev pub s_elam : Span → Unit {0} → Scoped → Scoped → Scoped
s_elam s x a t = bind s elam_of x a t

pattern abbrev pub s_xlam : Span → Unit {0} → Scoped → Scoped → Scoped
s_xlam s x k t = bind s xlam_of x k t

-- `Λ x . t` whose x is not used, and so may be of either class
pattern abbrev pub s_unclassed : Span → Unit {0} → Scoped → Scoped → Scoped
s_unclassed s x a t = bind s unclassed_of x a t

pattern abbrev pub s_app : Span → Scoped → Scoped → Scoped
s_app s t u = two s app_of t u

pattern abbrev pub s_eapp : Span → Scoped → Scoped → Scoped
s_eapp s t u = two s eapp_of t u

pattern abbrev pub s_tapp : Span → Scoped → Scoped → Scoped
s_tapp s t a = two s tapp_of t a

pattern abbrev pub s_pair : Span → Scoped → Scoped → Scoped
s_pair s t u = two s pair_of t u

pattern abbrev pub s_fst : Span → Scoped → Scoped
s_fst s t = one s fst_of t

pattern abbrev pub s_snd : Span → Scoped → Scoped
s_snd s t = one s snd_of t

-- `β<s>{p}`, each of which may be left out
pattern abbrev pub s_beta : Span → Scoped → Scoped → Scoped
s_beta s x p = two s beta_of x p

-- the proof, the guide over its variable, the part
pattern abbrev pub s_rho : Span → Span → Unit {0} → Scoped → Scoped → Scoped → Scoped
s_rho s r x q g t = two s rho_of (bind r guide_of x q g) t

-- the proof, the part, the kept term
pattern abbrev pub s_phi : Span → Span → Scoped → Scoped → Scoped → Scoped
s_phi s r q t p = two s phi_of (two r group_of q t) p

pattern abbrev pub s_delta : Span → Scoped → Scoped → Scoped
s_delta s a q = two s delta_of a q

pattern abbrev pub s_chi : Span → Scoped → Scoped → Scoped
s_chi s a t = two s chi_of a t

pattern abbrev pub s_flip : Span → Scoped → Scoped
s_flip s q = one s flip_of q

-- ---- types

pattern abbrev pub s_pi : Span → Unit {0} → Scoped → Scoped → Scoped
s_pi s x a b = bind s pi_of x a b

pattern abbrev pub s_all : Span → Unit {0} → Scoped → Scoped → Scoped
s_all s x a b = bind s all_of x a b

pattern abbrev pub s_allt : Span → Unit {0} → Scoped → Scoped → Scoped
s_allt s x k b = bind s allt_of x k b

pattern abbrev pub s_tlam : Span → Unit {0} → Scoped → Scoped → Scoped
s_tlam s x a b = bind s tlam_of x a b

pattern abbrev pub s_xtlam : Span → Unit {0} → Scoped → Scoped → Scoped
s_xtlam s x k b = bind s xtlam_of x k b

pattern abbrev pub s_iota : Span → Unit {0} → Scoped → Scoped → Scoped
s_iota s x a b = bind s iota_of x a b

pattern abbrev pub s_at : Span → Scoped → Scoped → Scoped
s_at s a t = two s at_of a t

pattern abbrev pub s_on : Span → Scoped → Scoped → Scoped
s_on s a b = two s on_of a b

pattern abbrev pub s_eq : Span → Scoped → Scoped → Scoped
s_eq s t u = two s eq_of t u

-- ---- kinds

pattern abbrev pub s_star : Span → Scoped
s_star s = leaf s star_of

pattern abbrev pub s_kpi : Span → Unit {0} → Scoped → Scoped → Scoped
s_kpi s x a k = bind s kpi_of x a k

pattern abbrev pub s_kpit : Span → Unit {0} → Scoped → Scoped → Scoped
s_kpit s x k l = bind s kpit_of x k l

-- ---- items

-- a definition of a term with its type, and of a type with its kind
pattern abbrev pub s_def : Span → List ℕ → Scoped → Scoped → ScopedItem
s_def s x a t = def_item s x a t

pattern abbrev pub s_type : Span → List ℕ → Scoped → Scoped → ScopedItem
s_type s x k a = type_item s x k a
