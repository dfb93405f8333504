-- What a derivation of each form holds: by `unconverted` its last rule is the form's own, up to conversion.
use Rattle.std.proofs.Common.{◌≡◌, List, ◌∷◌, true}
use Rattle.cdle_model.specs.Trees.{Tree, put, lacks}
use Rattle.cdle_model.specs.Forms.{star, kpi, kpit, pi, all, allt, at_, on, iota, eq, tlam, xtlam, lam, elam, xlam, app, eapp, tapp, pair, fst, snd, rho, phi, delta}
use Rattle.cdle_model.specs.Erasure.{erased}
use Rattle.cdle_model.specs.Steps.{Joined}
use Rattle.cdle_model.specs.Derivation.{Entry, term_of, type_of, Item, bodies, a_term, a_type, a_kind, true_pure, false_pure, Rule, lam_rule, elam_rule, xlam_rule, app_rule, eapp_rule, tapp_rule, pair_rule, fst_rule, snd_rule, rho_rule, phi_rule, delta_rule, pi_rule, all_rule, iota_rule, allt_rule, tlam_rule, xtlam_rule, at_rule, on_rule, star_rule, kpi_rule, kpit_rule, Has, by_rule}
use Rattle.cdle_model.proofs.UniqueTypes.{unconverted}

go_lam : {is : List Item} {c : List Entry} {a t r : Tree} → Rule is a_term c (lam a t) r → (x : Tree) × Has is a_type c a star × Has is a_term (term_of (erased a) ∷ c) t x
go_lam (lam_rule h k) = (_, h, k)

pub in_lam : {is : List Item} {c : List Entry} {a t r : Tree} → Has is a_term c (lam a t) r → (x : Tree) × Has is a_type c a star × Has is a_term (term_of (erased a) ∷ c) t x
in_lam h = go_lam (unconverted h).1

go_xlam : {is : List Item} {c : List Entry} {k t r : Tree} → Rule is a_term c (xlam k t) r → (x : Tree) × Has is a_kind c k star × Has is a_term (type_of (erased k) ∷ c) t x
go_xlam (xlam_rule h k) = (_, h, k)

pub in_xlam : {is : List Item} {c : List Entry} {k t r : Tree} → Has is a_term c (xlam k t) r → (x : Tree) × Has is a_kind c k star × Has is a_term (type_of (erased k) ∷ c) t x
in_xlam h = go_xlam (unconverted h).1

go_app : {is : List Item} {c : List Entry} {t u r : Tree} → Rule is a_term c (app t u) r → (x y : Tree) × Has is a_term c t (pi x y) × Has is a_term c u x
go_app (app_rule h k) = (_, _, h, k)

pub in_app : {is : List Item} {c : List Entry} {t u r : Tree} → Has is a_term c (app t u) r → (x y : Tree) × Has is a_term c t (pi x y) × Has is a_term c u x
in_app h = go_app (unconverted h).1

go_eapp : {is : List Item} {c : List Entry} {t u r : Tree} → Rule is a_term c (eapp t u) r → (x y : Tree) × Has is a_term c t (all x y) × Has is a_term c u x
go_eapp (eapp_rule h k) = (_, _, h, k)

pub in_eapp : {is : List Item} {c : List Entry} {t u r : Tree} → Has is a_term c (eapp t u) r → (x y : Tree) × Has is a_term c t (all x y) × Has is a_term c u x
in_eapp h = go_eapp (unconverted h).1

go_tapp : {is : List Item} {c : List Entry} {t u r : Tree} → Rule is a_term c (tapp t u) r → (x y : Tree) × Has is a_term c t (allt x y) × Has is a_type c u x
go_tapp (tapp_rule h k) = (_, _, h, k)

pub in_tapp : {is : List Item} {c : List Entry} {t u r : Tree} → Has is a_term c (tapp t u) r → (x y : Tree) × Has is a_term c t (allt x y) × Has is a_type c u x
in_tapp h = go_tapp (unconverted h).1

go_fst : {is : List Item} {c : List Entry} {t r : Tree} → Rule is a_term c (fst t) r → (x y : Tree) × Has is a_term c t (iota x y)
go_fst (fst_rule h) = (_, _, h)

pub in_fst : {is : List Item} {c : List Entry} {t r : Tree} → Has is a_term c (fst t) r → (x y : Tree) × Has is a_term c t (iota x y)
in_fst h = go_fst (unconverted h).1

go_snd : {is : List Item} {c : List Entry} {t r : Tree} → Rule is a_term c (snd t) r → (x y : Tree) × Has is a_term c t (iota x y)
go_snd (snd_rule h) = (_, _, h)

pub in_snd : {is : List Item} {c : List Entry} {t r : Tree} → Has is a_term c (snd t) r → (x y : Tree) × Has is a_term c t (iota x y)
in_snd h = go_snd (unconverted h).1

go_rho : {is : List Item} {c : List Entry} {q g a t r : Tree} → Rule is a_term c (rho q g a t) r → (x y : Tree) × Has is a_term c q (eq x y) × Has is a_type c a star × Joined (bodies is) (erased a) (put 0 x g) × Has is a_term c t (put 0 y g)
go_rho (rho_rule h k l m) = (_, _, h, k, l, m)

pub in_rho : {is : List Item} {c : List Entry} {q g a t r : Tree} → Has is a_term c (rho q g a t) r → (x y : Tree) × Has is a_term c q (eq x y) × Has is a_type c a star × Joined (bodies is) (erased a) (put 0 x g) × Has is a_term c t (put 0 y g)
in_rho h = go_rho (unconverted h).1

go_phi : {is : List Item} {c : List Entry} {q t p r : Tree} → Rule is a_term c (phi q t p) r → (x y a : Tree) × Has is a_term c q (eq x y) × Has is a_term c t a × Joined (bodies is) x (erased t) × Joined (bodies is) y p
go_phi (phi_rule h k l m) = (_, _, _, h, k, l, m)

pub in_phi : {is : List Item} {c : List Entry} {q t p r : Tree} → Has is a_term c (phi q t p) r → (x y a : Tree) × Has is a_term c q (eq x y) × Has is a_term c t a × Joined (bodies is) x (erased t) × Joined (bodies is) y p
in_phi h = go_phi (unconverted h).1

go_delta : {is : List Item} {c : List Entry} {a q r : Tree} → Rule is a_term c (delta a q) r → (x y : Tree) × Has is a_type c a star × Has is a_term c q (eq x y) × Joined (bodies is) x true_pure × Joined (bodies is) y false_pure
go_delta (delta_rule h k l m) = (_, _, h, k, l, m)

pub in_delta : {is : List Item} {c : List Entry} {a q r : Tree} → Has is a_term c (delta a q) r → (x y : Tree) × Has is a_type c a star × Has is a_term c q (eq x y) × Joined (bodies is) x true_pure × Joined (bodies is) y false_pure
in_delta h = go_delta (unconverted h).1

go_pair : {is : List Item} {c : List Entry} {t u b r : Tree} → Rule is a_term c (pair t u b) r → (x : Tree) × Has is a_term c t x × Has is a_type (term_of x ∷ c) b star × Has is a_term c u (put 0 (erased t) (erased b)) × Joined (bodies is) (erased t) (erased u)
go_pair (pair_rule h k l m) = (_, h, k, l, m)

pub in_pair : {is : List Item} {c : List Entry} {t u b r : Tree} → Has is a_term c (pair t u b) r → (x : Tree) × Has is a_term c t x × Has is a_type (term_of x ∷ c) b star × Has is a_term c u (put 0 (erased t) (erased b)) × Joined (bodies is) (erased t) (erased u)
in_pair h = go_pair (unconverted h).1

go_pi : {is : List Item} {c : List Entry} {a b r : Tree} → Rule is a_type c (pi a b) r → Has is a_type c a star × Has is a_type (term_of (erased a) ∷ c) b star
go_pi (pi_rule h k) = (h, k)

pub in_pi : {is : List Item} {c : List Entry} {a b r : Tree} → Has is a_type c (pi a b) r → Has is a_type c a star × Has is a_type (term_of (erased a) ∷ c) b star
in_pi h = go_pi (unconverted h).1

go_all : {is : List Item} {c : List Entry} {a b r : Tree} → Rule is a_type c (all a b) r → Has is a_type c a star × Has is a_type (term_of (erased a) ∷ c) b star
go_all (all_rule h k) = (h, k)

pub in_all : {is : List Item} {c : List Entry} {a b r : Tree} → Has is a_type c (all a b) r → Has is a_type c a star × Has is a_type (term_of (erased a) ∷ c) b star
in_all h = go_all (unconverted h).1

go_iota : {is : List Item} {c : List Entry} {a b r : Tree} → Rule is a_type c (iota a b) r → Has is a_type c a star × Has is a_type (term_of (erased a) ∷ c) b star
go_iota (iota_rule h k) = (h, k)

pub in_iota : {is : List Item} {c : List Entry} {a b r : Tree} → Has is a_type c (iota a b) r → Has is a_type c a star × Has is a_type (term_of (erased a) ∷ c) b star
in_iota h = go_iota (unconverted h).1

go_allt : {is : List Item} {c : List Entry} {k b r : Tree} → Rule is a_type c (allt k b) r → Has is a_kind c k star × Has is a_type (type_of (erased k) ∷ c) b star
go_allt (allt_rule h k) = (h, k)

pub in_allt : {is : List Item} {c : List Entry} {k b r : Tree} → Has is a_type c (allt k b) r → Has is a_kind c k star × Has is a_type (type_of (erased k) ∷ c) b star
in_allt h = go_allt (unconverted h).1

go_tlam : {is : List Item} {c : List Entry} {a b r : Tree} → Rule is a_type c (tlam a b) r → (x : Tree) × Has is a_type c a star × Has is a_type (term_of (erased a) ∷ c) b x
go_tlam (tlam_rule h k) = (_, h, k)

pub in_tlam : {is : List Item} {c : List Entry} {a b r : Tree} → Has is a_type c (tlam a b) r → (x : Tree) × Has is a_type c a star × Has is a_type (term_of (erased a) ∷ c) b x
in_tlam h = go_tlam (unconverted h).1

go_xtlam : {is : List Item} {c : List Entry} {k b r : Tree} → Rule is a_type c (xtlam k b) r → (x : Tree) × Has is a_kind c k star × Has is a_type (type_of (erased k) ∷ c) b x
go_xtlam (xtlam_rule h k) = (_, h, k)

pub in_xtlam : {is : List Item} {c : List Entry} {k b r : Tree} → Has is a_type c (xtlam k b) r → (x : Tree) × Has is a_kind c k star × Has is a_type (type_of (erased k) ∷ c) b x
in_xtlam h = go_xtlam (unconverted h).1

go_at : {is : List Item} {c : List Entry} {a t r : Tree} → Rule is a_type c (at_ a t) r → (x y : Tree) × Has is a_type c a (kpi x y) × Has is a_term c t x
go_at (at_rule h k) = (_, _, h, k)

pub in_at : {is : List Item} {c : List Entry} {a t r : Tree} → Has is a_type c (at_ a t) r → (x y : Tree) × Has is a_type c a (kpi x y) × Has is a_term c t x
in_at h = go_at (unconverted h).1

go_on : {is : List Item} {c : List Entry} {a b r : Tree} → Rule is a_type c (on a b) r → (x y : Tree) × Has is a_type c a (kpit x y) × Has is a_type c b x
go_on (on_rule h k) = (_, _, h, k)

pub in_on : {is : List Item} {c : List Entry} {a b r : Tree} → Has is a_type c (on a b) r → (x y : Tree) × Has is a_type c a (kpit x y) × Has is a_type c b x
in_on h = go_on (unconverted h).1

go_kpi : {is : List Item} {c : List Entry} {a k r : Tree} → Rule is a_kind c (kpi a k) r → Has is a_type c a star × Has is a_kind (term_of (erased a) ∷ c) k star
go_kpi (kpi_rule h k) = (h, k)

pub in_kpi : {is : List Item} {c : List Entry} {a k r : Tree} → Has is a_kind c (kpi a k) r → Has is a_type c a star × Has is a_kind (term_of (erased a) ∷ c) k star
in_kpi h = go_kpi (unconverted h).1

go_kpit : {is : List Item} {c : List Entry} {k l r : Tree} → Rule is a_kind c (kpit k l) r → Has is a_kind c k star × Has is a_kind (type_of (erased k) ∷ c) l star
go_kpit (kpit_rule h k) = (h, k)

pub in_kpit : {is : List Item} {c : List Entry} {k l r : Tree} → Has is a_kind c (kpit k l) r → Has is a_kind c k star × Has is a_kind (type_of (erased k) ∷ c) l star
in_kpit h = go_kpit (unconverted h).1

go_elam : {is : List Item} {c : List Entry} {a t r : Tree} → Rule is a_term c (elam a t) r → (x : Tree) × Has is a_type c a star × Has is a_term (term_of (erased a) ∷ c) t x × (lacks 0 (erased t) ≡ true)
go_elam (elam_rule h k p) = (_, h, k, p)

pub in_elam : {is : List Item} {c : List Entry} {a t r : Tree} → Has is a_term c (elam a t) r → (x : Tree) × Has is a_type c a star × Has is a_term (term_of (erased a) ∷ c) t x × (lacks 0 (erased t) ≡ true)
in_elam h = go_elam (unconverted h).1

-- the third part of a kind's judgement says nothing
pub kind-star : {is : List Item} {c : List Entry} {k a : Tree} → Has is a_kind c k a → Has is a_kind c k star
kind-star h = go (unconverted h).1
  where
    go : {is : List Item} {c : List Entry} {k a : Tree} → Rule is a_kind c k a → Has is a_kind c k star
    go star_rule = by_rule star_rule
    go (kpi_rule h k) = by_rule (kpi_rule h k)
    go (kpit_rule h k) = by_rule (kpit_rule h k)
