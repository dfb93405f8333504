-- A renamed derivation is a derivation.
use Rattle.std.proofs.Common.{◌≡◌, ℕ, zero, suc, true, List, ◌∷◌, Some, option_map, sym, ap, ◌∙◌, arith}
use Rattle.cdle_model.specs.Trees.{Tree, lacks}
use Rattle.cdle_model.specs.Erasure.{erased}
use Rattle.cdle_model.specs.Steps.{Joined}
use Rattle.cdle_model.specs.Derivation.{Entry, term_of, type_of, raised, entry, Item, bodies, Judgement, Rule, var_term, name_term, lam_rule, elam_rule, xlam_rule, app_rule, eapp_rule, tapp_rule, pair_rule, fst_rule, snd_rule, beta_rule, rho_rule, phi_rule, delta_rule, var_type, name_type, pi_rule, all_rule, iota_rule, allt_rule, tlam_rule, xtlam_rule, at_rule, on_rule, eq_rule, star_rule, kpi_rule, kpit_rule, Has, by_rule, converted}
use Rattle.cdle_model.proofs.Renaming.{up, ren, ren-up-suc}
use Rattle.cdle_model.proofs.Shifts.{shift-one, ren-put}
use Rattle.cdle_model.proofs.Rewriting.{linked-map}
use Rattle.cdle_model.proofs.Closed.{ren-closed}
use Rattle.cdle_model.proofs.Equality.{step-ren}
use Rattle.cdle_model.proofs.UniqueTypes.{raised-from}
use Rattle.cdle_model.proofs.MissingVariable.{lacks-ren}
use Rattle.cdle_model.proofs.Signatures.{ClosedItems}
use Rattle.cdle_model.proofs.ErasedSubstitution.{erased-ren}

abbrev pub renamed : (ℕ → ℕ) → Entry → Entry
renamed r (term_of a) = term_of (ren r a)
renamed r (type_of a) = type_of (ren r a)

renamed-up : (r : ℕ → ℕ) (e : Entry) → raised (renamed r e) ≡ renamed (up r) (raised e)
renamed-up r (term_of a) = ap term_of (shift-one (ren r a) ∙ sym (ren-up-suc r a) ∙ sym (ap (ren (up r)) (shift-one a)))
renamed-up r (type_of a) = ap type_of (shift-one (ren r a) ∙ sym (ren-up-suc r a) ∙ sym (ap (ren (up r)) (shift-one a)))

-- the renaming leads from the entries of one context to those of the other
abbrev pub Renames : (ℕ → ℕ) → List Entry → List Entry → Type 0
Renames r c d = (i : ℕ) (e : Entry) → entry c i ≡ Some e → entry d (r i) ≡ Some (renamed r e)

pub up-renames : (r : ℕ → ℕ) (c d : List Entry) (e : Entry) → Renames r c d → Renames (up r) (e ∷ c) (renamed r e ∷ d)
up-renames r c d e w zero f h = let k : raised e ≡ f = grind arith in rw (← k) (ap Some (renamed-up r e))
up-renames r c d e w (suc i) f h =
    let (m, p, q) = raised-from (entry c i) f h in
    ap (option_map raised) (w i m p) ∙ ap Some (renamed-up r m ∙ ap (renamed (up r)) q)

module _ (is : List Item) (g : ClosedItems is) where
  joined-ren : (r : ℕ → ℕ) {p q : Tree} → Joined (bodies is) p q → Joined (bodies is) (ren r p) (ren r q)
  joined-ren r h = linked-map (ren r) (λ _ _. step-ren (bodies is) g.signed_bodies r) h

  lacks-renamed : (r : ℕ → ℕ) (t : Tree) → lacks 0 (erased t) ≡ true → lacks 0 (erased (ren (up r) t)) ≡ true
  lacks-renamed r t h = ap (lacks 0) (erased-ren (up r) t) ∙ lacks-ren r (erased t) h

  mutual
    pub has-ren : {j : Judgement} {c d : List Entry} {t a : Tree} (r : ℕ → ℕ) → Renames r c d → Has is j c t a → Has is j d (ren r t) (ren r a)
    has-ren r w (by_rule h) = by_rule (rule-ren r w h)
    has-ren r w (converted h k) = converted (has-ren r w h) (joined-ren r k)

    rule-ren : {j : Judgement} {c d : List Entry} {t a : Tree} (r : ℕ → ℕ) → Renames r c d → Rule is j c t a → Rule is j d (ren r t) (ren r a)
    rule-ren r w (var_term {i = i} {a = a} e) = var_term (w i (term_of a) e)
    rule-ren r w (name_term {n = n} {a = a} e) = rw (ren-closed r a (g.closed_types n a e)) (name_term e)
    rule-ren {c = c} {d = d} r w (lam_rule {a = a} h k) = rw (← erased-ren r a) (lam_rule (has-ren r w h) (rw (← erased-ren r a) at (has-ren {d = term_of (ren r (erased a)) ∷ d} (up r) (up-renames r c d (term_of (erased a)) w) k)))
    rule-ren {c = c} {d = d} r w (elam_rule {a = a} {t = t} h k p) = rw (← erased-ren r a) (elam_rule (has-ren r w h) (rw (← erased-ren r a) at (has-ren {d = term_of (ren r (erased a)) ∷ d} (up r) (up-renames r c d (term_of (erased a)) w) k)) (lacks-renamed r t p))
    rule-ren {c = c} {d = d} r w (xlam_rule {k = a} h k) = rw (← erased-ren r a) (xlam_rule (has-ren r w h) (rw (← erased-ren r a) at (has-ren {d = type_of (ren r (erased a)) ∷ d} (up r) (up-renames r c d (type_of (erased a)) w) k)))
    rule-ren r w (app_rule {u = u} {b = b} h k) = rw (ren-put r (erased u) b, ← erased-ren r u) (app_rule (has-ren r w h) (has-ren r w k))
    rule-ren r w (eapp_rule {u = u} {b = b} h k) = rw (ren-put r (erased u) b, ← erased-ren r u) (eapp_rule (has-ren r w h) (has-ren r w k))
    rule-ren r w (tapp_rule {a = u} {b = b} h k) = rw (ren-put r (erased u) b, ← erased-ren r u) (tapp_rule (has-ren r w h) (has-ren r w k))
    rule-ren {c = c} {d = d} r w (pair_rule {t = t} {u = u} {a = a} {b = b} h k l p) =
        rw (← erased-ren (up r) b) (pair_rule (has-ren r w h) (has-ren (up r) (up-renames r c d (term_of a) w) k)
        (rw (ren-put r (erased t) (erased b), ← erased-ren r t, ← erased-ren (up r) b) at (has-ren {d = d} r w l)) (rw (← erased-ren r t, ← erased-ren r u) at (joined-ren r p)))
    rule-ren r w (fst_rule h) = fst_rule (has-ren r w h)
    rule-ren r w (snd_rule {t = t} {b = b} h) = rw (ren-put r (erased t) b, ← erased-ren r t) (snd_rule (has-ren r w h))
    rule-ren r w beta_rule = beta_rule
    rule-ren {d = d} r w (rho_rule {q = q} {g = b} {a = a} {t = t} {l = x} {r = y} h k l p) =
        rw (← erased-ren r a) (rho_rule (has-ren r w h) (has-ren r w k) (rw (← erased-ren r a, ren-put r x b) at (joined-ren r l)) (rw (ren-put r y b) at (has-ren {d = d} r w p)))
    rule-ren r w (phi_rule {t = t} h k l p) = phi_rule (has-ren r w h) (has-ren r w k) (rw (← erased-ren r t) at (joined-ren r l)) (joined-ren r p)
    rule-ren r w (delta_rule {a = a} h k l p) = rw (← erased-ren r a) (delta_rule (has-ren r w h) (has-ren r w k) (joined-ren r l) (joined-ren r p))
    rule-ren r w (var_type {i = i} {k = a} e) = var_type (w i (type_of a) e)
    rule-ren r w (name_type {n = n} {k = a} e) = rw (ren-closed r a (g.closed_kinds n a e)) (name_type e)
    rule-ren {c = c} {d = d} r w (pi_rule {a = a} h k) = pi_rule (has-ren r w h) (rw (← erased-ren r a) at (has-ren {d = term_of (ren r (erased a)) ∷ d} (up r) (up-renames r c d (term_of (erased a)) w) k))
    rule-ren {c = c} {d = d} r w (all_rule {a = a} h k) = all_rule (has-ren r w h) (rw (← erased-ren r a) at (has-ren {d = term_of (ren r (erased a)) ∷ d} (up r) (up-renames r c d (term_of (erased a)) w) k))
    rule-ren {c = c} {d = d} r w (iota_rule {a = a} h k) = iota_rule (has-ren r w h) (rw (← erased-ren r a) at (has-ren {d = term_of (ren r (erased a)) ∷ d} (up r) (up-renames r c d (term_of (erased a)) w) k))
    rule-ren {c = c} {d = d} r w (kpi_rule {a = a} h k) = kpi_rule (has-ren r w h) (rw (← erased-ren r a) at (has-ren {d = term_of (ren r (erased a)) ∷ d} (up r) (up-renames r c d (term_of (erased a)) w) k))
    rule-ren {c = c} {d = d} r w (allt_rule {k = a} h k) = allt_rule (has-ren r w h) (rw (← erased-ren r a) at (has-ren {d = type_of (ren r (erased a)) ∷ d} (up r) (up-renames r c d (type_of (erased a)) w) k))
    rule-ren {c = c} {d = d} r w (kpit_rule {k = a} h k) = kpit_rule (has-ren r w h) (rw (← erased-ren r a) at (has-ren {d = type_of (ren r (erased a)) ∷ d} (up r) (up-renames r c d (type_of (erased a)) w) k))
    rule-ren {c = c} {d = d} r w (tlam_rule {a = a} h k) = rw (← erased-ren r a) (tlam_rule (has-ren r w h) (rw (← erased-ren r a) at (has-ren {d = term_of (ren r (erased a)) ∷ d} (up r) (up-renames r c d (term_of (erased a)) w) k)))
    rule-ren {c = c} {d = d} r w (xtlam_rule {k = a} h k) = rw (← erased-ren r a) (xtlam_rule (has-ren r w h) (rw (← erased-ren r a) at (has-ren {d = type_of (ren r (erased a)) ∷ d} (up r) (up-renames r c d (type_of (erased a)) w) k)))
    rule-ren r w (at_rule {t = u} {k = b} h k) = rw (ren-put r (erased u) b, ← erased-ren r u) (at_rule (has-ren r w h) (has-ren r w k))
    rule-ren r w (on_rule {b = u} {l = b} h k) = rw (ren-put r (erased u) b, ← erased-ren r u) (on_rule (has-ren r w h) (has-ren r w k))
    rule-ren r w eq_rule = eq_rule
    rule-ren r w star_rule = star_rule
