-- A derivation under a substitution of terms and types for the variables of its context is a derivation; so is one in a context of joined entries.
use Rattle.std.proofs.Common.{◌≡◌, ℕ, zero, suc, true, List, ◌∷◌, Some, option_map, refl, sym, ap, ap₂, ◌∙◌, subst, arith}
use Rattle.cdle_model.specs.Trees.{of_pure, of_term, of_type, eq_of, beta_of, phi_of, guide_of, Tree, var, name, leaf, unary, fun, apply, binary, bind, shift, lacks}
use Rattle.cdle_model.specs.Erasure.{erased}
use Rattle.cdle_model.specs.Steps.{Joined}
use Rattle.cdle_model.specs.Derivation.{Entry, term_of, type_of, raised, entry, Item, bodies, Judgement, a_term, a_type, Rule, var_term, name_term, lam_rule, elam_rule, xlam_rule, app_rule, eapp_rule, tapp_rule, pair_rule, fst_rule, snd_rule, beta_rule, rho_rule, phi_rule, delta_rule, var_type, name_type, pi_rule, all_rule, iota_rule, allt_rule, tlam_rule, xtlam_rule, at_rule, on_rule, eq_rule, star_rule, kpi_rule, kpit_rule, Has, by_rule, converted}
use Rattle.cdle_model.proofs.Renaming.{ren, lift, sub, sub-same, lift-var, sub-var, sub-lift-suc}
use Rattle.cdle_model.proofs.Shifts.{shift-one, sub-put}
use Rattle.cdle_model.proofs.Rewriting.{linked-turn, linked-map}
use Rattle.cdle_model.proofs.Closed.{sub-closed}
use Rattle.cdle_model.proofs.Equality.{step-sub}
use Rattle.cdle_model.proofs.UniqueTypes.{SameContext, raised-from, SameAt, entry-at}
use Rattle.cdle_model.proofs.MissingVariable.{lacks-sub}
use Rattle.cdle_model.proofs.Signatures.{ClosedItems}
use Rattle.cdle_model.proofs.ErasedSubstitution.{sub_written, erased-lift, erased-sub}
use Rattle.cdle_model.proofs.RenamedDerivations.{renamed, Renames, has-ren}
use mathlib.Core.Path.{fun_ext}

-- what is put for a variable has the type or kind of its entry
abbrev pub erasures : (ℕ → Tree) → ℕ → Tree
erasures s i = erased (s i)

abbrev pub put_entry : (ℕ → Tree) → Entry → Entry
put_entry s (term_of a) = term_of (sub (erasures s) a)
put_entry s (type_of a) = type_of (sub (erasures s) a)

abbrev pub Given : List Item → List Entry → Tree → Entry → Type 0
Given is d t (term_of a) = Has is a_term d t a
Given is d t (type_of a) = Has is a_type d t a

abbrev pub Puts : List Item → (ℕ → Tree) → List Entry → List Entry → Type 0
Puts is s c d = (i : ℕ) (e : Entry) → entry c i ≡ Some e → Given is d (s i) (put_entry s e)

sub-erasures-lift : (s : ℕ → Tree) (a : Tree) → sub (erasures (lift s)) a ≡ sub (lift (erasures s)) a
sub-erasures-lift s a = sub-same (erased-lift s) a

put-raised : (s : ℕ → Tree) (a : Tree) → sub (erasures (lift s)) (shift 0 1 a) ≡ shift 0 1 (sub (erasures s) a)
put-raised s a = sub-erasures-lift s (shift 0 1 a) ∙ ap (sub (lift (erasures s))) (shift-one a) ∙ sub-lift-suc (erasures s) a ∙ sym (shift-one (sub (erasures s) a))

raised-renamed : (e : Entry) → raised e ≡ renamed suc e
raised-renamed (term_of a) = ap term_of (shift-one a)
raised-renamed (type_of a) = ap type_of (shift-one a)

pub renames-suc : (d : List Entry) (e : Entry) → Renames suc d (e ∷ d)
renames-suc d e i f h = ap (option_map raised) h ∙ ap Some (raised-renamed f)

module _ (is : List Item) (g : ClosedItems is) where
  given-raised : (d : List Entry) (e f : Entry) (s : ℕ → Tree) (t : Tree) → Given is d t (put_entry s e) → Given is (f ∷ d) (ren suc t) (put_entry (lift s) (raised e))
  given-raised d (term_of a) f s t h = rw (put-raised s a, shift-one (sub (erasures s) a)) (has-ren is g suc (renames-suc d f) h)
  given-raised d (type_of a) f s t h = rw (put-raised s a, shift-one (sub (erasures s) a)) (has-ren is g suc (renames-suc d f) h)

  given-new : (d : List Entry) (e : Entry) (s : ℕ → Tree) → Given is (put_entry s e ∷ d) (var 0) (put_entry (lift s) (raised e))
  given-new d (term_of a) s = by_rule (var_term (ap (λ x. Some (term_of x)) (sym (put-raised s a))))
  given-new d (type_of a) s = by_rule (var_type (ap (λ x. Some (type_of x)) (sym (put-raised s a))))

  pub lift-puts : (s : ℕ → Tree) (c d : List Entry) (e : Entry) → Puts is s c d → Puts is (lift s) (e ∷ c) (put_entry s e ∷ d)
  lift-puts s c d e w zero f h = let k : raised e ≡ f = grind arith in rw (← k) (given-new d e s)
  lift-puts s c d e w (suc i) f h =
      let (m, p, q) = raised-from (entry c i) f h in
      subst (λ x. Given is (put_entry s e ∷ d) (ren suc (s i)) (put_entry (lift s) x)) q (given-raised d m (put_entry s e) s (s i) (w i m p))

  joined-erasures : (s : ℕ → Tree) {p q : Tree} → Joined (bodies is) p q → Joined (bodies is) (sub (erasures s) p) (sub (erasures s) q)
  joined-erasures s h = linked-map (sub (erasures s)) (λ _ _. step-sub (bodies is) g.signed_bodies (erasures s)) h

  pub lacks-put : (s : ℕ → Tree) (t : Tree) → lacks 0 (erased t) ≡ true → lacks 0 (erased (sub_written (lift s) t)) ≡ true
  lacks-put s t h = ap (lacks 0) (erased-sub (lift s) t ∙ sub-erasures-lift s (erased t)) ∙ lacks-sub (erasures s) (erased t) h

  mutual
    pub has-sub : {j : Judgement} {c d : List Entry} {t a : Tree} (s : ℕ → Tree) → Puts is s c d → Has is j c t a → Has is j d (sub_written s t) (sub (erasures s) a)
    has-sub s w (by_rule h) = rule-sub s w h
    has-sub s w (converted h k) = converted (has-sub s w h) (joined-erasures s k)

    rule-sub : {j : Judgement} {c d : List Entry} {t a : Tree} (s : ℕ → Tree) → Puts is s c d → Rule is j c t a → Has is j d (sub_written s t) (sub (erasures s) a)
    rule-sub s w (var_term {i = i} {a = a} e) =
        w i (term_of a) e
    rule-sub s w (name_term {n = n} {a = a} e) =
        rw (sub-closed (erasures s) a (g.closed_types n a e)) (by_rule (name_term e))
    rule-sub {c = c} {d = d} s w (lam_rule {a = a} {b = b} h k) =
        rw (← erased-sub s a) (by_rule (lam_rule (has-sub s w h) (rw (sub-erasures-lift s b, ← erased-sub s a) at (has-sub {d = term_of (sub (erasures s) (erased a)) ∷ d} (lift s) (lift-puts s c d (term_of (erased a)) w) k))))
    rule-sub {c = c} {d = d} s w (elam_rule {a = a} {t = t} {b = b} h k p) =
        rw (← erased-sub s a) (by_rule (elam_rule (has-sub s w h) (rw (sub-erasures-lift s b, ← erased-sub s a) at (has-sub {d = term_of (sub (erasures s) (erased a)) ∷ d} (lift s) (lift-puts s c d (term_of (erased a)) w) k)) (lacks-put s t p)))
    rule-sub {c = c} {d = d} s w (xlam_rule {k = a} {b = b} h k) =
        rw (← erased-sub s a) (by_rule (xlam_rule (has-sub s w h) (rw (sub-erasures-lift s b, ← erased-sub s a) at (has-sub {d = type_of (sub (erasures s) (erased a)) ∷ d} (lift s) (lift-puts s c d (type_of (erased a)) w) k))))
    rule-sub s w (app_rule {u = u} {b = b} h k) =
        rw (sub-put (erasures s) (erased u) b, ← erased-sub s u) (by_rule (app_rule (has-sub s w h) (has-sub s w k)))
    rule-sub s w (eapp_rule {u = u} {b = b} h k) =
        rw (sub-put (erasures s) (erased u) b, ← erased-sub s u) (by_rule (eapp_rule (has-sub s w h) (has-sub s w k)))
    rule-sub s w (tapp_rule {a = u} {b = b} h k) =
        rw (sub-put (erasures s) (erased u) b, ← erased-sub s u) (by_rule (tapp_rule (has-sub s w h) (has-sub s w k)))
    rule-sub {c = c} {d = d} s w (pair_rule {t = t} {u = u} {a = a} {b = b} h k l p) =
        rw (← sub-erasures-lift s (erased b), ← erased-sub (lift s) b) (by_rule (pair_rule (has-sub s w h) (has-sub (lift s) (lift-puts s c d (term_of a) w) k)
        (rw (sub-put (erasures s) (erased t) (erased b), ← erased-sub s t, ← sub-erasures-lift s (erased b), ← erased-sub (lift s) b) at (has-sub {d = d} s w l)) (rw (← erased-sub s t, ← erased-sub s u) at (joined-erasures s p))))
    rule-sub s w (fst_rule h) =
        by_rule (fst_rule (has-sub s w h))
    rule-sub s w (snd_rule {t = t} {b = b} h) =
        rw (sub-put (erasures s) (erased t) b, ← erased-sub s t) (by_rule (snd_rule (has-sub s w h)))
    rule-sub s w beta_rule =
        by_rule (beta_rule)
    rule-sub {d = d} s w (rho_rule {q = q} {g = b} {a = a} {t = t} {l = x} {r = y} h k l p) =
        rw (← erased-sub s a) (by_rule (rho_rule (has-sub s w h) (has-sub s w k) (rw (← erased-sub s a, sub-put (erasures s) x b) at (joined-erasures s l)) (rw (sub-put (erasures s) y b) at (has-sub {d = d} s w p))))
    rule-sub s w (phi_rule {t = t} h k l p) =
        by_rule (phi_rule (has-sub s w h) (has-sub s w k) (rw (← erased-sub s t) at (joined-erasures s l)) (joined-erasures s p))
    rule-sub s w (delta_rule {a = a} h k l p) =
        rw (← erased-sub s a) (by_rule (delta_rule (has-sub s w h) (has-sub s w k) (joined-erasures s l) (joined-erasures s p)))
    rule-sub s w (var_type {i = i} {k = a} e) =
        w i (type_of a) e
    rule-sub s w (name_type {n = n} {k = a} e) =
        rw (sub-closed (erasures s) a (g.closed_kinds n a e)) (by_rule (name_type e))
    rule-sub {c = c} {d = d} s w (pi_rule {a = a} h k) =
        by_rule (pi_rule (has-sub s w h) (rw (← erased-sub s a) at (has-sub {d = term_of (sub (erasures s) (erased a)) ∷ d} (lift s) (lift-puts s c d (term_of (erased a)) w) k)))
    rule-sub {c = c} {d = d} s w (all_rule {a = a} h k) =
        by_rule (all_rule (has-sub s w h) (rw (← erased-sub s a) at (has-sub {d = term_of (sub (erasures s) (erased a)) ∷ d} (lift s) (lift-puts s c d (term_of (erased a)) w) k)))
    rule-sub {c = c} {d = d} s w (iota_rule {a = a} h k) =
        by_rule (iota_rule (has-sub s w h) (rw (← erased-sub s a) at (has-sub {d = term_of (sub (erasures s) (erased a)) ∷ d} (lift s) (lift-puts s c d (term_of (erased a)) w) k)))
    rule-sub {c = c} {d = d} s w (kpi_rule {a = a} h k) =
        by_rule (kpi_rule (has-sub s w h) (rw (← erased-sub s a) at (has-sub {d = term_of (sub (erasures s) (erased a)) ∷ d} (lift s) (lift-puts s c d (term_of (erased a)) w) k)))
    rule-sub {c = c} {d = d} s w (allt_rule {k = a} h k) =
        by_rule (allt_rule (has-sub s w h) (rw (← erased-sub s a) at (has-sub {d = type_of (sub (erasures s) (erased a)) ∷ d} (lift s) (lift-puts s c d (type_of (erased a)) w) k)))
    rule-sub {c = c} {d = d} s w (kpit_rule {k = a} h k) =
        by_rule (kpit_rule (has-sub s w h) (rw (← erased-sub s a) at (has-sub {d = type_of (sub (erasures s) (erased a)) ∷ d} (lift s) (lift-puts s c d (type_of (erased a)) w) k)))
    rule-sub {c = c} {d = d} s w (tlam_rule {a = a} {k = b} h k) =
        rw (← erased-sub s a) (by_rule (tlam_rule (has-sub s w h) (rw (sub-erasures-lift s b, ← erased-sub s a) at (has-sub {d = term_of (sub (erasures s) (erased a)) ∷ d} (lift s) (lift-puts s c d (term_of (erased a)) w) k))))
    rule-sub {c = c} {d = d} s w (xtlam_rule {k = a} {l = b} h k) =
        rw (← erased-sub s a) (by_rule (xtlam_rule (has-sub s w h) (rw (sub-erasures-lift s b, ← erased-sub s a) at (has-sub {d = type_of (sub (erasures s) (erased a)) ∷ d} (lift s) (lift-puts s c d (type_of (erased a)) w) k))))
    rule-sub s w (at_rule {t = u} {k = b} h k) =
        rw (sub-put (erasures s) (erased u) b, ← erased-sub s u) (by_rule (at_rule (has-sub s w h) (has-sub s w k)))
    rule-sub s w (on_rule {b = u} {l = b} h k) =
        rw (sub-put (erasures s) (erased u) b, ← erased-sub s u) (by_rule (on_rule (has-sub s w h) (has-sub s w k)))
    rule-sub s w eq_rule =
        by_rule (eq_rule)
    rule-sub s w star_rule =
        by_rule (star_rule)

under-var : (e : Tree) → sub_written (lift var) e ≡ sub_written var e
under-var e = ap (λ s. sub_written s e) (fun_ext lift-var)

under-sub_var : (e : Tree) → sub (lift var) e ≡ e
under-sub_var e = sub-same lift-var e ∙ sub-var e

pub sub_written-var : (e : Tree) → sub_written var e ≡ e
sub_written-var (var i) = refl
sub_written-var (name n) = refl
sub_written-var (leaf l) = refl
sub_written-var (unary j p) = ap (unary j) (sub_written-var p)
sub_written-var (fun c p) = sub-var (fun c p)
sub_written-var (apply of_pure p q) = sub-var (apply of_pure p q)
sub_written-var (apply of_term p q) = ap₂ (apply of_term) (sub_written-var p) (sub_written-var q)
sub_written-var (apply of_type p q) = ap₂ (apply of_type) (sub_written-var p) (sub_written-var q)
sub_written-var (binary eq_of p q) = ap₂ (binary eq_of) (sub-var p) (sub-var q)
sub_written-var (binary beta_of p q) = ap₂ (binary beta_of) (sub-var p) (sub-var q)
sub_written-var (binary phi_of p q) = ap₂ (binary phi_of) (sub_written-var p) (sub-var q)
sub_written-var (binary j p q) = ap₂ (binary j) (sub_written-var p) (sub_written-var q)
sub_written-var (bind guide_of p q) = ap₂ (bind guide_of) (sub_written-var p) (under-sub_var q)
sub_written-var (bind f p q) = ap₂ (bind f) (sub_written-var p) (under-var q ∙ sub_written-var q)

module _ (is : List Item) (g : ClosedItems is) where
  given-same : (d : List Entry) (i : ℕ) (e : Entry) → SameAt is g.signed_bodies e (entry d i) → Given is d (var i) (put_entry var e)
  given-same d i (term_of a) (term_of b, p, h) = rw (sub-var a) (converted (by_rule (var_term p)) (linked-turn h))
  given-same d i (type_of a) (type_of b, p, h) = rw (sub-var a) (converted (by_rule (var_type p)) (linked-turn h))
  given-same d i (term_of a) (type_of b, p, h) = absurd h
  given-same d i (type_of a) (term_of b, p, h) = absurd h

  -- a derivation in a context of joined entries
  pub has-same : {j : Judgement} {c d : List Entry} {t a : Tree} → SameContext (bodies is) c d → Has is j c t a → Has is j d t a
  has-same {j = j} {c = c} {d = d} {t = t} {a = a} w h =
      let k : Has is j d (sub_written var t) (sub (erasures var) a) = has-sub is g var (λ i e x. given-same d i e (entry-at is g.signed_bodies c d i e w x)) h in
      rw (sub_written-var t, sub-var a) at k
