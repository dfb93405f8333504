-- What a tree of a class is: a word, or a form of the class's table, whose parts fit their places.
use Rattle.std.proofs.Common.{◌≡◌, true, List, [], ◌∷◌, Option, Some, None, refl}
use Rattle.cdle_model.specs.declared.grammar.Sort.{Sort}
use Rattle.cdle_model.specs.declared.grammar.Sort.TheVariants.{OfTerm, OfType}
use Rattle.cdle_model.specs.declared.grammar.Class.{Class}
use Rattle.cdle_model.specs.declared.grammar.Class.TheVariants.{Kind, Ty, Term, Pure, Guide, GuideKind}
use Rattle.cdle_model.specs.declared.grammar.Piece.{Piece}
use Rattle.cdle_model.specs.declared.grammar.Piece.TheVariants.{Binder, Part, Under}
use Rattle.cdle_model.specs.Trees.{rho_of, phi_of, pair_of, guide_of, Tree, var, name, binary, bind}
use Rattle.cdle_model.specs.Forms.{star, kpi, kpit, pi, all, allt, at_, on, iota, eq, tlam, xtlam, guide_tlam, guide_xtlam, fn, ap, lam, elam, xlam, app, eapp, tapp, pair, fst, snd, beta, rho, phi, delta}
use Rattle.cdle_model.specs.Classes.{Scope, under, HasVariable, HasName, Fits}
use Rattle.cdle_model.specs.CoreGrammar.{name_sort, pieces, class_in, Shape, form_in}
use Rattle.print_model.proofs.Words.{is_plain}

-- the parts fit their places, under the binder of that sort that came before them
abbrev pub PartsFit : Scope → Option Sort → List Piece → List Tree → Type 0
PartsFit s v [] us = us ≡ []
PartsFit s v (Binder x ∷ ps) us = PartsFit s (Some x) ps us
PartsFit s v (Part c ∷ ps) (u ∷ us) = Fits s (class_in c) u × PartsFit s v ps us
PartsFit s (Some x) (Under c ∷ ps) (u ∷ us) = Fits (under x s) (class_in c) u × PartsFit s (Some x) ps us
PartsFit s v ps us = ⊥

-- the tree is that form of the class, under a word of ASCII letters, and its parts fit their places
pub record IsForm (s : Scope) (c : Class) (t : Tree) (f : Shape) : Type 0 where
  pub found : form_in c t ≡ Some f
  pub plain : is_plain f.word ≡ true
  pub fit : PartsFit s None (pieces f.form) f.parts

-- or it is `*`, in a class that has no names
abbrev pub IsFormOrStar : Scope → Class → Tree → Option Shape → Type 0
IsFormOrStar s c t (Some f) = IsForm s c t f
IsFormOrStar s c t None = (name_sort c ≡ None) × (t ≡ star)

abbrev pub IsTaken : Scope → Class → Tree → Option Shape → Type 0
IsTaken s c (var i) o = (x : Sort) × (name_sort c ≡ Some x) × HasVariable s i x
IsTaken s c (name n) o = (x : Sort) × (name_sort c ≡ Some x) × HasName s n x
IsTaken s c t o = IsFormOrStar s c t o

of_form : {s : Scope} {c : Class} {t : Tree} {f : Shape} → form_in c t ≡ Some f → is_plain f.word ≡ true → PartsFit s None (pieces f.form) f.parts → IsForm s c t f
of_form e w h = record { found = e; plain = w; fit = h }

pub taken : (s : Scope) (c : Class) (t : Tree) → Fits s (class_in c) t → IsTaken s c t (form_in c t)
taken s Ty (var i) h = (OfType, refl, h)
taken s Term (var i) h = (OfTerm, refl, h)
taken s Pure (var i) h = (OfTerm, refl, h)
taken s Guide (var i) h = (OfType, refl, h)
taken s Ty (name n) h = (OfType, refl, h)
taken s Term (name n) h = (OfTerm, refl, h)
taken s Pure (name n) h = (OfTerm, refl, h)
taken s Guide (name n) h = (OfType, refl, h)
taken s Kind star h = (refl, refl)
taken s GuideKind star h = (refl, refl)
taken s Kind (kpi a b) h = of_form refl refl (h.0, (h.1, refl))
taken s Kind (kpit a b) h = of_form refl refl (h.0, (h.1, refl))
taken s Ty (pi a b) h = of_form refl refl (h.0, (h.1, refl))
taken s Ty (all a b) h = of_form refl refl (h.0, (h.1, refl))
taken s Ty (allt a b) h = of_form refl refl (h.0, (h.1, refl))
taken s Ty (tlam a b) h = of_form refl refl (h.0, (h.1, refl))
taken s Ty (xtlam a b) h = of_form refl refl (h.0, (h.1, refl))
taken s Ty (at_ a b) h = of_form refl refl (h.0, (h.1, refl))
taken s Ty (on a b) h = of_form refl refl (h.0, (h.1, refl))
taken s Ty (iota a b) h = of_form refl refl (h.0, (h.1, refl))
taken s Ty (eq a b) h = of_form refl refl (h.0, (h.1, refl))
taken s Term (lam a b) h = of_form refl refl (h.0, (h.1, refl))
taken s Term (elam a b) h = of_form refl refl (h.0, (h.1, refl))
taken s Term (xlam a b) h = of_form refl refl (h.0, (h.1, refl))
taken s Term (app a b) h = of_form refl refl (h.0, (h.1, refl))
taken s Term (eapp a b) h = of_form refl refl (h.0, (h.1, refl))
taken s Term (tapp a b) h = of_form refl refl (h.0, (h.1, refl))
taken s Term (pair t u a) h = of_form refl refl (h.0.1, (h.0.0, (h.1, refl)))
taken s Term (fst a) h = of_form refl refl (h, refl)
taken s Term (snd a) h = of_form refl refl (h, refl)
taken s Term (beta a b) h = of_form refl refl (h.0, (h.1, refl))
taken s Term (rho q g a t) h = of_form refl refl (h.0.0, (h.0.1, (h.1.0, (h.1.1, refl))))
taken s Term (phi q t p) h = of_form refl refl (h.0.0, (h.0.1, (h.1, refl)))
taken s Term (delta a b) h = of_form refl refl (h.0, (h.1, refl))
taken s Pure (fn a) h = of_form refl refl (h, refl)
taken s Pure (ap a b) h = of_form refl refl (h.0, (h.1, refl))
taken s Guide (pi a b) h = of_form refl refl (h.0, (h.1, refl))
taken s Guide (all a b) h = of_form refl refl (h.0, (h.1, refl))
taken s Guide (allt a b) h = of_form refl refl (h.0, (h.1, refl))
taken s Guide (guide_tlam a) h = of_form refl refl (h, refl)
taken s Guide (guide_xtlam a) h = of_form refl refl (h, refl)
taken s Guide (at_ a b) h = of_form refl refl (h.0, (h.1, refl))
taken s Guide (on a b) h = of_form refl refl (h.0, (h.1, refl))
taken s Guide (iota a b) h = of_form refl refl (h.0, (h.1, refl))
taken s Guide (eq a b) h = of_form refl refl (h.0, (h.1, refl))
taken s GuideKind (kpi a b) h = of_form refl refl (h.0, (h.1, refl))
taken s GuideKind (kpit a b) h = of_form refl refl (h.0, (h.1, refl))
taken s Term (binary rho_of (bind guide_of q g) r) h = absurd h.1
taken s Term (binary rho_of p r) h = absurd h.0
taken s Term (binary phi_of p r) h = absurd h.0
taken s Term (bind pair_of p a) h = absurd h.0
taken s c t h = absurd h
