-- The table read from trees gives back what makes them.
use Rattle.std.proofs.Common.{◌≡◌, List, [], ◌∷◌, Some, refl, subst}
use Rattle.std.specs.Prelude.{IfSome}
use Rattle.cdle_model.specs.Trees.{Tree}
use Rattle.cdle_model.specs.Forms.{kpi, kpit, pi, all, allt, at_, on, iota, eq, tlam, xtlam, guide_tlam, guide_xtlam, fn, ap, lam, elam, xlam, app, eapp, tapp, pair, fst, snd, beta, rho, phi, delta}
use Rattle.cdle_model.specs.declared.grammar.Class.{Class}
use Rattle.cdle_model.specs.declared.grammar.Class.TheVariants.{Kind, Ty, Term, Pure, Guide, GuideKind}
use Rattle.cdle_model.specs.CoreGrammar.{form_of, made, Shape, form_in}

-- the form stands in the table of the class under its word, and with its parts it makes the tree
abbrev pub IsRow : Class → Tree → Shape → Type 0
IsRow c t s = (made s.form s.parts ≡ t) × (form_of c s.word ≡ Some s.form)

rows : (c : Class) (t : Tree) → IfSome (form_in c t) (IsRow c t)
rows Kind (kpi a b) = (refl, refl)
rows Kind (kpit a b) = (refl, refl)
rows Ty (pi a b) = (refl, refl)
rows Ty (all a b) = (refl, refl)
rows Ty (allt a b) = (refl, refl)
rows Ty (tlam a b) = (refl, refl)
rows Ty (xtlam a b) = (refl, refl)
rows Ty (at_ a b) = (refl, refl)
rows Ty (on a b) = (refl, refl)
rows Ty (iota a b) = (refl, refl)
rows Ty (eq a b) = (refl, refl)
rows Term (lam a b) = (refl, refl)
rows Term (elam a b) = (refl, refl)
rows Term (xlam a b) = (refl, refl)
rows Term (app a b) = (refl, refl)
rows Term (eapp a b) = (refl, refl)
rows Term (tapp a b) = (refl, refl)
rows Term (pair a b c) = (refl, refl)
rows Term (fst a) = (refl, refl)
rows Term (snd a) = (refl, refl)
rows Term (beta a b) = (refl, refl)
rows Term (rho a b c d) = (refl, refl)
rows Term (phi a b c) = (refl, refl)
rows Term (delta a b) = (refl, refl)
rows Pure (fn a) = (refl, refl)
rows Pure (ap a b) = (refl, refl)
rows Guide (pi a b) = (refl, refl)
rows Guide (all a b) = (refl, refl)
rows Guide (allt a b) = (refl, refl)
rows Guide (guide_tlam a) = (refl, refl)
rows Guide (guide_xtlam a) = (refl, refl)
rows Guide (at_ a b) = (refl, refl)
rows Guide (on a b) = (refl, refl)
rows Guide (iota a b) = (refl, refl)
rows Guide (eq a b) = (refl, refl)
rows GuideKind (kpi a b) = (refl, refl)
rows GuideKind (kpit a b) = (refl, refl)
rows c t = tt

pub row_of_form : (c : Class) (t : Tree) (s : Shape) → form_in c t ≡ Some s → IsRow c t s
row_of_form c t s e = subst (λ o. IfSome o (IsRow c t)) e (rows c t)
