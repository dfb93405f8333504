-- Bounds on the numbers of variables.
use Rattle.std.proofs.Common.{ℕ, suc, ◌+◌, ◌≤◌, arith}
use Rattle.cdle_model.specs.Trees.{Tree, var, name, IsBelow}
use Rattle.cdle_model.specs.Forms.{star, kpi, kpit, pi, all, allt, at_, on, iota, eq, guide_tlam, guide_xtlam, fn, ap}
use Rattle.cdle_model.specs.Depth.{depth, ShiftFits}
use Rattle.cdle_model.specs.Classes.{TreeClass, terms, types, kinds, pure_terms, guides, guide_kinds, term_pairs, guided_proofs, typed_terms, IsOf}
use Rattle.cdle_model.specs.Fitting.{IsErased}

-- an erased tree whose free variables leave room may be shifted
pub fits_below : (c : TreeClass) (n from by : ℕ) (t : Tree) → IsErased c → IsOf c t → IsBelow n t → n + by + depth t ≤ 4294967296 → ShiftFits from by t
fits_below pure_terms n from by (var i) e is h r = λ _. omega arith
fits_below pure_terms n from by (name m) e is h r = tt
fits_below pure_terms n from by (fn p) e is h r = fits_below pure_terms (suc n) (suc from) by p tt is h (omega arith)
fits_below pure_terms n from by (ap p q) e is h r = (fits_below pure_terms n from by p tt is.0 h.0 (omega arith), fits_below pure_terms n from by q tt is.1 h.1 (omega arith))
fits_below pure_terms n from by t e is h r = absurd is
fits_below guides n from by (var i) e is h r = λ _. omega arith
fits_below guides n from by (name m) e is h r = tt
fits_below guides n from by (pi a b) e is h r = (fits_below guides n from by a tt is.0 h.0 (omega arith), fits_below guides (suc n) (suc from) by b tt is.1 h.1 (omega arith))
fits_below guides n from by (all a b) e is h r = (fits_below guides n from by a tt is.0 h.0 (omega arith), fits_below guides (suc n) (suc from) by b tt is.1 h.1 (omega arith))
fits_below guides n from by (allt a b) e is h r = (fits_below guide_kinds n from by a tt is.0 h.0 (omega arith), fits_below guides (suc n) (suc from) by b tt is.1 h.1 (omega arith))
fits_below guides n from by (iota a b) e is h r = (fits_below guides n from by a tt is.0 h.0 (omega arith), fits_below guides (suc n) (suc from) by b tt is.1 h.1 (omega arith))
fits_below guides n from by (guide_tlam b) e is h r = fits_below guides (suc n) (suc from) by b tt is h (omega arith)
fits_below guides n from by (guide_xtlam b) e is h r = fits_below guides (suc n) (suc from) by b tt is h (omega arith)
fits_below guides n from by (at_ a b) e is h r = (fits_below guides n from by a tt is.0 h.0 (omega arith), fits_below pure_terms n from by b tt is.1 h.1 (omega arith))
fits_below guides n from by (on a b) e is h r = (fits_below guides n from by a tt is.0 h.0 (omega arith), fits_below guides n from by b tt is.1 h.1 (omega arith))
fits_below guides n from by (eq a b) e is h r = (fits_below pure_terms n from by a tt is.0 h.0 (omega arith), fits_below pure_terms n from by b tt is.1 h.1 (omega arith))
fits_below guides n from by t e is h r = absurd is
fits_below guide_kinds n from by star e is h r = tt
fits_below guide_kinds n from by (kpi a b) e is h r = (fits_below guides n from by a tt is.0 h.0 (omega arith), fits_below guide_kinds (suc n) (suc from) by b tt is.1 h.1 (omega arith))
fits_below guide_kinds n from by (kpit a b) e is h r = (fits_below guide_kinds n from by a tt is.0 h.0 (omega arith), fits_below guide_kinds (suc n) (suc from) by b tt is.1 h.1 (omega arith))
fits_below guide_kinds n from by t e is h r = absurd is
fits_below terms n from by t e is h r = absurd e
fits_below types n from by t e is h r = absurd e
fits_below kinds n from by t e is h r = absurd e
fits_below term_pairs n from by t e is h r = absurd e
fits_below guided_proofs n from by t e is h r = absurd e
fits_below typed_terms n from by t e is h r = absurd e
