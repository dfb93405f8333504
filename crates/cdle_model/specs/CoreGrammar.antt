-- The grammar of Core text as a table: which forms there are, what stands in each, and the tree that each makes.
use Rattle.std.specs.Prelude.{ℕ, List, [], ◌∷◌, if◌then◌else◌, codes, Option, Some, None}
use Rattle.std.specs.Str.{bytes_eq}
use Rattle.cdle_model.specs.Trees.{Tree}
use Rattle.cdle_model.specs.Classes.{TreeClass, terms, types, kinds, pure_terms, guides, guide_kinds}
use Rattle.cdle_model.specs.Forms.{star, kpi, kpit, pi, all, allt, at_, on, iota, eq, tlam, xtlam, guide_tlam, guide_xtlam, fn, ap, lam, elam, xlam, app, eapp, tapp, pair, fst, snd, beta, rho, phi, delta, Written, def_item, type_item}
use Rattle.cdle_model.specs.declared.grammar.Sort.{Sort}
use Rattle.cdle_model.specs.declared.grammar.Sort.TheVariants.{OfTerm, OfType}
use Rattle.cdle_model.specs.declared.grammar.Class.{Class}
use Rattle.cdle_model.specs.declared.grammar.Class.TheVariants.{Kind, Ty, Term, Pure, Guide, GuideKind}
use Rattle.cdle_model.specs.declared.grammar.Form.{Form}
use Rattle.cdle_model.specs.declared.grammar.Form.TheVariants.{Kpi, Kpit, Pi, All, Allt, Tlam, Xtlam, At, On, Iota, Eq, Lam, Elam, Xlam, App, Eapp, Tapp, Pair, Fst, Snd, Beta, Rho, Phi, Delta, Function, Ap, GuidePi, GuideAll, GuideAllt, GuideTlam, GuideXtlam, GuideAt, GuideOn, GuideIota, GuideEq, GuideKpi, GuideKpit}
use Rattle.cdle_model.specs.declared.grammar.Piece.{Piece}
use Rattle.cdle_model.specs.declared.grammar.Piece.TheVariants.{Binder, Part, Under}

-- the form words of a class
abbrev pub form_words : Class → List (List ℕ × Form)
form_words Kind = (codes "kpi", Kpi) ∷ (codes "kpit", Kpit) ∷ []
form_words Ty = (codes "pi", Pi) ∷ (codes "all", All) ∷ (codes "allt", Allt) ∷ (codes "tlam", Tlam) ∷ (codes "xtlam", Xtlam) ∷ (codes "at", At) ∷ (codes "on", On) ∷ (codes "iota", Iota) ∷ (codes "eq", Eq) ∷ []
form_words Term = (codes "lam", Lam) ∷ (codes "elam", Elam) ∷ (codes "xlam", Xlam) ∷ (codes "app", App) ∷ (codes "eapp", Eapp) ∷ (codes "tapp", Tapp) ∷ (codes "pair", Pair) ∷ (codes "fst", Fst) ∷ (codes "snd", Snd) ∷ (codes "beta", Beta) ∷ (codes "rho", Rho) ∷ (codes "phi", Phi) ∷ (codes "delta", Delta) ∷ []
form_words Pure = (codes "fn", Function) ∷ (codes "ap", Ap) ∷ []
form_words Guide = (codes "pi", GuidePi) ∷ (codes "all", GuideAll) ∷ (codes "allt", GuideAllt) ∷ (codes "tlam", GuideTlam) ∷ (codes "xtlam", GuideXtlam) ∷ (codes "at", GuideAt) ∷ (codes "on", GuideOn) ∷ (codes "iota", GuideIota) ∷ (codes "eq", GuideEq) ∷ []
form_words GuideKind = (codes "kpi", GuideKpi) ∷ (codes "kpit", GuideKpit) ∷ []

-- the first entry with that word
abbrev pub look_up : {A : Type 0} → List ℕ → List (List ℕ × A) → Option A
look_up w [] = None
look_up w (e ∷ es) = if bytes_eq w e.0 then Some e.1 else look_up w es

abbrev pub form_of : Class → List ℕ → Option Form
form_of c w = look_up w (form_words c)

-- what a name stands for where a part of that class is wanted; the other classes have `*` in the names' place
abbrev pub name_sort : Class → Option Sort
name_sort Kind = None
name_sort Ty = Some OfType
name_sort Term = Some OfTerm
name_sort Pure = Some OfTerm
name_sort Guide = Some OfType
name_sort GuideKind = None

-- what stands in a form, behind its word
abbrev pub pieces : Form → List Piece
pieces Kpi = Binder OfTerm ∷ Part Ty ∷ Under Kind ∷ []
pieces Kpit = Binder OfType ∷ Part Kind ∷ Under Kind ∷ []
pieces Pi = Binder OfTerm ∷ Part Ty ∷ Under Ty ∷ []
pieces All = Binder OfTerm ∷ Part Ty ∷ Under Ty ∷ []
pieces Allt = Binder OfType ∷ Part Kind ∷ Under Ty ∷ []
pieces Tlam = Binder OfTerm ∷ Part Ty ∷ Under Ty ∷ []
pieces Xtlam = Binder OfType ∷ Part Kind ∷ Under Ty ∷ []
pieces At = Part Ty ∷ Part Term ∷ []
pieces On = Part Ty ∷ Part Ty ∷ []
pieces Iota = Binder OfTerm ∷ Part Ty ∷ Under Ty ∷ []
pieces Eq = Part Pure ∷ Part Pure ∷ []
pieces Lam = Binder OfTerm ∷ Part Ty ∷ Under Term ∷ []
pieces Elam = Binder OfTerm ∷ Part Ty ∷ Under Term ∷ []
pieces Xlam = Binder OfType ∷ Part Kind ∷ Under Term ∷ []
pieces App = Part Term ∷ Part Term ∷ []
pieces Eapp = Part Term ∷ Part Term ∷ []
pieces Tapp = Part Term ∷ Part Ty ∷ []
pieces Pair = Part Term ∷ Part Term ∷ Binder OfTerm ∷ Under Ty ∷ []
pieces Fst = Part Term ∷ []
pieces Snd = Part Term ∷ []
pieces Beta = Part Pure ∷ Part Pure ∷ []
pieces Rho = Part Term ∷ Binder OfTerm ∷ Under Guide ∷ Part Ty ∷ Part Term ∷ []
pieces Phi = Part Term ∷ Part Term ∷ Part Pure ∷ []
pieces Delta = Part Ty ∷ Part Term ∷ []
pieces Function = Binder OfTerm ∷ Under Pure ∷ []
pieces Ap = Part Pure ∷ Part Pure ∷ []
pieces GuidePi = Binder OfTerm ∷ Part Guide ∷ Under Guide ∷ []
pieces GuideAll = Binder OfTerm ∷ Part Guide ∷ Under Guide ∷ []
pieces GuideAllt = Binder OfType ∷ Part GuideKind ∷ Under Guide ∷ []
pieces GuideTlam = Binder OfTerm ∷ Under Guide ∷ []
pieces GuideXtlam = Binder OfType ∷ Under Guide ∷ []
pieces GuideAt = Part Guide ∷ Part Pure ∷ []
pieces GuideOn = Part Guide ∷ Part Guide ∷ []
pieces GuideIota = Binder OfTerm ∷ Part Guide ∷ Under Guide ∷ []
pieces GuideEq = Part Pure ∷ Part Pure ∷ []
pieces GuideKpi = Binder OfTerm ∷ Part Guide ∷ Under GuideKind ∷ []
pieces GuideKpit = Binder OfType ∷ Part GuideKind ∷ Under GuideKind ∷ []

-- the class that a form is of
abbrev pub class_of_form : Form → Class
class_of_form Kpi = Kind
class_of_form Kpit = Kind
class_of_form Pi = Ty
class_of_form All = Ty
class_of_form Allt = Ty
class_of_form Tlam = Ty
class_of_form Xtlam = Ty
class_of_form At = Ty
class_of_form On = Ty
class_of_form Iota = Ty
class_of_form Eq = Ty
class_of_form Lam = Term
class_of_form Elam = Term
class_of_form Xlam = Term
class_of_form App = Term
class_of_form Eapp = Term
class_of_form Tapp = Term
class_of_form Pair = Term
class_of_form Fst = Term
class_of_form Snd = Term
class_of_form Beta = Term
class_of_form Rho = Term
class_of_form Phi = Term
class_of_form Delta = Term
class_of_form Function = Pure
class_of_form Ap = Pure
class_of_form GuidePi = Guide
class_of_form GuideAll = Guide
class_of_form GuideAllt = Guide
class_of_form GuideTlam = Guide
class_of_form GuideXtlam = Guide
class_of_form GuideAt = Guide
class_of_form GuideOn = Guide
class_of_form GuideIota = Guide
class_of_form GuideEq = Guide
class_of_form GuideKpi = GuideKind
class_of_form GuideKpit = GuideKind

-- the classes of the parts among pieces
abbrev pub part_classes : List Piece → List Class
part_classes [] = []
part_classes (Binder s ∷ ps) = part_classes ps
part_classes (Part c ∷ ps) = c ∷ part_classes ps
part_classes (Under c ∷ ps) = c ∷ part_classes ps

-- the tree of that form with these parts in written order; other lists of parts are never read
abbrev pub made : Form → List Tree → Tree
made Kpi (a ∷ b ∷ []) = kpi a b
made Kpit (a ∷ b ∷ []) = kpit a b
made Pi (a ∷ b ∷ []) = pi a b
made All (a ∷ b ∷ []) = all a b
made Allt (a ∷ b ∷ []) = allt a b
made Tlam (a ∷ b ∷ []) = tlam a b
made Xtlam (a ∷ b ∷ []) = xtlam a b
made At (a ∷ b ∷ []) = at_ a b
made On (a ∷ b ∷ []) = on a b
made Iota (a ∷ b ∷ []) = iota a b
made Eq (a ∷ b ∷ []) = eq a b
made Lam (a ∷ b ∷ []) = lam a b
made Elam (a ∷ b ∷ []) = elam a b
made Xlam (a ∷ b ∷ []) = xlam a b
made App (a ∷ b ∷ []) = app a b
made Eapp (a ∷ b ∷ []) = eapp a b
made Tapp (a ∷ b ∷ []) = tapp a b
made Pair (a ∷ b ∷ c ∷ []) = pair a b c
made Fst (a ∷ []) = fst a
made Snd (a ∷ []) = snd a
made Beta (a ∷ b ∷ []) = beta a b
made Rho (a ∷ b ∷ c ∷ d ∷ []) = rho a b c d
made Phi (a ∷ b ∷ c ∷ []) = phi a b c
made Delta (a ∷ b ∷ []) = delta a b
made Function (a ∷ []) = fn a
made Ap (a ∷ b ∷ []) = ap a b
made GuidePi (a ∷ b ∷ []) = pi a b
made GuideAll (a ∷ b ∷ []) = all a b
made GuideAllt (a ∷ b ∷ []) = allt a b
made GuideTlam (a ∷ []) = guide_tlam a
made GuideXtlam (a ∷ []) = guide_xtlam a
made GuideAt (a ∷ b ∷ []) = at_ a b
made GuideOn (a ∷ b ∷ []) = on a b
made GuideIota (a ∷ b ∷ []) = iota a b
made GuideEq (a ∷ b ∷ []) = eq a b
made GuideKpi (a ∷ b ∷ []) = kpi a b
made GuideKpit (a ∷ b ∷ []) = kpit a b
made f ts = star

-- which class of trees a class of text is
abbrev pub class_in : Class → TreeClass
class_in Kind = kinds
class_in Ty = types
class_in Term = terms
class_in Pure = pure_terms
class_in Guide = guides
class_in GuideKind = guide_kinds

-- a form with the word by which it is written, and its parts in written order
pub record Shape : Type 0 where
  pub word : List ℕ
  pub form : Form
  pub parts : List Tree

abbrev pub shape : List ℕ → Form → List Tree → Option Shape
shape w f us = Some (record { word = w; form = f; parts = us })

-- the form of that class that a tree is, which is the inverse of `made`; a variable, a name and `*` are none
abbrev pub form_in : Class → Tree → Option Shape
form_in Kind (kpi a b) = shape (codes "kpi") Kpi (a ∷ b ∷ [])
form_in Kind (kpit a b) = shape (codes "kpit") Kpit (a ∷ b ∷ [])
form_in Ty (pi a b) = shape (codes "pi") Pi (a ∷ b ∷ [])
form_in Ty (all a b) = shape (codes "all") All (a ∷ b ∷ [])
form_in Ty (allt a b) = shape (codes "allt") Allt (a ∷ b ∷ [])
form_in Ty (tlam a b) = shape (codes "tlam") Tlam (a ∷ b ∷ [])
form_in Ty (xtlam a b) = shape (codes "xtlam") Xtlam (a ∷ b ∷ [])
form_in Ty (at_ a b) = shape (codes "at") At (a ∷ b ∷ [])
form_in Ty (on a b) = shape (codes "on") On (a ∷ b ∷ [])
form_in Ty (iota a b) = shape (codes "iota") Iota (a ∷ b ∷ [])
form_in Ty (eq a b) = shape (codes "eq") Eq (a ∷ b ∷ [])
form_in Term (lam a b) = shape (codes "lam") Lam (a ∷ b ∷ [])
form_in Term (elam a b) = shape (codes "elam") Elam (a ∷ b ∷ [])
form_in Term (xlam a b) = shape (codes "xlam") Xlam (a ∷ b ∷ [])
form_in Term (app a b) = shape (codes "app") App (a ∷ b ∷ [])
form_in Term (eapp a b) = shape (codes "eapp") Eapp (a ∷ b ∷ [])
form_in Term (tapp a b) = shape (codes "tapp") Tapp (a ∷ b ∷ [])
form_in Term (pair a b c) = shape (codes "pair") Pair (a ∷ b ∷ c ∷ [])
form_in Term (fst a) = shape (codes "fst") Fst (a ∷ [])
form_in Term (snd a) = shape (codes "snd") Snd (a ∷ [])
form_in Term (beta a b) = shape (codes "beta") Beta (a ∷ b ∷ [])
form_in Term (rho a b c d) = shape (codes "rho") Rho (a ∷ b ∷ c ∷ d ∷ [])
form_in Term (phi a b c) = shape (codes "phi") Phi (a ∷ b ∷ c ∷ [])
form_in Term (delta a b) = shape (codes "delta") Delta (a ∷ b ∷ [])
form_in Pure (fn a) = shape (codes "fn") Function (a ∷ [])
form_in Pure (ap a b) = shape (codes "ap") Ap (a ∷ b ∷ [])
form_in Guide (pi a b) = shape (codes "pi") GuidePi (a ∷ b ∷ [])
form_in Guide (all a b) = shape (codes "all") GuideAll (a ∷ b ∷ [])
form_in Guide (allt a b) = shape (codes "allt") GuideAllt (a ∷ b ∷ [])
form_in Guide (guide_tlam a) = shape (codes "tlam") GuideTlam (a ∷ [])
form_in Guide (guide_xtlam a) = shape (codes "xtlam") GuideXtlam (a ∷ [])
form_in Guide (at_ a b) = shape (codes "at") GuideAt (a ∷ b ∷ [])
form_in Guide (on a b) = shape (codes "on") GuideOn (a ∷ b ∷ [])
form_in Guide (iota a b) = shape (codes "iota") GuideIota (a ∷ b ∷ [])
form_in Guide (eq a b) = shape (codes "eq") GuideEq (a ∷ b ∷ [])
form_in GuideKind (kpi a b) = shape (codes "kpi") GuideKpi (a ∷ b ∷ [])
form_in GuideKind (kpit a b) = shape (codes "kpit") GuideKpit (a ∷ b ∷ [])
form_in c t = None

-- ---- items

abbrev pub item_words : List (List ℕ × Sort)
item_words = (codes "def", OfTerm) ∷ (codes "type", OfType) ∷ []

-- what stands in an item behind its name
abbrev pub item_pieces : Sort → List Piece
item_pieces OfTerm = Part Ty ∷ Part Term ∷ []
item_pieces OfType = Part Kind ∷ Part Ty ∷ []

abbrev pub item_parts : Written → List Tree
item_parts (def_item x a t) = a ∷ t ∷ []
item_parts (type_item x k a) = k ∷ a ∷ []

-- the item with these parts; other lists of parts are never read
abbrev pub made_item : Sort → List ℕ → List Tree → Written
made_item OfTerm x (a ∷ t ∷ []) = def_item x a t
made_item OfType x (k ∷ a ∷ []) = type_item x k a
made_item OfTerm x ts = def_item x star star
made_item OfType x ts = type_item x star star
