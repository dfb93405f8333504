-- What a Core text says fits its classes and its scope.
use Rattle.std.proofs.Common.{◌≡◌, ℕ, suc, ◌+◌, Bool, true, false, cond, List, [], ◌∷◌, ◌++◌, length, Option, Some, None, refl, sym, ap, subst, ◌∙◌, arith, slice_get, length-append, append_assoc}
use Rattle.std.proofs.lemmas.List.{append-nil}
use Rattle.std.specs.Str.{bytes_eq}
use Rattle.cdle_model.specs.declared.grammar.Sort.{Sort}
use Rattle.cdle_model.specs.declared.grammar.Sort.TheVariants.{OfTerm, OfType}
use Rattle.cdle_model.specs.declared.grammar.Class.{Class}
use Rattle.cdle_model.specs.declared.grammar.Class.TheVariants.{Kind, Ty, Term, Pure, Guide, GuideKind}
use Rattle.cdle_model.specs.declared.grammar.Form.{Form}
use Rattle.cdle_model.specs.declared.grammar.Form.TheVariants.{Kpi, Kpit, Pi, All, Allt, Tlam, Xtlam, At, On, Iota, Eq, Lam, Elam, Xlam, App, Eapp, Tapp, Pair, Fst, Snd, Beta, Rho, Phi, Delta, Function, Ap, GuidePi, GuideAll, GuideAllt, GuideTlam, GuideXtlam, GuideAt, GuideOn, GuideIota, GuideEq, GuideKpi, GuideKpit}
use Rattle.cdle_model.specs.declared.grammar.Piece.{Piece}
use Rattle.cdle_model.specs.declared.grammar.Piece.TheVariants.{Binder, Part, Under}
use Rattle.cdle_model.specs.Trees.{Tree, var, name}
use Rattle.cdle_model.specs.Forms as forms
use Rattle.cdle_model.specs.Forms.{Written, def_item, type_item}
use Rattle.cdle_model.specs.Classes.{TreeClass, kinds, types, terms, pure_terms, guides, guide_kinds, AsSort, Scope, within, HasVariable, HasName, Fits, item_sort, item_sorts, IsScopedOver, AreScopedOver}
use Rattle.cdle_model.specs.CoreTokens.{Token}
use Rattle.cdle_model.specs.CoreGrammar.{name_sort, form_words, pieces, class_of_form, made, look_up, item_pieces}
use Rattle.cdle_model.specs.CoreNames.{Name, Names, names_under, behind, binder_of, item_of, or_else, stands, with_item, with_items}
use Rattle.cdle_model.specs.CoreText.{Reads, star, name as by_name, form, ReadsPieces, end, bind, part, inner, Stands, ReadsItem, ReadsItems, ReadsFile}
use Rattle.cdle_model.proofs.Lists.{get-left, get-last, sorts-snoc}

-- ---- the scope that names stand for

abbrev binder_sorts : List Name → List Sort
binder_sorts [] = []
binder_sorts (x ∷ xs) = x.sort ∷ binder_sorts xs

-- the items' sorts, the earliest first
abbrev sorts_in : List Name → List Sort
sorts_in [] = []
sorts_in (x ∷ xs) = sorts_in xs ++ (x.sort ∷ [])

abbrev scope_of : Names → Scope
scope_of names = within (binder_sorts names.binders) (sorts_in names.items)

length_sorts : (xs : List Name) → length (sorts_in xs) ≡ length xs
length_sorts [] = refl
length_sorts (x ∷ xs) = omega (arith, length-append (sorts_in xs) (x.sort ∷ []), length_sorts xs)

sort_at_end : (xs : List Name) (s : Sort) → slice_get (sorts_in xs ++ (s ∷ [])) (length xs) ≡ Some s
sort_at_end xs s = ap (λ n. slice_get (sorts_in xs ++ (s ∷ [])) n) (sym (length_sorts xs)) ∙ get-last (sorts_in xs) s

abbrev found : Sort → Tree → Option (Sort × Tree)
found s t = Some (s, t)

-- the parts of what was found
same_found : (s r : Sort) (t u : Tree) → found s t ≡ found r u → (s ≡ r) × (t ≡ u)
same_found s r t u e = let p : (s, t) ≡ (r, u) = cc in (ap (λ (x : Sort × Tree). x.0) p, ap (λ (x : Sort × Tree). x.1) p)

binder_at : (n : ℕ) (x : Name) (xs : List Name) (o : Option (Sort × Tree)) (s : Sort) (t : Tree)
    → (o ≡ found s t → (k : ℕ) × (t ≡ var (n + 1 + k)) × (slice_get (binder_sorts xs) k ≡ Some s)) → (b : Bool) → cond b (found x.sort (var n)) o ≡ found s t
    → (k : ℕ) × (t ≡ var (n + k)) × (slice_get (x.sort ∷ binder_sorts xs) k ≡ Some s)
binder_at n x xs o s t others true e = let p = same_found x.sort s (var n) t e in (0, sym p.1 ∙ ap var (omega arith), ap Some p.0)
binder_at n x xs o s t others false e = let h = others e in (suc h.0, h.1 ∙ ap var (omega arith), h.2)

binder_stands : (w : List ℕ) (n : ℕ) (xs : List Name) (s : Sort) (t : Tree) → binder_of w n xs ≡ found s t → (k : ℕ) × (t ≡ var (n + k)) × (slice_get (binder_sorts xs) k ≡ Some s)
binder_stands w n [] s t e = absurd cc
binder_stands w n (x ∷ xs) s t e = binder_at n x xs (binder_of w (n + 1) xs) s t (binder_stands w (n + 1) xs s t) (bytes_eq w x.text) e

item_at : (x : Name) (xs : List Name) (o : Option (Sort × Tree)) (s : Sort) (t : Tree) → (o ≡ found s t → (n : ℕ) × (t ≡ name n) × (slice_get (sorts_in xs) n ≡ Some s))
    → (b : Bool) → cond b (found x.sort (name (length xs))) o ≡ found s t → (n : ℕ) × (t ≡ name n) × (slice_get (sorts_in xs ++ (x.sort ∷ [])) n ≡ Some s)
item_at x xs o s t others true e = let p = same_found x.sort s (name (length xs)) t e in (length xs, sym p.1, sort_at_end xs x.sort ∙ ap Some p.0)
item_at x xs o s t others false e = let h = others e in (h.0, h.1, get-left (sorts_in xs) (x.sort ∷ []) h.0 s h.2)

item_stands : (w : List ℕ) (xs : List Name) (s : Sort) (t : Tree) → item_of w xs ≡ found s t → (n : ℕ) × (t ≡ name n) × (slice_get (sorts_in xs) n ≡ Some s)
item_stands w [] s t e = absurd cc
item_stands w (x ∷ xs) s t e = item_at x xs (item_of w xs) s t (item_stands w xs s t) (bytes_eq w x.text) e

-- ---- parts

-- what is known of a part that is read: it fits its class and its scope
abbrev class_in : Class → TreeClass
class_in Kind = kinds
class_in Ty = types
class_in Term = terms
class_in Pure = pure_terms
class_in Guide = guides
class_in GuideKind = guide_kinds

abbrev IsRead : Names → Class → Tree → Type 0
IsRead scope c t = Fits (scope_of scope) (class_in c) t

-- the names of a class are of its sort
as_sort : (c : Class) (s : Sort) (P : Sort → Type 0) → name_sort c ≡ Some s → P s → AsSort (class_in c) P
as_sort Kind s P e h = absurd cc
as_sort Ty s P e h = let same : s ≡ OfType = cc in subst P same h
as_sort Term s P e h = let same : s ≡ OfTerm = cc in subst P same h
as_sort Pure s P e h = let same : s ≡ OfTerm = cc in subst P same h
as_sort Guide s P e h = let same : s ≡ OfType = cc in subst P same h
as_sort GuideKind s P e h = absurd cc

word_read : (scope : Names) (c : Class) (s : Sort) (w : List ℕ) (t : Tree) → name_sort c ≡ Some s → stands w scope ≡ found s t → IsRead scope c t
unfolding stands
word_read scope c s w t n e = of_binder (binder_of w 0 scope.binders) refl e
  where
    of_binder : (o : Option (Sort × Tree)) → binder_of w 0 scope.binders ≡ o → or_else o (item_of w scope.items) ≡ found s t → IsRead scope c t
    of_binder None b e = let h = item_stands w scope.items s t e in subst (IsRead scope c) (sym h.1) (as_sort c s (HasName (scope_of scope) h.0) n h.2)
    of_binder (Some x) b e =
        let h = binder_stands w 0 scope.binders s t (b ∙ e) in
        let same : var (0 + h.0) ≡ var h.0 = ap var (omega arith) in
        subst (IsRead scope c) (sym (h.1 ∙ same)) (as_sort c s (HasVariable (scope_of scope) h.0) n h.2)

star_read : (scope : Names) (c : Class) → name_sort c ≡ None → IsRead scope c forms.star
star_read scope Kind e = tt
star_read scope Ty e = absurd cc
star_read scope Term e = absurd cc
star_read scope Pure e = absurd cc
star_read scope Guide e = absurd cc
star_read scope GuideKind e = tt

-- ---- forms

-- the parts in their order, each read in the scope of its piece
abbrev ArePartsRead : Names → Option Name → List Piece → List Tree → Type 0
ArePartsRead scope binder [] us = us ≡ []
ArePartsRead scope binder (Binder s ∷ ps) us = (w : List ℕ) × ArePartsRead scope (Some (record { text = w; sort = s })) ps us
ArePartsRead scope binder (Part c ∷ ps) us = (t : Tree) × (ts : List Tree) × (us ≡ t ∷ ts) × IsRead scope c t × ArePartsRead scope binder ps ts
ArePartsRead scope binder (Under c ∷ ps) us = (t : Tree) × (ts : List Tree) × (us ≡ t ∷ ts) × IsRead (names_under binder scope) c t × ArePartsRead scope binder ps ts

-- a list of parts has the property, whatever parts these pieces are read as
abbrev Holds : (List Tree → Type 0) → Names → Option Name → List Piece → Type 0
Holds P scope binder [] = P []
Holds P scope binder (Binder s ∷ ps) = (w : List ℕ) → Holds P scope (Some (record { text = w; sort = s })) ps
Holds P scope binder (Part c ∷ ps) = (t : Tree) → IsRead scope c t → Holds (λ us. P (t ∷ us)) scope binder ps
Holds P scope binder (Under c ∷ ps) = (t : Tree) → IsRead (names_under binder scope) c t → Holds (λ us. P (t ∷ us)) scope binder ps

parts_hold : (scope : Names) (binder : Option Name) (ps : List Piece) (us : List Tree) → ArePartsRead scope binder ps us → (P : List Tree → Type 0) → Holds P scope binder ps → P us
parts_hold scope binder [] us h P f = subst P (sym h) f
parts_hold scope binder (Binder s ∷ ps) us h P f = parts_hold scope (Some (record { text = h.0; sort = s })) ps us h.1 P (f h.0)
parts_hold scope binder (Part c ∷ ps) us h P f = subst P (sym h.2) (parts_hold scope binder ps h.1 h.4 (λ vs. P (h.0 ∷ vs)) (f h.0 h.3))
parts_hold scope binder (Under c ∷ ps) us h P f = subst P (sym h.2) (parts_hold scope binder ps h.1 h.4 (λ vs. P (h.0 ∷ vs)) (f h.0 h.3))

-- the tree of a form fits where its parts do
form_read : (scope : Names) (f : Form) → Holds (λ us. IsRead scope (class_of_form f) (made f us)) scope None (pieces f)
form_read scope Kpi = λ w a p b q. (p, q)
form_read scope Kpit = λ w a p b q. (p, q)
form_read scope Pi = λ w a p b q. (p, q)
form_read scope All = λ w a p b q. (p, q)
form_read scope Allt = λ w a p b q. (p, q)
form_read scope Tlam = λ w a p b q. (p, q)
form_read scope Xtlam = λ w a p b q. (p, q)
form_read scope At = λ a p b q. (p, q)
form_read scope On = λ a p b q. (p, q)
form_read scope Iota = λ w a p b q. (p, q)
form_read scope Eq = λ a p b q. (p, q)
form_read scope Lam = λ w a p b q. (p, q)
form_read scope Elam = λ w a p b q. (p, q)
form_read scope Xlam = λ w a p b q. (p, q)
form_read scope App = λ a p b q. (p, q)
form_read scope Eapp = λ a p b q. (p, q)
form_read scope Tapp = λ a p b q. (p, q)
form_read scope Pair = λ a p b q w c r. ((q, p), r)
form_read scope Fst = λ a p. p
form_read scope Snd = λ a p. p
form_read scope Beta = λ a p b q. (p, q)
form_read scope Rho = λ a p w b q c r d s. ((p, q), (r, s))
form_read scope Phi = λ a p b q c r. ((p, q), r)
form_read scope Delta = λ a p b q. (p, q)
form_read scope Function = λ w a p. p
form_read scope Ap = λ a p b q. (p, q)
form_read scope GuidePi = λ w a p b q. (p, q)
form_read scope GuideAll = λ w a p b q. (p, q)
form_read scope GuideAllt = λ w a p b q. (p, q)
form_read scope GuideTlam = λ w a p. p
form_read scope GuideXtlam = λ w a p. p
form_read scope GuideAt = λ a p b q. (p, q)
form_read scope GuideOn = λ a p b q. (p, q)
form_read scope GuideIota = λ w a p b q. (p, q)
form_read scope GuideEq = λ a p b q. (p, q)
form_read scope GuideKpi = λ w a p b q. (p, q)
form_read scope GuideKpit = λ w a p b q. (p, q)

-- the table of a class has forms of that class alone
abbrev AreOfClass : Class → List (List ℕ × Form) → Type 0
AreOfClass c [] = Unit {0}
AreOfClass c (e ∷ es) = (class_of_form e.1 ≡ c) × AreOfClass c es

table_class : (c : Class) → AreOfClass c (form_words c)
table_class Kind = (refl, (refl, tt))
table_class Ty = (refl, (refl, (refl, (refl, (refl, (refl, (refl, (refl, (refl, tt)))))))))
table_class Term = (refl, (refl, (refl, (refl, (refl, (refl, (refl, (refl, (refl, (refl, (refl, (refl, (refl, tt)))))))))))))
table_class Pure = (refl, (refl, tt))
table_class Guide = (refl, (refl, (refl, (refl, (refl, (refl, (refl, (refl, (refl, tt)))))))))
table_class GuideKind = (refl, (refl, tt))

row_or_later : (c : Class) (g f : Form) (o : Option Form) → class_of_form g ≡ c → (o ≡ Some f → class_of_form f ≡ c) → (b : Bool) → cond b (Some g) o ≡ Some f → class_of_form f ≡ c
row_or_later c g f o here others true e = let same : g ≡ f = cc in ap class_of_form (sym same) ∙ here
row_or_later c g f o here others false e = others e

pub row_class : (c : Class) (w : List ℕ) (es : List (List ℕ × Form)) (f : Form) → AreOfClass c es → look_up w es ≡ Some f → class_of_form f ≡ c
row_class c w [] f all e = absurd cc
row_class c w (x ∷ es) f all e = row_or_later c x.1 f (look_up w es) all.0 (row_class c w es f all.1) (bytes_eq w x.0) e

mutual
  part_read : {left : ℕ} {scope : Names} {c : Class} {ts : List Token} {t : Tree} {rest : List Token} → Reads Stands left scope c ts t rest → IsRead scope c t
  part_read {scope = scope} {c} (star n e) = star_read scope c n
  part_read {scope = scope} {c} {t = t} (by_name {s = s} {w = w} n e h) = word_read scope c s w t n h
  part_read {scope = scope} {c} (form {w = w} {f = f} {us = us} e h) =
      let made_read = parts_hold scope None (pieces f) us (parts_read h) (λ vs. IsRead scope (class_of_form f) (made f vs)) (form_read scope f) in
      subst (λ (d : Class). IsRead scope d (made f us)) (row_class c w (form_words c) f (table_class c) e) made_read

  parts_read : {left : ℕ} {scope : Names} {binder : Option Name} {ps : List Piece} {ts : List Token} {us : List Tree} {rest : List Token} → ReadsPieces Stands left scope binder ps ts us rest → ArePartsRead scope binder ps us
  parts_read end = refl
  parts_read (bind {w = w} e h) = (w, parts_read h)
  parts_read (part {t = t} {us = us} h g) = (t, us, refl, part_read h, parts_read g)
  parts_read (inner {t = t} {us = us} h g) = (t, us, refl, part_read h, parts_read g)

-- ---- items

-- the sorts of names are those of these items
abbrev AreOf : List Name → List Written → Type 0
AreOf known es = sorts_in known ≡ item_sorts es

with_item_of : (known : List Name) (es : List Written) (w : Written) → AreOf known es → AreOf (with_item w known) (es ++ (w ∷ []))
with_item_of known es w e = ap (λ (xs : List Sort). xs ++ (item_sort w ∷ [])) e ∙ sym (sorts-snoc es w)

with_items_of : (known : List Name) (es ws : List Written) → AreOf known es → AreOf (with_items ws known) (es ++ ws)
with_items_of known es [] e = e ∙ ap item_sorts (sym (append-nil es))
with_items_of known es (w ∷ ws) e = with_items_of (with_item w known) (es ++ (w ∷ [])) ws (with_item_of known es w e) ∙ ap item_sorts (append_assoc es (w ∷ []) ws)

-- two parts of an item
abbrev AreTwo : (Tree → Tree → Type 0) → List Tree → Type 0
AreTwo P (a ∷ b ∷ []) = P a b
AreTwo P us = ⊥

item_read : (left : ℕ) (known : List Name) (ts : List Token) (i : Written) (rest : List Token) (es : List Written) → AreOf known es → ReadsItem Stands left known ts i rest → IsScopedOver es i
item_read left known ts (def_item x a t) rest es e h =
    subst (λ (xs : List Sort). Fits (within [] xs) types a × Fits (within [] xs) terms t) e (parts_hold (behind known) None (item_pieces OfTerm) (a ∷ t ∷ []) (parts_read h.parts) (AreTwo (λ b u. IsRead (behind known) Ty b × IsRead (behind known) Term u)) (λ b p u q. (p, q)))
item_read left known ts (type_item x k a) rest es e h =
    subst (λ (xs : List Sort). Fits (within [] xs) kinds k × Fits (within [] xs) types a) e (parts_hold (behind known) None (item_pieces OfType) (k ∷ a ∷ []) (parts_read h.parts) (AreTwo (λ l b. IsRead (behind known) Kind l × IsRead (behind known) Ty b)) (λ l p b q. (p, q)))

items_read : (left : ℕ) (known : List Name) (ts : List Token) (es ws : List Written) → AreOf known es → ReadsItems Stands left known ts ws → AreScopedOver es ws
items_read left known ts es [] e h = tt
items_read left known ts es (w ∷ ws) e h = (item_read left known ts w h.0 es e h.1, items_read left (with_item w known) h.0 (es ++ (w ∷ [])) ws (with_item_of known es w e) h.2)

-- what a text says behind items is over these
pub file_read : (left : ℕ) (ts : List Token) (es ws : List Written) → ReadsFile Stands left (with_items es []) ts ws → AreScopedOver es ws
file_read left ts es ws h = items_read left (with_items es []) h.body es ws (with_items_of [] [] es refl) h.items

-- ---- lists of items behind each other

pub over_both : (front es ws : List Written) → AreScopedOver front es → AreScopedOver (front ++ es) ws → AreScopedOver front (es ++ ws)
over_both front [] ws h g = subst (λ (vs : List Written). AreScopedOver vs ws) (append-nil front) g
over_both front (e ∷ es) ws h g = (h.0, over_both (front ++ (e ∷ [])) es ws h.1 (subst (λ (vs : List Written). AreScopedOver vs ws) (sym (append_assoc front (e ∷ []) es)) g))

pub names_both : (es ws : List Written) (known : List Name) → with_items (es ++ ws) known ≡ with_items ws (with_items es known)
names_both [] ws known = refl
names_both (e ∷ es) ws known = names_both es ws (with_item e known)
