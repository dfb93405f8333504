-- Each front goes on to a whole text.
use Rattle.std.proofs.Common.{◌≡◌, ℕ, zero, suc, Bool, true, false, cond, List, [], ◌∷◌, ◌++◌, Option, Some, None, refl, subst, ◌∙◌, eq-eqb}
use Rattle.std.specs.Prelude.{codes}
use Rattle.std.specs.Str.{bytes_eq}
use Rattle.cdle_model.specs.declared.grammar.Sort.{Sort}
use Rattle.cdle_model.specs.declared.grammar.Sort.TheVariants.{OfTerm, OfType}
use Rattle.cdle_model.specs.declared.grammar.Class.{Class}
use Rattle.cdle_model.specs.declared.grammar.Form.{Form}
use Rattle.cdle_model.specs.declared.grammar.Piece.{Piece}
use Rattle.cdle_model.specs.declared.grammar.Piece.TheVariants.{Binder, Part, Under}
use Rattle.cdle_model.specs.declared.grammar.CoreWanted.{CoreWanted}
use Rattle.cdle_model.specs.CoreTokens.{Lexeme, Opens, Closes, Word, Token}
use Rattle.cdle_model.specs.CoreGrammar.{form_of, name_sort, pieces, look_up, item_words, item_pieces}
use Rattle.cdle_model.specs.CoreNames.{Name, Names, names_under, behind, is_star}
use Rattle.cdle_model.specs.declared.grammar.Class.TheVariants.{Kind, Ty, Term, Pure, Guide, GuideKind}
use Rattle.cdle_model.specs.declared.grammar.Form.TheVariants.{Kpit, On, Fst, Ap, GuideOn, GuideKpit}
use Rattle.cdle_model.specs.CoreWants.{Want, TheWord, MoreItems, ItemWord, ItemName, PartOf, FormOf, Binding, Closing, Step, a_word, a_form, opening, an_item, for_pieces, taken, act, after}

abbrev x : Token
x = (0, Word (codes "x"))

abbrev leaf_of : Class → Token
leaf_of Kind = (0, Word (codes "*"))
leaf_of Ty = x
leaf_of Term = x
leaf_of Pure = x
leaf_of Guide = x
leaf_of GuideKind = (0, Word (codes "*"))

abbrev end_pieces : List Piece → List Token
end_pieces [] = (0, Closes) ∷ []
end_pieces (Binder s ∷ ps) = x ∷ end_pieces ps
end_pieces (Part c ∷ ps) = leaf_of c ∷ end_pieces ps
end_pieces (Under c ∷ ps) = leaf_of c ∷ end_pieces ps

part_ends : (left : ℕ) (scope : Names) (c : Class) (ws : List Want) (ts : List Token) → after (PartOf left scope c ∷ ws) (leaf_of c ∷ ts) ≡ after ws ts
unfolding after act
part_ends left scope Kind ws ts = refl
part_ends left scope Ty ws ts = refl
part_ends left scope Term ws ts = refl
part_ends left scope Pure ws ts = refl
part_ends left scope Guide ws ts = refl
part_ends left scope GuideKind ws ts = refl

pieces_end : (left : ℕ) (scope : Names) (binder : Option Name) (ps : List Piece) (ws : List Want) → after (for_pieces left scope binder ps ++ ws) (end_pieces ps) ≡ Some ws
unfolding after act
pieces_end left scope binder [] ws = refl
pieces_end left scope binder (Binder s ∷ ps) ws = pieces_end left scope (Some (record { text = codes "x"; sort = s })) ps ws
pieces_end left scope binder (Part c ∷ ps) ws = part_ends left scope c (for_pieces left scope binder ps ++ ws) (end_pieces ps) ∙ pieces_end left scope binder ps ws
pieces_end left scope binder (Under c ∷ ps) ws = part_ends left (names_under binder scope) c (for_pieces left scope binder ps ++ ws) (end_pieces ps) ∙ pieces_end left scope binder ps ws

-- the wants end in items
abbrev pub Fit : List Want → Type 0
Fit [] = ⊥
Fit (TheWord w what ∷ ws) = Fit ws
Fit (MoreItems known ∷ ws) = ws ≡ []
Fit (ItemWord known ∷ ws) = ws ≡ []
Fit (ItemName known s ∷ ws) = ws ≡ []
Fit (PartOf left scope c ∷ ws) = Fit ws
Fit (FormOf left scope c ∷ ws) = Fit ws
Fit (Binding left scope s ps ∷ ws) = Fit ws
Fit (Closing left ∷ ws) = Fit ws

-- something that goes on to a whole text
abbrev pub CanEnd : List Want → Type 0
CanEnd ws = (more : List Token) × (known : List Name) × (after ws more ≡ Some (MoreItems known ∷ []))

ends_after : (w : Want) (ws : List Want) (ts more : List Token) (known : List Name) → ((r : List Token) → after (w ∷ ws) (ts ++ r) ≡ after ws r) → after ws more ≡ Some (MoreItems known ∷ []) → CanEnd (w ∷ ws)
ends_after w ws ts more known e h = (ts ++ more, known, e more ∙ h)

append_pieces : (left : ℕ) (scope : Names) (binder : Option Name) (ps : List Piece) (ws : List Want) (r : List Token) → after (for_pieces left scope binder ps ++ ws) (end_pieces ps ++ r) ≡ after ws r
unfolding after act
append_pieces left scope binder [] ws r = refl
append_pieces left scope binder (Binder s ∷ ps) ws r = append_pieces left scope (Some (record { text = codes "x"; sort = s })) ps ws r
append_pieces left scope binder (Part c ∷ ps) ws r = part_ends left scope c (for_pieces left scope binder ps ++ ws) (end_pieces ps ++ r) ∙ append_pieces left scope binder ps ws r
append_pieces left scope binder (Under c ∷ ps) ws r = part_ends left (names_under binder scope) c (for_pieces left scope binder ps ++ ws) (end_pieces ps ++ r) ∙ append_pieces left scope binder ps ws r

-- what goes on from a form's opening to its end
form_end : Class → List Token
form_end Kind = (0, Word (codes "kpit")) ∷ end_pieces (pieces Kpit)
form_end Ty = (0, Word (codes "on")) ∷ end_pieces (pieces On)
form_end Term = (0, Word (codes "fst")) ∷ end_pieces (pieces Fst)
form_end Pure = (0, Word (codes "ap")) ∷ end_pieces (pieces Ap)
form_end Guide = (0, Word (codes "on")) ∷ end_pieces (pieces GuideOn)
form_end GuideKind = (0, Word (codes "kpit")) ∷ end_pieces (pieces GuideKpit)

form_ends : (left : ℕ) (scope : Names) (c : Class) (ws : List Want) (r : List Token) → after (FormOf left scope c ∷ ws) (form_end c ++ r) ≡ after ws r
unfolding after act form_end
form_ends left scope Kind ws r = append_pieces left scope None (pieces Kpit) ws r
form_ends left scope Ty ws r = append_pieces left scope None (pieces On) ws r
form_ends left scope Term ws r = append_pieces left scope None (pieces Fst) ws r
form_ends left scope Pure ws r = append_pieces left scope None (pieces Ap) ws r
form_ends left scope Guide ws r = append_pieces left scope None (pieces GuideOn) ws r
form_ends left scope GuideKind ws r = append_pieces left scope None (pieces GuideKpit) ws r

same_bytes : (w : List ℕ) → bytes_eq w w ≡ true
same_bytes [] = refl
same_bytes (b ∷ w) = rw (eq-eqb b b refl, same_bytes w) refl

word_ends : (w : List ℕ) (what : CoreWanted) (ws : List Want) (r : List Token) → after (TheWord w what ∷ ws) ((0, Word w) ∷ r) ≡ after ws r
unfolding after act
word_ends w what ws r = rw (same_bytes w) refl

item_ends : (known : List Name) (s : Sort) → CanEnd (ItemName known s ∷ [])
unfolding after act
item_ends known OfTerm = (x ∷ end_pieces (item_pieces OfTerm), record { text = codes "x"; sort = OfTerm } ∷ known, pieces_end 1023 (behind known) None (item_pieces OfTerm) (MoreItems (record { text = codes "x"; sort = OfTerm } ∷ known) ∷ []))
item_ends known OfType = (x ∷ end_pieces (item_pieces OfType), record { text = codes "x"; sort = OfType } ∷ known, pieces_end 1023 (behind known) None (item_pieces OfType) (MoreItems (record { text = codes "x"; sort = OfType } ∷ known) ∷ []))

pub can_end : (ws : List Want) → Fit ws → CanEnd ws
unfolding after act
can_end [] f = absurd f
can_end (TheWord w what ∷ ws) f = let h = can_end ws f in ends_after (TheWord w what) ws ((0, Word w) ∷ []) h.0 h.1 (λ r. word_ends w what ws r) h.2
can_end (MoreItems known ∷ ws) f = ([], known, rw f refl)
can_end (ItemWord known ∷ ws) f = let h = item_ends known OfTerm in ((0, Word (codes "def")) ∷ h.0, h.1, rw f h.2)
can_end (ItemName known s ∷ ws) f = let h = item_ends known s in (h.0, h.1, rw f h.2)
can_end (PartOf left scope c ∷ ws) f = let h = can_end ws f in ends_after (PartOf left scope c) ws (leaf_of c ∷ []) h.0 h.1 (λ r. part_ends left scope c ws r) h.2
can_end (FormOf left scope c ∷ ws) f = let h = can_end ws f in ends_after (FormOf left scope c) ws (form_end c) h.0 h.1 (λ r. form_ends left scope c ws r) h.2
can_end (Binding left scope s ps ∷ ws) f = let h = can_end ws f in ends_after (Binding left scope s ps) ws (x ∷ end_pieces ps) h.0 h.1 (λ r. append_pieces left scope (Some (record { text = codes "x"; sort = s })) ps ws r) h.2
can_end (Closing left ∷ ws) f = let h = can_end ws f in ends_after (Closing left) ws ((0, Closes) ∷ []) h.0 h.1 (λ r. refl) h.2

-- ---- each step keeps that the wants end in items

for_pieces_fit : (left : ℕ) (scope : Names) (binder : Option Name) (ps : List Piece) (ws : List Want) → Fit ws → Fit (for_pieces left scope binder ps ++ ws)
for_pieces_fit left scope binder [] ws f = f
for_pieces_fit left scope binder (Binder s ∷ ps) ws f = f
for_pieces_fit left scope binder (Part c ∷ ps) ws f = for_pieces_fit left scope binder ps ws f
for_pieces_fit left scope binder (Under c ∷ ps) ws f = for_pieces_fit left scope binder ps ws f

-- what a step leaves is fit
abbrev pub LeavesFit : List Want → Step → Type 0
LeavesFit ws None = Unit {0}
LeavesFit ws (Some s) = Fit (s.0 ++ ws)

if_fit : (ws : List Want) (b : Bool) (s r : Step) → LeavesFit ws s → LeavesFit ws r → LeavesFit ws (cond b s r)
if_fit ws true s r f g = f
if_fit ws false s r f g = g

form_fit : (left : ℕ) (scope : Names) (o : Option Form) (ws : List Want) → Fit ws → LeavesFit ws (a_form left scope o)
form_fit left scope (Some f) ws h = for_pieces_fit left scope None (pieces f) ws h
form_fit left scope None ws h = tt

opening_fit : (left : ℕ) (scope : Names) (c : Class) (ws : List Want) → Fit ws → Fit (opening left scope c ++ ws)
opening_fit zero scope c ws f = f
opening_fit (suc left) scope c ws f = f

item_fit : (known : List Name) (o : Option Sort) → LeavesFit [] (an_item known o)
item_fit known None = tt
item_fit known (Some s) = refl

word_fit : (scope : Names) (o : Option Sort) (w : List ℕ) (ws : List Want) → Fit ws → LeavesFit ws (a_word scope o w)
word_fit scope None w ws f = if_fit ws (is_star w) _ None f tt
word_fit scope (Some s) w ws f = if_fit ws (is_star w) None _ tt f

pub act_fit : (w : Want) (ws : List Want) (t : Lexeme) → Fit (w ∷ ws) → LeavesFit ws (act w t)
unfolding act
act_fit (TheWord word what) ws (Word w) f = if_fit ws (bytes_eq w word) _ None f tt
act_fit (TheWord word what) ws Opens f = tt
act_fit (TheWord word what) ws Closes f = tt
act_fit (MoreItems known) ws (Word w) f = tt
act_fit (MoreItems known) ws Opens f = f
act_fit (MoreItems known) ws Closes f = tt
act_fit (ItemWord known) ws (Word w) f = rw f (item_fit known (look_up w item_words))
act_fit (ItemWord known) ws Opens f = tt
act_fit (ItemWord known) ws Closes f = tt
act_fit (ItemName known OfTerm) ws (Word w) f = if_fit ws (is_star w) None _ tt f
act_fit (ItemName known OfType) ws (Word w) f = if_fit ws (is_star w) None _ tt f
act_fit (ItemName known s) ws Opens f = tt
act_fit (ItemName known s) ws Closes f = tt
act_fit (PartOf left scope c) ws (Word w) f = word_fit scope (name_sort c) w ws f
act_fit (PartOf left scope c) ws Opens f = opening_fit left scope c ws f
act_fit (PartOf left scope c) ws Closes f = tt
act_fit (FormOf left scope c) ws (Word w) f = form_fit left scope (form_of c w) ws f
act_fit (FormOf left scope c) ws Opens f = tt
act_fit (FormOf left scope c) ws Closes f = tt
act_fit (Binding left scope s ps) ws (Word w) f = if_fit ws (is_star w) None _ tt (for_pieces_fit left scope (Some (record { text = w; sort = s })) ps ws f)
act_fit (Binding left scope s ps) ws Opens f = tt
act_fit (Binding left scope s ps) ws Closes f = tt
act_fit (Closing left) ws (Word w) f = tt
act_fit (Closing left) ws Opens f = tt
act_fit (Closing left) ws Closes f = f

taken_some : (s : Step) (next : List Want → Option (List Want)) (ws : List Want) (end : List Want) → LeavesFit ws s → taken s (λ front. next (front ++ ws)) ≡ Some end → (then : List Want) × Fit then × (next then ≡ Some end)
taken_some None next ws end f e = absurd cc
taken_some (Some s) next ws end f e = (s.0 ++ ws, f, e)

-- what is wanted after a front can be had, so the front goes on to a whole text
pub fit_after : (ws : List Want) (front : List Token) (end : List Want) → Fit ws → after ws front ≡ Some end → Fit end
unfolding after
fit_after ws [] end f e = let same : ws ≡ end = cc in subst Fit same f
fit_after [] (t ∷ ts) end f e = absurd f
fit_after (w ∷ ws) (t ∷ ts) end f e = let s = taken_some (act w t.1) (λ ns. after ns ts) ws end (act_fit w ws t.1 f) e in fit_after s.0 ts end s.1 s.2
