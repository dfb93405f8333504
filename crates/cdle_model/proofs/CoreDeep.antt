-- A parenthesis too many opens where 1,024 are open.
use Rattle.std.proofs.Common.{◌≡◌, ℕ, zero, suc, ◌+◌, ◌-◌, Bool, true, false, cond, List, [], ◌∷◌, ◌++◌, Option, Some, None, Result, Err, eqb, refl, sym, ap, subst, arith}
use Rattle.std.proofs.lemmas.List.{append-nil}
use Rattle.std.proofs.lemmas.Bool.Decides.{nat_tests}
use Rattle.std.specs.Str.{bytes_eq}
use Rattle.cdle_model.specs.declared.grammar.Sort.{Sort}
use Rattle.cdle_model.specs.declared.grammar.Form.{Form}
use Rattle.cdle_model.specs.declared.grammar.Piece.{Piece}
use Rattle.cdle_model.specs.declared.grammar.Piece.TheVariants.{Binder, Part, Under}
use Rattle.cdle_model.specs.CoreTokens.{Lexeme, Opens, Closes, Word, Token}
use Rattle.cdle_model.specs.CoreFaults.{Fault, TooDeep, passes_nesting}
use Rattle.cdle_model.specs.CoreGrammar.{form_of, name_sort, pieces, look_up, item_words, item_pieces}
use Rattle.cdle_model.specs.CoreNames.{Name, Names, behind, is_star}
use Rattle.cdle_model.specs.CoreWants.{Want, TheWord, MoreItems, ItemWord, ItemName, PartOf, FormOf, Binding, Closing, word_of, left_of, Wrong, NotBound, OtherClass, Step, a_word, a_form, an_item, for_pieces, goes_on, act, ended, rest_or_fault, after, start, opened_by, open_behind, IsDeepPlace}
use Rattle.cdle_model.proofs.CorePrefixes.{front_goes_on}

-- the wants are those of a place where so many parentheses are open
abbrev Level : ℕ → List Want → Type 0
Level n [] = ⊥
Level n (TheWord w what ∷ ws) = (n ≡ 0) × Level 0 ws
Level n (MoreItems known ∷ ws) = (n ≡ 0) × (ws ≡ [])
Level n (ItemWord known ∷ ws) = (n ≡ 1) × (ws ≡ [])
Level n (ItemName known s ∷ ws) = (n ≡ 1) × (ws ≡ [])
Level n (PartOf left scope c ∷ ws) = (left + n ≡ 1024) × Level n ws
Level n (FormOf left scope c ∷ ws) = (left + n ≡ 1024) × (m : ℕ) × (n ≡ suc m) × Level m ws
Level n (Binding left scope s ps ∷ ws) = (left + n ≡ 1024) × (m : ℕ) × (n ≡ suc m) × Level m ws
Level n (Closing left ∷ ws) = (left + n ≡ 1024) × (m : ℕ) × (n ≡ suc m) × Level m ws

level_left : (n : ℕ) (w : Want) (ws : List Want) → Level n (w ∷ ws) → left_of w + n ≡ 1024
level_left n (TheWord x what) ws h = omega (arith, h.0)
level_left n (MoreItems known) ws h = omega (arith, h.0)
level_left n (ItemWord known) ws h = omega (arith, h.0)
level_left n (ItemName known s) ws h = omega (arith, h.0)
level_left n (PartOf left scope c) ws h = h.0
level_left n (FormOf left scope c) ws h = h.0
level_left n (Binding left scope s ps) ws h = h.0
level_left n (Closing left) ws h = h.0

pieces_level : (m left : ℕ) (scope : Names) (binder : Option Name) (ps : List Piece) (ws : List Want) → left + suc m ≡ 1024 → Level m ws → Level (suc m) (for_pieces left scope binder ps ++ ws)
pieces_level m left scope binder [] ws e h = (e, m, refl, h)
pieces_level m left scope binder (Binder s ∷ ps) ws e h = (e, m, refl, h)
pieces_level m left scope binder (Part c ∷ ps) ws e h = (e, pieces_level m left scope binder ps ws e h)
pieces_level m left scope binder (Under c ∷ ps) ws e h = (e, pieces_level m left scope binder ps ws e h)

-- what a step leaves is of that level
abbrev LeavesLevel : ℕ → List Want → Step → Type 0
LeavesLevel n ws None = Unit {0}
LeavesLevel n ws (Some s) = Level n (s.0 ++ ws)

if_level : (n : ℕ) (ws : List Want) (b : Bool) (s r : Step) → LeavesLevel n ws s → LeavesLevel n ws r → LeavesLevel n ws (cond b s r)
if_level n ws true s r f g = f
if_level n ws false s r f g = g

word_level : (n : ℕ) (scope : Names) (o : Option Sort) (w : List ℕ) (ws : List Want) → Level n ws → LeavesLevel n ws (a_word scope o w)
word_level n scope None w ws h = if_level n ws (is_star w) _ None h tt
word_level n scope (Some s) w ws h = if_level n ws (is_star w) None _ tt h

form_level : (m left : ℕ) (scope : Names) (o : Option Form) (ws : List Want) → left + suc m ≡ 1024 → Level m ws → LeavesLevel (suc m) ws (a_form left scope o)
form_level m left scope (Some f) ws e h = pieces_level m left scope None (pieces f) ws e h
form_level m left scope None ws e h = tt

item_level : (known : List Name) (o : Option Sort) → LeavesLevel 1 [] (an_item known o)
item_level known None = tt
item_level known (Some s) = (refl, refl)

act_level : (n : ℕ) (w : Want) (ws : List Want) (t : Lexeme) → Level n (w ∷ ws) → passes_nesting (left_of w) t ≡ false → LeavesLevel (opened_by n t) ws (act w t)
unfolding act
act_level n (TheWord word what) ws (Word w) h e = if_level n ws (bytes_eq w word) _ None (subst (λ k. Level k ws) (sym h.0) h.1) tt
act_level n (TheWord word what) ws Opens h e = tt
act_level n (TheWord word what) ws Closes h e = tt
act_level n (MoreItems known) ws (Word w) h e = tt
act_level n (MoreItems known) ws Opens h e = (omega (arith, h.0), h.1)
act_level n (MoreItems known) ws Closes h e = tt
act_level n (ItemWord known) ws (Word w) h e = rw (h.0, h.1) (item_level known (look_up w item_words))
act_level n (ItemWord known) ws Opens h e = tt
act_level n (ItemWord known) ws Closes h e = tt
act_level n (ItemName known s) ws (Word w) h e = rw (h.0, h.1) (if_level 1 [] (is_star w) None _ tt (rw append-nil (pieces_level 0 1023 (behind known) None (item_pieces s) (MoreItems (record { text = w; sort = s } ∷ known) ∷ []) refl (refl, refl))))
act_level n (ItemName known s) ws Opens h e = tt
act_level n (ItemName known s) ws Closes h e = tt
act_level n (PartOf left scope c) ws (Word w) h e = word_level n scope (name_sort c) w ws h.1
act_level n (PartOf zero scope c) ws Opens h e = absurd cc
act_level n (PartOf (suc left) scope c) ws Opens h e = (omega (arith, h.0), n, omega arith, h.1)
act_level n (PartOf left scope c) ws Closes h e = tt
act_level n (FormOf left scope c) ws (Word w) h e = rw h.2 (form_level h.1 left scope (form_of c w) ws (omega (arith, h.0, h.2)) h.3)
act_level n (FormOf left scope c) ws Opens h e = tt
act_level n (FormOf left scope c) ws Closes h e = tt
act_level n (Binding left scope s ps) ws (Word w) h e = rw h.2 (if_level (suc h.1) ws (is_star w) None _ tt (pieces_level h.1 left scope (Some (record { text = w; sort = s })) ps ws (omega (arith, h.0, h.2)) h.3))
act_level n (Binding left scope s ps) ws Opens h e = tt
act_level n (Binding left scope s ps) ws Closes h e = tt
act_level n (Closing left) ws (Word w) h e = tt
act_level n (Closing left) ws Opens h e = tt
act_level n (Closing left) ws Closes h e = let same : n - 1 ≡ h.1 = omega (arith, h.2) in subst (λ k. Level k ws) (sym same) h.3

-- ---- the first fault

-- where a parenthesis too many opens, and what stands before it
record IsDeepText (n : ℕ) (ws : List Want) (ts : List Token) (at : ℕ) : Type 0 where
  front : List Token
  others : List Token
  parts : ts ≡ front ++ (at, Opens) ∷ others
  full : open_behind n front ≡ 1024
  mid : List Want
  wanted : after ws front ≡ Some mid

one_more : (n : ℕ) (w : Want) (ws : List Want) (t : Token) (ts : List Token) (next : List Want) (wrong : Option Wrong) (at : ℕ)
    → act w t.1 ≡ Some (next, wrong) → IsDeepText (opened_by n t.1) (next ++ ws) ts at → IsDeepText n (w ∷ ws) (t ∷ ts) at
unfolding after
one_more n w ws t ts next wrong at e d = record {
  front = t ∷ d.front;
  others = d.others;
  parts = ap (λ (r : List Token). t ∷ r) d.parts;
  full = d.full;
  mid = d.mid;
  wanted = rw e d.wanted;
}

ended_bad : (end : ℕ) (w : Want) (at : ℕ) → ended end w ≡ Err (TooDeep at) → ⊥
ended_bad end (TheWord x y) at e = cc
ended_bad end (MoreItems known) at e = cc
ended_bad end (ItemWord known) at e = cc
ended_bad end (ItemName known s) at e = cc
ended_bad end (PartOf left scope c) at e = cc
ended_bad end (FormOf left scope c) at e = cc
ended_bad end (Binding left scope s ps) at e = cc
ended_bad end (Closing left) at e = cc

step_deep : (end n : ℕ) (w : Want) (ws : List Want) (t : Token) (ts : List Token) (at : ℕ) (s : Step) → act w t.1 ≡ s → LeavesLevel (opened_by n t.1) ws s
    → ((next : List Want) → Level (opened_by n t.1) next → rest_or_fault end next ts ≡ Err (TooDeep at) → IsDeepText (opened_by n t.1) next ts at)
    → goes_on t.0 (word_of w) s (λ front. rest_or_fault end (front ++ ws) ts) ≡ Err (TooDeep at) → IsDeepText n (w ∷ ws) (t ∷ ts) at
step_deep end n w ws t ts at None e l ih h = absurd cc
step_deep end n w ws t ts at (Some (next, None)) e l ih h = one_more n w ws t ts next None at e (ih (next ++ ws) l h)
step_deep end n w ws t ts at (Some (next, Some NotBound)) e l ih h = absurd cc
step_deep end n w ws t ts at (Some (next, Some OtherClass)) e l ih h = absurd cc

abbrev fault : Fault → Result (List Token) Fault
fault f = Err f

no_more : (left : ℕ) → eqb left 0 ≡ true → left ≡ 0
no_more left e = grind (arith, nat_tests)

deep_here : (n : ℕ) (w : Want) (ws : List Want) (t : Token) (ts : List Token) (at : ℕ) → left_of w + n ≡ 1024 → passes_nesting (left_of w) t.1 ≡ true → Err (TooDeep t.0) ≡ fault (TooDeep at) → IsDeepText n (w ∷ ws) (t ∷ ts) at
unfolding after
deep_here n w ws (from, Opens) ts at l p e = record {
  front = [];
  others = ts;
  parts = let same : from ≡ at = cc in ap (λ (k : ℕ). (k, Opens) ∷ ts) same;
  full = let none = no_more (left_of w) p in omega arith;
  mid = w ∷ ws;
  wanted = refl;
}
deep_here n w ws (from, Closes) ts at l p e = absurd cc
deep_here n w ws (from, Word x) ts at l p e = absurd cc

deep_step : (end n : ℕ) (w : Want) (ws : List Want) (t : Token) (ts : List Token) (at : ℕ) (deep : Bool) (next : Result (List Token) Fault)
    → (deep ≡ true → Err (TooDeep t.0) ≡ fault (TooDeep at) → IsDeepText n (w ∷ ws) (t ∷ ts) at) → (deep ≡ false → next ≡ Err (TooDeep at) → IsDeepText n (w ∷ ws) (t ∷ ts) at)
    → cond deep (Err (TooDeep t.0)) next ≡ Err (TooDeep at) → IsDeepText n (w ∷ ws) (t ∷ ts) at
deep_step end n w ws t ts at true next h g e = h refl e
deep_step end n w ws t ts at false next h g e = g refl e

deep_text : (end n : ℕ) (ws : List Want) (ts : List Token) (at : ℕ) → Level n ws → rest_or_fault end ws ts ≡ Err (TooDeep at) → IsDeepText n ws ts at
unfolding rest_or_fault after
deep_text end n [] ts at l e = absurd l
deep_text end n (w ∷ ws) [] at l e = absurd (ended_bad end w at e)
deep_text end n (w ∷ ws) (t ∷ ts) at l e =
    deep_step end n w ws t ts at (passes_nesting (left_of w) t.1) _ (λ p h. deep_here n w ws t ts at (level_left n w ws l) p h)
    (λ p h. step_deep end n w ws t ts at (act w t.1) refl (act_level n w ws t.1 l p) (λ next k g. deep_text end (opened_by n t.1) next ts at k g) h) e

pub deep_place : (end : ℕ) (known : List Name) (ts : List Token) (at : ℕ) → rest_or_fault end (start known) ts ≡ Err (TooDeep at) → IsDeepPlace ts at
deep_place end known ts at e =
    let d = deep_text end 0 (start known) ts at (refl, (refl, (refl, refl))) e in
    record { front = d.front; others = d.others; parts = d.parts; goes_on = front_goes_on known d.front d.mid d.wanted; full = d.full }
