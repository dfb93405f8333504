-- A name that is wrong is a word of the text, which stands at the place of the fault.
use Rattle.std.proofs.Common.{◌≡◌, ◌⊎◌, inl, inr, ◌+◌, ◌==◌, ℕ, suc, Bool, true, false, cond, List, [], ◌∷◌, ◌++◌, Option, Some, None, Result, Err, ap, drop, length, refl, sym, subst, arith}
use Rattle.cdle_model.specs.CoreFaults.{Fault, BadText, Unbound, WrongClass, TooDeep, passes_nesting}
use Rattle.cdle_model.specs.CoreNames.{Name}
use Rattle.cdle_model.specs.CoreTokens.{Lexeme, Opens, Closes, Word, Token, IsWordAt, ends_word, is_white, tokens, with_byte}
use Rattle.cdle_model.specs.CoreWants.{Want, TheWord, MoreItems, ItemWord, ItemName, PartOf, FormOf, Binding, Closing, Wrong, NotBound, OtherClass, Step, IsFirstFault, act, ended, goes_on, left_of, rest_or_fault, start, word_of}

-- the fault is that of a name at this place
abbrev pub IsWrongName : ℕ → Fault → Type 0
IsWrongName at (Unbound here) = here ≡ at
IsWrongName at (WrongClass here) = here ≡ at
IsWrongName at f = ⊥

-- among the tokens a word stands at this place
record HasWord (at : ℕ) (ts : List Token) : Type 0 where
  front : List Token
  word : List ℕ
  more : List Token
  parts : ts ≡ front ++ (at, Word word) ∷ more

further : (at : ℕ) (t : Token) (ts : List Token) → HasWord at ts → HasWord at (t ∷ ts)
further at t ts h = record { front = t ∷ h.front; word = h.word; more = h.more; parts = ap (λ (us : List Token). t ∷ us) h.parts }

-- ---- only a word is taken and wrong all the same

abbrev IsFine : Step → Type 0
IsFine (Some (ws, Some f)) = ⊥
IsFine o = Unit {0}

opens_fine : (w : Want) → IsFine (act w Opens)
unfolding act
opens_fine (TheWord word what) = tt
opens_fine (MoreItems known) = tt
opens_fine (ItemWord known) = tt
opens_fine (ItemName known s) = tt
opens_fine (PartOf left scope c) = tt
opens_fine (FormOf left scope c) = tt
opens_fine (Binding left scope s ps) = tt
opens_fine (Closing left) = tt

closes_fine : (w : Want) → IsFine (act w Closes)
unfolding act
closes_fine (TheWord word what) = tt
closes_fine (MoreItems known) = tt
closes_fine (ItemWord known) = tt
closes_fine (ItemName known s) = tt
closes_fine (PartOf left scope c) = tt
closes_fine (FormOf left scope c) = tt
closes_fine (Binding left scope s ps) = tt
closes_fine (Closing left) = tt

wrong_word : (w : Want) (t : Token) (ts : List Token) (ws : List Want) (x : Wrong) → act w t.1 ≡ Some (ws, Some x) → HasWord t.0 (t ∷ ts)
wrong_word w (at, Word word) ts ws x e = record { front = []; word = word; more = ts; parts = refl }
wrong_word w (at, Opens) ts ws x e = absurd (subst IsFine e (opens_fine w))
wrong_word w (at, Closes) ts ws x e = absurd (subst IsFine e (closes_fine w))

abbrev the_fault : Fault → Result (List Token) Fault
the_fault f = Err f

same_fault : (f g : Fault) → the_fault f ≡ the_fault g → f ≡ g
same_fault f g e = cc

wrong_step : (w : Want) (t : Token) (ts : List Token) (b : Bool) (s : Step) (next : List Want → Result (List Token) Fault) (at : ℕ) (f : Fault) → act w t.1 ≡ s
    → ((ws : List Want) → next ws ≡ the_fault f → HasWord at ts) → IsWrongName at f → cond b (Err (TooDeep t.0)) (goes_on t.0 (word_of w) s next) ≡ the_fault f → HasWord at (t ∷ ts)
wrong_step w t ts true s next at f a h x e = absurd (subst (IsWrongName at) (sym (same_fault (TooDeep t.0) f e)) x)
wrong_step w t ts false None next at f a h x e = absurd (subst (IsWrongName at) (sym (same_fault (BadText t.0 (word_of w)) f e)) x)
wrong_step w t ts false (Some (ws, None)) next at f a h x e = further at t ts (h ws e)
wrong_step w t ts false (Some (ws, Some NotBound)) next at f a h x e =
    let here : t.0 ≡ at = subst (IsWrongName at) (sym (same_fault (Unbound t.0) f e)) x in subst (λ n. HasWord n (t ∷ ts)) here (wrong_word w t ts ws NotBound a)
wrong_step w t ts false (Some (ws, Some OtherClass)) next at f a h x e =
    let here : t.0 ≡ at = subst (IsWrongName at) (sym (same_fault (WrongClass t.0) f e)) x in subst (λ n. HasWord n (t ∷ ts)) here (wrong_word w t ts ws OtherClass a)

bad_end : {R : Type 0} (end : ℕ) (w : Want) (at : ℕ) (f : Fault) → IsWrongName at f → the_fault (BadText end (word_of w)) ≡ the_fault f → R
bad_end end w at f x e = absurd (subst (IsWrongName at) (sym (same_fault (BadText end (word_of w)) f e)) x)

no_end : {R : Type 0} (end : ℕ) (w : Want) (at : ℕ) (f : Fault) → IsWrongName at f → ended end w ≡ the_fault f → R
no_end end (MoreItems known) at f x e = absurd cc
no_end end (TheWord word what) at f x e = bad_end end (TheWord word what) at f x e
no_end end (ItemWord known) at f x e = bad_end end (ItemWord known) at f x e
no_end end (ItemName known s) at f x e = bad_end end (ItemName known s) at f x e
no_end end (PartOf left scope c) at f x e = bad_end end (PartOf left scope c) at f x e
no_end end (FormOf left scope c) at f x e = bad_end end (FormOf left scope c) at f x e
no_end end (Binding left scope s ps) at f x e = bad_end end (Binding left scope s ps) at f x e
no_end end (Closing left) at f x e = bad_end end (Closing left) at f x e

wrong_among : (end : ℕ) (ws : List Want) (ts : List Token) (at : ℕ) (f : Fault) → IsWrongName at f → rest_or_fault end ws ts ≡ the_fault f → HasWord at ts
unfolding rest_or_fault
wrong_among end [] ts at f x e = absurd cc
wrong_among end (w ∷ ws) [] at f x e = no_end end w at f x e
wrong_among end (w ∷ ws) (t ∷ ts) at f x e =
    wrong_step w t ts (passes_nesting (left_of w) t.1) (act w t.1) (λ front. rest_or_fault end (front ++ ws) ts) at f refl (λ front k. wrong_among end (front ++ ws) ts at f x k) x e

-- ---- a word among the tokens is found again from its place on

either : {X : Type 0} (b : Bool) (x y z : X) → cond b x y ≡ z → (x ≡ z) ⊎ (y ≡ z)
either true x y z e = inl e
either false x y z e = inr e

-- the bytes, of which the first stands at place k, begin at another with that word
abbrev Begins : ℕ → List ℕ → ℕ → List ℕ → List Token → Type 0
Begins k bytes at w more = (n : ℕ) × (at ≡ k + n) × (tokens false at (drop n bytes) ≡ (at, Word w) ∷ more)

shifted : (b k : ℕ) (bytes : List ℕ) (at : ℕ) (w : List ℕ) (more : List Token) → Begins (k + 1) bytes at w more → Begins k (b ∷ bytes) at w more
shifted b k bytes at w more h = (suc h.0, omega (arith, h.1), h.2)

none_there : {R : Type 0} (front : List Token) (t : Token) (more : List Token) → [] ≡ front ++ t ∷ more → R
none_there [] t more e = absurd cc
none_there (x ∷ front) t more e = absurd cc

abbrev first_lexeme : List Token → Lexeme
first_lexeme [] = Opens
first_lexeme (t ∷ ts) = t.1

abbrev first_place : List Token → ℕ
first_place [] = 0
first_place (t ∷ ts) = t.0

abbrev IsSign : Lexeme → Type 0
IsSign (Word w) = ⊥
IsSign x = Unit {0}

behind_sign : (k : ℕ) (x : Lexeme) (ts front more : List Token) (at : ℕ) (w : List ℕ) → IsSign x → (k, x) ∷ ts ≡ front ++ (at, Word w) ∷ more → (fr : List Token) × (ts ≡ fr ++ (at, Word w) ∷ more)
behind_sign k x ts [] more at w s e = absurd (subst IsSign (ap first_lexeme e) s)
behind_sign k x ts (t ∷ front) more at w s e = (front, cc)

behind_word : (k b : ℕ) (bytes : List ℕ) (ts : List Token) (t : Token) (front more : List Token) (at : ℕ) (w : List ℕ) → with_byte k b bytes ts ≡ t ∷ front ++ (at, Word w) ∷ more
    → (fr : List Token) × (ts ≡ fr ++ (at, Word w) ∷ more)
behind_word k b [] ts t front more at w e = (front, cc)
behind_word k b (c ∷ bytes) [] t front more at w e = (front, cc)
behind_word k b (c ∷ bytes) ((n, Opens) ∷ ts) t front more at w e = (front, cc)
behind_word k b (c ∷ bytes) ((n, Closes) ∷ ts) t front more at w e = (front, cc)
behind_word k b (c ∷ bytes) ((n, Word v) ∷ ts) t front more at w e = elim (either (ends_word c) _ _ _ e) [
  | inl h ↦ (front, cc)
  | inr h ↦ ((n, Word v) ∷ front, let rest : ts ≡ front ++ (at, Word w) ∷ more = cc in ap (λ (us : List Token). (n, Word v) ∷ us) rest)
]

word_place : (k b : ℕ) (bytes : List ℕ) (ts more : List Token) (at : ℕ) (x : Lexeme) → with_byte k b bytes ts ≡ (at, x) ∷ more → k ≡ at
word_place k b [] ts more at x e = ap first_place e
word_place k b (c ∷ bytes) [] more at x e = ap first_place e
word_place k b (c ∷ bytes) ((n, Opens) ∷ ts) more at x e = ap first_place e
word_place k b (c ∷ bytes) ((n, Closes) ∷ ts) more at x e = ap first_place e
word_place k b (c ∷ bytes) ((n, Word v) ∷ ts) more at x e = elim (either (ends_word c) _ _ _ e) [
  | inl h ↦ ap first_place h
  | inr h ↦ ap first_place h
]

at_word : (k b : ℕ) (bytes : List ℕ) (front more : List Token) (at : ℕ) (w : List ℕ) → ((fr : List Token) → tokens false (k + 1) bytes ≡ fr ++ (at, Word w) ∷ more → Begins (k + 1) bytes at w more)
    → with_byte k b bytes (tokens false (k + 1) bytes) ≡ front ++ (at, Word w) ∷ more → tokens false k (b ∷ bytes) ≡ front ++ (at, Word w) ∷ more → Begins k (b ∷ bytes) at w more
at_word k b bytes [] more at w next h e =
    let same = word_place k b bytes (tokens false (k + 1) bytes) more at (Word w) h in (0, omega (arith, same), subst (λ n. tokens false n (b ∷ bytes) ≡ (at, Word w) ∷ more) same e)
at_word k b bytes (t ∷ front) more at w next h e = let r = behind_word k b bytes (tokens false (k + 1) bytes) t front more at w h in shifted b k bytes at w more (next r.0 r.1)

word_begins : (comment : Bool) (k : ℕ) (bytes : List ℕ) (front more : List Token) (at : ℕ) (w : List ℕ) → tokens comment k bytes ≡ front ++ (at, Word w) ∷ more → Begins k bytes at w more
unfolding tokens
word_begins true k [] front more at w e = none_there front (at, Word w) more e
word_begins false k [] front more at w e = none_there front (at, Word w) more e
word_begins true k (b ∷ bytes) front more at w e = elim (either (b == 10) _ _ _ e) [
  | inl h ↦ shifted b k bytes at w more (word_begins false (k + 1) bytes front more at w h)
  | inr h ↦ shifted b k bytes at w more (word_begins true (k + 1) bytes front more at w h)
]
word_begins false k (b ∷ bytes) front more at w e = elim (either (is_white b) _ _ _ e) [
  | inl h ↦ shifted b k bytes at w more (word_begins false (k + 1) bytes front more at w h)
  | inr h ↦ elim (either (b == 59) _ _ _ h) [
    | inl g ↦ shifted b k bytes at w more (word_begins true (k + 1) bytes front more at w g)
    | inr g ↦ elim (either (b == 40) _ _ _ g) [
      | inl f ↦ let r = behind_sign k Opens _ front more at w tt f in shifted b k bytes at w more (word_begins false (k + 1) bytes r.0 more at w r.1)
      | inr f ↦ elim (either (b == 41) _ _ _ f) [
        | inl d ↦ let r = behind_sign k Closes _ front more at w tt d in shifted b k bytes at w more (word_begins false (k + 1) bytes r.0 more at w r.1)
        | inr d ↦ at_word k b bytes front more at w (λ fr q. word_begins false (k + 1) bytes fr more at w q) d e
      ]
    ]
  ]
]

pub wrong_name : (bytes : List ℕ) (known : List Name) (at : ℕ) (f : Fault) → IsFirstFault bytes known f → IsWrongName at f → (w : List ℕ) × IsWordAt bytes at w
wrong_name bytes known at f h x =
    let p = wrong_among (length bytes) (start known) (tokens false 0 bytes) at f x h.1 in
    let b = word_begins false 0 bytes p.front p.more at p.word p.parts in
    let here : b.0 ≡ at = omega (arith, b.1) in
    (p.word, (p.more, subst (λ n. tokens false at (drop n bytes) ≡ (at, Word p.word) ∷ p.more) here b.2))
