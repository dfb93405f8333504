-- One token after the other.
use Rattle.std.proofs.Common.{◌≡◌, ℕ, zero, suc, ◌+◌, ◌-◌, ◌<◌, ◌≤◌, Bool, true, false, eqb, ◌||◌, List, [], ◌∷◌, length, get_or, take, drop, refl, sym, ap, subst, ◌∙◌, arith, length-drop, get_or-drop}
use Rattle.std.specs.Prelude.{slice_range}
use Rattle.std.specs.Str.{IsCharBoundary, IsUtf8}
use Rattle.std.proofs.lemmas.Str.{IsCharBoundary-after_ascii, IsUtf8-between}
use Rattle.std.proofs.lemmas.List.{drop_more, drop_all, drop-drop}
use Rattle.std.proofs.lemmas.Bool.Decides.{nat_tests}
use Rattle.cdle_model.specs.CoreTokens.{Token, Opens, Closes, Word, with_byte, tokens, is_white, ends_word}
use Rattle.core_text.specs.View.{rest}

pub or_false : (a b : Bool) → (a || b) ≡ false → (a ≡ false) × (b ≡ false)
or_false true b e = absurd cc
or_false false b e = (refl, e)

-- a byte that goes on in a word
pub record IsInWord (b : ℕ) : Type 0 where
  pub white : is_white b ≡ false
  pub opens : eqb b 40 ≡ false
  pub closes : eqb b 41 ≡ false
  pub comment : eqb b 59 ≡ false

pub in_word : (b : ℕ) → ends_word b ≡ false → IsInWord b
in_word b e =
    let one = or_false (is_white b) _ e in
    let two = or_false (eqb b 40) _ one.1 in
    let three = or_false (eqb b 41) _ two.1 in
    record { white = one.0; opens = two.0; closes = three.0; comment = three.1 }

pub tokens-white : (b at : ℕ) (bs : List ℕ) → is_white b ≡ true → tokens false at (b ∷ bs) ≡ tokens false (at + 1) bs
unfolding tokens
tokens-white b at bs e = rw e refl

pub tokens-comment : (b at : ℕ) (bs : List ℕ) → is_white b ≡ false → eqb b 59 ≡ true → tokens false at (b ∷ bs) ≡ tokens true (at + 1) bs
unfolding tokens
tokens-comment b at bs e f = rw (e, f) refl

pub tokens-opens : (b at : ℕ) (bs : List ℕ) → is_white b ≡ false → eqb b 59 ≡ false → eqb b 40 ≡ true → tokens false at (b ∷ bs) ≡ (at, Opens) ∷ tokens false (at + 1) bs
unfolding tokens
tokens-opens b at bs e f g = rw (e, f, g) refl

pub tokens-closes : (b at : ℕ) (bs : List ℕ) → is_white b ≡ false → eqb b 59 ≡ false → eqb b 40 ≡ false → eqb b 41 ≡ true → tokens false at (b ∷ bs) ≡ (at, Closes) ∷ tokens false (at + 1) bs
unfolding tokens
tokens-closes b at bs e f g h = rw (e, f, g, h) refl

tokens-word : (b at : ℕ) (bs : List ℕ) → ends_word b ≡ false → tokens false at (b ∷ bs) ≡ with_byte at b bs (tokens false (at + 1) bs)
unfolding tokens
tokens-word b at bs e = let w = in_word b e in rw (w.white, w.comment, w.opens, w.closes) refl

with_byte-ends : (at b c : ℕ) (bs : List ℕ) (ts : List Token) → ends_word c ≡ true → with_byte at b (c ∷ bs) ts ≡ (at, Word (b ∷ [])) ∷ ts
with_byte-ends at b c bs [] e = refl
with_byte-ends at b c bs ((after, Word w) ∷ ts) e = rw e refl
with_byte-ends at b c bs ((after, Opens) ∷ ts) e = refl
with_byte-ends at b c bs ((after, Closes) ∷ ts) e = refl

-- a run of suc n bytes of which none ends a word, up to the end or a byte that does
word_first : (n : ℕ) (bytes : List ℕ) (at : ℕ) → suc n ≤ length bytes → ((k : ℕ) → k < suc n → ends_word (get_or bytes k 0) ≡ false)
    → (suc n < length bytes → ends_word (get_or bytes (suc n) 0) ≡ true) → tokens false at bytes ≡ (at, Word (take (suc n) bytes)) ∷ tokens false (at + suc n) (drop (suc n) bytes)
word_first n [] at long word stop = absurd (omega arith)
word_first zero (b ∷ []) at long word stop = tokens-word b at [] (word 0 (omega arith)) ∙ refl
word_first zero (b ∷ c ∷ bs) at long word stop = tokens-word b at (c ∷ bs) (word 0 (omega arith)) ∙ with_byte-ends at b c bs (tokens false (at + 1) (c ∷ bs)) (stop (omega arith))
word_first (suc n) (b ∷ []) at long word stop = absurd (omega arith)
word_first (suc n) (b ∷ c ∷ bs) at long word stop =
    let after = word_first n (c ∷ bs) (at + 1) (omega arith) (λ k h. word (suc k) (omega arith)) (λ h. stop (omega arith)) in
    let e : (at + 1) + suc n ≡ at + suc (suc n) = omega arith in
    tokens-word b at (c ∷ bs) (word 0 (omega arith)) ∙ rw (after, word 1 (omega arith), e) refl

-- ---- the same at a place of the bytes

pub rest_end : (bytes : List ℕ) (at : ℕ) (c : Bool) → length bytes ≤ at → tokens c at (drop at bytes) ≡ []
unfolding tokens
rest_end bytes at c le = rw (drop_all at bytes le) refl

pub rest_white : (bytes : List ℕ) (at : ℕ) → at < length bytes → is_white (get_or bytes at 0) ≡ true → rest bytes (at + 1) ≡ rest bytes at
rest_white bytes at lt e = sym (ap (tokens false at) (drop_more bytes at 0 lt) ∙ tokens-white (get_or bytes at 0) at (drop (at + 1) bytes) e)

pub rest_comment : (bytes : List ℕ) (at : ℕ) → at < length bytes → is_white (get_or bytes at 0) ≡ false → eqb (get_or bytes at 0) 59 ≡ true → tokens true (at + 1) (drop (at + 1) bytes) ≡ rest bytes at
rest_comment bytes at lt e f = sym (ap (tokens false at) (drop_more bytes at 0 lt) ∙ tokens-comment (get_or bytes at 0) at (drop (at + 1) bytes) e f)

pub rest_opens : (bytes : List ℕ) (at : ℕ) → at < length bytes → is_white (get_or bytes at 0) ≡ false → eqb (get_or bytes at 0) 59 ≡ false → eqb (get_or bytes at 0) 40 ≡ true → rest bytes at ≡ (at, Opens) ∷ rest bytes (at + 1)
rest_opens bytes at lt e f g = ap (tokens false at) (drop_more bytes at 0 lt) ∙ tokens-opens (get_or bytes at 0) at (drop (at + 1) bytes) e f g

pub rest_closes : (bytes : List ℕ) (at : ℕ) → at < length bytes → is_white (get_or bytes at 0) ≡ false → eqb (get_or bytes at 0) 59 ≡ false → eqb (get_or bytes at 0) 40 ≡ false → eqb (get_or bytes at 0) 41 ≡ true → rest bytes at ≡ (at, Closes) ∷ rest bytes (at + 1)
rest_closes bytes at lt e f g h = ap (tokens false at) (drop_more bytes at 0 lt) ∙ tokens-closes (get_or bytes at 0) at (drop (at + 1) bytes) e f g h

-- ---- where characters begin

white_ascii : (b : ℕ) → is_white b ≡ true → b < 128
white_ascii b e = grind (arith, nat_tests)

pub after_white : (bytes : List ℕ) (at : ℕ) → IsUtf8 bytes → at < length bytes → is_white (get_or bytes at 0) ≡ true → IsCharBoundary bytes (at + 1)
after_white bytes at u lt e = IsCharBoundary-after_ascii bytes at u lt (white_ascii (get_or bytes at 0) e)

pub word_text : (bytes : List ℕ) (from end : ℕ) → IsUtf8 bytes → from < end → IsCharBoundary bytes from → IsCharBoundary bytes end → IsUtf8 (slice_range bytes from end)
word_text bytes from end u lt b e = IsUtf8-between bytes from end u (omega arith) b e

-- a comment
in_comment : (b at : ℕ) (bs : List ℕ) → eqb b 10 ≡ false → tokens true at (b ∷ bs) ≡ tokens true (at + 1) bs
unfolding tokens
in_comment b at bs e = rw e refl

comment_line : (b at : ℕ) (bs : List ℕ) → b ≡ 10 → tokens true at (b ∷ bs) ≡ tokens false at (b ∷ bs)
unfolding tokens
comment_line b at bs e = rw e refl

pub comment_goes : (bytes : List ℕ) (at : ℕ) → at < length bytes → ¬ (get_or bytes at 0 ≡ 10) → tokens true (at + 1) (drop (at + 1) bytes) ≡ tokens true at (drop at bytes)
comment_goes bytes at lt e = sym (ap (tokens true at) (drop_more bytes at 0 lt) ∙ in_comment (get_or bytes at 0) at (drop (at + 1) bytes) (grind (arith, nat_tests)))

pub comment_stops : (bytes : List ℕ) (at : ℕ) → at < length bytes → get_or bytes at 0 ≡ 10 → rest bytes at ≡ tokens true at (drop at bytes)
comment_stops bytes at lt e = ap (tokens false at) (drop_more bytes at 0 lt) ∙ sym (comment_line (get_or bytes at 0) at (drop (at + 1) bytes) e) ∙ sym (ap (tokens true at) (drop_more bytes at 0 lt))

pub comment_ends : (bytes : List ℕ) (at : ℕ) → length bytes ≤ at → rest bytes at ≡ tokens true at (drop at bytes)
comment_ends bytes at le = rest_end bytes at false le ∙ sym (rest_end bytes at true le)

-- a word
rest_run : (bytes : List ℕ) (from n k end : ℕ) → k ≡ suc n → from + suc n ≡ end → tokens false from (drop from bytes) ≡ (from, Word (take (suc n) (drop from bytes))) ∷ tokens false (from + suc n) (drop (suc n) (drop from bytes))
    → rest bytes from ≡ (from, Word (take k (drop from bytes))) ∷ rest bytes end
rest_run bytes from n k end p q first = first ∙ rw (p, drop-drop (suc n) from bytes, ← q) refl

pub rest_word : (bytes : List ℕ) (from end : ℕ) → from < end → end ≤ length bytes → ((k : ℕ) → from ≤ k → k < end → ends_word (get_or bytes k 0) ≡ false)
    → (end < length bytes → ends_word (get_or bytes end 0) ≡ true) → rest bytes from ≡ (from, Word (take (end - from) (drop from bytes))) ∷ rest bytes end
rest_word bytes from end lt le word stop =
    let n : ℕ = end - from - 1 in
    let k : end - from ≡ suc n = omega arith in
    let e : from + suc n ≡ end = omega arith in
    let long : suc n ≤ length (drop from bytes) = simp length-drop (omega arith) in
    let all : (j : ℕ) → j < suc n → ends_word (get_or (drop from bytes) j 0) ≡ false = λ j h. rw get_or-drop (word (from + j) (omega arith) (omega arith)) in
    let stops : suc n < length (drop from bytes) → ends_word (get_or (drop from bytes) (suc n) 0) ≡ true = λ h. let g : end < length bytes = omega (arith, length-drop from bytes) in subst (λ (i : ℕ). ends_word i ≡ true) (sym (get_or-drop from bytes (suc n) 0 ∙ ap (λ (i : ℕ). get_or bytes i 0) e)) (stop g) in
    rest_run bytes from n (end - from) end k e (word_first n (drop from bytes) from long all stops)
