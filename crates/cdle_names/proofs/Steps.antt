-- How a place goes on over one more byte, and where it ends.
use Rattle.std.proofs.Common.{arith, ◌≡◌, ◌≢◌, ◌∙◌, ◌==◌, ◌<◌, ◌≤◌, ◌+◌, ◌-◌, ℕ, Bool, true, false, cond, not, List, [], ◌∷◌, ◌++◌, get_or, take, drop, length, min, refl, sym, ap, take_all, length-append, length-drop, length-take-le, drop_of_length-le, eq-eqb, ne_eqb, leb, leb-true, leb-false}
use Rattle.std.specs.Fmt.{char_count, is_char_start}
use Rattle.std.specs.List.{after_last, count_by, suffix_len, prefix_len}
use Rattle.std.proofs.lemmas.List.{take_more}
use Rattle.std.proofs.lemmas.List.Sums.{count_by_more_no, count_by_more_yes, count_by-le-length}
use Rattle.std.proofs.Math.Seq.{drop-append-le}
use mathlib.Core.List.{reverse-append}
use Rattle.cdle_model.specs.Places.{column_of, line_of}

abbrev is_feed : ℕ → Bool
is_feed b = b == 10

abbrev is_other : ℕ → Bool
is_other b = not (b == 10)

-- characters of a text with one more byte
char_count_push : (text : List ℕ) (b : ℕ) → char_count (text ++ b ∷ []) ≡ char_count text + cond (is_char_start b) 1 0
unfolding char_count
char_count_push [] b = omega arith
char_count_push (x ∷ text) b = let rest = char_count_push text b in omega arith

char_count-le-length : (text : List ℕ) → char_count text ≤ length text
unfolding char_count
char_count-le-length [] = omega arith
char_count-le-length (b ∷ text) = let rest = char_count-le-length text in omega (arith, at_most_one (is_char_start b))
  where
    at_most_one : (t : Bool) → cond t 1 0 ≤ 1
    at_most_one true = omega arith
    at_most_one false = omega arith

pub char_count_none : char_count [] ≡ 0
unfolding char_count
char_count_none = refl

-- how many bytes at the end are no line feeds
suffix_push : (text : List ℕ) (b : ℕ) → suffix_len is_other (text ++ b ∷ []) ≡ cond (is_other b) (1 + suffix_len is_other text) 0
suffix_push text b = ap (prefix_len is_other) (reverse-append text (b ∷ []))

after_feed : (text : List ℕ) (b : ℕ) → b ≡ 10 → after_last is_feed (text ++ b ∷ []) ≡ []
after_feed text b is =
    let none : suffix_len is_other (text ++ b ∷ []) ≡ 0 = suffix_push text b ∙ ap (λ t. cond (not t) (1 + suffix_len is_other text) 0) (eq-eqb b 10 is) in
    drop_of_length-le (text ++ b ∷ []) (omega arith)

after_other : (text : List ℕ) (b : ℕ) → b ≢ 10 → after_last is_feed (text ++ b ∷ []) ≡ after_last is_feed text ++ b ∷ []
after_other text b is =
    let one : suffix_len is_other (text ++ b ∷ []) ≡ 1 + suffix_len is_other text = suffix_push text b ∙ ap (λ t. cond (not t) (1 + suffix_len is_other text) 0) (ne_eqb b 10 is) in
    let same : length (text ++ b ∷ []) - suffix_len is_other (text ++ b ∷ []) ≡ length text - suffix_len is_other text = omega (arith, length-append text (b ∷ [])) in
    ap (λ n. drop n (text ++ b ∷ [])) same ∙ drop-append-le (length text - suffix_len is_other text) text (b ∷ []) (omega arith)

module _ (text : List ℕ) (i : ℕ) (within : i < length text) where
  pub line_past_feed : get_or text i 0 ≡ 10 → line_of text (i + 1) ≡ line_of text i + 1
  line_past_feed is = ap (λ n. n + 1) (count_by_more_yes is_feed text i 0 within (eq-eqb _ _ is))

  pub line_past_other : get_or text i 0 ≢ 10 → line_of text (i + 1) ≡ line_of text i
  line_past_other is = ap (λ n. n + 1) (count_by_more_no is_feed text i 0 within (ne_eqb _ _ is))

  pub column_past_feed : get_or text i 0 ≡ 10 → column_of text (i + 1) ≡ 1
  column_past_feed is =
      let none = ap (after_last is_feed) (take_more text i 0 within) ∙ after_feed (take i text) (get_or text i 0) is in
      ap (λ l. char_count l + 1) none ∙ ap (λ n. n + 1) char_count_none

  past_other : get_or text i 0 ≢ 10 → column_of text (i + 1) ≡ column_of text i + cond (is_char_start (get_or text i 0)) 1 0
  past_other is =
      let more = ap (after_last is_feed) (take_more text i 0 within) ∙ after_other (take i text) (get_or text i 0) is in
      let count : char_count (after_last is_feed (take (i + 1) text)) ≡ char_count (after_last is_feed (take i text)) + cond (is_char_start (get_or text i 0)) 1 0
      = ap char_count more ∙ char_count_push (after_last is_feed (take i text)) (get_or text i 0) in
      omega arith

  pub column_past_start : get_or text i 0 ≢ 10 → is_char_start (get_or text i 0) ≡ true → column_of text (i + 1) ≡ column_of text i + 1
  column_past_start is start = past_other is ∙ ap (λ b. column_of text i + cond b 1 0) start

  pub column_past_inside : get_or text i 0 ≢ 10 → is_char_start (get_or text i 0) ≡ false → column_of text (i + 1) ≡ column_of text i
  column_past_inside is inside = past_other is ∙ ap (λ b. column_of text i + cond b 1 0) inside ∙ omega arith

  -- lines and columns are no more than the bytes before, and one
  pub line_bound : line_of text i ≤ i + 1
  line_bound = omega (arith, count_by-le-length is_feed (take i text), length-take-le i text)

  pub column_bound : column_of text i ≤ i + 1
  column_bound =
      let before = take i text in
      omega (arith, char_count-le-length (after_last is_feed before), length-drop (length before - suffix_len is_other before) before, length-take-le i text)

-- the bytes that the loop goes over are those before the place
module _ (text : List ℕ) (at end i : ℕ) (last : end ≡ min (length text) at) (past : length (take end text) ≤ i) where
  all_before : take i (take end text) ≡ take at text
  all_before = take_all i (take end text) past ∙ cut (leb at (length text)) refl
    where
      cut : (b : Bool) → leb at (length text) ≡ b → take end text ≡ take at text
      cut true short = ap (λ n. take n text) (omega (arith, leb-true _ _ short))
      cut false long = take_all end text (omega (arith, leb-false _ _ long)) ∙ sym (take_all at text (omega (arith, leb-false _ _ long)))

  pub line_at_end : line_of (take end text) i ≡ line_of text at
  line_at_end = ap (λ before. count_by is_feed before + 1) all_before

  pub column_at_end : column_of (take end text) i ≡ column_of text at
  column_at_end = ap (λ before. char_count (after_last is_feed before) + 1) all_before
