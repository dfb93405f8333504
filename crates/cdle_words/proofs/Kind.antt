-- What kind of word a word is, for the definition and for the parser.
use Rattle.std.proofs.Common.{◌≡◌, ◌∙◌, ◌+◌, ◌==◌, ◌&&◌, ℕ, suc, Bool, true, false, not, cond, [], ◌∷◌, Option, Some, None, refl, sym, ap, arith, codes, true≢false, subst, take, slice_get, eqb-true}
use Rattle.std.specs.Char.{encode_utf8}
use Rattle.std.specs.Str.{bytes_eq, chars, IsUtf8, is_utf8, all_scalars as scalars}
use Rattle.std.specs.List.{list_all, position_or_len}
use Rattle.std.proofs.lemmas.Str.{is_utf8-from_IsUtf8}
use Rattle.clap.specs.Lexer.{name_and_value, long_of, short_of}
use Rattle.clap.proofs.WalkLemmas.{both}
use Rattle.cdle_words.specs.Words.{Word, is_hyphened, option_word}

-- the name before the first `=` is p exactly where the text is p, or p, `=` and a value
abbrev name_is : Word → Word → Option (Option Word)
name_is p t = cond (bytes_eq p (name_and_value t).0) (Some (name_and_value t).1) None

split : {X : Type 0} (b q : Bool) (v : X) → cond (b && q) (Some v) None ≡ cond b (cond q (Some v) None) None
split true q v = refl
split false q v = refl

-- a first character that is no `=`
more_name : (p : Word) (x c : ℕ) (t : Word) → (x == 61) ≡ false → name_is (c ∷ p) (x ∷ t) ≡ cond (c == x) (name_is p t) None
more_name p x c t other =
    let n : ℕ = position_or_len (λ y. y == 61) t in
    let one : 1 + n ≡ suc n = omega arith in
    let two : suc n + 1 ≡ suc (n + 1) = omega arith in
    rw (other, one, two) (split (c == x) (bytes_eq p (take n t)) (name_and_value t).1)

no_equals : (x c : ℕ) → not (c == 61) ≡ true → (c == x) ≡ true → (x == 61) ≡ false
no_equals x c plain same = rw (sym (eqb-true c x same)) (is_false (c == 61) plain)
  where
    is_false : (b : Bool) → not b ≡ true → b ≡ false
    is_false true e = absurd (true≢false (sym e))
    is_false false e = refl

other_name : (p : Word) (x c : ℕ) (t : Word) → not (c == 61) ≡ true → (c == x) ≡ false → None ≡ name_is (c ∷ p) (x ∷ t)
other_name p x c t plain other = go (x == 61) refl
  where
    go : (b : Bool) → (x == 61) ≡ b → None ≡ name_is (c ∷ p) (x ∷ t)
    go true e = rw e refl
    go false e = rw (more_name p x c t e, other) refl

name_read : (p : Word) → list_all (λ c. not (c == 61)) p ≡ true → (t : Word) → option_word p t ≡ name_is p t
unfolding option_word
name_read [] plain [] = refl
name_read [] plain (x ∷ t) = go (x == 61) refl
  where
    go : (b : Bool) → (x == 61) ≡ b → option_word [] (x ∷ t) ≡ name_is [] (x ∷ t)
    go true e = rw e refl
    go false e =
        let one : 1 + position_or_len (λ y. y == 61) t ≡ suc (position_or_len (λ y. y == 61) t) = omega arith in
        rw (e, one) refl
name_read (c ∷ p) plain [] = refl
name_read (c ∷ p) plain (x ∷ t) = go (c == x) refl (name_read p (both _ _ plain).1 t)
  where
    go : (b : Bool) → (c == x) ≡ b → option_word p t ≡ name_is p t → option_word (c ∷ p) (x ∷ t) ≡ name_is (c ∷ p) (x ∷ t)
    go true e below = rw (more_name p x c t (no_equals x c (both _ _ plain).0 e), e) below
    go false e below = rw e (other_name p x c t (both _ _ plain).0 e)

-- the text of `--budget`, of which a short option has no character
abbrev pub budget_word : Word
budget_word = codes "--budget"

-- what the definition and the parser see in a word
pub data Kind (word : Word) : Type 0 where
  value : long_of word ≡ None → short_of word ≡ None → is_hyphened word ≡ false → option_word budget_word word ≡ None → Kind word
  short : (x c : ℕ) (rest : Word) → long_of word ≡ None → short_of word ≡ Some (x ∷ rest) → slice_get (chars (x ∷ rest)) 0 ≡ Some c
      → is_hyphened word ≡ true → option_word budget_word word ≡ None → Kind word
  other : (name : Word) (v : Option Word) → long_of word ≡ Some (name, v) → bytes_eq (codes "budget") name ≡ false
      → is_hyphened word ≡ true → option_word budget_word word ≡ None → Kind word
  budget : (name : Word) (v : Option Word) → long_of word ≡ Some (name, v) → bytes_eq (codes "budget") name ≡ true
      → is_hyphened word ≡ true → option_word budget_word word ≡ Some v → Kind word

long_kind : (x y z : ℕ) (rest : Word) → (x == 45) ≡ true → (y == 45) ≡ true → Kind (x ∷ y ∷ z ∷ rest)
unfolding option_word
long_kind x y z rest e f = go (bytes_eq (codes "budget") (name_and_value (z ∷ rest)).0) refl (name_read (codes "budget") refl (z ∷ rest))
  where
    first : (45 == x) ≡ true
    first = rw (eqb-true x 45 e) refl

    second : (45 == y) ≡ true
    second = rw (eqb-true y 45 f) refl

    long : long_of (x ∷ y ∷ z ∷ rest) ≡ Some (name_and_value (z ∷ rest))
    long = rw (e, f) refl

    go : (b : Bool) → bytes_eq (codes "budget") (name_and_value (z ∷ rest)).0 ≡ b
        → option_word (codes "budget") (z ∷ rest) ≡ name_is (codes "budget") (z ∷ rest) → Kind (x ∷ y ∷ z ∷ rest)
    go true same read = budget (name_and_value (z ∷ rest)).0 (name_and_value (z ∷ rest)).1 long same e
        (rw (first, second) (read ∙ rw same refl))
    go false same read = other (name_and_value (z ∷ rest)).0 (name_and_value (z ∷ rest)).1 long same e
        (rw (first, second) (read ∙ rw same refl))

not_hyphen : (x : ℕ) → (x == 45) ≡ false → (45 == x) ≡ false
not_hyphen x e = go (45 == x) refl
  where
    go : (b : Bool) → (45 == x) ≡ b → b ≡ false
    go true same = absurd (true≢false (ap (λ y. y == 45) (eqb-true 45 x same) ∙ e))
    go false same = refl

-- a text that has a byte after a hyphen has a character there
short_starts : (x : ℕ) (rest : Word) → IsUtf8 (45 ∷ x ∷ rest) → (c : ℕ) × (slice_get (chars (x ∷ rest)) 0 ≡ Some c)
unfolding chars is_utf8 encode_utf8
short_starts x rest valid = go (chars (x ∷ rest)) refl (is_utf8-from_IsUtf8 (45 ∷ x ∷ rest) valid)
  where
    second : (a b : Bool) → (a && b) ≡ true → b ≡ true
    second a b e = (both a b e).1

    go : (cs : Word) → chars (x ∷ rest) ≡ cs → is_utf8 (45 ∷ x ∷ rest) ≡ true → (c : ℕ) × (slice_get (chars (x ∷ rest)) 0 ≡ Some c)
    go [] none ok = absurd (true≢false (sym (second (scalars (45 ∷ [])) false (rw none at ok))))
    go (c ∷ cs) some ok = (c, rw some refl)

-- every word but `--` is of one kind
pub word_kind : (word : Word) → IsUtf8 word → bytes_eq word (codes "--") ≡ false → Kind word
unfolding option_word
word_kind [] valid ends = value refl refl refl refl
word_kind (x ∷ rest) valid ends = go (x == 45) refl rest valid ends
  where
    bare : (rest : Word) → (x == 45) ≡ false → is_hyphened (x ∷ rest) ≡ false
    bare [] e = refl
    bare (y ∷ ys) e = e

    two : (b : Bool) (y : ℕ) (ys : Word) → (x == 45) ≡ true → (y == 45) ≡ b → IsUtf8 (x ∷ y ∷ ys)
        → bytes_eq (x ∷ y ∷ ys) (codes "--") ≡ false → Kind (x ∷ y ∷ ys)
    two true y [] e f valid ends = absurd (true≢false (rw (e, f) at ends))
    two true y (z ∷ zs) e f valid ends = long_kind x y z zs e f
    two false y ys e f valid ends =
        let c = short_starts y ys (subst (λ z. IsUtf8 (z ∷ y ∷ ys)) (eqb-true x 45 e) valid) in
        short y c.0 ys (rw (e, f) refl) (rw (e, f) refl) c.1 e (rw (eqb-true x 45 e, not_hyphen y f) refl)

    go : (b : Bool) → (x == 45) ≡ b → (rest : Word) → IsUtf8 (x ∷ rest) → bytes_eq (x ∷ rest) (codes "--") ≡ false → Kind (x ∷ rest)
    go false e rest valid ends = value (rw e refl) (rw e refl) (bare rest e) (rw (not_hyphen x e) refl)
    go true e [] valid ends = value (rw e refl) (rw e refl) refl (rw (eqb-true x 45 e) refl)
    go true e (y ∷ ys) valid ends = two (y == 45) y ys e refl valid ends
