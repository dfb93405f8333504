-- The names of a text's tokens are parts of words of Core text.
use Rattle.std.proofs.Common.{◌≡◌, ℕ, suc, eqb, ◌+◌, ◌-◌, ◌<◌, Bool, true, false, ◌||◌, if◌then◌else◌, List, [], ◌∷◌, ◌++◌, length, take, drop, get_or, inl, inr, refl, sym, ap, subst, ◌∙◌, arith, Ok, map}
use Rattle.std.specs.Prelude.{slice_range}
use Rattle.std.specs.List.{list_any}
use Rattle.std.specs.Str.{IsUtf8, NonePass, all_scalars, chars, encode_utf8_all}
use Rattle.std.proofs.lemmas.Bool.{both_ways, eqb-true}
use Rattle.std.proofs.lemmas.List.{drop-drop}
use Rattle.std.proofs.lemmas.Str.{NoCharPasses-byte, encodes-append, encodes-chars, scalars-chars}
use Rattle.std.proofs.Math.Seq.{take-append_seam, drop-append_seam}
use Rattle.unicode_ident.proofs.IdentLemmas.{is_xid_start-ascii, is_xid_continue-ascii}
use Rattle.cdle_model.specs.CoreTokens.{ends_word}
use Rattle.source_model.specs.SurfaceTokens.{TextToken, starts_name, continues_name, longest, lexed, width}
use Rattle.source_model.specs.TokenParts.{IsName, IsSpelled}
use Rattle.source_model.specs.declared.token.TokenKind.{TokenKind}
use Rattle.source_model.specs.declared.token.TokenKind.TheVariants as k
use Rattle.source_model.proofs.Parts.{Parts, halves, parts}
use Rattle.scope_model.specs.ItemNames.{IsPartOfWord, AreCalled, called}

never_true : (b : Bool) → (b ≡ true → ⊥) → b ≡ false
never_true true f = absurd (f refl)
never_true false f = refl

-- ---- bytes

none_among : (p : ℕ → Bool) (bs : List ℕ) → ((i : ℕ) → i < length bs → p (get_or bs i 0) ≡ false) → list_any p bs ≡ false
none_among p [] h = refl
none_among p (b ∷ bs) h = λ i. h 0 (omega arith) i || none_among p bs (λ j l. h (suc j) (omega (arith, l))) i

or_else : (b c : Bool) {P : Type 0} → (b ≡ true → P) → (c ≡ true → P) → (b || c) ≡ true → P
or_else true c f g e = f refl
or_else false c f g e = g e

is_byte : (P : ℕ → Type 0) (b c : ℕ) → P c → eqb b c ≡ true → P b
is_byte P b c p e = subst P (sym (eqb-true b c e)) p

-- the bytes that end a word
ends_one : (P : ℕ → Type 0) → P 32 → P 9 → P 10 → P 13 → P 40 → P 41 → P 59 → (b : ℕ) → ends_word b ≡ true → P b
ends_one P space tab feed return opens closes comment b =
    or_else _ _ (or_else _ _ (is_byte P b 32 space) (or_else _ _ (is_byte P b 9 tab) (or_else _ _ (is_byte P b 10 feed) (is_byte P b 13 return))))
    (or_else _ _ (is_byte P b 40 opens) (or_else _ _ (is_byte P b 41 closes) (is_byte P b 59 comment)))

ends_low : (b : ℕ) → ends_word b ≡ true → b < 128
ends_low = ends_one (λ b. b < 128) (omega arith) (omega arith) (omega arith) (omega arith) (omega arith) (omega arith) (omega arith)

chars_go_on : (cs : List ℕ) → NonePass ends_word cs → list_any ends_word (encode_utf8_all cs) ≡ false
chars_go_on cs n =
    let bytes : List ℕ = encode_utf8_all cs in
    none_among ends_word bytes (λ i l. never_true (ends_word (get_or bytes i 0)) (λ e. both_ways (ends_word (get_or bytes i 0)) (NoCharPasses-byte ends_word bytes i (cs, refl, n) l (ends_low (get_or bytes i 0) e)) e))

-- ---- the characters of a name

continues_none : (c : ℕ) → continues_name c ≡ true → ends_word c ≡ false
continues_none c e = never_true (ends_word c) (λ f. both_ways (continues_name c) (ends_one (λ b. continues_name b ≡ false)
    (rw (is_xid_continue-ascii 32 (omega arith)) refl) (rw (is_xid_continue-ascii 9 (omega arith)) refl) (rw (is_xid_continue-ascii 10 (omega arith)) refl) (rw (is_xid_continue-ascii 13 (omega arith)) refl)
    (rw (is_xid_continue-ascii 40 (omega arith)) refl) (rw (is_xid_continue-ascii 41 (omega arith)) refl) (rw (is_xid_continue-ascii 59 (omega arith)) refl) c f) e)

starts_none : (c : ℕ) → starts_name c ≡ true → ends_word c ≡ false
starts_none c e = never_true (ends_word c) (λ f. both_ways (starts_name c) (ends_one (λ b. starts_name b ≡ false)
    (rw (is_xid_start-ascii 32 (omega arith)) refl) (rw (is_xid_start-ascii 9 (omega arith)) refl) (rw (is_xid_start-ascii 10 (omega arith)) refl) (rw (is_xid_start-ascii 13 (omega arith)) refl)
    (rw (is_xid_start-ascii 40 (omega arith)) refl) (rw (is_xid_start-ascii 41 (omega arith)) refl) (rw (is_xid_start-ascii 59 (omega arith)) refl) c f) e)

first_passes : (b : Bool) (c : ℕ) (rest cs : List ℕ) → (if b then c ∷ rest else []) ≡ c ∷ cs → (b ≡ true) × (rest ≡ cs)
first_passes true c rest cs e = (refl, cc)
first_passes false c rest cs e = absurd cc

longest_none : (cs : List ℕ) → longest continues_name cs ≡ cs → NonePass ends_word cs
unfolding longest
longest_none [] e = tt
longest_none (c ∷ cs) e = let f = first_passes (continues_name c) c (longest continues_name cs) cs e in (continues_none c f.0, longest_none cs f.1)

name_goes_on : (bytes : List ℕ) → IsName bytes → list_any ends_word bytes ≡ false
name_goes_on bytes n = ap (list_any ends_word) n.2 ∙ chars_go_on (n.0 ∷ n.1) (starts_none n.0 n.3, longest_none n.1 n.4)

spelled_goes_on : (bytes : List ℕ) → IsSpelled k.Name bytes → list_any ends_word bytes ≡ false
spelled_goes_on bytes (inl e) = ap (list_any ends_word) e
spelled_goes_on bytes (inr n) = name_goes_on bytes n.1

-- ---- tokens

named_part : (j : TokenKind) (bytes word : List ℕ) → bytes ≡ encode_utf8_all word → all_scalars word ≡ true → IsSpelled j (encode_utf8_all word) → j ≡ k.Name → IsPartOfWord bytes
named_part j bytes word e s p n =
    let spelled : IsSpelled k.Name bytes = subst (λ (l : List ℕ). IsSpelled k.Name l) (sym e) (subst (λ (i : TokenKind). IsSpelled i (encode_utf8_all word)) n p) in
    record { utf8 = (word, (s, sym e)); goes_on = spelled_goes_on bytes spelled }

slice_front : (text xs ys : List ℕ) (at to : ℕ) → drop at text ≡ encode_utf8_all (xs ++ ys) → to ≡ at + width xs → (slice_range text at to ≡ encode_utf8_all xs) × (drop to text ≡ encode_utf8_all ys)
slice_front text xs ys at to e f =
    let here : drop at text ≡ encode_utf8_all xs ++ encode_utf8_all ys = e ∙ encodes-append xs ys in
    let long : to - at ≡ width xs = omega (arith, f) in (
      ap (λ (n : ℕ). take n (drop at text)) long ∙ ap (take (width xs)) here ∙ take-append_seam (encode_utf8_all xs) (encode_utf8_all ys),
      ap (λ (n : ℕ). drop n text) f ∙ sym (drop-drop (width xs) at text) ∙ ap (drop (width xs)) here ∙ drop-append_seam (encode_utf8_all xs) (encode_utf8_all ys),
    )

parts_of_words : (text cs : List ℕ) (at : ℕ) (ts : List TextToken) → all_scalars cs ≡ true → drop at text ≡ encode_utf8_all cs → Parts at cs ts → AreCalled IsPartOfWord (map (called text) ts)
parts_of_words text cs at [] s e p = tt
parts_of_words text cs at (t ∷ ts) s e p =
    let gap : List ℕ = p.0 in
    let word : List ℕ = p.1 in
    let rest : List ℕ = p.2 in
    let behind = halves gap (word ++ rest) (ap all_scalars p.3 ∙ s) in
    let split = halves word rest behind.1 in
    let one = slice_front text gap (word ++ rest) at t.span.from (e ∙ ap encode_utf8_all (sym p.3)) p.5 in
    let two = slice_front text word rest t.span.from t.span.to one.1 p.6 in
    (named_part t.kind (slice_range text t.span.from t.span.to) word two.0 split.0 p.8, parts_of_words text rest t.span.to ts split.1 two.1 p.9)

pub token_names : (text : List ℕ) (ts : List TextToken) → IsUtf8 text → lexed text ≡ Ok ts → AreCalled IsPartOfWord (map (called text) ts)
token_names text ts u e = parts_of_words text (chars text) 0 ts (scalars-chars text u) (sym (encodes-chars text u)) (parts (length (chars text)) (chars text) 0 ts (omega arith) e)
