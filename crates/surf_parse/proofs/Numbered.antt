-- Tables that grow keep the numbers of their texts, and the tokens of a text stand between its characters.
use Rattle.std.proofs.Common.{◌≡◌, ℕ, zero, suc, ◌+◌, ◌-◌, ◌<◌, ◌≤◌, Bool, true, false, cond, List, [], ◌∷◌, ◌++◌, length, map, drop, get_or, slice_get, Some, Result, Ok, Err, refl, sym, ap, subst, ◌∙◌, append_assoc, length-drop, arith}
use Rattle.std.proofs.lemmas.List.{append-nil, drop-drop, map_push}
use Rattle.std.specs.Prelude.{IfOk, OnErr, OnOk}
use Rattle.std.specs.Cmp.Lexicographic.{bytes_decides}
use Rattle.cdle_names.specs.declared.table.NameId.{NameId}
use Rattle.std.specs.Str.{IsUtf8, IsCharBoundary, bytes_eq, chars, all_scalars, encode_utf8_all}
use Rattle.std.proofs.lemmas.Str.{encodes-append, encodes-chars, scalars-chars, IsCharBoundary-from_drop}
use Rattle.std.proofs.Math.Seq.{drop-append_seam}
use Rattle.cdle_names.specs.Texts.{number_of, with_text}
use Rattle.source_model.specs.SurfaceTokens.{lexed, width}
use Rattle.source_model.proofs.Parts.{Parts, parts, halves, width-append}
use Rattle.source_model.specs.Grammar.{Token}
use Rattle.source_model.specs.Rows.{same_kind}
use Rattle.source_model.specs.declared.token.TokenKind.{TokenKind}
use Rattle.source_model.specs.declared.token.TokenKind.TheVariants as k
use Rattle.surf_lex.specs.declared.tokens.Token as lexer
use Rattle.surf_tree.specs.Forms.{place}
use Rattle.surf_reader.specs.declared.token.Named.{Named}
use Rattle.surf_reader.specs.View.{token_of}
use Rattle.surf_lex.specs.Fronts.{token_of as text_token}
use Rattle.surf_parse.specs.Answers.{AreNumbered, Grows, bytes_of, numbered}
use Rattle.surf_parse.specs.Numbers.{IsNumber, IsPlaced}

-- ---- tables

pub grows_not : (names : List (List ℕ)) → Grows names names
grows_not names = ([], sym (append-nil names))

pub grows_on : (a b c : List (List ℕ)) → Grows a b → Grows b c → Grows a c
grows_on a b c h j = (h.0 ++ j.0, j.1 ∙ ap (λ (l : List (List ℕ)). l ++ j.0) h.1 ∙ append_assoc a h.0 j.0)

pub grown_is : (a b : List (List ℕ)) → b ≡ a → Grows a b
grown_is a b e = ([], e ∙ sym (append-nil a))

-- one text more
pub with_text_grows : (w : List ℕ) (names : List (List ℕ)) → Grows names (with_text w names)
with_text_grows w [] = (w ∷ [], refl)
with_text_grows w (t ∷ names) = tests (bytes_eq w t) (with_text_grows w names)
  where
    tests : (b : Bool) → Grows names (with_text w names) → Grows (t ∷ names) (cond b (t ∷ names) (t ∷ with_text w names))
    tests true h = grows_not (t ∷ names)
    tests false h = (h.0, ap (λ (l : List (List ℕ)). t ∷ l) h.1)

pub with_text_length : (w : List ℕ) (names : List (List ℕ)) → length (with_text w names) ≤ length names + 1
with_text_length w [] = omega arith
with_text_length w (t ∷ names) = tests (bytes_eq w t) (with_text_length w names)
  where
    tests : (b : Bool) → length (with_text w names) ≤ length names + 1 → length (cond b (t ∷ names) (t ∷ with_text w names)) ≤ length (t ∷ names) + 1
    tests true h = omega arith
    tests false h = omega (arith, h)

-- a text that stands at its number does so in each larger table
pub number_stays : (w : List ℕ) (a : List (List ℕ)) (more : List (List ℕ)) → number_of w a < length a → number_of w (a ++ more) ≡ number_of w a
number_stays w [] more lt = absurd (omega arith)
number_stays w (t ∷ a) more lt = tests (bytes_eq w t) lt (number_stays w a more)
  where
    tests : (b : Bool) → cond b 0 (suc (number_of w a)) < length (t ∷ a) → (number_of w a < length a → number_of w (a ++ more) ≡ number_of w a) → cond b 0 (suc (number_of w (a ++ more))) ≡ cond b 0 (suc (number_of w a))
    tests true lt h = refl
    tests false lt h = ap suc (h (omega (arith, lt)))

pub get_stays : (a more : List (List ℕ)) (i : ℕ) (w : List ℕ) → slice_get a i ≡ Some w → slice_get (a ++ more) i ≡ Some w
get_stays [] more i w e = absurd cc
get_stays (t ∷ a) more zero w e = e
get_stays (t ∷ a) more (suc i) w e = get_stays a more i w e

pub get_within : (a : List (List ℕ)) (i : ℕ) (w : List ℕ) → slice_get a i ≡ Some w → i < length a
get_within [] i w e = absurd cc
get_within (t ∷ a) zero w e = omega arith
get_within (t ∷ a) (suc i) w e = let h = get_within a i w e in omega (arith, h)

-- a text has its number among the texts with it
pub number_there : (w : List ℕ) (a : List (List ℕ)) → number_of w a < length (with_text w a) → number_of w (with_text w a) ≡ number_of w a
number_there w [] lt = tests (bytes_eq w w) (same w)
  where
    same : (v : List ℕ) → bytes_eq v v ≡ true
    same v = (bytes_decides v v).1 refl

    tests : (b : Bool) → b ≡ true → cond b 0 (suc 0) ≡ 0
    tests true e = refl
    tests false e = absurd cc
number_there w (t ∷ a) lt = tests (bytes_eq w t) refl lt (number_there w a)
  where
    tests : (b : Bool) → bytes_eq w t ≡ b → cond b 0 (suc (number_of w a)) < length (cond b (t ∷ a) (t ∷ with_text w a)) → (number_of w a < length (with_text w a) → number_of w (with_text w a) ≡ number_of w a)
        → number_of w (cond b (t ∷ a) (t ∷ with_text w a)) ≡ cond b 0 (suc (number_of w a))
    tests true e lt h = rw e refl
    tests false e lt h = rw e (ap suc (h (omega (arith, lt))))

cond_true : (b : Bool) (n : ℕ) → b ≡ true → cond b n 0 ≡ n
cond_true true n e = refl
cond_true false n e = absurd cc

-- what interning a text gives
pub interned_grows : {X E : Type 0} (res : Result X E) (w : List ℕ) (old new : List (List ℕ)) → OnOk res (new ≡ with_text w old) → OnErr res (new ≡ old) → Grows old new
interned_grows (Ok x) w old new h j = subst (Grows old) (sym h) (with_text_grows w old)
interned_grows (Err e) w old new h j = grown_is old new j

pub interned_length : {X E : Type 0} (res : Result X E) (w : List ℕ) (old new : List (List ℕ)) → OnOk res (new ≡ with_text w old) → OnErr res (new ≡ old) → length new ≤ length old + 1
interned_length (Ok x) w old new h j = let l = with_text_length w old in omega (arith, l, ap (λ (ts : List (List ℕ)). length ts) h)
interned_length (Err e) w old new h j = omega (arith, ap (λ (ts : List (List ℕ)). length ts) j)

named_is : (text : List ℕ) (t : lexer.Token) (w : List ℕ) (old new : List (List ℕ)) (n : ℕ) → same_kind k.Name t.kind ≡ true → w ≡ bytes_of text t → n ≡ number_of w old → new ≡ with_text w old → slice_get new n ≡ Some w → IsNumber text new t n
named_is text t w old new n s b e g h =
    let there : slice_get (with_text w old) (number_of w old) ≡ Some w = subst (λ (i : ℕ). slice_get (with_text w old) i ≡ Some w) e (subst (λ (ts : List (List ℕ)). slice_get ts n ≡ Some w) g h) in
    let kept : number_of w new ≡ n = ap (number_of w) g ∙ number_there w old (get_within (with_text w old) (number_of w old) w there) ∙ sym e in
    let same : n ≡ (numbered text new t).name = sym (cond_true (same_kind k.Name t.kind) (number_of (bytes_of text t) new) s ∙ ap (λ (v : List ℕ). number_of v new) (sym b) ∙ kept) in
    record { same = same; there = λ _. subst (λ (i : ℕ). slice_get new i ≡ Some (bytes_of text t)) same (h ∙ ap (λ (v : List ℕ). Some v) b) }

pub interned_number : {E : Type 0} (res : Result NameId E) (text : List ℕ) (t : lexer.Token) (w : List ℕ) (old new : List (List ℕ)) → same_kind k.Name t.kind ≡ true → w ≡ bytes_of text t
    → IfOk res (λ id. id.0 ≡ number_of w old) → OnOk res (new ≡ with_text w old) → IfOk res (λ id. slice_get new id.0 ≡ Some w) → IfOk res (λ id. IsNumber text new t id.0)
interned_number (Ok id) text t w old new s b e g h = named_is text t w old new id.0 s b e g h
interned_number (Err e) text t w old new s b d g h = tt

-- ---- tokens with numbers

-- what a token is called stays in each larger table
pub name_stays : (text : List ℕ) (a more : List (List ℕ)) (t : lexer.Token) → (t.kind ≡ k.Name → slice_get a (numbered text a t).name ≡ Some (bytes_of text t)) → numbered text (a ++ more) t ≡ numbered text a t
name_stays text a more t h = ap (λ (n : ℕ). record { kind = t.kind; span = place t.span; name = n }) (kinds t.kind h)
  where
    kinds : (s : TokenKind) → (s ≡ k.Name → slice_get a (cond (same_kind k.Name s) (number_of (bytes_of text t) a) 0) ≡ Some (bytes_of text t))
        → cond (same_kind k.Name s) (number_of (bytes_of text t) (a ++ more)) 0 ≡ cond (same_kind k.Name s) (number_of (bytes_of text t) a) 0
    kinds k.Name g = number_stays (bytes_of text t) a more (get_within a (number_of (bytes_of text t) a) (bytes_of text t) (g refl))
    kinds s g = refl

pub all_stay : (text : List ℕ) (a more : List (List ℕ)) (ts : List lexer.Token) → AreNumbered text a ts → (map (numbered text (a ++ more)) ts ≡ map (numbered text a) ts) × AreNumbered text (a ++ more) ts
all_stay text a more [] h = (refl, tt)
all_stay text a more (t ∷ ts) h =
    let others = all_stay text a more ts h.1 in
    let same = name_stays text a more t h.0 in (
      ap (λ (u : Token ℕ). u ∷ map (numbered text (a ++ more)) ts) same ∙ ap (λ (l : List (Token ℕ)). numbered text a t ∷ l) others.0,
      (
        (λ e. subst (λ (u : Token ℕ). slice_get (a ++ more) u.name ≡ Some (bytes_of text t)) (sym same) (get_stays a more (numbered text a t).name (bytes_of text t) (h.0 e))),
        others.1,
      ),
    )

pub all_stay_in : (text : List ℕ) (a b : List (List ℕ)) (ts : List lexer.Token) → Grows a b → AreNumbered text a ts → (map (numbered text b) ts ≡ map (numbered text a) ts) × AreNumbered text b ts
all_stay_in text a b ts g h = subst (λ (c : List (List ℕ)). (map (numbered text c) ts ≡ map (numbered text a) ts) × AreNumbered text c ts) (sym g.1) (all_stay text a g.0 ts h)

pub numbered_push : (text : List ℕ) (a : List (List ℕ)) (ts : List lexer.Token) (t : lexer.Token) → AreNumbered text a ts → (t.kind ≡ k.Name → slice_get a (numbered text a t).name ≡ Some (bytes_of text t)) → AreNumbered text a (ts ++ t ∷ [])
numbered_push text a [] t h j = (j, tt)
numbered_push text a (u ∷ ts) t h j = (h.0, numbered_push text a ts t h.1 j)

-- One more token is numbered.
pub one_more : (text : List ℕ) (a b : List (List ℕ)) (ts : List lexer.Token) (list : List Named) (t : lexer.Token) (n : Named)
    → Grows a b → AreNumbered text a ts → map token_of list ≡ map (numbered text a) ts → IsNumber text b t n.name.0 → n.kind ≡ t.kind → n.span ≡ t.span
    → (map token_of (list ++ n ∷ []) ≡ map (numbered text b) (ts ++ t ∷ [])) × AreNumbered text b (ts ++ t ∷ [])
one_more text a b ts list t n g h e i kind span =
    let kept = all_stay_in text a b ts g h in (
      map_push token_of list n ∙ ap (λ (l : List (Token ℕ)). l ++ token_of n ∷ []) (e ∙ sym kept.0) ∙ ap (λ (u : Token ℕ). map (numbered text b) ts ++ u ∷ []) (rw (kind, span, i.same) refl) ∙ sym (map_push (numbered text b) ts t),
      numbered_push text b ts t kept.1 i.there,
    )

-- ---- the places of tokens

boundary : (text xs : List ℕ) (at : ℕ) → at ≤ length text → all_scalars xs ≡ true → drop at text ≡ encode_utf8_all xs → IsCharBoundary text at
boundary text xs at le s e = IsCharBoundary-from_drop text at le (xs, (s, sym e))

drop_front : (text xs ys : List ℕ) (at to : ℕ) → drop at text ≡ encode_utf8_all (xs ++ ys) → to ≡ at + width xs → drop to text ≡ encode_utf8_all ys
drop_front text xs ys at to e f =
    let here : drop at text ≡ encode_utf8_all xs ++ encode_utf8_all ys = e ∙ encodes-append xs ys in
    ap (λ (n : ℕ). drop n text) f ∙ sym (drop-drop (width xs) at text) ∙ ap (drop (width xs)) here ∙ drop-append_seam (encode_utf8_all xs) (encode_utf8_all ys)

all_placed : (text cs : List ℕ) (at : ℕ) (ts : List lexer.Token) → all_scalars cs ≡ true → drop at text ≡ encode_utf8_all cs → at ≤ length text → Parts at cs (map text_token ts)
    → (i : ℕ) (d : lexer.Token) → i < length ts → IsPlaced text (get_or ts i d)
all_placed text cs at [] s e h p i d lt = absurd (omega arith)
all_placed text cs at (t ∷ ts) s e h p i d lt =
    let gap : List ℕ = p.0 in
    let word : List ℕ = p.1 in
    let rest : List ℕ = p.2 in
    let s' : all_scalars (gap ++ (word ++ rest)) ≡ true = ap all_scalars p.3 ∙ s in
    let s1 = halves gap (word ++ rest) s' in
    let s2 = halves word rest s1.1 in
    let whole : drop at text ≡ encode_utf8_all (gap ++ (word ++ rest)) = e ∙ ap encode_utf8_all (sym p.3) in
    let one = drop_front text gap (word ++ rest) at t.span.from whole p.5 in
    let two = drop_front text word rest t.span.from t.span.to one p.6 in
    let here : length (drop at text) ≡ width gap + (width word + width rest) = ap (λ (l : List ℕ). length l) whole ∙ width-append gap (word ++ rest) ∙ ap (λ (n : ℕ). width gap + n) (width-append word rest) in
    let within : t.span.to ≤ length text = omega (arith, here, length-drop at text, p.5, p.6, h) in
    let ahead : t.span.from ≤ t.span.to = omega (arith, p.6) in
    let first : IsPlaced text t = record { from = boundary text (word ++ rest) t.span.from (omega (arith, ahead, within)) s1.1 one; to = boundary text rest t.span.to within s2.1 two; ahead = ahead } in
    at_place i first (all_placed text rest t.span.to ts s2.1 two within p.9) lt
  where
    at_place : (i : ℕ) → IsPlaced text t → ((j : ℕ) (d : lexer.Token) → j < length ts → IsPlaced text (get_or ts j d)) → i < length (t ∷ ts) → IsPlaced text (get_or (t ∷ ts) i d)
    at_place zero first others lt = first
    at_place (suc j) first others lt = others j d (omega (arith, lt))

pub placed : (text : List ℕ) (ts : List lexer.Token) → IsUtf8 text → lexed text ≡ Ok (map text_token ts) → (i : ℕ) (d : lexer.Token) → i < length ts → IsPlaced text (get_or ts i d)
placed text ts u e = all_placed text (chars text) 0 ts (scalars-chars text u) (sym (encodes-chars text u)) (omega arith) (parts (length (chars text)) (chars text) 0 (map text_token ts) (omega arith) e)
