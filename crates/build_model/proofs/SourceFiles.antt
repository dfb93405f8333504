-- A file says one module, or it has one first fault.
use Rattle.std.proofs.Common.{◌≡◌, ◌⊎◌, inl, inr, ℕ, zero, suc, ◌<◌, ◌≤◌, Bool, true, false, cond, List, [], ◌∷◌, length, take, Result, Ok, Err, map, refl, sym, ap, subst, ◌∙◌, arith}
use Rattle.std.proofs.lemmas.Bool.{cases_lt}
use Rattle.std.specs.Str.{IsUtf8, IsValidUpTo, bytes_eq, is_utf8}
use Rattle.std.specs.Cmp.Lexicographic.{bytes_decides}
use Rattle.std.proofs.lemmas.List.{take_all}
use Rattle.std.proofs.lemmas.Str.{IsUtf8-from_is_utf8, is_utf8-from_IsUtf8, utf8_valid_len-IsValidUpTo}
use Rattle.scope_model.specs.ItemNames.{called}
use Rattle.scope_model.specs.ScopeNames.{Text}
use Rattle.source_model.specs.Parsing.{Fault, IsFirstFault, has_slash}
use Rattle.source_model.specs.Source.{Module}
use Rattle.source_model.specs.SurfaceText.{Says}
use Rattle.source_model.specs.SurfaceTokens.{TextToken, TokenFault, lexed}
use Rattle.source_model.proofs.Reading.{one_module, said_is_faultless, said_is_parsed}
use Rattle.source_model.proofs.Whole.{either, one_fault}
use Rattle.build_model.proofs.ReadAnew.{parsed_named}
use Rattle.build_model.specs.SourceFiles.{IsSource, IsFirstSourceFault, SourceFault, NotUtf8, InTokens, InTree, of_file}

-- ---- bytes

not_text : (bytes : List ℕ) (at : ℕ) → IsValidUpTo bytes at → IsUtf8 bytes → ⊥
not_text bytes at v u = v.longest (length bytes) v.short (subst IsUtf8 (sym (take_all (length bytes) bytes (omega arith))) u)

decided : (bytes : List ℕ) → IsUtf8 bytes ⊎ (IsUtf8 bytes → ⊥)
decided bytes = by_test (is_utf8 bytes) refl
  where
    by_test : (b : Bool) → is_utf8 bytes ≡ b → IsUtf8 bytes ⊎ (IsUtf8 bytes → ⊥)
    by_test true e = inl (IsUtf8-from_is_utf8 bytes e)
    by_test false e = inr (λ u. let no : false ≡ true = sym e ∙ is_utf8-from_IsUtf8 bytes u in absurd cc)

abbrev NoneBehind : List ℕ → ℕ → Type 0
NoneBehind bytes n = (m : ℕ) → n < m → IsUtf8 (take m bytes) → ⊥

compared : (a b : ℕ) → a ≤ b → (a ≡ b) ⊎ (a < b)
compared a b le = by_test (cases_lt a b)
  where
    by_test : (a < b) ⊎ (b ≤ a) → (a ≡ b) ⊎ (a < b)
    by_test (inl l) = inr l
    by_test (inr l) = inl (omega (arith, le, l))

none_at : (bytes : List ℕ) (n : ℕ) → NoneBehind bytes (suc n) → (IsUtf8 (take (suc n) bytes) → ⊥) → NoneBehind bytes n
none_at bytes n h d = λ m lt u. by_order m u (compared (suc n) m (omega (arith, lt)))
  where
    by_order : (m : ℕ) → IsUtf8 (take m bytes) → (suc n ≡ m) ⊎ (suc n < m) → ⊥
    by_order m u (inl e) = d (subst (λ (x : ℕ). IsUtf8 (take x bytes)) (sym e) u)
    by_order m u (inr l) = h m l u

or_else : {P Q : Type 0} → P ⊎ (P → ⊥) → ((P → ⊥) → Q) → P ⊎ Q
or_else (inl p) f = inl p
or_else (inr d) f = inr (f d)

longest : (bytes : List ℕ) (n : ℕ) → n < length bytes → NoneBehind bytes n → IsUtf8 (take n bytes) ⊎ ((at : ℕ) × IsValidUpTo bytes at) → (at : ℕ) × IsValidUpTo bytes at
longest bytes n lt h (inl u) = (n, record { short = lt; front = u; longest = h })
longest bytes n lt h (inr v) = v

-- the longest front that is a text
front_of : (bytes : List ℕ) (n : ℕ) → n < length bytes → NoneBehind bytes n → (at : ℕ) × IsValidUpTo bytes at
front_of bytes zero lt h = (zero, record { short = lt; front = ([], (refl, refl)); longest = h })
front_of bytes (suc n) lt h = longest bytes (suc n) lt h (or_else (decided (take (suc n) bytes)) (λ d. front_of bytes n (omega (arith, lt)) (none_at bytes n h d)))

text_or_not : (bytes : List ℕ) → IsUtf8 bytes ⊎ ((at : ℕ) × IsValidUpTo bytes at)
text_or_not [] = inl ([], (refl, refl))
text_or_not (b ∷ bytes) =
    or_else (decided (b ∷ bytes)) (λ d. front_of (b ∷ bytes) (length bytes) (omega arith) (λ m lt u. d (subst IsUtf8 (take_all m (b ∷ bytes) (omega (arith, lt))) u)))

-- ---- files

same_tokens : (bytes : List ℕ) (ts us : List TextToken) → lexed bytes ≡ Ok ts → lexed bytes ≡ Ok us → ts ≡ us
same_tokens bytes ts us d e = let k : Ok ts ≡ Ok us = sym d ∙ e in cc

no_tokens : (bytes : List ℕ) (ts : List TextToken) (f : TokenFault) → lexed bytes ≡ Ok ts → lexed bytes ≡ Err f → ⊥
no_tokens bytes ts f d e = let k : Ok ts ≡ Err f = sym d ∙ e in absurd cc

pub one_source : (bytes : List ℕ) (name : Text) (m n : Module Text) → IsSource bytes name m → IsSource bytes name n → m ≡ n
one_source bytes name m n h j =
    one_module (of_file bytes name) (map (called bytes) h.tokens) m n h.says
    (subst (λ (ts : List TextToken). Says (of_file bytes name) (map (called bytes) ts) n) (same_tokens bytes j.tokens h.tokens j.cut h.cut) j.says)

slashless : (a b : Bool) → cond a false b ≡ true → (a ≡ false) × (b ≡ true)
slashless true b e = absurd cc
slashless false b e = (refl, e)

pub source_named : (bytes : List ℕ) (name : Text) (m : Module Text) → IsSource bytes name m → (m.name ≡ name) × (has_slash name ≡ false)
source_named bytes name m s =
    let h = slashless (has_slash m.name) (bytes_eq m.name name) (parsed_named (λ (w : Text). w) [] (of_file bytes name) (map (called bytes) s.tokens) m (said_is_parsed (of_file bytes name) (map (called bytes) s.tokens) m s.says)) in
    let same : m.name ≡ name = (bytes_decides m.name name).0 h.1 in
    (same, subst (λ (w : Text). has_slash w ≡ false) same h.0)

pub source_is_faultless : (bytes : List ℕ) (name : Text) (m : Module Text) (f : SourceFault) → IsSource bytes name m → IsFirstSourceFault bytes name f → ⊥
source_is_faultless bytes name m (NotUtf8 at) s h = not_text bytes at h s.utf8
source_is_faultless bytes name m (InTokens f) s h = no_tokens bytes s.tokens f s.cut h.1
source_is_faultless bytes name m (InTree f) s h =
    said_is_faultless (of_file bytes name) (map (called bytes) s.tokens) m f s.says
    (subst (λ (ts : List TextToken). IsFirstFault (of_file bytes name) (map (called bytes) ts) f) (same_tokens bytes h.1 s.tokens h.2 s.cut) h.3)

pub one_source_fault : (bytes : List ℕ) (name : Text) (e f : SourceFault) → IsFirstSourceFault bytes name e → IsFirstSourceFault bytes name f → e ≡ f
one_source_fault bytes name (NotUtf8 a) (NotUtf8 b) h j = ap NotUtf8 (sym (utf8_valid_len-IsValidUpTo bytes a h) ∙ utf8_valid_len-IsValidUpTo bytes b j)
one_source_fault bytes name (NotUtf8 a) (InTokens f) h j = absurd (not_text bytes a h j.0)
one_source_fault bytes name (NotUtf8 a) (InTree f) h j = absurd (not_text bytes a h j.0)
one_source_fault bytes name (InTokens e) (NotUtf8 b) h j = absurd (not_text bytes b j h.0)
one_source_fault bytes name (InTokens e) (InTokens f) h j = let k : Err e ≡ Err f = sym h.1 ∙ j.1 in cc
one_source_fault bytes name (InTokens e) (InTree f) h j = absurd (no_tokens bytes j.1 e j.2 h.1)
one_source_fault bytes name (InTree e) (NotUtf8 b) h j = absurd (not_text bytes b j h.0)
one_source_fault bytes name (InTree e) (InTokens f) h j = absurd (no_tokens bytes h.1 f h.2 j.1)
one_source_fault bytes name (InTree e) (InTree f) h j =
    ap InTree (one_fault (of_file bytes name) (map (called bytes) h.1) e f h.3
    (subst (λ (ts : List TextToken). IsFirstFault (of_file bytes name) (map (called bytes) ts) f) (same_tokens bytes j.1 h.1 j.2 h.2) j.3))

-- a source, or faulty
abbrev pub Either : List ℕ → Text → Type 0
Either bytes name = ((m : Module Text) × IsSource bytes name m) ⊎ ((f : SourceFault) × IsFirstSourceFault bytes name f)

tree_or_fault : (bytes : List ℕ) (name : Text) → IsUtf8 bytes → (ts : List TextToken) → lexed bytes ≡ Ok ts
    → ((m : Module Text) × Says (of_file bytes name) (map (called bytes) ts) m) ⊎ ((f : Fault) × IsFirstFault (of_file bytes name) (map (called bytes) ts) f) → Either bytes name
tree_or_fault bytes name u ts e (inl s) = inl (s.0, record { utf8 = u; tokens = ts; cut = e; says = s.1 })
tree_or_fault bytes name u ts e (inr f) = inr (InTree f.0, (u, ts, e, f.1))

tokens_or_fault : (bytes : List ℕ) (name : Text) → IsUtf8 bytes → (r : Result (List TextToken) TokenFault) → lexed bytes ≡ r → Either bytes name
tokens_or_fault bytes name u (Ok ts) e = tree_or_fault bytes name u ts e (either (of_file bytes name) (map (called bytes) ts))
tokens_or_fault bytes name u (Err f) e = inr (InTokens f, (u, e))

text_or_fault : (bytes : List ℕ) (name : Text) → IsUtf8 bytes ⊎ ((at : ℕ) × IsValidUpTo bytes at) → Either bytes name
text_or_fault bytes name (inl u) = tokens_or_fault bytes name u (lexed bytes) refl
text_or_fault bytes name (inr v) = inr (NotUtf8 v.0, v.1)

pub source_or_faulty : (bytes : List ℕ) (name : Text) → Either bytes name
source_or_faulty bytes name = text_or_fault bytes name (text_or_not bytes)
