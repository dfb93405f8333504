-- The names of a text's tokens have no dot.
use Rattle.std.proofs.Common.{◌≡◌, ℕ, suc, ◌==◌, ◌<◌, Bool, true, false, if◌then◌else◌, List, [], ◌∷◌, length, get_or, ◌||◌, inl, inr, refl, sym, ap, subst, ◌∙◌, arith, Ok, map}
use Rattle.std.specs.Prelude.{slice_range}
use Rattle.std.specs.Str.{IsUtf8, NonePass, encode_utf8_all}
use Rattle.std.proofs.lemmas.Bool.{both_ways, eqb-true}
use Rattle.std.proofs.lemmas.Str.{NoCharPasses-byte}
use Rattle.unicode_ident.proofs.IdentLemmas.{is_xid_start-ascii, is_xid_continue-ascii}
use Rattle.source_model.specs.SurfaceTokens.{TextToken, starts_name, continues_name, longest, lexed}
use Rattle.source_model.specs.TokenParts.{AreTokens, IsName, IsSpelled}
use Rattle.source_model.specs.declared.token.TokenKind.{TokenKind}
use Rattle.source_model.specs.declared.token.TokenKind.TheVariants as k
use Rattle.source_model.proofs.Parts.{tokens_are}
use Rattle.scope_model.specs.ItemNames.{AreCalled, called}
use Rattle.build_model.specs.ModuleNames.{has_dot}

abbrev is_dot : ℕ → Bool
is_dot b = b == 46

never_true : (b : Bool) → (b ≡ true → ⊥) → b ≡ false
never_true true f = absurd (f refl)
never_true false f = refl

at_dot : (P : ℕ → Type 0) (b : ℕ) → P 46 → is_dot b ≡ true → P b
at_dot P b p e = subst P (sym (eqb-true b 46 e)) p

none_among : (bs : List ℕ) → ((i : ℕ) → i < length bs → is_dot (get_or bs i 0) ≡ false) → has_dot bs ≡ false
none_among [] h = refl
none_among (b ∷ bs) h = λ i. h 0 (omega arith) i || none_among bs (λ j l. h (suc j) (omega (arith, l))) i

chars_undotted : (cs : List ℕ) → NonePass is_dot cs → has_dot (encode_utf8_all cs) ≡ false
chars_undotted cs n =
    let bytes : List ℕ = encode_utf8_all cs in
    none_among bytes (λ i l. never_true (is_dot (get_or bytes i 0)) (λ e. both_ways (is_dot (get_or bytes i 0)) (NoCharPasses-byte is_dot bytes i (cs, refl, n) l (at_dot (λ b. b < 128) (get_or bytes i 0) (omega arith) e)) e))

continues_none : (c : ℕ) → continues_name c ≡ true → is_dot c ≡ false
continues_none c e = never_true (is_dot c) (λ f. both_ways (continues_name c) (at_dot (λ b. continues_name b ≡ false) c (rw (is_xid_continue-ascii 46 (omega arith)) refl) f) e)

starts_none : (c : ℕ) → starts_name c ≡ true → is_dot c ≡ false
starts_none c e = never_true (is_dot c) (λ f. both_ways (starts_name c) (at_dot (λ b. starts_name b ≡ false) c (rw (is_xid_start-ascii 46 (omega arith)) refl) f) e)

first_passes : (b : Bool) (c : ℕ) (rest cs : List ℕ) → (if b then c ∷ rest else []) ≡ c ∷ cs → (b ≡ true) × (rest ≡ cs)
first_passes true c rest cs e = (refl, cc)
first_passes false c rest cs e = absurd cc

longest_none : (cs : List ℕ) → longest continues_name cs ≡ cs → NonePass is_dot cs
unfolding longest
longest_none [] e = tt
longest_none (c ∷ cs) e = let f = first_passes (continues_name c) c (longest continues_name cs) cs e in (continues_none c f.0, longest_none cs f.1)

name_undotted : (bytes : List ℕ) → IsName bytes → has_dot bytes ≡ false
name_undotted bytes n = ap has_dot n.2 ∙ chars_undotted (n.0 ∷ n.1) (starts_none n.0 n.3, longest_none n.1 n.4)

spelled_undotted : (bytes : List ℕ) → IsSpelled k.Name bytes → has_dot bytes ≡ false
spelled_undotted bytes (inl e) = ap has_dot e
spelled_undotted bytes (inr n) = name_undotted bytes n.1

all_undotted : (text : List ℕ) (at : ℕ) (ts : List TextToken) → AreTokens text at ts → AreCalled (λ w. has_dot w ≡ false) (map (called text) ts)
all_undotted text at [] p = tt
all_undotted text at (t ∷ ts) p = (λ n. spelled_undotted _ (subst (λ (i : TokenKind). IsSpelled i (slice_range text t.span.from t.span.to)) n p.4), all_undotted text t.span.to ts p.5)

pub tokens_undotted : (text : List ℕ) (ts : List TextToken) → IsUtf8 text → lexed text ≡ Ok ts → AreCalled (λ w. has_dot w ≡ false) (map (called text) ts)
tokens_undotted text ts u e = all_undotted text 0 ts (tokens_are text ts u e)
