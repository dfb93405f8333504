-- The name that stands in a place, token by token.
use Rattle.std.proofs.Common.{◌≡◌, ◌∙◌, ◌≤◌, ◌<◌, ◌++◌, ◌&&◌, ℕ, zero, suc, Bool, true, false, List, [], ◌∷◌, ap, append_assoc, arith, get_or, if◌then◌else◌, length, map, nat_le, Ok, refl, slice_range, subst, sym}
use Rattle.source_model.specs.Source.{Span}
use Rattle.source_model.specs.SurfaceTokens.{TextToken, lexed}
use Rattle.source_model.specs.TokenParts.{AreTokens, HasTokens}
use Rattle.surf_lex.specs.Fronts.{token_of}
use Rattle.surf_lex.specs.declared.tokens.Token as lexer
use Rattle.build_source.specs.Ends.{spelled_in}
use Rattle.cdle_folder.specs.Files.{Bytes}

one_in : (b : Bool) (w xs ys : Bytes) → (if b then w ++ (xs ++ ys) else (xs ++ ys)) ≡ (if b then w ++ xs else xs) ++ ys
one_in true w xs ys = sym (append_assoc w xs ys)
one_in false w xs ys = refl

-- with more tokens behind
pub spelled_more : (text : Bytes) (p : Span) (ts us : List TextToken) → spelled_in text p (ts ++ us) ≡ spelled_in text p ts ++ spelled_in text p us
spelled_more text p [] us = refl
spelled_more text p (t ∷ ts) us =
    let b : Bool = nat_le p.from t.span.from && nat_le t.span.to p.to in
    let w : Bytes = slice_range text t.span.from t.span.to in
    ap (λ (r : Bytes). if b then w ++ r else r) (spelled_more text p ts us) ∙ one_in b w (spelled_in text p ts) (spelled_in text p us)

-- each token stands in the text
pub token_within : (text : Bytes) (at : ℕ) (ts : List lexer.Token) → AreTokens text at (map token_of ts) → (i : ℕ) (d : lexer.Token) → i < length ts
    → ((get_or ts i d).span.from ≤ (get_or ts i d).span.to) × ((get_or ts i d).span.to ≤ length text)
token_within text at [] h i d lt = absurd (omega arith)
token_within text at (t ∷ ts) h zero d lt = (omega (arith, h.1), h.2)
token_within text at (t ∷ ts) h (suc j) d lt = token_within text t.span.to ts h.5 j d (omega (arith, lt))

pub has_tokens : (source text : Bytes) (ts : List TextToken) → text ≡ source → lexed text ≡ Ok ts → HasTokens source
has_tokens source text ts e h = (ts, subst (λ (b : Bytes). lexed b ≡ Ok ts) e h)
