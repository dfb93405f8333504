-- Bytes that are written piece by piece.
use Rattle.std.proofs.Common.{◌≡◌, ◌∙◌, ◌+◌, ◌-◌, ◌≤◌, ◌++◌, ℕ, List, Option, Some, None, drop, length, take, sym, ap, subst, arith}
use Rattle.std.specs.Io.KnownBytes.{Appends}
use Rattle.std.proofs.Math.Seq.{take-add}
use Rattle.std.proofs.lemmas.List.{append_assoc, length-drop, take_all}

rest : (at : ℕ) (bytes : List ℕ) → take (length bytes - at) (drop at bytes) ≡ drop at bytes
rest at bytes = take_all (length bytes - at) (drop at bytes) (omega (arith, length-drop at bytes))

-- what is taken of the rest is there
pub piece_within : (at n : ℕ) (bytes : List ℕ) → at ≤ length bytes → n ≤ length (take (length bytes - at) (drop at bytes)) → at + n ≤ length bytes
piece_within at n bytes h k = omega (arith, h, k, ap length (rest at bytes), length-drop at bytes)

more : (a b c : Option (List ℕ)) (done piece all : List ℕ) → all ≡ done ++ piece → Appends a b done → Appends b c piece → Appends a c all
more None b c done piece all e h g = tt
more (Some xs) None c done piece all e h g = absurd h
more (Some xs) (Some ys) None done piece all e h g = absurd g
more (Some xs) (Some ys) (Some zs) done piece all e h g = g ∙ ap (λ l. l ++ piece) h ∙ append_assoc xs done piece ∙ ap (λ l. xs ++ l) (sym e)

-- the next piece is written behind those before it
pub appends_more : (a b c : Option (List ℕ)) (at n : ℕ) (bytes : List ℕ) → Appends a b (take at bytes) → Appends b c (take n (take (length bytes - at) (drop at bytes))) → Appends a c (take (at + n) bytes)
appends_more a b c at n bytes h g = more a b c (take at bytes) (take n (drop at bytes)) (take (at + n) bytes) (take-add at n bytes) h (subst (λ l. Appends b c (take n l)) (rest at bytes) g)
