-- A short list of digits is read as the number that it spells.
use Rattle.std.proofs.Common.{◌≡◌, ◌+◌, ◌<◌, ◌≤◌, ◌^◌, ◌==◌, ℕ, Bool, true, false, List, [], ◌∷◌, Some, Result, Ok, Err, length, refl, ap, arith, eqb-true}
use Rattle.std.specs.Char.{digit_value, is_ascii_digit}
use Rattle.std.specs.List.{list_all}
use Rattle.std.specs.Result.{result_ok}
use Rattle.std.specs.Str.Parse.{AllDigits, ParsesUnsigned, digits_value, without_leading_plus}
use Rattle.std.specs.Int.{IsInRange}
use Rattle.std.proofs.lemmas.Str.{digit_value_digit}
use Rattle.std.proofs.lemmas.Str.Parse.{digits_value_short}
use Rattle.std.proofs.lemmas.Bool.{leb-true}
use Rattle.clap.proofs.WalkLemmas.{both}

is_digit : (d : ℕ) → is_ascii_digit d ≡ true → IsInRange 48 57 d
is_digit d e = (leb-true 48 d (both _ _ e).0, leb-true d 57 (both _ _ e).1)

digits_are : (ds : List ℕ) → list_all is_ascii_digit ds ≡ true → AllDigits 10 ds
digits_are [] e = tt
digits_are (d ∷ ds) e =
    let r = is_digit d (both _ _ e).0 in
    let v : digit_value d + 48 ≡ d = digit_value_digit d r in
    (omega (arith, v, r.1), digits_are ds (both _ _ e).1)

no_plus : (ds : List ℕ) → list_all is_ascii_digit ds ≡ true → without_leading_plus ds ≡ ds
no_plus [] e = refl
no_plus (d ∷ ds) e = go (d == 43) refl
  where
    go : (b : Bool) → (d == 43) ≡ b → without_leading_plus (d ∷ ds) ≡ d ∷ ds
    go true same = let r = is_digit d (both (is_ascii_digit d) (list_all is_ascii_digit ds) e).0 in absurd (omega (arith, r.0, eqb-true d 43 same))
    go false other = rw other refl

pub number_read : {E : Type 0} (word : List ℕ) (r : Result ℕ E) → 0 < length word → length word ≤ 8 → list_all is_ascii_digit word ≡ true
    → ParsesUnsigned 64 10 word r → result_ok r ≡ Some (digits_value 10 word)
number_read word (Ok n) some short digits p = ap Some (rw (no_plus word digits) at p.1)
number_read word (Err e) some short digits p =
    let all = digits_are word digits in
    let bound : digits_value 10 word < 10 ^ 8 = digits_value_short {P = AllDigits 10} {v = digits_value 10} (record { to = λ ds h. h; from = λ ds h. h; same = λ ds h. refl }) word 8 all short in
    absurd (p (rw (no_plus word digits) ((some, all), omega (arith, bound))))
