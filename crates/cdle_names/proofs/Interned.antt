-- The texts of a table, and the numbers that its set of strings gives them.
use Rattle.std.proofs.Common.{◌≡◌, ℕ, suc, ◌+◌, Bool, true, false, cond, not, ◌||◌, List, [], ◌∷◌, ◌++◌, length, Some, None, String, string_bytes, refl, sym, ap, subst, ◌∙◌, arith, slice_get}
use Rattle.std.specs.Prelude.{map, nat_lt}
use Rattle.std.specs.String.{string_eq}
use Rattle.std.proofs.lemmas.List.{map_push}
use Rattle.indexmap.specs.IndexSet.{insert_key}
use Rattle.std.specs.List.{list_any, position, position_or_len}
use Rattle.std.specs.Str.{bytes_eq}
use Rattle.std.specs.Cmp.Lexicographic.{bytes_decides}
use Rattle.cdle_names.specs.Texts.{number_of, with_text}

-- a text has its number among the texts with it
pub text_there : (w : List ℕ) (ts : List (List ℕ)) → slice_get (with_text w ts) (number_of w ts) ≡ Some w
text_there w [] = refl
text_there w (t ∷ ts) = tests (bytes_eq w t) (text_there w ts) refl
  where
    tests : (b : Bool) → slice_get (with_text w ts) (number_of w ts) ≡ Some w → bytes_eq w t ≡ b → slice_get (cond b (t ∷ ts) (t ∷ with_text w ts)) (cond b 0 (suc (number_of w ts))) ≡ Some w
    tests true later e = ap Some (sym ((bytes_decides w t).0 e))
    tests false later e = later

module _ {Z : Type 0} (w : List ℕ) where
  abbrev is_text : String Z → Bool
  is_text k = bytes_eq w (string_bytes k)

  abbrev texts : List (String Z) → List (List ℕ)
  texts ks = map string_bytes ks

  pub position_number : (ks : List (String Z)) → position_or_len is_text ks ≡ number_of w (texts ks)
  position_number [] = refl
  position_number (k ∷ ks) = tests (is_text k) (position_number ks)
    where
      tests : (b : Bool) → position_or_len is_text ks ≡ number_of w (texts ks) → cond (not b) (1 + position_or_len is_text ks) 0 ≡ cond b 0 (suc (number_of w (texts ks)))
      tests true e = refl
      tests false e = omega (arith, e)

  pub found_number : (ks : List (String Z)) (i : ℕ) → Some i ≡ position is_text ks → i ≡ number_of w (texts ks)
  found_number ks i e = at_position (nat_lt (position_or_len is_text ks) (length ks)) e ∙ position_number ks
    where
      at_position : (b : Bool) → Some i ≡ cond b (Some (position_or_len is_text ks)) None → i ≡ position_or_len is_text ks
      at_position true e = cc
      at_position false e = absurd cc

  -- a text that is there changes nothing
  pub present_texts : (ks : List (String Z)) → list_any is_text ks ≡ true → with_text w (texts ks) ≡ texts ks
  present_texts [] e = absurd cc
  present_texts (k ∷ ks) e = tests (is_text k) (present_texts ks) e
    where
      tests : (b : Bool) → (list_any is_text ks ≡ true → with_text w (texts ks) ≡ texts ks) → (b || list_any is_text ks) ≡ true → cond b (texts (k ∷ ks)) (string_bytes k ∷ with_text w (texts ks)) ≡ texts (k ∷ ks)
      tests true others e = refl
      tests false others e = ap (◌∷◌ (string_bytes k)) (others e)

  -- one that is not there goes last
  pub absent_texts : (ks : List (String Z)) → list_any is_text ks ≡ false → with_text w (texts ks) ≡ texts ks ++ w ∷ []
  absent_texts [] e = refl
  absent_texts (k ∷ ks) e = tests (is_text k) (absent_texts ks) e
    where
      tests : (b : Bool) → (list_any is_text ks ≡ false → with_text w (texts ks) ≡ texts ks ++ w ∷ []) → (b || list_any is_text ks) ≡ false
          → cond b (texts (k ∷ ks)) (string_bytes k ∷ with_text w (texts ks)) ≡ string_bytes k ∷ (texts ks ++ w ∷ [])
      tests true others e = absurd cc
      tests false others e = ap (◌∷◌ (string_bytes k)) (others e)

  pub absent_number : (ks : List (String Z)) → list_any is_text ks ≡ false → number_of w (texts ks) ≡ length (texts ks)
  absent_number [] e = refl
  absent_number (k ∷ ks) e = tests (is_text k) (absent_number ks) e
    where
      tests : (b : Bool) → (list_any is_text ks ≡ false → number_of w (texts ks) ≡ length (texts ks)) → (b || list_any is_text ks) ≡ false → cond b 0 (suc (number_of w (texts ks))) ≡ suc (length (texts ks))
      tests true others e = absurd cc
      tests false others e = ap suc (others e)

-- what the set of strings has after a new one
pub texts_inserted : {Z : Type 0} (s : String Z) (w : List ℕ) (ks new : List (String Z)) → string_bytes s ≡ w → list_any (is_text w) ks ≡ false → new ≡ insert_key string_eq ks s → texts w new ≡ with_text w (texts w ks)
texts_inserted s w ks new same absent e =
    let here : list_any (string_eq s) ks ≡ false = subst (λ (v : List ℕ). list_any (is_text v) ks ≡ false) (sym same) absent in
    ap (map string_bytes) e ∙ rw here (map_push string_bytes ks s ∙ rw same (sym (absent_texts w ks absent)))

pub number_inserted : {Z : Type 0} (s : String Z) (w : List ℕ) (ks : List (String Z)) (i : ℕ) → string_bytes s ≡ w → i ≡ position_or_len (string_eq s) ks → i ≡ number_of w (texts w ks)
number_inserted s w ks i same e = subst (λ (v : List ℕ). i ≡ number_of v (texts v ks)) same (e ∙ position_number (string_bytes s) ks)
