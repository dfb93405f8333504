-- Where a file has no text, the first item without one is named.
use Rattle.std.proofs.Common.{◌≡◌, ℕ, suc, ◌+◌, ◌<◌, List, [], ◌∷◌, ◌++◌, length, take, Some, None, Result, Ok, Err, codes, refl, sym, ap, ◌∙◌, arith}
use Rattle.cdle_model.specs.Forms.{Written}
use Rattle.cdle_model.specs.CoreNames.{Name}
use Rattle.cdle_model.specs.CoreText.{Says}
use Rattle.print_model.specs.Printed.{Text, item_text, line_before, item_before, lines_text, file_text}
use Rattle.print_model.proofs.TextThere.{file_there}

no_line : (x : List ℕ) (r : Result (List ℕ) ℕ) (n : ℕ) → line_before x r ≡ Err n → r ≡ Err n
no_line x (Ok y) n e = absurd cc
no_line x (Err m) n e = e

module _ (names : List (List ℕ)) where
  -- of the items, the first with the number k, that with the number n is the first that has no text
  record FirstDeep (k n : ℕ) (ws : List Written) : Type 0 where
    pub place : ℕ
    pub number : n ≡ k + place
    pub there : place < length ws
    pub text : List ℕ
    pub before : lines_text names k (take place ws) ≡ Ok text
    pub up_to : lines_text names k (take (suc place) ws) ≡ Err n

  here_or_later : (k n : ℕ) (i : Written) (is : List Written) → (lines_text names (k + 1) is ≡ Err n → FirstDeep (k + 1) n is) → (a : Text) → item_text names i ≡ a
      → item_before k a (lines_text names (k + 1) is) ≡ Err n → FirstDeep k n (i ∷ is)
  here_or_later k n i is later None t e =
      let same : k ≡ n = cc in
      record { place = 0; number = sym same ∙ omega arith; there = omega arith; text = []; before = refl; up_to = rw t e }
  here_or_later k n i is later (Some x) t e =
      let f = later (no_line x (lines_text names (k + 1) is) n e) in
      record { place = suc f.place; number = f.number ∙ omega arith; there = omega (arith, f.there); text = x ++ (10 ∷ f.text); before = rw (t, f.before) refl; up_to = rw (t, f.up_to) refl }

  first_deep : (k n : ℕ) (ws : List Written) → lines_text names k ws ≡ Err n → FirstDeep k n ws
  first_deep k n [] e = absurd cc
  first_deep k n (i ∷ is) e = here_or_later k n i is (first_deep (k + 1) n is) (item_text names i) refl e

  first_in_file : (ws : List Written) (n : ℕ) → file_text names ws ≡ Err n → FirstDeep 0 n ws
  first_in_file ws n e = first_deep 0 n ws (no_line (codes "core 1") (lines_text names 0 ws) n e)

  place_is : (ws : List Written) (n : ℕ) (f : FirstDeep 0 n ws) → f.place ≡ n
  place_is ws n f = sym (f.number ∙ omega arith)

  pub deep_there : (ws : List Written) (n : ℕ) → file_text names ws ≡ Err n → n < length ws
  deep_there ws n e = let f = first_in_file ws n e in omega (arith, f.there, f.number)

  pub earlier_printed : (ws : List Written) (n : ℕ) → file_text names ws ≡ Err n → (text : List ℕ) × (file_text names (take n ws) ≡ Ok text)
  earlier_printed ws n e =
      let f = first_in_file ws n e in
      (codes "core 1" ++ (10 ∷ f.text), ap (λ (k : ℕ). file_text names (take k ws)) (sym (place_is ws n f)) ∙ ap (line_before (codes "core 1")) f.before)

  never_said : (ws : List Written) (n : ℕ) → file_text names ws ≡ Err n → (x : List ℕ) → file_text names ws ≡ Ok x → ⊥
  never_said ws n e x g = absurd cc

  pub deep_not_said : (ws : List Written) (n : ℕ) → file_text names ws ≡ Err n → (bytes : List ℕ) (known : List Name) → Says bytes known (take (suc n) ws) → ⊥
  deep_not_said ws n e bytes known says =
      let f = first_in_file ws n e in
      let text = file_there names bytes known (take (suc n) ws) says in
      let up_to : file_text names (take (suc n) ws) ≡ Err n = ap (λ (k : ℕ). file_text names (take (suc k) ws)) (sym (place_is ws n f)) ∙ ap (line_before (codes "core 1")) f.up_to in
      never_said (take (suc n) ws) n up_to text.0 text.1
