-- What holds of each element of a list and of those before it.
use Rattle.std.proofs.Common.{◌≡◌, List, [], ◌∷◌, ◌++◌, refl, sym, ap, subst, ◌∙◌}
use Rattle.std.proofs.lemmas.List.{append-nil, append_assoc}

-- behind the elements of the first list, Q holds of each of the second and of those before it
abbrev pub Along : {A : Type 0} → (List A → A → Type 0) → List A → List A → Type 0
Along Q seen [] = Unit {0}
Along Q seen (x ∷ xs) = Q seen x × Along Q (seen ++ x ∷ []) xs

module _ {A : Type 0} (Q : List A → A → Type 0) where
  pub along : (seen xs : List A) → ((before : List A) (x : A) (after : List A) → seen ++ xs ≡ before ++ x ∷ after → Q before x) → Along Q seen xs
  along seen [] h = tt
  along seen (x ∷ xs) h = (h seen x xs refl, along (seen ++ x ∷ []) xs (λ before y after e. h before y after (sym (append_assoc seen (x ∷ []) xs) ∙ e)))

  pub split_along : (seen xs : List A) → Along Q seen xs → (before : List A) (x : A) (after : List A) → xs ≡ before ++ x ∷ after → Q (seen ++ before) x
  split_along seen [] h [] x after e = absurd cc
  split_along seen [] h (b ∷ before) x after e = absurd cc
  split_along seen (y ∷ xs) h [] x after e = let i : y ≡ x = cc in subst (λ zs. Q zs x) (sym (append-nil seen)) (subst (λ z. Q seen z) i h.0)
  split_along seen (y ∷ xs) h (b ∷ before) x after e =
      let i : y ≡ b = cc in
      subst (λ zs. Q zs x) (append_assoc seen (y ∷ []) before ∙ ap (λ z. seen ++ z ∷ before) i)
      (split_along (seen ++ y ∷ []) xs h.1 before x after cc)

  pub along_push : (seen xs : List A) (x : A) → Along Q seen xs → Q (seen ++ xs) x → Along Q seen (xs ++ x ∷ [])
  along_push seen [] x h q = (subst (λ zs. Q zs x) (append-nil seen) q, tt)
  along_push seen (y ∷ xs) x h q = (h.0, along_push (seen ++ y ∷ []) xs x h.1 (subst (λ zs. Q zs x) (sym (append_assoc seen (y ∷ []) xs)) q))

-- the same of a weaker Q
pub along_weaker : {A : Type 0} (Q R : List A → A → Type 0) → ((before : List A) (x : A) → Q before x → R before x) → (seen xs : List A) → Along Q seen xs → Along R seen xs
along_weaker Q R w seen [] h = tt
along_weaker Q R w seen (x ∷ xs) h = (w seen x h.0, along_weaker Q R w (seen ++ x ∷ []) xs h.1)
