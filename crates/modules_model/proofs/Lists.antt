-- Lists of items, one behind the other.
use Rattle.std.proofs.Common.{◌≡◌, ℕ, List, [], ◌∷◌, ◌++◌, refl, sym, ap, subst}
use Rattle.std.specs.List.{AllByRecursion}
use Rattle.std.proofs.lemmas.List.{append_assoc, append-nil}
use Rattle.cdle_model.specs.Classes.{AreScopedOver, item_sort, item_sorts}
use Rattle.cdle_model.specs.Derivation.{IsNew}
use Rattle.cdle_model.specs.Forms.{Written, name_of}
use Rattle.elab_model.specs.Items.{names_of}
use Rattle.print_model.specs.PrintedFiles.{AreNamed}

pub all_append : {A : Type 0} (P : A → Type 0) (xs ys : List A) → AllByRecursion P xs → AllByRecursion P ys → AllByRecursion P (xs ++ ys)
all_append P [] ys h k = k
all_append P (x ∷ xs) ys h k = (h.0, all_append P xs ys h.1 k)

pub names_append : (es ws : List Written) → names_of (es ++ ws) ≡ names_of es ++ names_of ws
names_append [] ws = refl
names_append (e ∷ es) ws = ap (◌∷◌ (name_of e)) (names_append es ws)

pub sorts_append : (es ws : List Written) → item_sorts (es ++ ws) ≡ item_sorts es ++ item_sorts ws
sorts_append [] ws = refl
sorts_append (e ∷ es) ws = ap (◌∷◌ (item_sort e)) (sorts_append es ws)

-- ---- of a list that is scoped or named, the first items are, and those behind them

pub over_first : (es ws vs : List Written) → AreScopedOver es (ws ++ vs) → AreScopedOver es ws
over_first es [] vs h = tt
over_first es (w ∷ ws) vs h = (h.0, over_first (es ++ (w ∷ [])) ws vs h.1)

pub over_rest : (es ws vs : List Written) → AreScopedOver es (ws ++ vs) → AreScopedOver (es ++ ws) vs
over_rest es [] vs h = subst (λ ds. AreScopedOver ds vs) (sym (append-nil es)) h
over_rest es (w ∷ ws) vs h = subst (λ ds. AreScopedOver ds vs) (append_assoc es (w ∷ []) ws) (over_rest (es ++ (w ∷ [])) ws vs h.1)

pub new_first : (x : List ℕ) (es ws : List Written) → IsNew x (es ++ ws) → IsNew x es
new_first x [] ws h = tt
new_first x (e ∷ es) ws h = (h.0, new_first x es ws h.1)

pub named_first : (es ws : List Written) → AreNamed (es ++ ws) → AreNamed es
named_first [] ws h = tt
named_first (e ∷ es) ws h = (h.0, new_first (name_of e) es ws h.1, named_first es ws h.2)
