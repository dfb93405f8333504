-- The items of which the check speaks are in the list.
use Rattle.std.proofs.Common.{◌≡◌, inl, inr, ℕ, ◌+◌, ◌<◌, List, [], ◌∷◌, ◌++◌, length, Option, Some, None, subst, arith, length-append}
use Rattle.cdle_model.specs.Check.{Finding, gives, refused, spent_at, halts, ListVerdict, accepts, refuses, spends, ends, duplicate, by_name, by_finding, check_item, check_after, check_items, UndecidedAfter, IsUndecided, Reason}
use Rattle.cdle_model.specs.Forms.{Written, name_of}
use Rattle.cdle_model.specs.Check.{first_of}
use Rattle.cdle_model.specs.HeadForms.{Halt}

-- the number of the item is below this one
abbrev IsWithin : ℕ → ListVerdict → Type 0
IsWithin n accepts = Unit {0}
IsWithin n (refuses i path reason) = i < n
IsWithin n (spends i path) = i < n
IsWithin n (ends i h) = i < n
IsWithin n (duplicate i earlier) = i < n

name-within : (n i : ℕ) (o : Option ℕ) (rest : ListVerdict) → i < n → IsWithin n rest → IsWithin n (by_name i o rest)
name-within n i None rest lt h = h
name-within n i (Some e) rest lt h = lt

finding-within : (n i : ℕ) (f : Finding) (rest : ListVerdict) → i < n → IsWithin n rest → IsWithin n (by_finding i f rest)
finding-within n i (gives a) rest lt h = h
finding-within n i (refused p r) rest lt h = lt
finding-within n i (spent_at p) rest lt h = lt
finding-within n i (halts h) rest lt g = lt

check-within : (m n : ℕ) (es ws : List Written) → length es + length ws ≡ n → IsWithin n (check_after m es ws)
check-within m n es [] e = tt
check-within m n es (w ∷ ws) e =
    let rest = check-within m n (es ++ (w ∷ [])) ws (omega (arith, length-append es (w ∷ []))) in
    name-within n (length es) (first_of (name_of w) es) _ (omega arith) (finding-within n (length es) (check_item m es w) _ (omega arith) rest)

verdict-within : (m : ℕ) (ws : List Written) (v : ListVerdict) → check_items m ws ≡ v → IsWithin (length ws) v
verdict-within m ws v e = subst (IsWithin (length ws)) e (check-within m (length ws) [] ws (omega arith))

pub refused-within : (m : ℕ) (ws : List Written) (i : ℕ) (p : List ℕ) (r : Reason) → check_items m ws ≡ refuses i p r → i < length ws
refused-within m ws i p r e = verdict-within m ws (refuses i p r) e

pub duplicate-within : (m : ℕ) (ws : List Written) (i earlier : ℕ) → check_items m ws ≡ duplicate i earlier → i < length ws
duplicate-within m ws i earlier e = verdict-within m ws (duplicate i earlier) e

pub ends-within : (m : ℕ) (ws : List Written) (i : ℕ) (h : Halt) → check_items m ws ≡ ends i h → i < length ws
ends-within m ws i h e = verdict-within m ws (ends i h) e

undecided-within : (n m : ℕ) (es ws : List Written) (i : ℕ) (p : List ℕ) → UndecidedAfter n m es ws i p → i < length es + length ws
undecided-within n m es [] i p h = absurd h
undecided-within n m es (w ∷ ws) i p h = elim h.1 [
  | inl here ↦ omega (arith, here.0)
  | inr later ↦ omega (arith, undecided-within n m (es ++ (w ∷ [])) ws i p later.1, length-append es (w ∷ []))
]

pub undecided-below : (n m : ℕ) (ws : List Written) (i : ℕ) (p : List ℕ) → IsUndecided n m ws i p → i < length ws
undecided-below n m ws i p h = omega (arith, undecided-within n m [] ws i p h)
