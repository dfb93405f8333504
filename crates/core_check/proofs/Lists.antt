-- The items of a file and of files, one after the other.
use Rattle.std.proofs.Common.{◌≡◌, ℕ, suc, ◌+◌, ◌<◌, ◌≤◌, Bor, List, [], ◌∷◌, ◌++◌, length, get_or, take, drop, map, refl, sym, ap, ◌∙◌, arith, append_assoc, drop-cons}
use Rattle.std.proofs.lemmas.List.{take_more, map-append, get_or-map, length-map, append-nil, drop_all}
use Rattle.cdle_model.specs.Forms.{Written}
use Rattle.core_tree.specs.declared.items.CoreItem.{CoreItem}
use Rattle.core_tree.specs.declared.items.CoreFile.{CoreFile}
use Rattle.core_tree.specs.Items.{written, all_written}
use Rattle.core_check.specs.Items.{items_of}

written_append : (xs ys : List CoreItem) → all_written (xs ++ ys) ≡ all_written xs ++ all_written ys
written_append [] ys = refl
written_append (x ∷ xs) ys = ap (λ (l : List Written). written x ∷ l) (written_append xs ys)

-- one more item of a file
written_more : (xs : List CoreItem) (i : ℕ) (x : CoreItem) → i < length xs → x ≡ get_or xs i x → all_written (take (i + 1) xs) ≡ all_written (take i xs) ++ (written x ∷ [])
written_more xs i x lt e = ap all_written (take_more xs i x lt) ∙ written_append (take i xs) (get_or xs i x ∷ []) ∙ ap (λ (y : CoreItem). all_written (take i xs) ++ (written y ∷ [])) (sym e)

pub append_more : {X : Type 0} (f : X → Written) (old new : List X) (x : X) (start : List Written) (is : List CoreItem) (i : ℕ) (j : CoreItem)
    → new ≡ old ++ (x ∷ []) → f x ≡ written j → map f old ≡ start ++ all_written (take i is) → i < length is → j ≡ get_or is i j → map f new ≡ start ++ all_written (take (i + 1) is)
append_more f old new x start is i j pushed same before lt e =
    ap (map f) pushed ∙ map-append f old (x ∷ []) ∙ ap (λ (l : List Written). l ++ (f x ∷ [])) before ∙ append_assoc start (all_written (take i is)) (f x ∷ [])
    ∙ ap (λ (w : Written). start ++ (all_written (take i is) ++ (w ∷ []))) same ∙ ap (λ (l : List Written). start ++ l) (sym (written_more is i j lt e))

items_append : (fs gs : List CoreFile) → items_of (fs ++ gs) ≡ items_of fs ++ items_of gs
items_append [] gs = refl
items_append (f ∷ fs) gs = ap (λ (l : List Written). f.items ++ l) (items_append fs gs) ∙ sym (append_assoc f.items (items_of fs) (items_of gs))

-- one more file
pub items_more : (fs : List CoreFile) (i : ℕ) (f : CoreFile) → i < length fs → f ≡ get_or fs i f → items_of (take (i + 1) fs) ≡ items_of (take i fs) ++ f.items
items_more fs i f lt e = ap items_of (take_more fs i f lt) ∙ items_append (take i fs) (get_or fs i f ∷ []) ∙ ap (λ (l : List Written). items_of (take i fs) ++ l) (append-nil (get_or fs i f).items)
    ∙ ap (λ (g : CoreFile). items_of (take i fs) ++ g.items) (sym e)

-- an item behind its reference
abbrev pub behind : Bor CoreItem → Written
behind i = written i.now

-- the items from one of them on
pub from_this : (xs : List (Bor CoreItem)) (i : ℕ) (x : Bor CoreItem) → i < length xs → x ≡ get_or xs i x → drop i (map behind xs) ≡ behind x ∷ drop (i + 1) (map behind xs)
from_this xs i x lt e =
    let same = get_or-map behind xs i x (behind x) lt in
    let len = length-map xs behind in
    let below : i < length (map behind xs) = omega arith in
    let one : suc i ≡ i + 1 = omega arith in
    drop-cons (map behind xs) i (behind x) below ∙ ap (λ (w : Written). w ∷ drop (suc i) (map behind xs)) (same ∙ ap behind (sym e)) ∙ ap (λ (n : ℕ). behind x ∷ drop n (map behind xs)) one

pub none_left : (xs : List (Bor CoreItem)) (i : ℕ) → length xs ≤ i → drop i (map behind xs) ≡ []
none_left xs i past = let len = length-map xs behind in drop_all i (map behind xs) (omega arith)
