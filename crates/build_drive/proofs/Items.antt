-- The items of one file behind those of others.
use Rattle.std.proofs.Common.{◌≡◌, ◌∙◌, false, ◌+◌, ◌-◌, ◌≤◌, ◌<◌, ℕ, zero, suc, inl, inr, List, [], ◌∷◌, ◌++◌, Some, None, drop, get_or, length, map, refl, slice_get, sym, ap, ap₂, subst, arith, append_assoc, length-append}
use Rattle.std.proofs.Math.Seq.{drop-cons}
use Rattle.std.proofs.lemmas.List.{append-nil, drop-map, get_or_append_left}
use Rattle.std.proofs.lemmas.Option.{get_or_from_slice_get, slice_get-get_or, slice_get_cases, slice_get_within}
use Rattle.cdle_model.specs.Classes.{AreScopedOver}
use Rattle.cdle_model.specs.CoreNames.{Name, with_item, with_items}
use Rattle.cdle_model.specs.CoreText.{Says}
use Rattle.cdle_model.specs.CoreTokens.{tokens}
use Rattle.cdle_model.specs.Forms.{Written}
use Rattle.cdle_model.proofs.CoreItems.{file_read}
use Rattle.core_check.specs.Items.{items_of}
use Rattle.core_tree.specs.declared.items.CoreFile.{CoreFile}

pub names-append : (es ws : List Written) (known : List Name) → with_items (es ++ ws) known ≡ with_items ws (with_items es known)
names-append [] ws known = refl
names-append (e ∷ es) ws known = names-append es ws (with_item e known)

pub names-length : (es : List Written) (known : List Name) → length (with_items es known) ≡ length es + length known
names-length [] known = omega arith
names-length (e ∷ es) known = omega (arith, names-length es (with_item e known))

pub over-append : (ds es ws : List Written) → AreScopedOver ds es → AreScopedOver (ds ++ es) ws → AreScopedOver ds (es ++ ws)
over-append ds [] ws h g = subst (λ x. AreScopedOver x ws) (append-nil ds) g
over-append ds (e ∷ es) ws h g = (h.0, over-append (ds ++ (e ∷ [])) es ws h.1 (subst (λ x. AreScopedOver x ws) (sym (append_assoc ds (e ∷ []) es)) g))

-- what bytes say behind items is over these
pub said-over : (bytes : List ℕ) (es ws : List Written) → Says bytes (with_items es []) ws → AreScopedOver es ws
said-over bytes es ws h = file_read 1023 (tokens false 0 bytes) es ws h.file

pub items-push : (fs : List CoreFile) (f : CoreFile) → items_of (fs ++ (f ∷ [])) ≡ items_of fs ++ f.items
items-push [] f = append-nil f.items
items-push (g ∷ fs) f = ap (λ (ws : List Written). g.items ++ ws) (items-push fs f) ∙ sym (append_assoc g.items (items_of fs) f.items)

-- ---- the elements that are left

pub drop-at : {X : Type 0} (xs : List X) (i : ℕ) (x : X) → i < length xs → x ≡ get_or xs i x → drop i xs ≡ x ∷ drop (i + 1) xs
drop-at xs i x lt e = let next : suc i ≡ i + 1 = omega arith in drop-cons xs i x lt ∙ ap₂ (λ y (n : ℕ). y ∷ drop n xs) (sym e) next

pub drop-map-at : {X Y : Type 0} (f : X → Y) (xs : List X) (i : ℕ) (x : X) → i < length xs → x ≡ get_or xs i x → drop i (map f xs) ≡ f x ∷ drop (i + 1) (map f xs)
drop-map-at f xs i x lt e = drop-map f i xs ∙ ap (map f) (drop-at xs i x lt e) ∙ ap (λ ys. f x ∷ ys) (sym (drop-map f (i + 1) xs))

-- ---- the item of a number over several files

past : {X : Type 0} (xs : List X) (n : ℕ) → slice_get xs n ≡ None → length xs ≤ n
past xs n e = elim (slice_get_cases xs n).1 [ inl h ↦ absurd (let g = h.2 in cc) | inr g ↦ g.0 ]

get-here : {X : Type 0} (xs ys : List X) (n : ℕ) (x : X) → slice_get xs n ≡ Some x → slice_get (xs ++ ys) n ≡ Some x
get-here xs ys n x e =
    let lt = slice_get_within xs n x e in
    slice_get-get_or (xs ++ ys) n x (omega (arith, lt, length-append xs ys)) ∙ ap Some (get_or_append_left xs ys x n lt ∙ get_or_from_slice_get xs n x x e)

get-behind : {X : Type 0} (xs ys : List X) (n : ℕ) → length xs ≤ n → slice_get (xs ++ ys) n ≡ slice_get ys (n - length xs)
get-behind [] ys n h = ap (slice_get ys) (omega arith)
get-behind (x ∷ xs) ys zero h = absurd (omega (arith, h))
get-behind (x ∷ xs) ys (suc n) h = get-behind xs ys n (omega (arith, h)) ∙ ap (slice_get ys) (omega arith)

-- the item of this number is that of another among the files from the i-th on
pub data Stands (fs : List CoreFile) (item i n : ℕ) : Type 0 where
  stands : n < length (items_of (drop i fs)) → slice_get (items_of (drop i fs)) n ≡ slice_get (items_of fs) item → Stands fs item i n

pub found : (fs : List CoreFile) (item i n : ℕ) (f : CoreFile) (w : Written) → i < length fs → f ≡ get_or fs i f → Stands fs item i n → slice_get f.items n ≡ Some w
    → slice_get (items_of fs) item ≡ Some w
found fs item i n f w lt e (stands within same) h =
    sym same ∙ ap (λ (gs : List CoreFile). slice_get (items_of gs) n) (drop-at fs i f lt e) ∙ get-here f.items (items_of (drop (i + 1) fs)) n w h

pub stands-next : (fs : List CoreFile) (item i n : ℕ) (f : CoreFile) → i < length fs → f ≡ get_or fs i f → Stands fs item i n → slice_get f.items n ≡ None
    → (length f.items ≤ n) × Stands fs item (i + 1) (n - length f.items)
stands-next fs item i n f lt e (stands within same) h =
    let d = drop-at fs i f lt e in
    let behind = past f.items n h in
    let all = ap (λ (gs : List CoreFile). length (items_of gs)) d in (
      behind,
      stands (omega (arith, within, behind, all, length-append f.items (items_of (drop (i + 1) fs))))
          (sym (get-behind f.items (items_of (drop (i + 1) fs)) n behind) ∙ ap (λ (gs : List CoreFile). slice_get (items_of gs) n) (sym d) ∙ same),
    )
