-- Elements of lists that are gone over, and tables.
use Rattle.std.proofs.Common.{◌≡◌, ℕ, zero, suc, ◌+◌, ◌<◌, inl, inr, List, [], ◌∷◌, ◌++◌, Some, drop, get_or, length, map, slice_get, take, refl, sym, ap, subst, ◌∙◌, arith}
use Rattle.std.specs.List.{AllZip}
use Rattle.std.proofs.lemmas.Bool.Decides.{eqb_tells}
use Rattle.std.proofs.lemmas.List.{length-map, map_more}
use Rattle.surf_tree.specs.Items.{module_of}
use Rattle.surf_tree.specs.declared.items.SrcModule.{SrcModule}
use Rattle.plan_model.proofs.Numbered.{called_below}
use Rattle.build_plan.specs.Tables.{names_in}

-- what holds below i, and of i, holds below i + 1
pub below_more : (P : ℕ → Type 0) (i : ℕ) → ((j : ℕ) → j < i → P j) → P i → (j : ℕ) → j < i + 1 → P j
below_more P i below here j l = elim (eqb_tells i j) [ inl e ↦ subst P e.1 here | inr n ↦ below j (let f = n.1 in omega arith) ]

-- a list at one of its elements
pub split_at : (xs : List ℕ) (i : ℕ) → i < length xs → xs ≡ take i xs ++ get_or xs i 0 ∷ drop (suc i) xs
split_at [] i l = absurd (omega arith)
split_at (x ∷ xs) zero l = refl
split_at (x ∷ xs) (suc i) l = ap (λ ys. x ∷ ys) (split_at xs i (omega arith))

pub drop_at : (xs : List ℕ) (i : ℕ) → i < length xs → drop i xs ≡ get_or xs i 0 ∷ drop (suc i) xs
drop_at [] i l = absurd (omega arith)
drop_at (x ∷ xs) zero l = refl
drop_at (x ∷ xs) (suc i) l = drop_at xs i (omega arith)

pub zip_push : {X Y : Type 0} (R : X → Y → Type 0) (xs : List X) (ys : List Y) (x : X) (y : Y) → AllZip R xs ys → R x y → AllZip R (xs ++ x ∷ []) (ys ++ y ∷ [])
zip_push R [] [] x y h r = (r, tt)
zip_push R [] (z ∷ ys) x y h r = absurd h
zip_push R (w ∷ xs) [] x y h r = absurd h
zip_push R (w ∷ xs) (z ∷ ys) x y h r = (h.0, zip_push R xs ys x y h.1 r)

pub map_next : {X Y : Type 0} (f : X → Y) (xs : List X) (i : ℕ) (x : X) → i < length xs → x ≡ get_or xs i x → map f (take (i + 1) xs) ≡ map f (take i xs) ++ f x ∷ []
map_next f xs i x l e = map_more f xs i x l ∙ ap (λ y. map f (take i xs) ++ f y ∷ []) (sym e)

-- ---- names

pub name_read : (ms : List SrcModule) (k : ℕ) (m : SrcModule) → k < length ms → m ≡ get_or ms k m → slice_get (names_in ms) k ≡ Some m.name.0
name_read [] k m l e = absurd (omega arith)
name_read (n ∷ ms) zero m l e = ap (λ (x : SrcModule). Some x.name.0) (sym e)
name_read (n ∷ ms) (suc k) m l e = name_read ms k m (omega arith) e

pub name_below : (ms : List SrcModule) (k x : ℕ) → slice_get (names_in ms) k ≡ Some x → k < length ms
name_below ms k x e =
    let l = called_below (names_in ms) k x e in
    let a = length-map ms module_of in
    let b = length-map (map module_of ms) (λ m. m.name) in
    omega arith
