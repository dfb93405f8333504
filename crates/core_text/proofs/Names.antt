-- The items of a file and those of earlier files.
use Rattle.std.proofs.Common.{◌≡◌, ℕ, suc, ◌<◌, ◌+◌, Bool, true, false, cond, List, [], ◌∷◌, ◌++◌, length, Option, Some, None, Result, Ok, Err, refl, sym, ap, subst, ◌∙◌, arith}
use Rattle.std.specs.Str.{bytes_eq}
use Rattle.std.proofs.lemmas.List.{length-append, length-map, length-reverse, map_push, reverse-append}
use Rattle.std.specs.Prelude.{map, reverse, IfSome, IsOk, OnOk}
use Rattle.std.specs.Global.{Vec}
use Rattle.std.specs.HashMap.{HashMap, UpdatesBy, get_by}
use Rattle.std.specs.Map.{lookup, IsKeyTest, AreApart, KeepsOthers}
use Rattle.std.specs.Cmp.Lexicographic.{bytes_decides, nat_list_eq_equiv}
use Rattle.core_text.specs.Names.{entry, entry_names, item_name, new_name, numbered, latest_of, latest_at}
use Rattle.core_text.specs.declared.entry.NewName.{NewName}
use Rattle.core_tree.specs.Items.{all_written}
use Rattle.core_tree.specs.declared.items.CoreItem.{CoreItem}
use Rattle.core_text.specs.declared.entry.Entry.{Entry}
use Rattle.cdle_model.specs.declared.grammar.Sort.{Sort}
use Rattle.cdle_model.specs.Trees.{Tree, name}
use Rattle.cdle_model.specs.Forms.{Written}
use Rattle.cdle_model.specs.CoreNames.{Name, item_of, with_item, with_items}

abbrev numbered_from : ℕ → Tree → Tree
numbered_from k (name n) = name (k + n)
numbered_from k t = t

abbrev number : Tree → ℕ
number (name n) = n
number t = 0

-- an item of the file, numbered behind the others
pub own_name : (w : List ℕ) (own known : List Name) (s : Sort) (n : ℕ) → item_of w own ≡ Some (s, name n) → item_of w (own ++ known) ≡ Some (s, name (length known + n))
own_name w [] known s n e = absurd cc
own_name w (x ∷ own) known s n e = tests (bytes_eq w x.text) (own_name w own known s n) e
  where
    tests : (b : Bool) → (item_of w own ≡ Some (s, name n) → item_of w (own ++ known) ≡ Some (s, name (length known + n))) → cond b (Some (x.sort, name (length own))) (item_of w own) ≡ Some (s, name n)
        → cond b (Some (x.sort, name (length (own ++ known)))) (item_of w (own ++ known)) ≡ Some (s, name (length known + n))
    tests true ih h = let q : length (own ++ known) ≡ length known + length own = omega (arith, length-append own known) in rw q (let a : Sort × Tree = (x.sort, name (length own)) in let b : Sort × Tree = (s, name n) in let k : a ≡ b = cc in ap (λ (p : Sort × Tree). Some (p.0, numbered_from (length known) p.1)) k)
    tests false ih h = ih h

-- an item's number is below how many there are
item_below : (w : List ℕ) (xs : List Name) (s : Sort) (n : ℕ) → item_of w xs ≡ Some (s, name n) → n < length xs
item_below w [] s n e = absurd cc
item_below w (x ∷ xs) s n e = tests (bytes_eq w x.text) (item_below w xs s n) e
  where
    tests : (b : Bool) → (item_of w xs ≡ Some (s, name n) → n < length xs) → cond b (Some (x.sort, name (length xs))) (item_of w xs) ≡ Some (s, name n) → n < suc (length xs)
    tests true ih h =
        let a : Sort × Tree = (x.sort, name (length xs)) in
        let b : Sort × Tree = (s, name n) in
        let k : a ≡ b = cc in
        let m : length xs ≡ n = ap (λ (p : Sort × Tree). number p.1) k in
        omega (arith, m)
    tests false ih h = let lt = ih h in omega (arith, lt)

pub found_below : (found : Option (Sort × ℕ)) (w : List ℕ) (xs : List Name) → numbered found ≡ item_of w xs → IfSome found (λ x. x.1 < length xs)
found_below None w xs e = tt
found_below (Some x) w xs e = item_below w xs x.0 x.1 (sym e)

-- no item of the file
pub no_own_name : (w : List ℕ) (own known : List Name) → item_of w own ≡ None → item_of w (own ++ known) ≡ item_of w known
no_own_name w [] known e = refl
no_own_name w (x ∷ own) known e = tests (bytes_eq w x.text) (no_own_name w own known) e
  where
    tests : (b : Bool) → (item_of w own ≡ None → item_of w (own ++ known) ≡ item_of w known) → cond b (Some (x.sort, name (length own))) (item_of w own) ≡ None
        → cond b (Some (x.sort, name (length (own ++ known)))) (item_of w (own ++ known)) ≡ item_of w known
    tests true ih h = absurd cc
    tests false ih h = ih h

pub ruleset name_rules = (own_name, no_own_name)

-- ---- the map of the latest items

entry_names-push : (xs : List Entry) (e : Entry) → entry_names (xs ++ e ∷ []) ≡ entry e ∷ entry_names xs
entry_names-push xs e = ap reverse (map_push entry xs e) ∙ reverse-append (map entry xs) (entry e ∷ [])

pub entry_names-length : (xs : List Entry) → length (entry_names xs) ≡ length xs
entry_names-length xs = simp (length-reverse, length-map) refl

-- the item itself
pub latest_item : (w : List ℕ) (xs : List Name) → numbered (latest_of w xs) ≡ item_of w xs
latest_item w [] = refl
latest_item w (x ∷ xs) = tests (bytes_eq w x.text) (latest_item w xs)
  where
    tests : (b : Bool) → numbered (latest_of w xs) ≡ item_of w xs → numbered (cond b (Some (x.sort, length xs)) (latest_of w xs)) ≡ cond b (Some (x.sort, name (length xs))) (item_of w xs)
    tests true ih = refl
    tests false ih = ih

other_entries : {K X : Type 0} (same : K → K → Bool) (test : K → Bool) (old new : List (K × X)) → KeepsOthers same test old new → (other : K → Bool) → IsKeyTest same other → AreApart test other → lookup other new ≡ lookup other old
unfolding KeepsOthers
other_entries same test old new h = h

apart : (bs cs ks : List ℕ) → bytes_eq bs cs ≡ false → bytes_eq bs ks ≡ true → bytes_eq cs ks ≡ false
apart bs cs ks n y = nat_list_eq_equiv.symm cs ks ∙ sym (nat_list_eq_equiv.congr bs ks cs y) ∙ n

module _ {S : Type 0} (m n : HashMap (Vec ℕ) (Sort × ℕ) S) where
  -- what a map has at each spelling after an insertion
  latest_updates : (bs : List ℕ) (v : Sort × ℕ) → UpdatesBy (λ x y. bytes_eq x.items y.items) (λ k. bytes_eq bs k.items) m n (Some v) → (cs : List ℕ) → latest_at n cs ≡ cond (bytes_eq cs bs) (Some v) (latest_at m cs)
  latest_updates bs v h cs = tests (bytes_eq bs cs) refl
    where
      tests : (b : Bool) → bytes_eq bs cs ≡ b → latest_at n cs ≡ cond (bytes_eq cs bs) (Some v) (latest_at m cs)
      tests true e =
          let same : bs ≡ cs = (bytes_decides bs cs).0 e in
          rw (nat_list_eq_equiv.symm cs bs ∙ e) (subst (λ (l : List ℕ). get_by (λ k. bytes_eq l k.items) n ≡ Some v) same h.1)
      tests false e =
          rw (nat_list_eq_equiv.symm cs bs ∙ e) (other_entries _ _ _ _ h.3 _ (λ x y. nat_list_eq_equiv.congr cs x.items y.items) (λ k. apart bs cs k.items e))

  pub indexed_more : (xs ys : List Entry) (bs : List ℕ) (v : Sort × ℕ) (e : Entry) → UpdatesBy (λ x y. bytes_eq x.items y.items) (λ k. bytes_eq bs k.items) m n (Some v)
      → ((w : List ℕ) → latest_at m w ≡ latest_of w (entry_names xs)) → ys ≡ xs ++ e ∷ [] → e.name.items ≡ bs → v ≡ (e.sort, length xs) → (w : List ℕ) → latest_at n w ≡ latest_of w (entry_names ys)
  indexed_more xs ys bs v e h old p q r w = latest_updates bs v h w ∙ rw (p, entry_names-push xs e, q, old w, r, entry_names-length xs) refl

-- ---- putting names one after the other

pub is_on : {A B : Type 0} (r : Result A B) (P : Type 0) → OnOk r P → IsOk r → P
is_on (Ok x) P h g = h
is_on (Err e) P h g = absurd cc

-- the names behind these, each put last in its turn
abbrev pub put_names : List NewName → List Name → List Name
put_names [] known = known
put_names (n ∷ ns) known = put_names ns (new_name n ∷ known)

same_head : (a b : Name) (xs ys : List Name) → a ∷ xs ≡ b ∷ ys → a ≡ b
same_head a b xs ys e = cc

same_tail : (a b : Name) (xs ys : List Name) → a ∷ xs ≡ b ∷ ys → xs ≡ ys
same_tail a b xs ys e = cc

-- those of items are the items' names
pub put_items : (ns : List NewName) (is : List CoreItem) (known : List Name) → map new_name ns ≡ map item_name is → put_names ns known ≡ with_items (all_written is) known
put_items [] [] known e = refl
put_items [] (i ∷ is) known e = absurd cc
put_items (n ∷ ns) [] known e = absurd cc
put_items (n ∷ ns) (i ∷ is) known e =
    put_items ns is (new_name n ∷ known) (same_tail _ _ _ _ e) ∙ ap (λ (x : Name). with_items (all_written is) (x ∷ known)) (same_head _ _ _ _ e)

pub as_many : (ns : List NewName) (is : List CoreItem) → map new_name ns ≡ map item_name is → length ns ≡ length (all_written is)
as_many [] [] e = refl
as_many [] (i ∷ is) e = absurd cc
as_many (n ∷ ns) [] e = absurd cc
as_many (n ∷ ns) (i ∷ is) e = ap suc (as_many ns is (same_tail _ _ _ _ e))

-- so many more
pub length_with_items : (is : List Written) (known : List Name) → length (with_items is known) ≡ length known + length is
length_with_items [] known = omega arith
length_with_items (i ∷ is) known = let others = length_with_items is (with_item i known) in omega (arith, others)

pub nothing_left : {X : Type 0} (l : List X) → length l ≡ 0 → l ≡ []
nothing_left [] h = refl
nothing_left (x ∷ xs) h = absurd (omega arith)
