-- A map of names has the latest item of each.
use Rattle.std.proofs.Common.{◌≡◌, ℕ, suc, ◌<◌, ◌+◌, ◌^◌, ◌||◌, Bool, true, false, cond, List, [], ◌∷◌, ◌++◌, length, Option, Some, None, Result, Ok, Err, refl, sym, ap, subst, ◌∙◌, arith}
use Rattle.std.specs.Str.{bytes_eq}
use Rattle.std.proofs.lemmas.List.{length-map, map_push}
use Rattle.std.specs.Prelude.{is_some, IfSome, IsOk, OnOk}
use Rattle.std.specs.Global.{Vec}
use Rattle.std.specs.HashMap.{HashMap, UpdatesBy, get_by}
use Rattle.std.specs.Map.{lookup, IsKeyTest, AreApart, KeepsOthers}
use Rattle.std.specs.Cmp.Lexicographic.{bytes_decides, nat_list_eq_equiv}
use Rattle.cdle_model.specs.declared.grammar.Sort.{Sort}
use Rattle.cdle_model.specs.CoreNames.{Name}
use Rattle.scope_model.specs.Scope.{texts}
use Rattle.scope_model.specs.Scoped.{item}
use Rattle.scope_model.specs.ScopeNames.{Text, Standing, listed, or_else, is_one_of}
use Rattle.scoped_tree.specs.Items.{item_name}
use Rattle.scope_part.specs.Entries.{listed_names, latest_at, standing_from}
use Rattle.scoped_tree.specs.declared.items.ItemName.{ItemName}

other_entries : {K X : Type 0} (same : K → K → Bool) (test : K → Bool) (old new : List (K × X)) → KeepsOthers same test old new → (other : K → Bool) → IsKeyTest same other → AreApart test other → lookup other new ≡ lookup other old
unfolding KeepsOthers
other_entries same test old new h = h

apart : (bs cs ks : List ℕ) → bytes_eq bs cs ≡ false → bytes_eq bs ks ≡ true → bytes_eq cs ks ≡ false
apart bs cs ks n y = nat_list_eq_equiv.symm cs ks ∙ sym (nat_list_eq_equiv.congr bs ks cs y) ∙ n

module _ {S : Type 0} (m n : HashMap (Vec ℕ) (Sort × ℕ) S) where
  -- what a map has at each text after an insertion
  latest_updates : (bs : List ℕ) (v : Sort × ℕ) → UpdatesBy (λ x y. bytes_eq x.items y.items) (λ k. bytes_eq bs k.items) m n (Some v) → (cs : List ℕ) → latest_at n cs ≡ cond (bytes_eq cs bs) (Some v) (latest_at m cs)
  latest_updates bs v h cs = tests (bytes_eq bs cs) refl
    where
      tests : (b : Bool) → bytes_eq bs cs ≡ b → latest_at n cs ≡ cond (bytes_eq cs bs) (Some v) (latest_at m cs)
      tests true e =
          let same : bs ≡ cs = (bytes_decides bs cs).0 e in
          rw (nat_list_eq_equiv.symm cs bs ∙ e) (subst (λ (l : List ℕ). get_by (λ k. bytes_eq l k.items) n ≡ Some v) same h.1)
      tests false e =
          rw (nat_list_eq_equiv.symm cs bs ∙ e) (other_entries _ _ _ _ h.3 _ (λ x y. nat_list_eq_equiv.congr cs x.items y.items) (λ k. apart bs cs k.items e))

-- ---- lists of names

or_assoc : (a b c : Option Standing) → or_else (or_else a b) c ≡ or_else a (or_else b c)
or_assoc (Some x) b c = refl
or_assoc None b c = refl

or_none : (a : Option Standing) → or_else a None ≡ a
or_none (Some x) = refl
or_none None = refl

abbrev at_name : Text → ℕ → Name → Option Standing
at_name w n x = cond (bytes_eq w x.text) (Some (x.sort, item n)) None

-- the last one is the latest
listed_push : (w : Text) (n : ℕ) (xs : List Name) (x : Name) → listed w n (xs ++ x ∷ []) ≡ or_else (at_name w (n + length xs) x) (listed w n xs)
unfolding listed
listed_push w n [] x = let e : n + 0 ≡ n = omega arith in rw e (sym (or_none (at_name w n x)))
listed_push w n (y ∷ xs) x =
    let e : n + 1 + length xs ≡ n + suc (length xs) = omega arith in
    ap (λ (o : Option Standing). or_else o (at_name w n y)) (listed_push w (n + 1) xs x)
    ∙ or_assoc (at_name w (n + 1 + length xs) x) (listed w (n + 1) xs) (at_name w n y)
    ∙ ap (λ (k : ℕ). or_else (at_name w k x) (or_else (listed w (n + 1) xs) (at_name w n y))) e

newest : (b : Bool) (s : Sort) (n k : ℕ) (old : Option (Sort × ℕ)) → standing_from n (cond b (Some (s, k)) old) ≡ or_else (cond b (Some (s, item (n + k))) None) (standing_from n old)
newest true s n k old = refl
newest false s n k old = refl

at_last : (w : Text) (k : ℕ) (xs : List ItemName) (e : ItemName) → listed w k (listed_names (xs ++ e ∷ [])) ≡ or_else (at_name w (k + length xs) (item_name e)) (listed w k (listed_names xs))
at_last w k xs e =
    ap (listed w k) (map_push item_name xs e) ∙ listed_push w k (listed_names xs) (item_name e)
    ∙ ap (λ (n : ℕ). or_else (at_name w (k + n) (item_name e)) (listed w k (listed_names xs))) (length-map xs item_name)

module _ {S : Type 0} (m n : HashMap (Vec ℕ) (Sort × ℕ) S) where
  pub indexed_push : (xs ys : List ItemName) (bs : List ℕ) (v : Sort × ℕ) (e : ItemName) → UpdatesBy (λ x y. bytes_eq x.items y.items) (λ k. bytes_eq bs k.items) m n (Some v)
      → ((w : List ℕ) (k : ℕ) → standing_from k (latest_at m w) ≡ listed w k (listed_names xs)) → ys ≡ xs ++ e ∷ [] → bs ≡ e.text → v ≡ (e.sort, length xs) → (w : List ℕ) (k : ℕ) → standing_from k (latest_at n w) ≡ listed w k (listed_names ys)
  indexed_push xs ys bs v e h old p q r w k =
      let new : latest_at n w ≡ cond (bytes_eq w e.text) (Some (e.sort, length xs)) (latest_at m w) = latest_updates m n bs v h w ∙ (rw (q, r) refl) in
      let here : standing_from k (latest_at n w) ≡ or_else (at_name w (k + length xs) (item_name e)) (standing_from k (latest_at m w)) = ap (standing_from k) new ∙ newest (bytes_eq w e.text) e.sort k (length xs) (latest_at m w) in
      here ∙ ap (or_else (at_name w (k + length xs) (item_name e))) (old w k) ∙ sym (at_last w k xs e) ∙ ap (λ (l : List ItemName). listed w k (listed_names l)) (sym p)

-- ---- what is found

place_of : Standing → ℕ
place_of (s, item n) = n
place_of s = 0

-- a place is below how many there are
listed_below : (w : Text) (n : ℕ) (xs : List Name) (s : Sort) (k : ℕ) → listed w n xs ≡ Some (s, item k) → k < n + length xs
unfolding listed place_of
listed_below w n [] s k e = absurd cc
listed_below w n (x ∷ xs) s k e = tests (listed w (n + 1) xs) (listed_below w (n + 1) xs s k) (bytes_eq w x.text) e
  where
    tests : (later : Option Standing) → (later ≡ Some (s, item k) → k < n + 1 + length xs) → (b : Bool) → or_else later (cond b (Some (x.sort, item n)) None) ≡ Some (s, item k) → k < n + suc (length xs)
    tests (Some y) ih b h = let lt = ih h in omega (arith, lt)
    tests None ih true h =
        let a : Standing = (x.sort, item n) in
        let c : Standing = (s, item k) in
        let same : a ≡ c = cc in
        let m : n ≡ k = ap place_of same in
        omega (arith, m)
    tests None ih false h = absurd cc

pub found_below : (found : Option (Sort × ℕ)) (w : Text) (xs : List ItemName) → standing_from 0 found ≡ listed w 0 (listed_names xs) → IfSome found (λ x. x.1 < length (listed_names xs))
found_below None w xs e = tt
found_below (Some x) w xs e = let lt = listed_below w 0 (listed_names xs) x.0 (0 + x.1) (sym e) in omega (arith, lt)

-- some item has the name
some_or : (a b : Option Standing) (p q : Bool) → is_some a ≡ p → is_some b ≡ q → is_some (or_else a b) ≡ (q || p)
some_or (Some x) b p true h g = refl
some_or (Some x) b p false h g = h
some_or None b p true h g = g
some_or None b p false h g = g ∙ h

some_if : (b : Bool) (x : Standing) → is_some (cond b (Some x) None) ≡ b
some_if true x = refl
some_if false x = refl

pub listed_some : (w : Text) (n : ℕ) (xs : List Name) → is_some (listed w n xs) ≡ is_one_of w (texts xs)
unfolding listed
listed_some w n [] = refl
listed_some w n (x ∷ xs) = some_or (listed w (n + 1) xs) (cond (bytes_eq w x.text) (Some (x.sort, item n)) None) (is_one_of w (texts xs)) (bytes_eq w x.text) (listed_some w (n + 1) xs) (some_if (bytes_eq w x.text) (x.sort, item n))

some_standing : (n : ℕ) (found : Option (Sort × ℕ)) → is_some (standing_from n found) ≡ is_some found
some_standing n (Some x) = refl
some_standing n None = refl

pub found_some : (found : Option (Sort × ℕ)) (w : Text) (xs : List ItemName) → standing_from 0 found ≡ listed w 0 (listed_names xs) → is_some found ≡ is_one_of w (texts (listed_names xs))
found_some found w xs e = sym (some_standing 0 found) ∙ ap is_some e ∙ listed_some w 0 (listed_names xs)

pub fits_behind : (found : Option (Sort × ℕ)) (n first : ℕ) → IfSome found (λ x. x.1 < n) → first + n < 2 ^ 32 → IfSome found (λ x. first + x.1 < 2 ^ 32)
fits_behind None n first h g = tt
fits_behind (Some x) n first h g = omega (arith, h, g)

pub is_on : {A B : Type 0} (r : Result A B) (P : Type 0) → OnOk r P → IsOk r → P
is_on (Ok x) P h g = h
is_on (Err e) P h g = absurd cc
