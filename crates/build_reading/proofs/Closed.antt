-- Names in reading order: no two are the same, and each import comes to stand there.
use Rattle.std.proofs.Common.{◌≡◌, ◌∙◌, ◌<◌, ℕ, zero, suc, Bool, true, false, List, [], ◌∷◌, Some, None, ap, arith, if◌then◌else◌, length, get_or, refl, subst, sym, take}
use Rattle.std.specs.List.{AllByRecursion, slice_get}
use Rattle.std.specs.Str.{bytes_eq}
use Rattle.std.specs.Cmp.Lexicographic.{bytes_decides}
use Rattle.std.proofs.lemmas.Option.{slice_get-get_or, slice_get_within}
use Rattle.cdle_names.specs.Texts.{with_text}
use Rattle.scope_model.specs.ScopeNames.{Text}
use Rattle.source_model.specs.Source.{Module}
use Rattle.build_reading.specs.Order.{AreInReadingOrder, imports_of, next_wanted, wanted, with_imports, with_new}
use Rattle.build_reading.proofs.Lists.{past}

-- ---- a name that stands there stays

tested_kept : (b : Bool) (t x : Text) (ts us : List Text) (i : ℕ) → ((j : ℕ) → slice_get ts j ≡ Some x → slice_get us j ≡ Some x) → slice_get (t ∷ ts) i ≡ Some x → slice_get (if b then t ∷ ts else t ∷ us) i ≡ Some x
tested_kept true t x ts us i h e = e
tested_kept false t x ts us zero h e = e
tested_kept false t x ts us (suc i) h e = h i e

text_kept : (w x : Text) (ts : List Text) (i : ℕ) → slice_get ts i ≡ Some x → slice_get (with_text w ts) i ≡ Some x
text_kept w x [] i e = absurd cc
text_kept w x (t ∷ ts) i e = tested_kept (bytes_eq w t) t x ts (with_text w ts) i (λ j g. text_kept w x ts j g) e

new_kept : (known ws : List Text) (x : Text) (i : ℕ) → slice_get known i ≡ Some x → slice_get (with_new known ws) i ≡ Some x
new_kept known [] x i e = e
new_kept known (w ∷ ws) x i e = new_kept (with_text w known) ws x i (text_kept w x known i e)

imports_kept : (known : List Text) (ms : List (Module Text)) (x : Text) (i : ℕ) → slice_get known i ≡ Some x → slice_get (with_imports known ms) i ≡ Some x
imports_kept known [] x i e = e
imports_kept known (m ∷ ms) x i e = imports_kept (with_new known (imports_of m)) ms x i (new_kept known (imports_of m) x i e)

-- what the first of some modules want is wanted by all
front_kept : (known : List Text) (ms : List (Module Text)) (n : ℕ) (x : Text) (i : ℕ) → slice_get (with_imports known (take n ms)) i ≡ Some x → slice_get (with_imports known ms) i ≡ Some x
front_kept known ms zero x i e = imports_kept known ms x i e
front_kept known [] (suc n) x i e = e
front_kept known (m ∷ ms) (suc n) x i e = front_kept (with_new known (imports_of m)) ms n x i e

-- a module that was read stands by its name among those that are wanted
pub named_there : (root : Text) (ms : List (Module Text)) (i : ℕ) (m : Module Text) → AreInReadingOrder root ms → slice_get ms i ≡ Some m → slice_get (wanted root ms) i ≡ Some m.name
named_there root ms i m h e = front_kept (root ∷ []) ms i m.name i (h i m e)

-- ---- no two are the same

abbrev IsNot : Text → List Text → Type 0
IsNot t ts = AllByRecursion (λ x. bytes_eq t x ≡ false) ts

abbrev Differ : List Text → Type 0
Differ [] = Unit {0}
Differ (t ∷ ts) = IsNot t ts × Differ ts

turned : (w t : Text) → bytes_eq w t ≡ false → bytes_eq t w ≡ false
turned w t e = by_test (bytes_eq t w) refl
  where
    by_test : (b : Bool) → bytes_eq t w ≡ b → bytes_eq t w ≡ false
    by_test false g = g
    by_test true g =
        let same : t ≡ w = (bytes_decides t w).0 g in
        let no : true ≡ false = sym g ∙ ap (λ (x : Text). bytes_eq x w) same ∙ sym (ap (λ (x : Text). bytes_eq w x) same) ∙ e in absurd cc

not_itself : (t : Text) → bytes_eq t t ≡ false → ⊥
not_itself t e = let no : true ≡ false = sym ((bytes_decides t t).1 refl) ∙ e in absurd cc

not_tested : (b : Bool) (t x : Text) (ts us : List Text) → IsNot t (x ∷ ts) → IsNot t us → IsNot t (if b then x ∷ ts else x ∷ us)
not_tested true t x ts us h g = h
not_tested false t x ts us h g = (h.0, g)

not_more : (t w : Text) (ts : List Text) → bytes_eq t w ≡ false → IsNot t ts → IsNot t (with_text w ts)
not_more t w [] e h = (e, tt)
not_more t w (x ∷ ts) e h = not_tested (bytes_eq w x) t x ts (with_text w ts) h (not_more t w ts e h.1)

differ_tested : (b : Bool) (t w : Text) (ts us : List Text) → bytes_eq w t ≡ b → Differ (t ∷ ts) → (bytes_eq w t ≡ false → IsNot t us) → Differ us → Differ (if b then t ∷ ts else t ∷ us)
differ_tested true t w ts us e h f g = h
differ_tested false t w ts us e h f g = (f e, g)

text_differs : (w : Text) (ts : List Text) → Differ ts → Differ (with_text w ts)
text_differs w [] h = (tt, tt)
text_differs w (t ∷ ts) h = differ_tested (bytes_eq w t) t w ts (with_text w ts) refl h (λ e. not_more t w ts (turned w t e) h.0) (text_differs w ts h.1)

new_differ : (known ws : List Text) → Differ known → Differ (with_new known ws)
new_differ known [] h = h
new_differ known (w ∷ ws) h = new_differ (with_text w known) ws (text_differs w known h)

imports_differ : (known : List Text) (ms : List (Module Text)) → Differ known → Differ (with_imports known ms)
imports_differ known [] h = h
imports_differ known (m ∷ ms) h = imports_differ (with_new known (imports_of m)) ms (new_differ known (imports_of m) h)

not_there : (t : Text) (ts : List Text) (i : ℕ) → IsNot t ts → slice_get ts i ≡ Some t → ⊥
not_there t [] i h e = absurd cc
not_there t (x ∷ ts) zero h e = let same : x ≡ t = cc in not_itself t (subst (λ (y : Text). bytes_eq t y ≡ false) same h.0)
not_there t (x ∷ ts) (suc i) h e = not_there t ts i h.1 e

one_place : (ts : List Text) (x : Text) (i j : ℕ) → Differ ts → slice_get ts i ≡ Some x → slice_get ts j ≡ Some x → i ≡ j
one_place [] x i j h e g = absurd cc
one_place (t ∷ ts) x zero zero h e g = refl
one_place (t ∷ ts) x zero (suc j) h e g = let same : x ≡ t = cc in absurd (not_there t ts j h.0 (g ∙ ap Some same))
one_place (t ∷ ts) x (suc i) zero h e g = let same : x ≡ t = cc in absurd (not_there t ts i h.0 (e ∙ ap Some same))
one_place (t ∷ ts) x (suc i) (suc j) h e g = ap suc (one_place ts x i j h.1 e g)

pub names_differ : (root : Text) (ms : List (Module Text)) (i j : ℕ) (m n : Module Text) → AreInReadingOrder root ms → slice_get ms i ≡ Some m → slice_get ms j ≡ Some n → m.name ≡ n.name → i ≡ j
names_differ root ms i j m n h e g same =
    one_place (wanted root ms) n.name i j (imports_differ (root ∷ []) ms (tt, tt)) (named_there root ms i m h e ∙ ap Some same) (named_there root ms j n h g)

-- ---- each import is there

abbrev Stands : Text → List Text → Type 0
Stands x ts = (k : ℕ) × (slice_get ts k ≡ Some x)

there_tested : (b : Bool) (w t : Text) (ts us : List Text) → bytes_eq w t ≡ b → Stands w us → Stands w (if b then t ∷ ts else t ∷ us)
there_tested true w t ts us e h = (0, ap Some (sym ((bytes_decides w t).0 e)))
there_tested false w t ts us e h = (suc h.0, h.1)

text_there : (w : Text) (ts : List Text) → Stands w (with_text w ts)
text_there w [] = (0, refl)
text_there w (t ∷ ts) = there_tested (bytes_eq w t) w t ts (with_text w ts) refl (text_there w ts)

new_there : (known ws : List Text) (x : Text) (j : ℕ) → slice_get ws j ≡ Some x → Stands x (with_new known ws)
new_there known [] x j e = absurd cc
new_there known (w ∷ ws) x zero e =
    let there = text_there w known in
    let same : w ≡ x = cc in (there.0, new_kept (with_text w known) ws x there.0 (there.1 ∙ ap Some same))
new_there known (w ∷ ws) x (suc j) e = new_there (with_text w known) ws x j e

import_there : (known : List Text) (ms : List (Module Text)) (i j : ℕ) (m : Module Text) (x : Text) → slice_get ms i ≡ Some m → slice_get (imports_of m) j ≡ Some x → Stands x (with_imports known ms)
import_there known [] i j m x e g = absurd cc
import_there known (n ∷ ms) zero j m x e g =
    let same : m ≡ n = cc in
    let there = new_there known (imports_of n) x j (subst (λ (y : Module Text). slice_get (imports_of y) j ≡ Some x) same g) in
    (there.0, imports_kept (with_new known (imports_of n)) ms x there.0 there.1)
import_there known (n ∷ ms) (suc i) j m x e g = import_there (with_new known (imports_of n)) ms i j m x e g

pub imports_are_read : (root : Text) (ms : List (Module Text)) (i j : ℕ) (m : Module Text) (x : Text) → AreInReadingOrder root ms → next_wanted root ms ≡ None → slice_get ms i ≡ Some m → slice_get (imports_of m) j ≡ Some x
    → (k : ℕ) × (n : Module Text) × (slice_get ms k ≡ Some n) × (n.name ≡ x)
imports_are_read root ms i j m x h all e g =
    let there = import_there (root ∷ []) ms i j m x e g in
    let below : there.0 < length ms = omega (arith, past (wanted root ms) (length ms) all, slice_get_within (wanted root ms) there.0 x there.1) in
    let n : Module Text = get_or ms there.0 m in
    let here : slice_get ms there.0 ≡ Some n = slice_get-get_or ms there.0 m below in
    let named : Some n.name ≡ Some x = sym (named_there root ms there.0 n h here) ∙ there.1 in
    (there.0, n, here, (cc))
