-- The items that a module gives can be printed: their names are words of Core text, and no two are the same.
use Rattle.std.proofs.Common.{◌≡◌, Bool, true, false, cond, ◌||◌, List, [], ◌∷◌, ◌++◌, codes, map, refl, sym, ap}
use Rattle.std.specs.List.{AllByRecursion, list_any}
use Rattle.cdle_model.specs.CoreNames.{Name}
use Rattle.cdle_model.specs.CoreTokens.{ends_word}
use Rattle.cdle_model.specs.Derivation.{DerivedAfter, IsNew}
use Rattle.cdle_model.specs.Forms.{Written, name_of}
use Rattle.scope_model.specs.ItemNames.{IsPartOfWord}
use Rattle.scope_model.specs.Scope.{texts}
use Rattle.scope_model.specs.ScopeNames.{Text}
use Rattle.elab_model.specs.Items.{names_of}
use Rattle.print_model.specs.PrintedFiles.{AreNamed, IsItemName, goes_on, names_in}
use Rattle.print_model.proofs.DottedNames.{dotted}

-- ---- words

neither : (b c d : Bool) → (b || c) ≡ false → (c ≡ false → d ≡ true) → cond b false d ≡ true
neither true c d e f = absurd cc
neither false c d e f = f e

word_goes_on : (w : Text) → list_any ends_word w ≡ false → goes_on w ≡ true
word_goes_on [] e = refl
word_goes_on (b ∷ bs) e = neither (ends_word b) (list_any ends_word bs) (goes_on bs) e (word_goes_on bs)

pub dotted_names : (m : Text) (xs : List Name) → IsPartOfWord m → AllByRecursion IsPartOfWord (texts xs) → AllByRecursion IsItemName (map (λ x. m ++ (codes "." ++ x.text)) xs)
dotted_names m [] p h = tt
dotted_names m (x ∷ xs) p h = (dotted m x.text p.utf8 h.0.utf8 (word_goes_on m p.goes_on) (word_goes_on x.text h.0.goes_on), dotted_names m xs p h.1)

-- ---- names that differ

new_front : (x : Text) (es fs : List Written) → IsNew x (es ++ fs) → IsNew x es
new_front x [] fs h = tt
new_front x (e ∷ es) fs h = (h.0, new_front x es fs h.1)

new_last : (x : Text) (es : List Written) (w : Written) → IsNew x (es ++ (w ∷ [])) → x ≡ name_of w → ⊥
new_last x [] w h e = h.0 (sym e)
new_last x (v ∷ es) w h e = new_last x es w h.1 e

-- a name that no name is which is new behind these items is new in what is derived behind them
new_behind : (x : Text) (es ws : List Written) → ((y : Text) → IsNew y es → y ≡ x → ⊥) → DerivedAfter es ws → IsNew x ws
new_behind x es [] h d = tt
new_behind x es (w ∷ ws) h d = (h (name_of w) d.0, new_behind x (es ++ (w ∷ [])) ws (λ y k. h y (new_front y es (w ∷ []) k)) d.2)

pub named : (es ws : List Written) → AllByRecursion IsItemName (names_of ws) → DerivedAfter es ws → AreNamed ws
named es [] h d = tt
named es (w ∷ ws) h d = (h.0, new_behind (name_of w) (es ++ (w ∷ [])) ws (λ y k. new_last y es w k) d.2, named (es ++ (w ∷ [])) ws h.1 d.2)

pub names_are : (ws : List Written) → names_of ws ≡ names_in ws
names_are [] = refl
names_are (w ∷ ws) = ap (◌∷◌ (name_of w)) (names_are ws)
