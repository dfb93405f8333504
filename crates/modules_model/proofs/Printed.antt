-- The texts of modules' items are read as these items, one behind the other.
use Rattle.std.proofs.Common.{◌≡◌, ◌∙◌, ℕ, Bool, true, false, cond, ◌||◌, List, [], ◌∷◌, ◌++◌, codes, map, Result, Ok, Err, refl, sym, ap, subst}
use Rattle.std.specs.List.{AllByRecursion, list_any}
use Rattle.std.proofs.lemmas.List.{append_assoc}
use Rattle.cdle_model.specs.Classes.{AreScopedOver}
use Rattle.cdle_model.specs.CoreNames.{Name}
use Rattle.cdle_model.specs.CoreTokens.{ends_word}
use Rattle.cdle_model.specs.Derivation.{DerivedAfter, IsNew}
use Rattle.cdle_model.specs.Forms.{Written, name_of}
use Rattle.source_model.specs.Source.{Module}
use Rattle.scope_model.specs.ItemNames.{IsPartOfWord}
use Rattle.scope_model.specs.Scope.{all_names, texts}
use Rattle.scope_model.specs.ScopeNames.{Text}
use Rattle.scope_model.proofs.WordNames as words
use Rattle.elab_model.specs.Items.{names_of}
use Rattle.print_model.specs.Printed.{file_text}
use Rattle.print_model.specs.PrintedFiles.{AreNamed, IsItemName, all_items, goes_on, names_in}
use Rattle.print_model.proofs.DottedNames.{dotted}
use Rattle.print_model.proofs.FilesRead.{file_read}
use Rattle.build_model.specs.SourceFiles.{of_file}
use Rattle.modules_model.specs.AllBuilt.{AreSaid, SayEach, core_names}
use Rattle.modules_model.specs.ModuleTexts.{printed_files, text_then}
use Rattle.modules_model.proofs.Lists.{all_append, named_first, names_append, new_first, over_first, over_rest}
use Rattle.modules_model.proofs.Standing.{IsSaid}

-- ---- words

neither : (b c d : Bool) → (b || c) ≡ false → (c ≡ false → d ≡ true) → cond b false d ≡ true
neither true c d e f = absurd cc
neither false c d e f = f e

word_goes_on : (w : Text) → list_any ends_word w ≡ false → goes_on w ≡ true
word_goes_on [] e = refl
word_goes_on (b ∷ bs) e = neither (ends_word b) (list_any ends_word bs) (goes_on bs) e (word_goes_on bs)

dotted_names : (m : Text) (xs : List Name) → IsPartOfWord m → AllByRecursion IsPartOfWord (texts xs) → AllByRecursion IsItemName (map (λ x. m ++ (codes "." ++ x.text)) xs)
dotted_names m [] p h = tt
dotted_names m (x ∷ xs) p h = (dotted m x.text p.utf8 h.0.utf8 (word_goes_on m p.goes_on) (word_goes_on x.text h.0.goes_on), dotted_names m xs p h.1)

-- the names of a module's Core items can stand in printed text
module_names : (m : Module Text) → IsSaid m → AllByRecursion IsItemName (core_names m)
module_names m (bytes, s) = let parts = words.text_names bytes s.tokens (of_file bytes m.name) m s.utf8 s.cut s.says in dotted_names m.name (all_names m.items) parts.0 (words.core_names m parts)

pub item_names : (ms : List (Module Text)) (wss : List (List Written)) → AreSaid ms → map names_of wss ≡ map core_names ms → AllByRecursion IsItemName (names_of (all_items wss))
item_names [] [] s e = tt
item_names [] (ws ∷ wss) s e = absurd cc
item_names (m ∷ ms) [] s e = absurd cc
item_names (m ∷ ms) (ws ∷ wss) s e =
    let own : names_of ws ≡ core_names m = cc in
    let rest : map names_of wss ≡ map core_names ms = cc in
    subst (AllByRecursion IsItemName) (sym (names_append ws (all_items wss)))
    (all_append IsItemName (names_of ws) (names_of (all_items wss)) (subst (AllByRecursion IsItemName) (sym own) (module_names m s.0)) (item_names ms wss s.1 rest))

-- ---- names that differ

new_last : (x : Text) (es : List Written) (w : Written) → IsNew x (es ++ (w ∷ [])) → x ≡ name_of w → ⊥
new_last x [] w h e = h.0 (sym e)
new_last x (v ∷ es) w h e = new_last x es w h.1 e

-- a name that no name is which is new behind these items is new in what is derived behind them
new_behind : (x : Text) (es ws : List Written) → ((y : Text) → IsNew y es → y ≡ x → ⊥) → DerivedAfter es ws → IsNew x ws
new_behind x es [] h d = tt
new_behind x es (w ∷ ws) h d = (h (name_of w) d.0, new_behind x (es ++ (w ∷ [])) ws (λ y k. h y (new_first y es (w ∷ []) k)) d.2)

pub named : (es ws : List Written) → AllByRecursion IsItemName (names_of ws) → DerivedAfter es ws → AreNamed ws
named es [] h d = tt
named es (w ∷ ws) h d = (h.0, new_behind (name_of w) (es ++ (w ∷ [])) ws (λ y k. new_last y es w k) d.2, named (es ++ (w ∷ [])) ws h.1 d.2)

names_are : (ws : List Written) → names_of ws ≡ names_in ws
names_are [] = refl
names_are (w ∷ ws) = ap (◌∷◌ (name_of w)) (names_are ws)

-- ---- texts

text_first : (ws : List Written) (x : Result (List ℕ) ℕ) (y : Result (List (List ℕ)) Text) (ts : List (List ℕ)) → text_then ws x y ≡ Ok ts
    → (text : List ℕ) × (us : List (List ℕ)) × (x ≡ Ok text) × (y ≡ Ok us) × (text ∷ us ≡ ts)
text_first ws (Ok text) (Ok us) ts e = (text, us, refl, refl, cc)
text_first ws (Ok text) (Err w) ts e = absurd cc
text_first ws (Err i) y ts e = absurd cc

pub say_each : (es : List Written) (wss : List (List Written)) (ts : List (List ℕ)) → AreNamed (es ++ all_items wss) → AreScopedOver es (all_items wss) → printed_files (names_of es) wss ≡ Ok ts → SayEach es ts wss
say_each es [] ts named over e = let none : [] ≡ ts = cc in subst (λ us. SayEach es us []) none tt
say_each es (ws ∷ wss) ts named over e =
    let (text, us, own, rest, same) = text_first ws (file_text (names_of es ++ names_of ws) ws) (printed_files (names_of es ++ names_of ws) wss) ts e in
    let names : names_of es ++ names_of ws ≡ names_of (es ++ ws) = sym (names_append es ws) in
    let both : AreNamed ((es ++ ws) ++ all_items wss) = subst AreNamed (sym (append_assoc es ws (all_items wss))) named in
    let read = file_read es ws text (named_first (es ++ ws) (all_items wss) both) (over_first es ws (all_items wss) over) (subst (λ ns. file_text ns ws ≡ Ok text) (names ∙ names_are (es ++ ws)) own) in
    let others = say_each (es ++ ws) wss us both (over_rest es ws (all_items wss) over) (subst (λ ns. printed_files ns wss ≡ Ok us) names rest) in
    subst (λ xs. SayEach es xs (ws ∷ wss)) same (read, others)
