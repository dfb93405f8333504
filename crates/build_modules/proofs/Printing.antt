-- The texts of files, one after the other.
use Rattle.std.proofs.Common.{◌≡◌, ℕ, zero, suc, Some, List, [], ◌∷◌, ◌++◌, Result, Ok, Err, map, get_or, slice_get, refl, sym, ap, ◌∙◌, arith}
use Rattle.std.specs.Global.{Vec}
use Rattle.std.proofs.lemmas.List.{append_assoc, map_push}
use Rattle.cdle_model.specs.Forms.{Written, name_of}
use Rattle.scope_model.specs.ScopeNames.{Text}
use Rattle.elab_model.specs.Items.{names_of}
use Rattle.elab_tree.specs.Items.{written}
use Rattle.elab_tree.specs.declared.items.OutItem.{OutItem}
use Rattle.elab_print.specs.Layouts.{all_written}
use Rattle.print_model.specs.Printed.{file_text}
use Rattle.modules_model.specs.ModuleTexts.{by_texts, deepens, printed_files, text_then}
use Rattle.build_modules.specs.Answers.{GivesText, IsBuildFault, items_of_each}
use Rattle.build_modules.specs.Steps.{texts_before}
use Rattle.build_modules.specs.declared.fault.BuildFault.{BuildFault}
use Rattle.build_modules.proofs.Faults.{fault_as}

-- ---- one file

pub named_there : (xs : List OutItem) (i : ℕ) (x : OutItem) → slice_get xs i ≡ Some x → name_of (written x) ≡ get_or (names_of (map written xs)) i []
named_there [] i x e = absurd (grind arith)
named_there (y ∷ ys) zero x e = let same : y ≡ x = cc in ap (λ z. name_of (written z)) (sym same)
named_there (y ∷ ys) (suc i) x e = named_there ys i x e

pub all_map : (xs : List OutItem) → all_written xs ≡ map written xs
all_map [] = refl
all_map (x ∷ xs) = ap (λ ys. written x ∷ ys) (all_map xs)

names_map : (xs : List OutItem) → map (λ item. name_of (written item)) xs ≡ names_of (map written xs)
names_map [] = refl
names_map (x ∷ xs) = ap (λ ys. name_of (written x) ∷ ys) (names_map xs)

-- the names of the items behind those so far
pub names_behind : (names new : List Text) (xs : List OutItem) → new ≡ names ++ map (λ item. name_of (written item)) xs → new ≡ names ++ names_of (map written xs)
names_behind names new xs e = e ∙ ap (λ ys. names ++ ys) (names_map xs)

pub deep_text : (names : List Text) (xs : List OutItem) (i : ℕ) (f : BuildFault) → file_text names (all_written xs) ≡ Err i → IsBuildFault (λ a. a ≡ deepens (get_or (names_of (map written xs)) i [])) f → GivesText names (map written xs) (Err f)
deep_text names xs i f e d =
    fault_as (λ a. a ≡ deepens (get_or (names_of (map written xs)) i [])) (λ a. (j : ℕ) × (file_text names (map written xs) ≡ Err j) × (a ≡ deepens (get_or (names_of (map written xs)) j [])))
    (λ a h. (i, sym (ap (file_text names) (all_map xs)) ∙ e, h)) f d

-- ---- files

abbrev pub bytes_of : List (Vec ℕ) → List (List ℕ)
bytes_of texts = map (λ text. text.items) texts

one_more : (xs : List (List ℕ)) (ws : List Written) (x : List ℕ) (r : Result (List (List ℕ)) Text) → texts_before xs (text_then ws (Ok x) r) ≡ texts_before (xs ++ x ∷ []) r
one_more xs ws x (Ok ys) = ap Ok (sym (append_assoc xs (x ∷ []) ys))
one_more xs ws x (Err w) = refl

-- the files come to the texts that are done, before what the rest come to over these names
abbrev pub ArePrinted : List (Vec OutItem) → List (Vec ℕ) → List Text → List (Vec OutItem) → Type 0
ArePrinted all done names rest = printed_files [] (items_of_each all) ≡ texts_before (bytes_of done) (printed_files names (items_of_each rest))

-- by the text of the first of the rest
by_next : (all rest others : List (Vec OutItem)) (f : Vec OutItem) (done : List (Vec ℕ)) (names new : List Text) (r : Result (List ℕ) ℕ) → ArePrinted all done names rest → rest ≡ f ∷ others → new ≡ names ++ names_of (map written f.items) → file_text new (map written f.items) ≡ r
    → printed_files [] (items_of_each all) ≡ texts_before (bytes_of done) (text_then (map written f.items) r (printed_files new (items_of_each others)))
by_next all rest others f done names new r s e g h =
    s ∙ ap (λ fs. texts_before (bytes_of done) (printed_files names (items_of_each fs))) e
    ∙ ap (λ ns. texts_before (bytes_of done) (text_then (map written f.items) (file_text ns (map written f.items)) (printed_files ns (items_of_each others)))) (sym g)
    ∙ ap (λ t. texts_before (bytes_of done) (text_then (map written f.items) t (printed_files new (items_of_each others)))) h

pub printing_goes_on : (all rest others : List (Vec OutItem)) (f : Vec OutItem) (done more : List (Vec ℕ)) (text : Vec ℕ) (names new : List Text) → ArePrinted all done names rest → rest ≡ f ∷ others → new ≡ names ++ names_of (map written f.items)
    → GivesText new (map written f.items) (Ok text) → more ≡ done ++ text ∷ [] → ArePrinted all more new others
printing_goes_on all rest others f done more text names new s e g h p =
    by_next all rest others f done names new (Ok text.items) s e g h
    ∙ one_more (bytes_of done) (map written f.items) text.items (printed_files new (items_of_each others))
    ∙ ap (λ ts. texts_before ts (printed_files new (items_of_each others))) (sym (ap bytes_of p ∙ map_push (λ (t : Vec ℕ). t.items) done text))

pub printing_stops : (all rest others : List (Vec OutItem)) (f : Vec OutItem) (done : List (Vec ℕ)) (names new : List Text) (d : BuildFault) → ArePrinted all done names rest → rest ≡ f ∷ others → new ≡ names ++ names_of (map written f.items)
    → GivesText new (map written f.items) (Err d) → IsBuildFault (λ a. by_texts (items_of_each all) (printed_files [] (items_of_each all)) ≡ a) d
printing_stops all rest others f done names new d s e g h =
    fault_as (λ a. (i : ℕ) × (file_text new (map written f.items) ≡ Err i) × (a ≡ deepens (get_or (names_of (map written f.items)) i []))) (λ a. by_texts (items_of_each all) (printed_files [] (items_of_each all)) ≡ a)
    (λ a k. ap (by_texts (items_of_each all)) (by_next all rest others f done names new (Err k.0) s e g k.1) ∙ sym k.2) d h
