-- The text of a file is read as its items.
use Rattle.std.proofs.Common.{◌≡◌, ℕ, zero, suc, ◌+◌, true, false, List, [], ◌∷◌, ◌++◌, get_or, Some, None, Result, Ok, Err, codes, refl, sym, ap, subst, ◌∙◌, arith, append_assoc, append-nil, slice_get, IsUtf8}
use Rattle.std.proofs.lemmas.Str.{IsUtf8-nil, IsUtf8-append}
use Rattle.cdle_model.specs.declared.grammar.Sort.{Sort}
use Rattle.cdle_model.specs.declared.grammar.Sort.TheVariants.{OfTerm, OfType}
use Rattle.cdle_model.specs.Trees.{name}
use Rattle.cdle_model.specs.Forms.{Written, def_item, type_item, name_of}
use Rattle.cdle_model.specs.Classes.{within, item_sort, item_sorts, IsScopedOver, AreScopedOver}
use Rattle.cdle_model.specs.Derivation.{IsNew}
use Rattle.cdle_model.specs.CoreTokens.{Opens, Word, tokens}
use Rattle.cdle_model.specs.CoreGrammar.{look_up, item_words, item_pieces, item_parts}
use Rattle.cdle_model.specs.CoreNames.{Name, item_of, behind, with_item, with_items}
use Rattle.cdle_model.specs.CoreText.{ReadsPieces, Stands, ReadsItem, ReadsItems, Says}
use Rattle.cdle_model.proofs.CoreAgain.{one_file}
use Rattle.print_model.specs.Printed.{Text, spaced, pieces_text, part_text, item_word, item_text, item_before, line_before, lines_text, file_text}
use Rattle.print_model.specs.PrintedFiles.{is_word, IsItemName, AreNamed, names_in, ArePrinted, SayItems, all_items}
use Rattle.print_model.proofs.FormsTaken.{PartsFit}
use Rattle.print_model.proofs.Words.{IsStopped, word_token, is_plain, plain_utf8}
use Rattle.print_model.proofs.Spellings.{Tell, item_found}
use Rattle.print_model.proofs.PartsRead.{is_spaced, is_enclosed, spaced_stopped, spaced_tokens, enclosed_tokens, close_token, pieces_stopped, pieces_read, part_read, form_read}
use Rattle.print_model.proofs.TextUtf8.{byte_before, spaced_utf8, enclosed_utf8, pieces_utf8, part_utf8, form_utf8}

-- ---- an item

item_fits : (es : List Written) (i : Written) → IsScopedOver es i → PartsFit (within [] (item_sorts es)) None (item_pieces (item_sort i)) (item_parts i)
item_fits es (def_item x a t) h = (h.0, (h.1, refl))
item_fits es (type_item x k a) h = (h.0, (h.1, refl))

item_word_is : (s : Sort) → (is_word (item_word s) ≡ true) × (look_up (item_word s) item_words ≡ Some s) × (is_plain (item_word s) ≡ true)
item_word_is OfTerm = (refl, refl, refl)
item_word_is OfType = (refl, refl, refl)

item_read : (names : List (List ℕ)) (es : List Written) → Tell names es → (i : Written) (x : List ℕ) → IsScopedOver es i → IsItemName (name_of i) → item_text names i ≡ Some x
    → (at : ℕ) (more : List ℕ) → IsStopped more → (to : ℕ) × ReadsItem Stands 1023 (with_items es []) (tokens false at (x ++ more)) i (tokens false to more)
item_read names es tell i x h named e at more s =
    let s = item_sort i in
    let pieces = pieces_text (part_text names 1023) 0 (item_pieces s) (item_parts i) in
    let g = is_enclosed (item_word s) (spaced (Some (name_of i)) pieces) x e in
    let k = is_spaced (Some (name_of i)) pieces g.0 g.1 in
    let same : k.0 ≡ name_of i = let l = k.2 in cc in
    let word = word_token (at + 1) (item_word s) (g.0 ++ (41 ∷ more)) (item_word_is s).0 (spaced_stopped (Some (name_of i)) pieces g.0 (41 ∷ more) g.1) in
    let stop = pieces_stopped names es tell (part_text names 1023) 0 (item_pieces s) (item_parts i) k.1 (41 ∷ more) k.3 refl in
    let own = word_token (word.0 + 1) (name_of i) (k.1 ++ (41 ∷ more)) named.word stop in
    let parts = pieces_read names es tell 1023 (part_text names 1023) (part_read names es tell 1023 (form_read names es tell 1023)) [] None (item_pieces s) (item_parts i) k.1 (omega arith) (item_fits es i h) k.3 own.0 (41 ∷ more) refl in
    let to_name = spaced_tokens names es tell word.0 g.0 k.0 k.1 (41 ∷ more) k.4 ∙ ap (λ w. tokens false (word.0 + 1) (w ++ (k.1 ++ (41 ∷ more)))) same ∙ own.1 in
    let all = enclosed_tokens names es tell at x (item_word s) g.0 more g.2 ∙ ap (λ ts. (at, Opens) ∷ ts) (word.1 ∙ ap (λ ts. (at + 1, Word (item_word s)) ∷ ts) to_name) in (
      parts.0 + 1,
      record {
        opens = at;
        word_at = at + 1;
        word = item_word s;
        name_at = word.0 + 1;
        inner = tokens false own.0 (k.1 ++ (41 ∷ more));
        closes = parts.0;
        tokens = all;
        form = (item_word_is s).1;
        named = named.no_star;
        parts = subst (λ ts. ReadsPieces Stands 1023 (behind (with_items es [])) None (item_pieces s) (tokens false own.0 (k.1 ++ (41 ∷ more))) (item_parts i) ts) (close_token names es tell parts.0 more) parts.1;
      },
    )

item_utf8 : (names : List (List ℕ)) (es : List Written) → Tell names es → (i : Written) (x : List ℕ) → IsScopedOver es i → IsItemName (name_of i) → item_text names i ≡ Some x → IsUtf8 x
item_utf8 names es tell i x h named e =
    let s = item_sort i in
    let utf8 : (n : ℕ) (r : Sort) → slice_get (item_sorts es) n ≡ Some r → IsUtf8 (get_or names n []) = λ n r g. (tell n r g).0.utf8 in
    let pieces = pieces_text (part_text names 1023) 0 (item_pieces s) (item_parts i) in
    enclosed_utf8 (item_word s) (spaced (Some (name_of i)) pieces) x (plain_utf8 (item_word s) (item_word_is s).2)
    (λ y g. spaced_utf8 (Some (name_of i)) pieces y (λ z k. let same : name_of i ≡ z = cc in subst IsUtf8 same named.utf8)
    (λ z k. pieces_utf8 names (item_sorts es) utf8 1023 (part_text names 1023) (part_utf8 names (item_sorts es) utf8 1023 (form_utf8 names (item_sorts es) utf8 1023)) [] None (item_pieces s) (item_parts i) z (omega arith) (item_fits es i h) k) g) e

-- ---- names by their numbers

older_names : (es ws : List Written) → AreNamed (es ++ ws) → AreNamed es
older_names [] ws h = tt
older_names (e ∷ es) ws h = (h.0, older_new es h.1, older_names es ws h.2)
  where
    older_new : (ds : List Written) → IsNew (name_of e) (ds ++ ws) → IsNew (name_of e) ds
    older_new [] g = tt
    older_new (d ∷ ds) g = (g.0, older_new ds g.1)

name_known : (es ws : List Written) (n : ℕ) (s : Sort) → AreNamed es → slice_get (item_sorts es) n ≡ Some s → (get_or (names_in (es ++ ws)) n [] ≡ get_or (names_in es) n []) × IsItemName (get_or (names_in es) n [])
name_known [] ws n s h e = absurd cc
name_known (i ∷ es) ws zero s h e = (refl, h.0)
name_known (i ∷ es) ws (suc n) s h e = name_known es ws n s h.2 e

-- the names of a list of items tell the items of each beginning
tell_first : (es ws : List Written) → AreNamed (es ++ ws) → Tell (names_in (es ++ ws)) es
tell_first es ws h n s e =
    let known = name_known es ws n s (older_names es ws h) e in
    let found = item_found es n s [] (older_names es ws h) e ∙ ap (λ (k : ℕ). Some (s, name k)) (omega arith) in
    (subst IsItemName (sym known.0) known.1, ap (λ w. item_of w (with_items es [])) known.0 ∙ found)

next_named : (es ws : List Written) (i : Written) → AreNamed (es ++ (i ∷ ws)) → IsItemName (name_of i)
next_named [] ws i h = h.0
next_named (e ∷ es) ws i h = next_named es ws i h.2

with_next : (es : List Written) (i : Written) (known : List Name) → with_items (es ++ (i ∷ [])) known ≡ with_item i (with_items es known)
with_next [] i known = refl
with_next (e ∷ es) i known = with_next es i (with_item e known)

-- ---- a file

is_before : (n : ℕ) (a : Text) (r : Result (List ℕ) ℕ) (x : List ℕ) → item_before n a r ≡ Ok x → (y z : List ℕ) × (a ≡ Some y) × (r ≡ Ok z) × (x ≡ y ++ (10 ∷ z))
is_before n (Some y) (Ok z) x e = (y, z, refl, refl, cc)
is_before n (Some y) (Err m) x e = absurd cc
is_before n None r x e = absurd cc

lines_read : (names : List (List ℕ)) (es ws : List Written) → names ≡ names_in (es ++ ws) → AreNamed (es ++ ws) → AreScopedOver es ws → (n : ℕ) (x : List ℕ) → lines_text names n ws ≡ Ok x
    → IsUtf8 x × ((at : ℕ) → ReadsItems Stands 1023 (with_items es []) (tokens false at x) ws)
unfolding tokens
lines_read names es [] same named over n x e = let none : [] ≡ x = cc in (subst IsUtf8 none IsUtf8-nil, λ at. ap (λ y. tokens false at y) (sym none))
lines_read names es (i ∷ is) same named over n x e =
    let tell = subst (λ ns. Tell ns es) (sym same) (tell_first es (i ∷ is) named) in
    let own = next_named es is i named in
    let g = is_before n (item_text names i) (lines_text names (n + 1) is) x e in
    let more = append_assoc es (i ∷ []) is in
    let rest = lines_read names (es ++ (i ∷ [])) is (same ∙ ap names_in (sym more)) (subst AreNamed (sym more) named) over.1 (n + 1) g.1 g.3 in
    let utf8 = IsUtf8-append g.0 (10 ∷ g.1) (item_utf8 names es tell i g.0 over.0 own g.2) (byte_before 10 g.1 (omega arith) rest.0) in (
      subst IsUtf8 (sym g.4) utf8,
      λ at.
          let first = item_read names es tell i g.0 over.0 own g.2 at (10 ∷ g.1) refl in
          let first_here = subst (λ y. ReadsItem Stands 1023 (with_items es []) (tokens false at y) i (tokens false first.0 (10 ∷ g.1))) (sym g.4) first.1 in
          (tokens false (first.0 + 1) g.1, first_here, subst (λ known. ReadsItems Stands 1023 known (tokens false (first.0 + 1) g.1) is) (with_next es i []) (rest.1 (first.0 + 1))),
    )

head_tokens : (x : List ℕ) → (at to : ℕ) × (tokens false 0 (codes "core 1" ++ (10 ∷ x)) ≡ (0, Word (codes "core")) ∷ (at, Word (codes "1")) ∷ tokens false to x)
unfolding tokens
head_tokens x =
    let core = word_token 0 (codes "core") (32 ∷ 49 ∷ 10 ∷ x) refl refl in
    let one = word_token (core.0 + 1) (codes "1") (10 ∷ x) refl refl in
    (core.0 + 1, one.0 + 1, core.1 ∙ ap (λ ts. (0, Word (codes "core")) ∷ ts) one.1)

is_line_before : (w : List ℕ) (r : Result (List ℕ) ℕ) (x : List ℕ) → line_before w r ≡ Ok x → (z : List ℕ) × (r ≡ Ok z) × (x ≡ w ++ (10 ∷ z))
is_line_before w (Ok z) x e = (z, refl, cc)
is_line_before w (Err m) x e = absurd cc

pub file_read : (es ws : List Written) (bytes : List ℕ) → AreNamed (es ++ ws) → AreScopedOver es ws → file_text (names_in (es ++ ws)) ws ≡ Ok bytes → Says bytes (with_items es []) ws
file_read es ws bytes named over e =
    let g = is_line_before (codes "core 1") (lines_text (names_in (es ++ ws)) 0 ws) bytes e in
    let rest = lines_read (names_in (es ++ ws)) es ws refl named over 0 g.0 g.1 in
    let front = head_tokens g.0 in
    record {
      utf8 = subst IsUtf8 (sym g.2) (IsUtf8-append (codes "core") (32 ∷ 49 ∷ 10 ∷ g.0) (plain_utf8 (codes "core") refl) (byte_before 32 (49 ∷ 10 ∷ g.0) (omega arith) (byte_before 49 (10 ∷ g.0) (omega arith) (byte_before 10 g.0 (omega arith) rest.0))));
      file = record {
        core_at = 0;
        core = codes "core";
        one_at = front.0;
        one = codes "1";
        body = tokens false front.1 g.0;
        tokens = ap (tokens false 0) g.2 ∙ front.2;
        core_is = refl;
        one_is = refl;
        items = rest.1 front.1;
      };
    }

-- ---- several files

over_first : (es ws vs : List Written) → AreScopedOver es (ws ++ vs) → AreScopedOver es ws
over_first es [] vs h = tt
over_first es (w ∷ ws) vs h = (h.0, over_first (es ++ (w ∷ [])) ws vs h.1)

over_rest : (es ws vs : List Written) → AreScopedOver es (ws ++ vs) → AreScopedOver (es ++ ws) vs
over_rest es [] vs h = subst (λ ds. AreScopedOver ds vs) (sym (append-nil es)) h
over_rest es (w ∷ ws) vs h = subst (λ ds. AreScopedOver ds vs) (append_assoc es (w ∷ []) ws) (over_rest (es ++ (w ∷ [])) ws vs h.1)

pub files_read : (es : List Written) (wss : List (List Written)) (files : List (List ℕ)) → AreNamed (es ++ all_items wss) → AreScopedOver es (all_items wss) → ArePrinted es wss files → SayItems es files (all_items wss)
files_read es [] files named over h = rw h refl
files_read es (ws ∷ wss) files named over h =
    let both = subst AreNamed (sym (append_assoc es ws (all_items wss))) named in
    let says = file_read es ws h.0 (older_names (es ++ ws) (all_items wss) both) (over_first es ws (all_items wss) over) h.3 in
    let rest = files_read (es ++ ws) wss h.1 both (over_rest es ws (all_items wss) over) h.4 in
    subst (λ fs. SayItems es fs (ws ++ all_items wss)) (sym h.2) (ws, all_items wss, refl, says, rest)

pub one_list : (es : List Written) (files : List (List ℕ)) (is js : List Written) → SayItems es files is → SayItems es files js → is ≡ js
one_list es [] is js h g = h ∙ sym g
one_list es (f ∷ fs) is js h g =
    let same = one_file (with_items es []) (tokens false 0 f) h.0 g.0 h.3.file g.3.file in
    let rest = one_list (es ++ h.0) fs h.1 g.1 h.4 (subst (λ ws. SayItems (es ++ ws) fs g.1) (sym same) g.4) in
    h.2 ∙ ap (λ ws. ws ++ h.1) same ∙ ap (λ vs. g.0 ++ vs) rest ∙ sym g.2
