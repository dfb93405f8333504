-- What a text says is read from the left, so it says one thing.
use Rattle.std.proofs.Common.{◌≡◌, ℕ, suc, true, false, List, [], ◌∷◌, Option, Some, None, Ok, refl, sym, ap, ◌∙◌}
use Rattle.std.specs.Prelude.{codes}
use Rattle.std.specs.Str.{bytes_eq}
use Rattle.cdle_model.specs.declared.grammar.Sort.{Sort}
use Rattle.cdle_model.specs.declared.grammar.Sort.TheVariants.{OfTerm, OfType}
use Rattle.cdle_model.specs.declared.grammar.Class.{Class}
use Rattle.cdle_model.specs.declared.grammar.Form.{Form}
use Rattle.cdle_model.specs.declared.grammar.Piece.{Piece}
use Rattle.cdle_model.specs.declared.grammar.CoreWanted.{CoreWanted}
use Rattle.cdle_model.specs.declared.grammar.CoreWanted.TheVariants as wanted
use Rattle.cdle_model.specs.Trees.{Tree}
use Rattle.cdle_model.specs.Forms as forms
use Rattle.cdle_model.specs.Forms.{Written, def_item, type_item, name_of}
use Rattle.cdle_model.specs.CoreTokens.{Opens, Closes, Word, Token}
use Rattle.cdle_model.specs.CoreGrammar.{form_of, name_sort, pieces, made, look_up, item_words, item_pieces, item_parts, made_item}
use Rattle.cdle_model.specs.Classes.{item_sort}
use Rattle.cdle_model.specs.CoreNames.{Name, Names, behind, stands, same_sort, is_star, with_item, with_items}
use Rattle.cdle_model.specs.CoreText.{Reads, star, name, form, ReadsPieces, end, bind, part, inner, Stands, ReadsItem, ReadsItems, ReadsFile}
use Rattle.cdle_model.specs.CoreReading.{Read, Reader, name_at, close_at, found_form, form_at, word_with, leaf, pieces_with, part_with, form_with, inside, part_at, open_at, found_sort, sort_at, item_at, word_at, head_at, Items}

-- ---- parts

name_again : (last left at : ℕ) (w : List ℕ) (ts : List Token) → is_star w ≡ false → name_at last left ((at, Word w) ∷ ts) ≡ Ok (w, ts)
unfolding name_at
name_again last left at w ts e = rw e refl

close_again : (last left at : ℕ) (ts : List Token) → close_at last left ((at, Closes) ∷ ts) ≡ Ok ts
unfolding close_at
close_again last left at ts = refl

form_again : (last left at : ℕ) (c : Class) (w : List ℕ) (f : Form) (ts : List Token) → form_of c w ≡ Some f → form_at last left c ((at, Word w) ∷ ts) ≡ Ok (f, ts)
unfolding form_at
form_again last left at c w f ts e = ap (found_form at c ts) e

star_again : (last left at : ℕ) (scope : Names) (c : Class) (w : List ℕ) (ts : List Token) → name_sort c ≡ None → is_star w ≡ true → part_at last left scope c ((at, Word w) ∷ ts) ≡ Ok (forms.star, ts)
unfolding part_with leaf
star_again last left at scope c w ts n e = ap (λ (o : Option Sort). word_with at scope c o w ts) n ∙ rw e refl

sort_again : (s : Sort) → same_sort s s ≡ true
sort_again OfTerm = refl
sort_again OfType = refl

word_again : (last left at : ℕ) (scope : Names) (c : Class) (s : Sort) (w : List ℕ) (t : Tree) (ts : List Token) → name_sort c ≡ Some s → is_star w ≡ false → stands w scope ≡ Some (s, t)
    → part_at last left scope c ((at, Word w) ∷ ts) ≡ Ok (t, ts)
unfolding part_with leaf
word_again last left at scope c s w t ts n e h = ap (λ (o : Option Sort). word_with at scope c o w ts) n ∙ rw (e, h, sort_again s) refl

part_opens : (last left at : ℕ) (scope : Names) (c : Class) (ts : List Token) → part_at last (suc left) scope c ((at, Opens) ∷ ts) ≡ form_with (part_at last left) last left scope c ts
unfolding part_with inside
part_opens last left at scope c ts = refl

form_parts : (read : Reader) (last left : ℕ) (scope : Names) (c : Class) (ts : List Token) (f : Form) (next : List Token) (us : List Tree) (shut rest : List Token)
    → form_at last left c ts ≡ Ok (f, next) → pieces_with read last left scope None (pieces f) next ≡ Ok (us, shut) → close_at last left shut ≡ Ok rest → form_with read last left scope c ts ≡ Ok (made f us, rest)
unfolding form_with
form_parts read last left scope c ts f next us shut rest p q r = rw (p, q, r) refl

mutual
  part_again : {left : ℕ} {scope : Names} {c : Class} {ts : List Token} {t : Tree} {rest : List Token} → (last : ℕ) → Reads Stands left scope c ts t rest → part_at last left scope c ts ≡ Ok (t, rest)
  part_again {left} {scope} {c} last (star {at = at} {w = w} {ts = ts} n e) = star_again last left at scope c w ts n e
  part_again {left} {scope} {c} last (name {s = s} {at = at} {w = w} {t = t} {ts = ts} n e h) = word_again last left at scope c s w t ts n e h
  part_again {scope = scope} {c} last (form {left = left} {at = at} {from = from} {to = to} {w = w} {f = f} {us = us} {ts = ts} {rest = rest} e h) =
      part_opens last left at scope c ((from, Word w) ∷ ts)
      ∙ form_parts (part_at last left) last left scope c ((from, Word w) ∷ ts) f ts us ((to, Closes) ∷ rest) rest (form_again last left from c w f ts e) (pieces_again last h) (close_again last left to rest)

  pieces_again : {left : ℕ} {scope : Names} {binder : Option Name} {ps : List Piece} {ts : List Token} {us : List Tree} {rest : List Token} → (last : ℕ) → ReadsPieces Stands left scope binder ps ts us rest → pieces_with (part_at last left) last left scope binder ps ts ≡ Ok (us, rest)
  pieces_again last end = refl
  pieces_again {left = left} last (bind {at = at} {w = w} {ts = ts} e h) = rw (name_again last left at w ts e) (pieces_again last h)
  pieces_again last (part h g) = rw (part_again last h, pieces_again last g) refl
  pieces_again last (inner h g) = rw (part_again last h, pieces_again last g) refl

abbrev done : Tree → List Token → Read Tree
done t ts = Ok (t, ts)

same_read : (t u : Tree) (r s : List Token) → done t r ≡ done u s → (t ≡ u) × (r ≡ s)
same_read t u r s e = let p : (t, r) ≡ (u, s) = cc in (ap (λ (x : Tree × List Token). x.0) p, ap (λ (x : Tree × List Token). x.1) p)

pub one_part : (left : ℕ) (scope : Names) (c : Class) (ts : List Token) (t u : Tree) (r s : List Token) → Reads Stands left scope c ts t r → Reads Stands left scope c ts u s → (t ≡ u) × (r ≡ s)
one_part left scope c ts t u r s h g = same_read t u r s (sym (part_again 0 h) ∙ part_again 0 g)

-- ---- items

open_again : (last at : ℕ) (ts : List Token) → open_at last ((at, Opens) ∷ ts) ≡ Ok ts
unfolding open_at
open_again last at ts = refl

item_word_again : (last at : ℕ) (w : List ℕ) (s : Sort) (ts : List Token) → look_up w item_words ≡ Some s → sort_at last ((at, Word w) ∷ ts) ≡ Ok (s, ts)
unfolding sort_at
item_word_again last at w s ts e = ap (found_sort at ts) e

made_again : (i : Written) → made_item (item_sort i) (name_of i) (item_parts i) ≡ i
made_again (def_item x a t) = refl
made_again (type_item x k a) = refl

item_parts_again : (last : ℕ) (names : List Name) (ts inner : List Token) (s : Sort) (named : List Token) (x : List ℕ) (next : List Token) (us : List Tree) (shut rest : List Token)
    → open_at last ts ≡ Ok inner → sort_at last inner ≡ Ok (s, named) → name_at last 1023 named ≡ Ok (x, next) → pieces_with (part_at last 1023) last 1023 (behind names) None (item_pieces s) next ≡ Ok (us, shut)
    → close_at last 1023 shut ≡ Ok rest → item_at last names ts ≡ Ok (made_item s x us, rest)
unfolding item_at
item_parts_again last names ts opened s named x next us shut rest a b c d e = rw (a, b, c, d, e) refl

item_again : (last : ℕ) (names : List Name) (ts : List Token) (i : Written) (rest : List Token) → ReadsItem Stands 1023 names ts i rest → item_at last names ts ≡ Ok (i, rest)
item_again last names ts i rest h =
    let read = item_parts_again last names ((h.opens, Opens) ∷ (h.word_at, Word h.word) ∷ (h.name_at, Word (name_of i)) ∷ h.inner) ((h.word_at, Word h.word) ∷ (h.name_at, Word (name_of i)) ∷ h.inner)
    (item_sort i) ((h.name_at, Word (name_of i)) ∷ h.inner) (name_of i) h.inner (item_parts i) ((h.closes, Closes) ∷ rest) rest
    (open_again last h.opens _) (item_word_again last h.word_at h.word (item_sort i) _ h.form) (name_again last 1023 h.name_at (name_of i) h.inner h.named) (pieces_again last h.parts) (close_again last 1023 h.closes rest) in
    ap (item_at last names) h.tokens ∙ read ∙ ap (λ (j : Written). Ok (j, rest)) (made_again i)

items_again : (last : ℕ) (names : List Name) (ts : List Token) (is : List Written) → ReadsItems Stands 1023 names ts is → Items last names ts is (with_items is names) []
items_again last names ts [] h = (refl, h)
items_again last names ts (i ∷ is) h = (h.0, item_again last names ts i h.0 h.1, items_again last (with_item i names) h.0 is h.2)

the_word_again : (last at : ℕ) (w word : List ℕ) (what : CoreWanted) (ts : List Token) → bytes_eq w word ≡ true → word_at last word what ((at, Word w) ∷ ts) ≡ Ok ts
unfolding word_at
the_word_again last at w word what ts e = rw e refl

head_again : (last a b : ℕ) (core one : List ℕ) (body : List Token) → bytes_eq core (codes "core") ≡ true → bytes_eq one (codes "1") ≡ true → head_at last ((a, Word core) ∷ (b, Word one) ∷ body) ≡ Ok body
unfolding head_at
head_again last a b core one body e f = rw (the_word_again last a core (codes "core") wanted.Core ((b, Word one) ∷ body) e) (the_word_again last b one (codes "1") wanted.One body f)

-- what a whole file says is read
pub record IsRead (last : ℕ) (names : List Name) (ts : List Token) (is : List Written) : Type 0 where
  pub body : List Token
  pub head : head_at last ts ≡ Ok body
  pub items : Items last names body is (with_items is names) []

pub file_again : (last : ℕ) (names : List Name) (ts : List Token) (is : List Written) → ReadsFile Stands 1023 names ts is → IsRead last names ts is
file_again last names ts is h = record {
  body = h.body;
  head = ap (head_at last) h.tokens ∙ head_again last h.core_at h.one_at h.core h.one h.body h.core_is h.one_is;
  items = items_again last names h.body is h.items;
}

-- ---- a file says one thing

abbrev an_item : Written → List Token → Read Written
an_item i ts = Ok (i, ts)

same_item : (i j : Written) (r s : List Token) → an_item i r ≡ an_item j s → (i ≡ j) × (r ≡ s)
same_item i j r s e = let p : (i, r) ≡ (j, s) = cc in (ap (λ (x : Written × List Token). x.0) p, ap (λ (x : Written × List Token). x.1) p)

no_item : (last : ℕ) (names : List Name) (x : Written × List Token) → item_at last names [] ≡ Ok x → ⊥
unfolding item_at open_at
no_item last names x e = cc

same_items : (last : ℕ) (names : List Name) (ts : List Token) (is js : List Written) (after then : List Name) → Items last names ts is after [] → Items last names ts js then [] → is ≡ js
same_items last names ts [] [] after then h g = refl
same_items last names ts [] (j ∷ js) after then h g = absurd (no_item last names (j, g.0) (rw h.1 at g.1))
same_items last names ts (i ∷ is) [] after then h g = absurd (no_item last names (i, h.0) (rw g.1 at h.1))
same_items last names ts (i ∷ is) (j ∷ js) after then h g =
    let p = same_item i j h.0 g.0 (sym h.1 ∙ g.1) in
    let more = rw (← p.0, ← p.1) at g.2 in
    rw (p.0) (ap (λ (ks : List Written). j ∷ ks) (same_items last (with_item i names) h.0 is js after then h.2 more))

pub one_file : (names : List Name) (ts : List Token) (is js : List Written) → ReadsFile Stands 1023 names ts is → ReadsFile Stands 1023 names ts js → is ≡ js
one_file names ts is js h g =
    let a = file_again 0 names ts is h in
    let b = file_again 0 names ts js g in
    let same : a.body ≡ b.body = let p = a.head in let q = b.head in cc in
    same_items 0 names b.body is js _ _ (rw same at a.items) b.items
