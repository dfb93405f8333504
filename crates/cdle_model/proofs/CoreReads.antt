-- What is read from the left is what the text says.
use Rattle.std.proofs.Common.{◌≡◌, ℕ, zero, suc, Bool, true, false, cond, List, [], ◌∷◌, Option, Some, None, Result, Ok, Err, refl, sym, ap, subst, ◌∙◌}
use Rattle.std.specs.Prelude.{codes}
use Rattle.std.specs.Str.{bytes_eq}
use Rattle.cdle_model.specs.declared.grammar.Sort.{Sort}
use Rattle.cdle_model.specs.declared.grammar.Sort.TheVariants.{OfTerm, OfType}
use Rattle.cdle_model.specs.declared.grammar.Class.{Class}
use Rattle.cdle_model.specs.declared.grammar.Form.{Form}
use Rattle.cdle_model.specs.declared.grammar.Piece.{Piece}
use Rattle.cdle_model.specs.declared.grammar.Piece.TheVariants.{Binder, Part, Under}
use Rattle.cdle_model.specs.declared.grammar.CoreWanted.{CoreWanted}
use Rattle.cdle_model.specs.declared.grammar.CoreWanted.TheVariants as wanted
use Rattle.cdle_model.specs.Trees.{Tree}
use Rattle.cdle_model.specs.Forms as forms
use Rattle.cdle_model.specs.Forms.{Written, name_of}
use Rattle.cdle_model.specs.CoreTokens.{Opens, Closes, Word, Token}
use Rattle.cdle_model.specs.CoreFaults.{Fault, BadText, WrongClass}
use Rattle.cdle_model.specs.CoreGrammar.{form_of, name_sort, pieces, made, look_up, item_words, item_pieces, item_parts, made_item}
use Rattle.cdle_model.specs.Classes.{item_sort}
use Rattle.cdle_model.specs.CoreNames.{Name, Names, names_under, behind, stands, same_sort, is_star, with_item}
use Rattle.cdle_model.specs.CoreText.{Meaning, Reads, star, name, form, ReadsPieces, end, bind, part, inner, Stands, ReadsItem, ReadsItems, ReadsFile}
use Rattle.cdle_model.specs.CoreReading.{◌>>=◌, Read, Reader, name_at, close_at, found_form, form_at, known, word_with, leaf, pieces_with, part_with, form_with, inside, part_at, open_at, found_sort, sort_at, item_at, word_at, head_at, Items}

-- ---- parts

pub bind_ok : {A B : Type 0} (r : Result A Fault) (f : A → Result B Fault) (y : B) → (r >>= f) ≡ Ok y → (x : A) × (r ≡ Ok x) × (f x ≡ Ok y)
bind_ok (Ok x) f y e = (x, refl, e)
bind_ok (Err d) f y e = absurd cc

guard_err : {A : Type 0} (b : Bool) (d : Fault) (x y : A) → cond b (Err d) (Ok x) ≡ Ok y → (b ≡ false) × (x ≡ y)
guard_err true d x y e = absurd cc
guard_err false d x y e = (refl, cc)

guard_ok : {A : Type 0} (b : Bool) (d : Fault) (x y : A) → cond b (Ok x) (Err d) ≡ Ok y → (b ≡ true) × (x ≡ y)
guard_ok true d x y e = (refl, cc)
guard_ok false d x y e = absurd cc

name_reads : (last left : ℕ) (ts : List Token) (x : List ℕ × List Token) → name_at last left ts ≡ Ok x → (at : ℕ) × (ts ≡ (at, Word x.0) ∷ x.1) × (is_star x.0 ≡ false)
unfolding name_at
name_reads last left [] x e = absurd cc
name_reads last left ((at, Word w) ∷ ts) x e =
    let g = guard_err (is_star w) _ (w, ts) x e in
    subst (λ (y : List ℕ × List Token). (b : ℕ) × ((at, Word w) ∷ ts ≡ (b, Word y.0) ∷ y.1) × (is_star y.0 ≡ false)) g.1 (at, refl, g.0)
name_reads last left ((at, Opens) ∷ ts) x e = absurd cc
name_reads last left ((at, Closes) ∷ ts) x e = absurd cc

close_reads : (last left : ℕ) (ts rest : List Token) → close_at last left ts ≡ Ok rest → (at : ℕ) × (ts ≡ (at, Closes) ∷ rest)
unfolding close_at
close_reads last left [] rest e = absurd cc
close_reads last left ((at, Word w) ∷ ts) rest e = absurd cc
close_reads last left ((at, Opens) ∷ ts) rest e = absurd cc
close_reads last left ((at, Closes) ∷ ts) rest e = (at, cc)

found_reads : (at : ℕ) (c : Class) (ts : List Token) (o : Option Form) (x : Form × List Token) → found_form at c ts o ≡ Ok x → (o ≡ Some x.0) × (ts ≡ x.1)
found_reads at c ts (Some f) x e = (cc, cc)
found_reads at c ts None x e = absurd cc

form_reads : (last left : ℕ) (c : Class) (ts : List Token) (x : Form × List Token) → form_at last left c ts ≡ Ok x → (at : ℕ) × (w : List ℕ) × (ts ≡ (at, Word w) ∷ x.1) × (form_of c w ≡ Some x.0)
unfolding form_at
form_reads last left c [] x e = absurd cc
form_reads last left c ((at, Word w) ∷ ts) x e = let g = found_reads at c ts (form_of c w) x e in (at, w, ap (λ (r : List Token). (at, Word w) ∷ r) g.1, g.0)
form_reads last left c ((at, Opens) ∷ ts) x e = absurd cc
form_reads last left c ((at, Closes) ∷ ts) x e = absurd cc

same_sort_is : (s r : Sort) → same_sort s r ≡ true → s ≡ r
same_sort_is OfTerm OfTerm e = refl
same_sort_is OfTerm OfType e = absurd cc
same_sort_is OfType OfTerm e = absurd cc
same_sort_is OfType OfType e = refl

known_reads : (at : ℕ) (s : Sort) (ts : List Token) (o : Option (Sort × Tree)) (x : Tree × List Token) → known at s ts o ≡ Ok x → (o ≡ Some (s, x.0)) × (ts ≡ x.1)
known_reads at s ts None x e = absurd cc
known_reads at s ts (Some y) x e =
    let g = guard_ok (same_sort s y.0) (WrongClass at) (y.1, ts) x e in
    let same : s ≡ y.0 = same_sort_is s y.0 g.0 in
    (ap (λ (z : Sort × Tree). Some z) (rw (same, ← g.1) refl), ap (λ (z : Tree × List Token). z.1) g.1)

failed : ℕ → CoreWanted → Read Tree
failed at what = Err (BadText at what)

word_reads : (at left : ℕ) (scope : Names) (c : Class) (w : List ℕ) (ts : List Token) (x : Tree × List Token) (o : Option Sort) (b : Bool) → name_sort c ≡ o → is_star w ≡ b
    → word_with at scope c o w ts ≡ Ok x → Reads Stands left scope c ((at, Word w) ∷ ts) x.0 x.1
word_reads at left scope c w ts x None true n b e = let same : (forms.star, ts) ≡ x = cc in subst (λ (y : Tree × List Token). Reads Stands left scope c ((at, Word w) ∷ ts) y.0 y.1) same (star n b)
word_reads at left scope c w ts x None false n b e = absurd cc
word_reads at left scope c w ts x (Some s) true n b e = absurd cc
word_reads at left scope c w ts x (Some s) false n b e =
    let k : known at s ts (stands w scope) ≡ Ok x = rw b at e in
    let g = known_reads at s ts (stands w scope) x k in
    subst (λ (r : List Token). Reads Stands left scope c ((at, Word w) ∷ ts) x.0 r) g.1 (name n b g.0)

-- a reader that finds what the grammar has
abbrev IsRight : ℕ → Reader → Type 0
IsRight left read = (scope : Names) (c : Class) (ts : List Token) (x : Tree × List Token) → read scope c ts ≡ Ok x → Reads Stands left scope c ts x.0 x.1

pieces_read : (last left : ℕ) (read : Reader) → IsRight left read → (scope : Names) (binder : Option Name) (ps : List Piece) (ts : List Token) (x : List Tree × List Token)
    → pieces_with read last left scope binder ps ts ≡ Ok x → ReadsPieces Stands left scope binder ps ts x.0 x.1
pieces_read last left read right scope binder [] ts x e =
    let same : ([], ts) ≡ x = cc in subst (λ (y : List Tree × List Token). ReadsPieces Stands left scope binder [] ts y.0 y.1) same end
pieces_read last left read right scope binder (Binder s ∷ ps) ts x e =
    let a = bind_ok (name_at last left ts) (λ y. pieces_with read last left scope (Some (record { text = y.0; sort = s })) ps y.1) x e in
    let n = name_reads last left ts a.0 a.1 in
    rw n.1 (bind n.2 (pieces_read last left read right scope (Some (record { text = a.0.0; sort = s })) ps a.0.1 x a.2))
pieces_read last left read right scope binder (Part c ∷ ps) ts x e =
    let a = bind_ok (read scope c ts) (λ t. pieces_with read last left scope binder ps t.1 >>= λ us. Ok (t.0 ∷ us.0, us.1)) x e in
    let b = bind_ok (pieces_with read last left scope binder ps a.0.1) (λ us. Ok (a.0.0 ∷ us.0, us.1)) x a.2 in
    let same : (a.0.0 ∷ b.0.0, b.0.1) ≡ x = let h = b.2 in cc in
    subst (λ (y : List Tree × List Token). ReadsPieces Stands left scope binder (Part c ∷ ps) ts y.0 y.1) same (part (right scope c ts a.0 a.1) (pieces_read last left read right scope binder ps a.0.1 b.0 b.1))
pieces_read last left read right scope binder (Under c ∷ ps) ts x e =
    let a = bind_ok (read (names_under binder scope) c ts) (λ t. pieces_with read last left scope binder ps t.1 >>= λ us. Ok (t.0 ∷ us.0, us.1)) x e in
    let b = bind_ok (pieces_with read last left scope binder ps a.0.1) (λ us. Ok (a.0.0 ∷ us.0, us.1)) x a.2 in
    let same : (a.0.0 ∷ b.0.0, b.0.1) ≡ x = let h = b.2 in cc in
    subst (λ (y : List Tree × List Token). ReadsPieces Stands left scope binder (Under c ∷ ps) ts y.0 y.1) same (inner (right (names_under binder scope) c ts a.0 a.1) (pieces_read last left read right scope binder ps a.0.1 b.0 b.1))

form_read : (last left at : ℕ) (read : Reader) → IsRight left read → (scope : Names) (c : Class) (ts : List Token) (x : Tree × List Token)
    → form_with read last left scope c ts ≡ Ok x → Reads Stands (suc left) scope c ((at, Opens) ∷ ts) x.0 x.1
unfolding form_with
form_read last left at read right scope c ts x e =
    let a = bind_ok (form_at last left c ts) (λ f. pieces_with read last left scope None (pieces f.0) f.1 >>= λ us. close_at last left us.1 >>= λ rest. Ok (made f.0 us.0, rest)) x e in
    let b = bind_ok (pieces_with read last left scope None (pieces a.0.0) a.0.1) (λ us. close_at last left us.1 >>= λ rest. Ok (made a.0.0 us.0, rest)) x a.2 in
    let d = bind_ok (close_at last left b.0.1) (λ rest. Ok (made a.0.0 b.0.0, rest)) x b.2 in
    let f = form_reads last left c ts a.0 a.1 in
    let k = close_reads last left b.0.1 d.0 d.1 in
    let same : (made a.0.0 b.0.0, d.0) ≡ x = let h = d.2 in cc in
    let us = pieces_read last left read right scope None (pieces a.0.0) a.0.1 b.0 b.1 in
    let closed = subst (λ (r : List Token). ReadsPieces Stands left scope None (pieces a.0.0) a.0.1 b.0.0 r) k.1 us in
    subst (λ (y : Tree × List Token). Reads Stands (suc left) scope c ((at, Opens) ∷ ts) y.0 y.1) same (subst (λ (r : List Token). Reads Stands (suc left) scope c ((at, Opens) ∷ r) (made a.0.0 b.0.0) d.0) (sym f.2) (form f.3 closed))

part_reads : (last left : ℕ) → IsRight left (part_at last left)
unfolding part_with inside leaf
part_reads last left scope c [] x e = absurd cc
part_reads last left scope c ((at, Word w) ∷ ts) x e = word_reads at left scope c w ts x (name_sort c) (is_star w) refl refl e
part_reads last left scope c ((at, Closes) ∷ ts) x e = absurd cc
part_reads last zero scope c ((at, Opens) ∷ ts) x e = absurd cc
part_reads last (suc left) scope c ((at, Opens) ∷ ts) x e = form_read last left at (part_at last left) (part_reads last left) scope c ts x e

-- ---- items

found_sort_reads : (at : ℕ) (ts : List Token) (o : Option Sort) (x : Sort × List Token) → found_sort at ts o ≡ Ok x → (o ≡ Some x.0) × (ts ≡ x.1)
found_sort_reads at ts (Some f) x e = (cc, cc)
found_sort_reads at ts None x e = absurd cc

sort_reads : (last : ℕ) (ts : List Token) (x : Sort × List Token) → sort_at last ts ≡ Ok x → (at : ℕ) × (w : List ℕ) × (ts ≡ (at, Word w) ∷ x.1) × (look_up w item_words ≡ Some x.0)
unfolding sort_at
sort_reads last [] x e = absurd cc
sort_reads last ((at, Word w) ∷ ts) x e = let g = found_sort_reads at ts (look_up w item_words) x e in (at, w, ap (λ (r : List Token). (at, Word w) ∷ r) g.1, g.0)
sort_reads last ((at, Opens) ∷ ts) x e = absurd cc
sort_reads last ((at, Closes) ∷ ts) x e = absurd cc

open_reads : (last : ℕ) (ts rest : List Token) → open_at last ts ≡ Ok rest → (at : ℕ) × (ts ≡ (at, Opens) ∷ rest)
unfolding open_at
open_reads last [] rest e = absurd cc
open_reads last ((at, Word w) ∷ ts) rest e = absurd cc
open_reads last ((at, Closes) ∷ ts) rest e = absurd cc
open_reads last ((at, Opens) ∷ ts) rest e = (at, cc)

-- an item of these parts
pub record IsOf (s : Sort) (x : List ℕ) (us : List Tree) (i : Written) : Type 0 where
  pub named : name_of i ≡ x
  pub sorted : item_sort i ≡ s
  pub parts : item_parts i ≡ us

pub item_made : {Means : Meaning} {left : ℕ} {scope : Names} {ts : List Token} {us : List Tree} {rest : List Token} (s : Sort) (x : List ℕ)
    → ReadsPieces Means left scope None (item_pieces s) ts us rest → IsOf s x us (made_item s x us)
item_made OfTerm x (part h (part g end)) = record { named = refl; sorted = refl; parts = refl }
item_made OfType x (part h (part g end)) = record { named = refl; sorted = refl; parts = refl }

pub item_reads : (last : ℕ) (names : List Name) (ts : List Token) (y : Written × List Token) → item_at last names ts ≡ Ok y → ReadsItem Stands 1023 names ts y.0 y.1
unfolding item_at
item_reads last names ts y e =
    let a = bind_ok (open_at last ts) _ y e in
    let b = bind_ok (sort_at last a.0) _ y a.2 in
    let d = bind_ok (name_at last 1023 b.0.1) _ y b.2 in
    let f = bind_ok (pieces_with (part_at last 1023) last 1023 (behind names) None (item_pieces b.0.0) d.0.1) _ y d.2 in
    let g = bind_ok (close_at last 1023 f.0.1) _ y f.2 in
    let o = open_reads last ts a.0 a.1 in
    let s = sort_reads last a.0 b.0 b.1 in
    let n = name_reads last 1023 b.0.1 d.0 d.1 in
    let k = close_reads last 1023 f.0.1 g.0 g.1 in
    let us = pieces_read last 1023 (part_at last 1023) (part_reads last 1023) (behind names) None (item_pieces b.0.0) d.0.1 f.0 f.1 in
    let of = item_made b.0.0 d.0.0 us in
    let closed = subst (λ (r : List Token). ReadsPieces Stands 1023 (behind names) None (item_pieces b.0.0) d.0.1 f.0.0 r) k.1 us in
    let same : (made_item b.0.0 d.0.0 f.0.0, g.0) ≡ y = let h = g.2 in cc in
    subst (λ (z : Written × List Token). ReadsItem Stands 1023 names ts z.0 z.1) same (record {
      opens = o.0;
      word_at = s.0;
      word = s.1;
      name_at = n.0;
      inner = d.0.1;
      closes = k.0;
      tokens = rw of.named (o.1 ∙ ap (λ (r : List Token). (o.0, Opens) ∷ r) (s.2 ∙ ap (λ (r : List Token). (s.0, Word s.1) ∷ r) n.1));
      form = rw of.sorted s.3;
      named = rw of.named n.2;
      parts = rw (of.sorted, of.parts) closed;
    })

items_read : (last : ℕ) (names : List Name) (ts : List Token) (is : List Written) (after : List Name) → Items last names ts is after [] → ReadsItems Stands 1023 names ts is
items_read last names ts [] after h = h.1
items_read last names ts (i ∷ is) after h = (h.0, item_reads last names ts (i, h.0) h.1, items_read last (with_item i names) h.0 is after h.2)

the_word_reads : (last : ℕ) (word : List ℕ) (what : CoreWanted) (ts rest : List Token) → word_at last word what ts ≡ Ok rest → (at : ℕ) × (w : List ℕ) × (ts ≡ (at, Word w) ∷ rest) × (bytes_eq w word ≡ true)
unfolding word_at
the_word_reads last word what [] rest e = absurd cc
the_word_reads last word what ((at, Word w) ∷ ts) rest e = let g = guard_ok (bytes_eq w word) (BadText at what) ts rest e in (at, w, ap (λ (r : List Token). (at, Word w) ∷ r) g.1, g.0)
the_word_reads last word what ((at, Opens) ∷ ts) rest e = absurd cc
the_word_reads last word what ((at, Closes) ∷ ts) rest e = absurd cc

-- what is read of a whole file is what it says
pub file_reads : (last : ℕ) (names : List Name) (ts body : List Token) (is : List Written) (after : List Name) → head_at last ts ≡ Ok body → Items last names body is after [] → ReadsFile Stands 1023 names ts is
unfolding head_at
file_reads last names ts body is after e h =
    let a = bind_ok (word_at last (codes "core") wanted.Core ts) _ body e in
    let c = the_word_reads last (codes "core") wanted.Core ts a.0 a.1 in
    let o = the_word_reads last (codes "1") wanted.One a.0 body a.2 in
    record {
      core_at = c.0;
      core = c.1;
      one_at = o.0;
      one = o.1;
      body = body;
      tokens = c.2 ∙ ap (λ (r : List Token). (c.0, Word c.1) ∷ r) o.2;
      core_is = c.3;
      one_is = o.3;
      items = items_read last names body is after h;
    }
