-- What is taken token by token is what the relation says where any name stands for anything.
use Rattle.std.proofs.Common.{◌≡◌, ℕ, zero, suc, Bool, true, false, cond, List, [], ◌∷◌, ◌++◌, Option, Some, None, refl, sym, ap, subst, ◌∙◌, append_assoc}
use Rattle.std.specs.Prelude.{codes}
use Rattle.std.specs.Str.{bytes_eq}
use Rattle.cdle_model.specs.declared.grammar.Sort.{Sort}
use Rattle.cdle_model.specs.declared.grammar.Class.{Class}
use Rattle.cdle_model.specs.declared.grammar.Form.{Form}
use Rattle.cdle_model.specs.declared.grammar.Piece.{Piece}
use Rattle.cdle_model.specs.declared.grammar.Piece.TheVariants.{Binder, Part, Under}
use Rattle.cdle_model.specs.declared.grammar.CoreWanted.{CoreWanted}
use Rattle.cdle_model.specs.declared.grammar.CoreWanted.TheVariants as wanted
use Rattle.cdle_model.specs.Trees.{Tree}
use Rattle.cdle_model.specs.Forms as forms
use Rattle.cdle_model.specs.Forms.{Written, name_of}
use Rattle.cdle_model.specs.CoreTokens.{Lexeme, Opens, Closes, Word, Token}
use Rattle.cdle_model.specs.CoreGrammar.{form_of, name_sort, pieces, look_up, item_words, item_pieces, made_item}
use Rattle.cdle_model.specs.Classes.{item_sort}
use Rattle.cdle_model.specs.CoreNames.{Name, Names, names_under, behind, stands, is_star, with_item, with_items}
use Rattle.std.proofs.Common.{◌≤◌, ◌+◌, arith}
use Rattle.std.proofs.lemmas.List.{append-nil}
use Rattle.cdle_model.specs.CoreWants.{Want, TheWord, MoreItems, ItemWord, ItemName, PartOf, FormOf, Binding, Closing, Wrong, Step, complaint, a_word, a_form, opening, an_item, for_pieces, taken, act, after, start}
use Rattle.cdle_model.specs.CoreText.{Reads, star, name, form, ReadsPieces, end, bind, part, inner, Free, ReadsItem, ReadsItems, IsText}
use Rattle.cdle_model.proofs.CoreReads.{item_made}

-- ---- a text is taken to its end

star_after : (left at : ℕ) (scope : Names) (c : Class) (w : List ℕ) (ws : List Want) (ts : List Token) → name_sort c ≡ None → is_star w ≡ true → after (PartOf left scope c ∷ ws) ((at, Word w) ∷ ts) ≡ after ws ts
unfolding after act
star_after left at scope c w ws ts n e = ap (λ (o : Option Sort). taken (a_word scope o w) (λ front. after (front ++ ws) ts)) n ∙ rw e refl

name_after : (left at : ℕ) (scope : Names) (c : Class) (s : Sort) (w : List ℕ) (ws : List Want) (ts : List Token) → name_sort c ≡ Some s → is_star w ≡ false → after (PartOf left scope c ∷ ws) ((at, Word w) ∷ ts) ≡ after ws ts
unfolding after act
name_after left at scope c s w ws ts n e = ap (λ (o : Option Sort). taken (a_word scope o w) (λ front. after (front ++ ws) ts)) n ∙ rw e refl

form_after : (left from : ℕ) (scope : Names) (c : Class) (w : List ℕ) (f : Form) (ws : List Want) (ts : List Token) → form_of c w ≡ Some f
    → after (FormOf left scope c ∷ ws) ((from, Word w) ∷ ts) ≡ after (for_pieces left scope None (pieces f) ++ ws) ts
unfolding after act
form_after left from scope c w f ws ts e = ap (λ (o : Option Form). taken (a_form left scope o) (λ front. after (front ++ ws) ts)) e

opens_after : (left at : ℕ) (scope : Names) (c : Class) (ws : List Want) (ts : List Token) (x : Option (List Want)) → ((l : ℕ) → after (FormOf l scope c ∷ ws) ts ≡ x) → after (PartOf left scope c ∷ ws) ((at, Opens) ∷ ts) ≡ x
unfolding after act
opens_after zero at scope c ws ts x h = h zero
opens_after (suc left) at scope c ws ts x h = h left

binder_after : (left at : ℕ) (scope : Names) (s : Sort) (ps : List Piece) (w : List ℕ) (ws : List Want) (ts : List Token) → is_star w ≡ false
    → after (Binding left scope s ps ∷ ws) ((at, Word w) ∷ ts) ≡ after (for_pieces left scope (Some (record { text = w; sort = s })) ps ++ ws) ts
unfolding after act
binder_after left at scope s ps w ws ts e = rw e refl

close_after : (left at : ℕ) (ws : List Want) (ts : List Token) → after (Closing left ∷ ws) ((at, Closes) ∷ ts) ≡ after ws ts
unfolding after act
close_after left at ws ts = refl

mutual
  part_after : {l : ℕ} {s : Names} {c : Class} {ts : List Token} {t : Tree} {rest : List Token} → Reads Free l s c ts t rest → (left : ℕ) (scope : Names) (ws : List Want) → after (PartOf left scope c ∷ ws) ts ≡ after ws rest
  part_after {c = c} (star {at = at} {w = w} {ts = ts} n e) left scope ws = star_after left at scope c w ws ts n e
  part_after {c = c} (name {s = s} {at = at} {w = w} {ts = ts} n e h) left scope ws = name_after left at scope c s w ws ts n e
  part_after {c = c} (form {at = at} {from = from} {to = to} {w = w} {f = f} {ts = ts} {rest = rest} e h) left scope ws =
      opens_after left at scope c ws ((from, Word w) ∷ ts) (after ws rest) (λ l. form_after l from scope c w f ws ts e ∙ pieces_after h l scope None ws ∙ close_after l to ws rest)

  pieces_after : {l : ℕ} {s : Names} {b : Option Name} {ps : List Piece} {ts : List Token} {us : List Tree} {rest : List Token} → ReadsPieces Free l s b ps ts us rest
      → (left : ℕ) (scope : Names) (binder : Option Name) (ws : List Want) → after (for_pieces left scope binder ps ++ ws) ts ≡ after (Closing left ∷ ws) rest
  pieces_after end left scope binder ws = refl
  pieces_after (bind {s = s} {ps = ps} {at = at} {w = w} {ts = ts} e h) left scope binder ws = binder_after left at scope s ps w ws ts e ∙ pieces_after h left scope (Some (record { text = w; sort = s })) ws
  pieces_after (part {ps = ps} h g) left scope binder ws = part_after h left scope (for_pieces left scope binder ps ++ ws) ∙ pieces_after g left scope binder ws
  pieces_after (inner {ps = ps} h g) left scope binder ws = part_after h left (names_under binder scope) (for_pieces left scope binder ps ++ ws) ∙ pieces_after g left scope binder ws

item_open_after : (at : ℕ) (known : List Name) (ts : List Token) → after (MoreItems known ∷ []) ((at, Opens) ∷ ts) ≡ after (ItemWord known ∷ []) ts
unfolding after act
item_open_after at known ts = refl

item_word_after : (at : ℕ) (known : List Name) (w : List ℕ) (s : Sort) (ts : List Token) → look_up w item_words ≡ Some s → after (ItemWord known ∷ []) ((at, Word w) ∷ ts) ≡ after (ItemName known s ∷ []) ts
unfolding after act
item_word_after at known w s ts e = ap (λ (o : Option Sort). taken (an_item known o) (λ front. after (front ++ []) ts)) e

item_name_after : (at : ℕ) (known : List Name) (s : Sort) (x : List ℕ) (ts : List Token) → is_star x ≡ false
    → after (ItemName known s ∷ []) ((at, Word x) ∷ ts) ≡ after (for_pieces 1023 (behind known) None (item_pieces s) ++ MoreItems (record { text = x; sort = s } ∷ known) ∷ []) ts
unfolding after act
item_name_after at known s x ts e = rw (e, append-nil) refl

item_after : (left : ℕ) (names known : List Name) (ts : List Token) (i : Written) (rest : List Token) → ReadsItem Free left names ts i rest → after (MoreItems known ∷ []) ts ≡ after (MoreItems (with_item i known) ∷ []) rest
item_after left names known ts i rest h =
    ap (after (MoreItems known ∷ [])) h.tokens
    ∙ item_open_after h.opens known ((h.word_at, Word h.word) ∷ (h.name_at, Word (name_of i)) ∷ h.inner)
    ∙ item_word_after h.word_at known h.word (item_sort i) ((h.name_at, Word (name_of i)) ∷ h.inner) h.form
    ∙ item_name_after h.name_at known (item_sort i) (name_of i) h.inner h.named
    ∙ pieces_after h.parts 1023 (behind known) None (MoreItems (with_item i known) ∷ [])
    ∙ close_after 1023 h.closes (MoreItems (with_item i known) ∷ []) rest

items_after : (left : ℕ) (names known : List Name) (ts : List Token) (is : List Written) → ReadsItems Free left names ts is → after (MoreItems known ∷ []) ts ≡ Some (MoreItems (with_items is known) ∷ [])
unfolding after
items_after left names known ts [] h = rw h refl
items_after left names known ts (i ∷ is) h = item_after left names known ts i h.0 h.1 ∙ items_after left (with_item i names) (with_item i known) h.0 is h.2

word_after : (at : ℕ) (w word : List ℕ) (what : CoreWanted) (ws : List Want) (ts : List Token) → bytes_eq w word ≡ true → after (TheWord word what ∷ ws) ((at, Word w) ∷ ts) ≡ after ws ts
unfolding after act
word_after at w word what ws ts e = rw e refl

-- a text of the grammar is taken to its end
pub text_whole : (known : List Name) (ts : List Token) → IsText ts → (all : List Name) × (after (start known) ts ≡ Some (MoreItems all ∷ []))
text_whole known ts text =
    let is = text.2 in
    let h = text.3 in (
      with_items is known,
      ap (after (start known)) h.tokens
          ∙ word_after h.core_at h.core (codes "core") wanted.Core (TheWord (codes "1") wanted.One ∷ MoreItems known ∷ []) ((h.one_at, Word h.one) ∷ h.body) h.core_is
          ∙ word_after h.one_at h.one (codes "1") wanted.One (MoreItems known ∷ []) h.body h.one_is
          ∙ items_after text.0 text.1 known h.body is h.items,
    )

-- ---- what is taken to its end is a text

mutual
  raise : {l : ℕ} {s : Names} {c : Class} {ts : List Token} {t : Tree} {rest : List Token} → Reads Free l s c ts t rest → (m : ℕ) → l ≤ m → Reads Free m s c ts t rest
  raise (star n e) m le = star n e
  raise (name n e h) m le = name n e h
  raise (form e h) zero le = absurd (omega arith)
  raise (form e h) (suc m) le = form e (raise_pieces h m (omega arith))

  raise_pieces : {l : ℕ} {s : Names} {b : Option Name} {ps : List Piece} {ts : List Token} {us : List Tree} {rest : List Token} → ReadsPieces Free l s b ps ts us rest → (m : ℕ) → l ≤ m → ReadsPieces Free m s b ps ts us rest
  raise_pieces end m le = end
  raise_pieces (bind e h) m le = bind e (raise_pieces h m le)
  raise_pieces (part h g) m le = part (raise h m le) (raise_pieces g m le)
  raise_pieces (inner h g) m le = inner (raise h m le) (raise_pieces g m le)

raise_item : (l m : ℕ) → l ≤ m → (names : List Name) (ts : List Token) (i : Written) (rest : List Token) → ReadsItem Free l names ts i rest → ReadsItem Free m names ts i rest
raise_item l m le names ts i rest h = record {
  opens = h.opens;
  word_at = h.word_at;
  word = h.word;
  name_at = h.name_at;
  inner = h.inner;
  closes = h.closes;
  tokens = h.tokens;
  form = h.form;
  named = h.named;
  parts = raise_pieces h.parts m le;
}

raise_items : (l m : ℕ) → l ≤ m → (names : List Name) (ts : List Token) (is : List Written) → ReadsItems Free l names ts is → ReadsItems Free m names ts is
raise_items l m le names ts [] h = h
raise_items l m le names ts (i ∷ is) h = (h.0, raise_item l m le names ts i h.0 h.1, raise_items l m le (with_item i names) h.0 is h.2)

-- the tokens are what is wanted
data Fills : List Want → List Token → Type 0 where
  the_word : {at : ℕ} {w word : List ℕ} {what : CoreWanted} {ws : List Want} {ts : List Token} → bytes_eq w word ≡ true → Fills ws ts → Fills (TheWord word what ∷ ws) ((at, Word w) ∷ ts)
  items : {known : List Name} {ws : List Want} {ts : List Token} (left : ℕ) (is : List Written) → ReadsItems Free left known ts is → Fills (MoreItems known ∷ ws) ts
  item_word : {at : ℕ} {known : List Name} {w : List ℕ} {s : Sort} {ws : List Want} {ts : List Token} → look_up w item_words ≡ Some s → Fills (ItemName known s ∷ ws) ts → Fills (ItemWord known ∷ ws) ((at, Word w) ∷ ts)
  item_name : {left at to : ℕ} {known : List Name} {s : Sort} {x : List ℕ} {us : List Tree} {ws : List Want} {ts rest : List Token} (right : ℕ) (is : List Written) → is_star x ≡ false
      → ReadsPieces Free left (behind known) None (item_pieces s) ts us ((to, Closes) ∷ rest) → ReadsItems Free right (record { text = x; sort = s } ∷ known) rest is → Fills (ItemName known s ∷ ws) ((at, Word x) ∷ ts)
  a_part : {l left : ℕ} {scope : Names} {c : Class} {t : Tree} {ws : List Want} {ts rest : List Token} → Reads Free left scope c ts t rest → Fills ws rest → Fills (PartOf l scope c ∷ ws) ts
  the_form : {l left at to : ℕ} {scope : Names} {c : Class} {w : List ℕ} {f : Form} {us : List Tree} {ws : List Want} {ts rest : List Token} → form_of c w ≡ Some f
      → ReadsPieces Free left scope None (pieces f) ts us ((to, Closes) ∷ rest) → Fills ws rest → Fills (FormOf l scope c ∷ ws) ((at, Word w) ∷ ts)
  binding : {l left at to : ℕ} {scope : Names} {s : Sort} {ps : List Piece} {w : List ℕ} {us : List Tree} {ws : List Want} {ts rest : List Token} → is_star w ≡ false
      → ReadsPieces Free left scope (Some (record { text = w; sort = s })) ps ts us ((to, Closes) ∷ rest) → Fills ws rest → Fills (Binding l scope s ps ∷ ws) ((at, Word w) ∷ ts)
  closing : {l to : ℕ} {ws : List Want} {ts : List Token} → Fills ws ts → Fills (Closing l ∷ ws) ((to, Closes) ∷ ts)

-- pieces, their closing, and what else is wanted
record Pieced (scope : Names) (binder : Option Name) (ps : List Piece) (ws : List Want) (ts : List Token) : Type 0 where
  left : ℕ
  us : List Tree
  to : ℕ
  rest : List Token
  reads : ReadsPieces Free left scope binder ps ts us ((to, Closes) ∷ rest)
  others : Fills ws rest

pieced : (l : ℕ) (scope : Names) (binder : Option Name) (ps : List Piece) (ws : List Want) (ts : List Token) → Fills (for_pieces l scope binder ps ++ ws) ts → Pieced scope binder ps ws ts
pieced l scope binder [] ws ts (closing {to = to} {ts = rest} h) = record { left = 0; us = []; to = to; rest = rest; reads = end; others = h }
pieced l scope binder (Binder s ∷ ps) ws ts (binding {left = left} {to = to} {us = us} {rest = rest} e h g) = record { left = left; us = us; to = to; rest = rest; reads = bind e h; others = g }
pieced l scope binder (Part c ∷ ps) ws ts (a_part {left = left} {t = t} {rest = rest} h g) =
    let p = pieced l scope binder ps ws rest g in
    record { left = left + p.left; us = t ∷ p.us; to = p.to; rest = p.rest; reads = part (raise h (left + p.left) (omega arith)) (raise_pieces p.reads (left + p.left) (omega arith)); others = p.others }
pieced l scope binder (Under c ∷ ps) ws ts (a_part {left = left} {t = t} {rest = rest} h g) =
    let p = pieced l scope binder ps ws rest g in
    record { left = left + p.left; us = t ∷ p.us; to = p.to; rest = p.rest; reads = inner (raise h (left + p.left) (omega arith)) (raise_pieces p.reads (left + p.left) (omega arith)); others = p.others }

an_item_fills : (known : List Name) (at : ℕ) (ws : List Want) (ts : List Token) → Fills (ItemWord known ∷ ws) ts → Fills (MoreItems known ∷ ws) ((at, Opens) ∷ ts)
an_item_fills known at ws ts (item_word {at = from} {w = w} {s = s} e (item_name {left = left} {at = name_at} {to = to} {x = x} {us = us} {ts = inside} {rest = rest} right is named h g)) =
    let i : Written = made_item s x us in
    let m = left + right in
    let of = item_made s x h in
    let names : with_item i known ≡ record { text = x; sort = s } ∷ known = rw (of.named, of.sorted) refl in
    let more = raise_items right m (omega arith) (with_item i known) rest is (rw names g) in
    items m (i ∷ is) (
      rest,
      record {
        opens = at;
        word_at = from;
        word = w;
        name_at = name_at;
        inner = inside;
        closes = to;
        tokens = rw of.named refl;
        form = rw of.sorted e;
        named = rw of.named named;
        parts = rw (of.sorted, of.parts) (raise_pieces h m (omega arith));
      },
      more,
    )

abbrev some_step : List Want → Option Wrong → Step
some_step ws wrong = Some (ws, wrong)

next_is : (ns next : List Want) (a b : Option Wrong) → some_step ns a ≡ some_step next b → next ≡ ns
next_is ns next a b e = let p : (ns, a) ≡ (next, b) = cc in ap (λ (x : List Want × Option Wrong). x.0) (sym p)

if_next : (test : Bool) (ns next : List Want) (a b : Option Wrong) → cond test (some_step ns a) None ≡ some_step next b → (test ≡ true) × (next ≡ ns)
if_next true ns next a b e = (refl, next_is ns next a b e)
if_next false ns next a b e = absurd cc

unless_next : (test : Bool) (ns next : List Want) (a b : Option Wrong) → cond test None (some_step ns a) ≡ some_step next b → (test ≡ false) × (next ≡ ns)
unless_next true ns next a b e = absurd cc
unless_next false ns next a b e = (refl, next_is ns next a b e)

a_word_fills : (left at : ℕ) (scope : Names) (c : Class) (w : List ℕ) (ws : List Want) (ts : List Token) (next : List Want) (wrong : Option Wrong) (o : Option Sort) → name_sort c ≡ o
    → a_word scope o w ≡ some_step next wrong → Fills (next ++ ws) ts → Fills (PartOf left scope c ∷ ws) ((at, Word w) ∷ ts)
a_word_fills left at scope c w ws ts next wrong None n e h =
    let k = if_next (is_star w) [] next None wrong e in
    a_part (star {left = 0} n k.0) (rw k.1 at h)
a_word_fills left at scope c w ws ts next wrong (Some s) n e h =
    let k = unless_next (is_star w) [] next (complaint s (stands w scope)) wrong e in
    a_part (name {left = 0} {t = forms.star} n k.0 tt) (rw k.1 at h)

a_form_fills : (left at : ℕ) (scope : Names) (c : Class) (w : List ℕ) (ws : List Want) (ts : List Token) (next : List Want) (wrong : Option Wrong) (o : Option Form) → form_of c w ≡ o
    → a_form left scope o ≡ some_step next wrong → Fills (next ++ ws) ts → Fills (FormOf left scope c ∷ ws) ((at, Word w) ∷ ts)
a_form_fills left at scope c w ws ts next wrong None n e h = absurd cc
a_form_fills left at scope c w ws ts next wrong (Some f) n e h =
    let k = next_is (for_pieces left scope None (pieces f)) next None wrong e in
    let p = pieced left scope None (pieces f) ws ts (rw k at h) in
    the_form n p.reads p.others

opening_fills : (left at : ℕ) (scope : Names) (c : Class) (ws : List Want) (ts : List Token) → Fills (opening left scope c ++ ws) ts → Fills (PartOf left scope c ∷ ws) ((at, Opens) ∷ ts)
opening_fills zero at scope c ws ts (the_form e h g) = a_part (form e h) g
opening_fills (suc left) at scope c ws ts (the_form e h g) = a_part (form e h) g

item_word_fills : (at : ℕ) (known : List Name) (w : List ℕ) (ws : List Want) (ts : List Token) (next : List Want) (wrong : Option Wrong) (o : Option Sort) → look_up w item_words ≡ o
    → an_item known o ≡ some_step next wrong → Fills (next ++ ws) ts → Fills (ItemWord known ∷ ws) ((at, Word w) ∷ ts)
item_word_fills at known w ws ts next wrong None n e h = absurd cc
item_word_fills at known w ws ts next wrong (Some s) n e h = item_word n (rw (next_is (ItemName known s ∷ []) next None wrong e) at h)

item_name_fills : (at : ℕ) (known : List Name) (s : Sort) (w : List ℕ) (ws : List Want) (ts : List Token) → is_star w ≡ false
    → Fills ((for_pieces 1023 (behind known) None (item_pieces s) ++ MoreItems (record { text = w; sort = s } ∷ known) ∷ []) ++ ws) ts → Fills (ItemName known s ∷ ws) ((at, Word w) ∷ ts)
item_name_fills at known s w ws ts e h = with_more (pieced 1023 (behind known) None (item_pieces s) (MoreItems (record { text = w; sort = s } ∷ known) ∷ ws) ts (rw append_assoc at h))
  where
    items_fill : {left to : ℕ} {us : List Tree} {rest : List Token} → ReadsPieces Free left (behind known) None (item_pieces s) ts us ((to, Closes) ∷ rest) → Fills (MoreItems (record { text = w; sort = s } ∷ known) ∷ ws) rest
        → Fills (ItemName known s ∷ ws) ((at, Word w) ∷ ts)
    items_fill h (items right is g) = item_name right is e h g

    with_more : Pieced (behind known) None (item_pieces s) (MoreItems (record { text = w; sort = s } ∷ known) ∷ ws) ts → Fills (ItemName known s ∷ ws) ((at, Word w) ∷ ts)
    with_more p = items_fill p.reads p.others

step_fills : (w : Want) (ws : List Want) (at : ℕ) (l : Lexeme) (ts : List Token) (next : List Want) (wrong : Option Wrong) → act w l ≡ some_step next wrong → Fills (next ++ ws) ts → Fills (w ∷ ws) ((at, l) ∷ ts)
unfolding act
step_fills (TheWord word what) ws at (Word w) ts next wrong e h = let k = if_next (bytes_eq w word) [] next None wrong e in the_word k.0 (rw k.1 at h)
step_fills (TheWord word what) ws at Opens ts next wrong e h = absurd cc
step_fills (TheWord word what) ws at Closes ts next wrong e h = absurd cc
step_fills (MoreItems known) ws at (Word w) ts next wrong e h = absurd cc
step_fills (MoreItems known) ws at Opens ts next wrong e h = an_item_fills known at ws ts (rw (next_is (ItemWord known ∷ []) next None wrong e) at h)
step_fills (MoreItems known) ws at Closes ts next wrong e h = absurd cc
step_fills (ItemWord known) ws at (Word w) ts next wrong e h = item_word_fills at known w ws ts next wrong (look_up w item_words) refl e h
step_fills (ItemWord known) ws at Opens ts next wrong e h = absurd cc
step_fills (ItemWord known) ws at Closes ts next wrong e h = absurd cc
step_fills (ItemName known s) ws at (Word w) ts next wrong e h =
    let k = unless_next (is_star w) (for_pieces 1023 (behind known) None (item_pieces s) ++ MoreItems (record { text = w; sort = s } ∷ known) ∷ []) next None wrong e in
    item_name_fills at known s w ws ts k.0 (rw k.1 at h)
step_fills (ItemName known s) ws at Opens ts next wrong e h = absurd cc
step_fills (ItemName known s) ws at Closes ts next wrong e h = absurd cc
step_fills (PartOf left scope c) ws at (Word w) ts next wrong e h = a_word_fills left at scope c w ws ts next wrong (name_sort c) refl e h
step_fills (PartOf left scope c) ws at Opens ts next wrong e h = opening_fills left at scope c ws ts (rw (next_is (opening left scope c) next None wrong e) at h)
step_fills (PartOf left scope c) ws at Closes ts next wrong e h = absurd cc
step_fills (FormOf left scope c) ws at (Word w) ts next wrong e h = a_form_fills left at scope c w ws ts next wrong (form_of c w) refl e h
step_fills (FormOf left scope c) ws at Opens ts next wrong e h = absurd cc
step_fills (FormOf left scope c) ws at Closes ts next wrong e h = absurd cc
step_fills (Binding left scope s ps) ws at (Word w) ts next wrong e h =
    let k = unless_next (is_star w) (for_pieces left scope (Some (record { text = w; sort = s })) ps) next None wrong e in
    let p = pieced left scope (Some (record { text = w; sort = s })) ps ws ts (rw k.1 at h) in
    binding k.0 p.reads p.others
step_fills (Binding left scope s ps) ws at Opens ts next wrong e h = absurd cc
step_fills (Binding left scope s ps) ws at Closes ts next wrong e h = absurd cc
step_fills (Closing left) ws at (Word w) ts next wrong e h = absurd cc
step_fills (Closing left) ws at Opens ts next wrong e h = absurd cc
step_fills (Closing left) ws at Closes ts next wrong e h = closing (rw (next_is [] next None wrong e) at h)

taken_fills : (w : Want) (ws : List Want) (t : Token) (ts : List Token) (last : List Want) (s : Step) → act w t.1 ≡ s
    → ((ns : List Want) → after ns ts ≡ Some last → Fills ns ts) → taken s (λ front. after (front ++ ws) ts) ≡ Some last → Fills (w ∷ ws) (t ∷ ts)
taken_fills w ws t ts last None e ih h = absurd cc
taken_fills w ws t ts last (Some (next, wrong)) e ih h = step_fills w ws t.0 t.1 ts next wrong e (ih (next ++ ws) h)

fills : (ws : List Want) (ts : List Token) (all : List Name) → after ws ts ≡ Some (MoreItems all ∷ []) → Fills ws ts
unfolding after
fills ws [] all e =
    let same : MoreItems all ∷ [] ≡ ws = cc in
    subst (λ (v : List Want). Fills v []) same (items 0 [] refl)
fills [] (t ∷ ts) all e = absurd cc
fills (w ∷ ws) (t ∷ ts) all e = taken_fills w ws t ts (MoreItems all ∷ []) (act w t.1) refl (λ ns h. fills ns ts all h) e

file_of : (known : List Name) (ts : List Token) → Fills (start known) ts → IsText ts
file_of known _ (the_word {at = a} {w = core} e (the_word {at = b} {w = one} {ts = body} f (items left is h))) =
    (left, known, is, record { core_at = a; core = core; one_at = b; one = one; body = body; tokens = refl; core_is = e; one_is = f; items = h })

-- what is taken to its end is a text of the grammar
pub whole_text : (known all : List Name) (ts : List Token) → after (start known) ts ≡ Some (MoreItems all ∷ []) → IsText ts
whole_text known all ts e = file_of known ts (fills (start known) ts all e)
