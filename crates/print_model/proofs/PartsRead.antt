-- The text of a part is read as the part.
use Rattle.std.proofs.Common.{◌≡◌, ℕ, zero, suc, ◌+◌, ◌-◌, ◌≤◌, true, false, List, [], ◌∷◌, ◌++◌, length, get_or, Option, Some, None, codes, refl, sym, ap, subst, ◌∙◌, arith, append_assoc}
use Rattle.cdle_model.specs.declared.grammar.Sort.{Sort}
use Rattle.cdle_model.specs.declared.grammar.Class.{Class}
use Rattle.cdle_model.specs.declared.grammar.Piece.{Piece}
use Rattle.cdle_model.specs.declared.grammar.Piece.TheVariants.{Binder, Part, Under}
use Rattle.cdle_model.specs.Trees.{Tree, var, name, leaf, unary, fun, apply, binary, bind}
use Rattle.cdle_model.specs.Forms as forms
use Rattle.cdle_model.specs.Forms.{Written}
use Rattle.cdle_model.specs.Classes.{within, Fits, item_sorts}
use Rattle.cdle_model.specs.CoreTokens.{Token, Opens, Closes, Word, tokens}
use Rattle.cdle_model.specs.CoreGrammar.{name_sort, pieces, made, class_in, Shape, form_in}
use Rattle.cdle_model.specs.CoreNames.{Name, is_star, stands}
use Rattle.cdle_model.specs.CoreText.{Reads, star, name as by_name, form, ReadsPieces, end, bind as bound, part, inner, Stands}
use Rattle.cdle_model.proofs.CoreForms.{row_of_form}
use Rattle.print_model.specs.Printed.{Text, spaced, enclosed, spelled, Printer, pieces_text, form_or_star, form_text, part_text}
use Rattle.print_model.specs.PrintedFiles.{is_word}
use Rattle.print_model.proofs.FormsTaken.{PartsFit, IsForm, IsFormOrStar, taken}
use Rattle.print_model.proofs.Words.{IsStopped, word_token, plain_word}
use Rattle.print_model.proofs.Spellings.{spelled_word, spelled_no_star, scope_in, Tell, variable_stands, name_stands}

-- ---- texts that are there

pub is_spaced : (a b : Text) (x : List ℕ) → spaced a b ≡ Some x → (y z : List ℕ) × (a ≡ Some y) × (b ≡ Some z) × (x ≡ 32 ∷ (y ++ z))
is_spaced (Some y) (Some z) x e = (y, z, refl, refl, cc)
is_spaced (Some y) None x e = absurd cc
is_spaced None b x e = absurd cc

pub spaced_stopped : (a b : Text) (x more : List ℕ) → spaced a b ≡ Some x → IsStopped (x ++ more)
spaced_stopped a b x more e = let g = is_spaced a b x e in subst (λ w. IsStopped (w ++ more)) (sym g.4) refl

pub is_enclosed : (w : List ℕ) (a : Text) (x : List ℕ) → enclosed w a ≡ Some x → (y : List ℕ) × (a ≡ Some y) × (x ≡ 40 ∷ (w ++ (y ++ (41 ∷ []))))
is_enclosed w (Some y) x e = (y, refl, cc)
is_enclosed w None x e = absurd cc

module _ (names : List (List ℕ)) (es : List Written) (tell : Tell names es) where
  -- what is printed in binders of any sorts is read there
  abbrev pub IsReadBack : ℕ → Printer → Type 0
  IsReadBack left print = (vs : List Sort) (c : Class) (t : Tree) (x : List ℕ) → length vs + left ≤ 1024 → Fits (within vs (item_sorts es)) (class_in c) t → print (length vs) c t ≡ Some x
      → (at : ℕ) (more : List ℕ) → IsStopped more → (to : ℕ) × Reads Stands left (scope_in vs es) c (tokens false at (x ++ more)) t (tokens false to more)

  -- the binder of a form
  abbrev binder_in : List Sort → Option Sort → Option Name
  binder_in vs None = None
  binder_in vs (Some s) = Some (record { text = spelled (length vs); sort = s })

  -- the pieces begin with a space, or are none
  pub pieces_stopped : (print : Printer) (k : ℕ) (ps : List Piece) (us : List Tree) (x more : List ℕ) → pieces_text print k ps us ≡ Some x → IsStopped more → IsStopped (x ++ more)
  pieces_stopped print k [] us x more e s = let none : [] ≡ x = cc in subst (λ y. IsStopped (y ++ more)) none s
  pieces_stopped print k (Binder r ∷ ps) us x more e s = spaced_stopped (Some (spelled k)) (pieces_text print k ps us) x more e
  pieces_stopped print k (Part c ∷ ps) (u ∷ us) x more e s = spaced_stopped (print k c u) (pieces_text print k ps us) x more e
  pieces_stopped print k (Under c ∷ ps) (u ∷ us) x more e s = spaced_stopped (print (k + 1) c u) (pieces_text print k ps us) x more e
  pieces_stopped print k (Part c ∷ ps) [] x more e s = let none : [] ≡ x = cc in subst (λ y. IsStopped (y ++ more)) none s
  pieces_stopped print k (Under c ∷ ps) [] x more e s = let none : [] ≡ x = cc in subst (λ y. IsStopped (y ++ more)) none s

  pub spaced_tokens : (at : ℕ) (x y z more : List ℕ) → x ≡ 32 ∷ (y ++ z) → tokens false at (x ++ more) ≡ tokens false (at + 1) (y ++ (z ++ more))
  unfolding tokens
  spaced_tokens at x y z more e = ap (λ w. tokens false at (w ++ more)) e ∙ ap (tokens false (at + 1)) (append_assoc y z more)

  -- what is read of pieces, at other tokens that are the same
  abbrev ReadOf : ℕ → List Sort → Option Sort → List Piece → List Tree → List ℕ → ℕ → List Token → Type 0
  ReadOf left vs v ps us more to ts = ReadsPieces Stands left (scope_in vs es) (binder_in vs v) ps ts us (tokens false to more)

  pub pieces_read : (left : ℕ) (print : Printer) → IsReadBack left print → (vs : List Sort) (v : Option Sort) (ps : List Piece) (us : List Tree) (x : List ℕ) → suc (length vs + left) ≤ 1024
      → PartsFit (within vs (item_sorts es)) v ps us → pieces_text print (length vs) ps us ≡ Some x
      → (at : ℕ) (more : List ℕ) → IsStopped more → (to : ℕ) × ReadsPieces Stands left (scope_in vs es) (binder_in vs v) ps (tokens false at (x ++ more)) us (tokens false to more)
  pieces_read left print back vs v [] us x l h e at more s = let none : x ≡ [] = cc in rw (h, none) (at, end)
  pieces_read left print back vs v (Binder r ∷ ps) us x l h e at more s =
      let g = is_spaced (Some (spelled (length vs))) (pieces_text print (length vs) ps us) x e in
      let same : g.0 ≡ spelled (length vs) = let k = g.2 in cc in
      let word = word_token (at + 1) (spelled (length vs)) (g.1 ++ more) (spelled_word (length vs) (omega arith)) (pieces_stopped print (length vs) ps us g.1 more g.3 s) in
      let rest = pieces_read left print back vs (Some r) ps us g.1 l h g.3 word.0 more s in
      let same_tokens = spaced_tokens at x g.0 g.1 more g.4 ∙ ap (λ w. tokens false (at + 1) (w ++ (g.1 ++ more))) same ∙ word.1 in
      (rest.0, subst (ReadOf left vs v (Binder r ∷ ps) us more rest.0) (sym same_tokens) (bound (spelled_no_star (length vs)) rest.1))
  pieces_read left print back vs v (Part c ∷ ps) [] x l h e at more s = absurd h
  pieces_read left print back vs v (Part c ∷ ps) (u ∷ us) x l h e at more s =
      let g = is_spaced (print (length vs) c u) (pieces_text print (length vs) ps us) x e in
      let first = back vs c u g.0 (omega arith) h.0 g.2 (at + 1) (g.1 ++ more) (pieces_stopped print (length vs) ps us g.1 more g.3 s) in
      let rest = pieces_read left print back vs v ps us g.1 l h.1 g.3 first.0 more s in
      (rest.0, subst (ReadOf left vs v (Part c ∷ ps) (u ∷ us) more rest.0) (sym (spaced_tokens at x g.0 g.1 more g.4)) (part first.1 rest.1))
  pieces_read left print back vs None (Under c ∷ ps) us x l h e at more s = absurd h
  pieces_read left print back vs (Some r) (Under c ∷ ps) [] x l h e at more s = absurd h
  pieces_read left print back vs (Some r) (Under c ∷ ps) (u ∷ us) x l h e at more s =
      let g = is_spaced (print (length vs + 1) c u) (pieces_text print (length vs) ps us) x e in
      let deeper : length vs + 1 ≡ length (r ∷ vs) = omega arith in
      let first = back (r ∷ vs) c u g.0 (omega arith) h.0 (subst (λ k. print k c u ≡ Some g.0) deeper g.2) (at + 1) (g.1 ++ more) (pieces_stopped print (length vs) ps us g.1 more g.3 s) in
      let rest = pieces_read left print back vs (Some r) ps us g.1 l h.1 g.3 first.0 more s in
      (rest.0, subst (ReadOf left vs (Some r) (Under c ∷ ps) (u ∷ us) more rest.0) (sym (spaced_tokens at x g.0 g.1 more g.4)) (inner first.1 rest.1))

  -- ---- a part

  abbrev ReadAt : ℕ → List Sort → Class → Tree → List ℕ → ℕ → List ℕ → Type 0
  ReadAt left vs c t x at more = (to : ℕ) × Reads Stands left (scope_in vs es) c (tokens false at (x ++ more)) t (tokens false to more)

  abbrev IsFormReadBack : ℕ → Type 0
  IsFormReadBack left = (vs : List Sort) (c : Class) (t : Tree) (f : Shape) (x : List ℕ) → length vs + left ≤ 1024 → IsForm (within vs (item_sorts es)) c t f → form_text names left (length vs) f ≡ Some x
      → (at : ℕ) (more : List ℕ) → IsStopped more → ReadAt left vs c t x at more

  star_read : (left : ℕ) (vs : List Sort) (c : Class) → name_sort c ≡ None → (at : ℕ) (more : List ℕ) → IsStopped more → ReadAt left vs c forms.star (codes "*") at more
  star_read left vs c n at more s =
      let word = word_token at (codes "*") more refl s in
      (word.0, subst (λ ts. Reads Stands left (scope_in vs es) c ts forms.star (tokens false word.0 more)) (sym word.1) (star n refl))

  other_read : (left : ℕ) → IsFormReadBack left → (vs : List Sort) (c : Class) (t : Tree) (o : Option Shape) (x : List ℕ) → length vs + left ≤ 1024
      → IsFormOrStar (within vs (item_sorts es)) c t o → form_or_star (form_text names left) (length vs) o ≡ Some x → (at : ℕ) (more : List ℕ) → IsStopped more → ReadAt left vs c t x at more
  other_read left back vs c t (Some f) x l h e at more s = back vs c t f x l h e at more s
  other_read left back vs c t None x l h e at more s = let is : x ≡ codes "*" = cc in rw (h.1, is) (star_read left vs c h.0 at more s)

  word_read : (left : ℕ) (vs : List Sort) (c : Class) (r : Sort) (t : Tree) (w x : List ℕ) → name_sort c ≡ Some r → is_word w ≡ true → is_star w ≡ false → stands w (scope_in vs es) ≡ Some (r, t) → w ≡ x
      → (at : ℕ) (more : List ℕ) → IsStopped more → ReadAt left vs c t x at more
  word_read left vs c r t w x n iw ns st e at more s =
      let word = word_token at w more iw s in
      (word.0, subst (λ ts. Reads Stands left (scope_in vs es) c ts t (tokens false word.0 more)) (sym word.1 ∙ ap (λ y. tokens false at (y ++ more)) e) (by_name n ns st))

  pub part_read : (left : ℕ) → IsFormReadBack left → IsReadBack left (part_text names left)
  part_read left back vs c (var i) x l h e at more s =
      let k = taken (within vs (item_sorts es)) c (var i) h in
      let same : spelled (length vs - (i + 1)) ≡ x = cc in
      word_read left vs c k.0 (var i) (spelled (length vs - (i + 1))) x k.1 (spelled_word (length vs - (i + 1)) (omega arith)) (spelled_no_star (length vs - (i + 1))) (variable_stands vs es i k.0 (omega arith) k.2) same at more s
  part_read left back vs c (name n) x l h e at more s =
      let k = taken (within vs (item_sorts es)) c (name n) h in
      let g = tell n k.0 k.2 in
      let same : get_or names n [] ≡ x = cc in
      word_read left vs c k.0 (name n) (get_or names n []) x k.1 g.0.word g.0.no_star (name_stands vs es (get_or names n []) (k.0, name n) (omega arith) g.0 g.1) same at more s
  part_read left back vs c (leaf j) x l h e at more s = other_read left back vs c (leaf j) (form_in c (leaf j)) x l (taken _ c (leaf j) h) e at more s
  part_read left back vs c (unary j p) x l h e at more s = other_read left back vs c (unary j p) (form_in c (unary j p)) x l (taken _ c (unary j p) h) e at more s
  part_read left back vs c (fun f p) x l h e at more s = other_read left back vs c (fun f p) (form_in c (fun f p)) x l (taken _ c (fun f p) h) e at more s
  part_read left back vs c (apply f p q) x l h e at more s = other_read left back vs c (apply f p q) (form_in c (apply f p q)) x l (taken _ c (apply f p q) h) e at more s
  part_read left back vs c (binary j p q) x l h e at more s = other_read left back vs c (binary j p q) (form_in c (binary j p q)) x l (taken _ c (binary j p q) h) e at more s
  part_read left back vs c (bind f p q) x l h e at more s = other_read left back vs c (bind f p q) (form_in c (bind f p q)) x l (taken _ c (bind f p q) h) e at more s

  pub enclosed_tokens : (at : ℕ) (x w y more : List ℕ) → x ≡ 40 ∷ (w ++ (y ++ (41 ∷ []))) → tokens false at (x ++ more) ≡ (at, Opens) ∷ tokens false (at + 1) (w ++ (y ++ (41 ∷ more)))
  unfolding tokens
  enclosed_tokens at x w y more e = ap (λ v. tokens false at (v ++ more)) e
      ∙ ap (λ v. (at, Opens) ∷ tokens false (at + 1) v) (append_assoc w (y ++ (41 ∷ [])) more ∙ ap (λ v. w ++ v) (append_assoc y (41 ∷ []) more))

  pub close_token : (at : ℕ) (more : List ℕ) → tokens false at (41 ∷ more) ≡ (at, Closes) ∷ tokens false (at + 1) more
  unfolding tokens
  close_token at more = refl

  pub form_read : (left : ℕ) → IsFormReadBack left
  unfolding form_text
  form_read zero vs c t f x l h e at more s = absurd cc
  form_read (suc left) vs c t f x l h e at more s =
      let g = is_enclosed f.word (pieces_text (part_text names left) (length vs) (pieces f.form) f.parts) x e in
      let row = row_of_form c t f h.found in
      let stop = pieces_stopped (part_text names left) (length vs) (pieces f.form) f.parts g.0 (41 ∷ more) g.1 refl in
      let word = word_token (at + 1) f.word (g.0 ++ (41 ∷ more)) (plain_word f.word h.plain) stop in
      let parts = pieces_read left (part_text names left) (part_read left (form_read left)) vs None (pieces f.form) f.parts g.0 (omega arith) h.fit g.1 word.0 (41 ∷ more) refl in
      let parts_closed = subst (λ ts. ReadsPieces Stands left (scope_in vs es) None (pieces f.form) (tokens false word.0 (g.0 ++ (41 ∷ more))) f.parts ts) (close_token parts.0 more) parts.1 in
      let same_tokens = enclosed_tokens at x f.word g.0 more g.2 ∙ ap (λ ts. (at, Opens) ∷ ts) word.1 in
      let read : Reads Stands (suc left) (scope_in vs es) c ((at, Opens) ∷ (at + 1, Word f.word) ∷ tokens false word.0 (g.0 ++ (41 ∷ more))) (made f.form f.parts) (tokens false (parts.0 + 1) more) = form row.1 parts_closed in
      (parts.0 + 1, rw (same_tokens, ← row.0) read)
