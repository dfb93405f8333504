-- Printed text is UTF-8.
use Rattle.std.proofs.Common.{◌≡◌, ℕ, zero, suc, ◌+◌, ◌-◌, ◌≤◌, List, [], ◌∷◌, ◌++◌, length, get_or, decimal, Option, Some, None, codes, refl, sym, subst, arith, slice_get, IsUtf8, IsAscii}
use Rattle.std.proofs.lemmas.Str.{IsUtf8-nil, IsUtf8-append, IsUtf8-from_ascii}
use Rattle.std.proofs.lemmas.Fmt.{IsAscii-decimal}
use Rattle.cdle_model.specs.declared.grammar.Sort.{Sort}
use Rattle.cdle_model.specs.declared.grammar.Class.{Class}
use Rattle.cdle_model.specs.declared.grammar.Piece.{Piece}
use Rattle.cdle_model.specs.declared.grammar.Piece.TheVariants.{Binder, Part, Under}
use Rattle.cdle_model.specs.Trees.{Tree, var, name, leaf, unary, fun, apply, binary, bind}
use Rattle.cdle_model.specs.Classes.{within, Fits}
use Rattle.cdle_model.specs.CoreGrammar.{pieces, class_in, Shape, form_in}
use Rattle.print_model.specs.Printed.{Text, spaced, enclosed, spelled, Printer, pieces_text, form_or_star, form_text, part_text}
use Rattle.print_model.proofs.FormsTaken.{PartsFit, IsForm, IsFormOrStar, taken}
use Rattle.print_model.proofs.Words.{plain_utf8}
use Rattle.print_model.proofs.PartsRead.{is_spaced, is_enclosed}

ascii_at : (b : ℕ) → b ≤ 127 → IsAscii (b ∷ [])
ascii_at b l zero = omega arith
ascii_at b l (suc i) = omega arith

pub byte_before : (b : ℕ) (x : List ℕ) → b ≤ 127 → IsUtf8 x → IsUtf8 (b ∷ x)
byte_before b x l h = IsUtf8-append (b ∷ []) x (IsUtf8-from_ascii (b ∷ []) (ascii_at b l)) h

spelled_utf8 : (k : ℕ) → k ≤ 1024 → IsUtf8 (spelled k)
spelled_utf8 k l = byte_before 95 (decimal k) (omega arith) (IsUtf8-from_ascii (decimal k) (IsAscii-decimal k (omega arith)))

pub spaced_utf8 : (a b : Text) (x : List ℕ) → ((y : List ℕ) → a ≡ Some y → IsUtf8 y) → ((y : List ℕ) → b ≡ Some y → IsUtf8 y) → spaced a b ≡ Some x → IsUtf8 x
spaced_utf8 a b x f g e = let k = is_spaced a b x e in subst IsUtf8 (sym k.4) (byte_before 32 (k.0 ++ k.1) (omega arith) (IsUtf8-append k.0 k.1 (f k.0 k.2) (g k.1 k.3)))

pub enclosed_utf8 : (w : List ℕ) (a : Text) (x : List ℕ) → IsUtf8 w → ((y : List ℕ) → a ≡ Some y → IsUtf8 y) → enclosed w a ≡ Some x → IsUtf8 x
enclosed_utf8 w a x u f e =
    let k = is_enclosed w a x e in
    subst IsUtf8 (sym k.2) (byte_before 40 (w ++ (k.0 ++ (41 ∷ []))) (omega arith) (IsUtf8-append w (k.0 ++ (41 ∷ [])) u (IsUtf8-append k.0 (41 ∷ []) (f k.0 k.1) (byte_before 41 [] (omega arith) IsUtf8-nil))))

module _ (names : List (List ℕ)) (xs : List Sort) (utf8 : (n : ℕ) (s : Sort) → slice_get xs n ≡ Some s → IsUtf8 (get_or names n [])) where
  abbrev pub GivesUtf8 : ℕ → Printer → Type 0
  GivesUtf8 left print = (vs : List Sort) (c : Class) (t : Tree) (x : List ℕ) → length vs + left ≤ 1024 → Fits (within vs xs) (class_in c) t → print (length vs) c t ≡ Some x → IsUtf8 x

  pub pieces_utf8 : (left : ℕ) (print : Printer) → GivesUtf8 left print → (vs : List Sort) (v : Option Sort) (ps : List Piece) (us : List Tree) (x : List ℕ) → suc (length vs + left) ≤ 1024
      → PartsFit (within vs xs) v ps us → pieces_text print (length vs) ps us ≡ Some x → IsUtf8 x
  pieces_utf8 left print gives vs v [] us x l h e = let none : [] ≡ x = cc in subst IsUtf8 none IsUtf8-nil
  pieces_utf8 left print gives vs v (Binder r ∷ ps) us x l h e =
      spaced_utf8 (Some (spelled (length vs))) (pieces_text print (length vs) ps us) x (λ y g. let same : spelled (length vs) ≡ y = cc in subst IsUtf8 same (spelled_utf8 (length vs) (omega arith)))
      (λ y g. pieces_utf8 left print gives vs (Some r) ps us y l h g) e
  pieces_utf8 left print gives vs v (Part c ∷ ps) [] x l h e = absurd h
  pieces_utf8 left print gives vs v (Part c ∷ ps) (u ∷ us) x l h e =
      spaced_utf8 (print (length vs) c u) (pieces_text print (length vs) ps us) x (λ y g. gives vs c u y (omega arith) h.0 g) (λ y g. pieces_utf8 left print gives vs v ps us y l h.1 g) e
  pieces_utf8 left print gives vs None (Under c ∷ ps) us x l h e = absurd h
  pieces_utf8 left print gives vs (Some r) (Under c ∷ ps) [] x l h e = absurd h
  pieces_utf8 left print gives vs (Some r) (Under c ∷ ps) (u ∷ us) x l h e =
      let deeper : length vs + 1 ≡ length (r ∷ vs) = omega arith in
      spaced_utf8 (print (length vs + 1) c u) (pieces_text print (length vs) ps us) x (λ y g. gives (r ∷ vs) c u y (omega arith) h.0 (subst (λ k. print k c u ≡ Some y) deeper g))
      (λ y g. pieces_utf8 left print gives vs (Some r) ps us y l h.1 g) e

  abbrev GivesFormsUtf8 : ℕ → Type 0
  GivesFormsUtf8 left = (vs : List Sort) (c : Class) (t : Tree) (f : Shape) (x : List ℕ) → length vs + left ≤ 1024 → IsForm (within vs xs) c t f → form_text names left (length vs) f ≡ Some x → IsUtf8 x

  other_utf8 : (left : ℕ) → GivesFormsUtf8 left → (vs : List Sort) (c : Class) (t : Tree) (o : Option Shape) (x : List ℕ) → length vs + left ≤ 1024
      → IsFormOrStar (within vs xs) c t o → form_or_star (form_text names left) (length vs) o ≡ Some x → IsUtf8 x
  other_utf8 left gives vs c t (Some f) x l h e = gives vs c t f x l h e
  other_utf8 left gives vs c t None x l h e = let is : codes "*" ≡ x = cc in subst IsUtf8 is (plain_utf8 (codes "*") refl)

  pub part_utf8 : (left : ℕ) → GivesFormsUtf8 left → GivesUtf8 left (part_text names left)
  part_utf8 left gives vs c (var i) x l h e = let is : spelled (length vs - (i + 1)) ≡ x = cc in subst IsUtf8 is (spelled_utf8 (length vs - (i + 1)) (omega arith))
  part_utf8 left gives vs c (name n) x l h e = let is : get_or names n [] ≡ x = cc in let k = taken (within vs xs) c (name n) h in subst IsUtf8 is (utf8 n k.0 k.2)
  part_utf8 left gives vs c (leaf j) x l h e = other_utf8 left gives vs c (leaf j) (form_in c (leaf j)) x l (taken _ c (leaf j) h) e
  part_utf8 left gives vs c (unary j p) x l h e = other_utf8 left gives vs c (unary j p) (form_in c (unary j p)) x l (taken _ c (unary j p) h) e
  part_utf8 left gives vs c (fun f p) x l h e = other_utf8 left gives vs c (fun f p) (form_in c (fun f p)) x l (taken _ c (fun f p) h) e
  part_utf8 left gives vs c (apply f p q) x l h e = other_utf8 left gives vs c (apply f p q) (form_in c (apply f p q)) x l (taken _ c (apply f p q) h) e
  part_utf8 left gives vs c (binary j p q) x l h e = other_utf8 left gives vs c (binary j p q) (form_in c (binary j p q)) x l (taken _ c (binary j p q) h) e
  part_utf8 left gives vs c (bind f p q) x l h e = other_utf8 left gives vs c (bind f p q) (form_in c (bind f p q)) x l (taken _ c (bind f p q) h) e

  pub form_utf8 : (left : ℕ) → GivesFormsUtf8 left
  unfolding form_text
  form_utf8 zero vs c t f x l h e = absurd cc
  form_utf8 (suc left) vs c t f x l h e =
      enclosed_utf8 f.word (pieces_text (part_text names left) (length vs) (pieces f.form) f.parts) x (plain_utf8 f.word h.plain)
      (λ y g. pieces_utf8 left (part_text names left) (part_utf8 left (form_utf8 left)) vs None (pieces f.form) f.parts y (omega arith) h.fit g) e
