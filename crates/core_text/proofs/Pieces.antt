-- Parentheses that may still open, and the classes of parts.
use Rattle.std.proofs.Common.{◌≡◌, ℕ, zero, suc, ◌-◌, ◌+◌, ◌<◌, ◌≤◌, max, List, [], ◌∷◌, ◌++◌, length, All, Option, Ok, Err, refl, sym, ap, arith, append_assoc}
use Rattle.std.proofs.lemmas.List.{map_push}
use Rattle.std.proofs.lemmas.List.Elements.{All-append, All-map}
use Rattle.cdle_model.specs.Trees.{Tree}
use Rattle.cdle_model.specs.Depth.{depth}
use Rattle.cdle_model.specs.declared.grammar.Form.{Form}
use Rattle.cdle_model.specs.declared.grammar.Form.TheVariants as form
use Rattle.cdle_model.specs.declared.grammar.Class.{Class}
use Rattle.cdle_model.specs.declared.grammar.Piece.{Piece}
use Rattle.cdle_model.specs.declared.grammar.Piece.TheVariants.{Part as PartOf, Under}
use Rattle.cdle_model.specs.CoreTokens.{Token}
use Rattle.cdle_model.specs.CoreFaults.{TooDeep}
use Rattle.cdle_model.specs.CoreGrammar.{made}
use Rattle.cdle_model.specs.CoreNames.{Name, Names, names_under}
use Rattle.cdle_model.specs.CoreReading.{◌>>=◌, Read, Reader, pieces_with, inside, part_at, form_with}
use Rattle.core_text.specs.Parts.{AreShallow, class_of, classes, part_tree, trees}
use Rattle.core_text.specs.View.{with_front}
use Rattle.core_text.specs.declared.part.Part.{Part}

pub length_classes : (ps : List Part) → length (classes ps) ≡ length ps
length_classes [] = refl
length_classes (p ∷ ps) = ap suc (length_classes ps)

pub inside_deep : (end left at : ℕ) (scope : Names) (c : Class) (ts : List Token) → left ≡ 0 → inside end left at scope c ts ≡ Err (TooDeep at)
unfolding inside
inside_deep end zero at scope c ts e = refl
inside_deep end (suc left) at scope c ts e = absurd (omega arith)

pub inside_form : (end left at : ℕ) (scope : Names) (c : Class) (ts : List Token) → 0 < left → inside end left at scope c ts ≡ form_with (part_at end (left - 1)) end (left - 1) scope c ts
unfolding inside
inside_form end zero at scope c ts lt = absurd (omega arith)
inside_form end (suc left) at scope c ts lt = let e : suc left - 1 ≡ left = omega arith in rw e refl

pub ruleset inside_rules = (inside_deep, inside_form)

-- ---- one part more

module _ (read : Reader) (end left : ℕ) (scope : Names) (binder : Option Name) where
  append_read : (r : Read (List Tree)) (front : List Tree) (t : Tree) → with_front front (r >>= λ us. Ok (t ∷ us.0, us.1)) ≡ with_front (front ++ t ∷ []) r
  append_read (Ok us) front t = rw append_assoc refl
  append_read (Err e) front t = refl

  pub part_more : (c : Class) (ps : List Piece) (parts more : List Part) (p : Part) (ts next : List Token) → read scope c ts ≡ Ok (part_tree p, next) → more ≡ parts ++ p ∷ []
      → with_front (trees parts) (pieces_with read end left scope binder (PartOf c ∷ ps) ts) ≡ with_front (trees more) (pieces_with read end left scope binder ps next)
  part_more c ps parts more p ts next e q = rw (e, q, map_push part_tree parts p) (append_read (pieces_with read end left scope binder ps next) (trees parts) (part_tree p))

  pub under_more : (c : Class) (ps : List Piece) (parts more : List Part) (p : Part) (ts next : List Token) → read (names_under binder scope) c ts ≡ Ok (part_tree p, next) → more ≡ parts ++ p ∷ []
      → with_front (trees parts) (pieces_with read end left scope binder (Under c ∷ ps) ts) ≡ with_front (trees more) (pieces_with read end left scope binder ps next)
  under_more c ps parts more p ts next e q = rw (e, q, map_push part_tree parts p) (append_read (pieces_with read end left scope binder ps next) (trees parts) (part_tree p))

pub classes_more : (c : Class) (cs : List Class) (parts more : List Part) (p : Part) → class_of p ≡ c → more ≡ parts ++ p ∷ [] → classes parts ++ c ∷ cs ≡ classes more ++ cs
classes_more c cs parts more p e q = rw (q, map_push class_of parts p, e) (sym (append_assoc (classes parts) (c ∷ []) cs))

-- ---- depth

abbrev IsShallow : ℕ → List Tree → Type 0
IsShallow most us = All (λ t. depth t ≤ most) us

one_shallow : (a : Tree) (most : ℕ) → IsShallow most (a ∷ []) → depth a + 1 ≤ most + 1
one_shallow a most h = omega (arith, h 0 a (omega arith))

both_shallow : (a b : Tree) (most : ℕ) → IsShallow most (a ∷ b ∷ []) → max (depth a) (depth b) + 1 ≤ most + 1
both_shallow a b most h = omega (arith, h 0 a (omega arith), h 1 b (omega arith))

made_shallow : (f : Form) (us : List Tree) (most : ℕ) → IsShallow most us → depth (made f us) ≤ most + 1
made_shallow form.Kpi (a ∷ b ∷ []) most h = both_shallow a b most h
made_shallow form.Kpit (a ∷ b ∷ []) most h = both_shallow a b most h
made_shallow form.Pi (a ∷ b ∷ []) most h = both_shallow a b most h
made_shallow form.All (a ∷ b ∷ []) most h = both_shallow a b most h
made_shallow form.Allt (a ∷ b ∷ []) most h = both_shallow a b most h
made_shallow form.Tlam (a ∷ b ∷ []) most h = both_shallow a b most h
made_shallow form.Xtlam (a ∷ b ∷ []) most h = both_shallow a b most h
made_shallow form.At (a ∷ b ∷ []) most h = both_shallow a b most h
made_shallow form.On (a ∷ b ∷ []) most h = both_shallow a b most h
made_shallow form.Iota (a ∷ b ∷ []) most h = both_shallow a b most h
made_shallow form.Eq (a ∷ b ∷ []) most h = both_shallow a b most h
made_shallow form.Lam (a ∷ b ∷ []) most h = both_shallow a b most h
made_shallow form.Elam (a ∷ b ∷ []) most h = both_shallow a b most h
made_shallow form.Xlam (a ∷ b ∷ []) most h = both_shallow a b most h
made_shallow form.App (a ∷ b ∷ []) most h = both_shallow a b most h
made_shallow form.Eapp (a ∷ b ∷ []) most h = both_shallow a b most h
made_shallow form.Tapp (a ∷ b ∷ []) most h = both_shallow a b most h
made_shallow form.Pair (a ∷ b ∷ c ∷ []) most h = omega (arith, h 0 a (omega arith), h 1 b (omega arith), h 2 c (omega arith))
made_shallow form.Fst (a ∷ []) most h = one_shallow a most h
made_shallow form.Snd (a ∷ []) most h = one_shallow a most h
made_shallow form.Beta (a ∷ b ∷ []) most h = both_shallow a b most h
made_shallow form.Rho (a ∷ b ∷ c ∷ d ∷ []) most h = omega (arith, h 0 a (omega arith), h 1 b (omega arith), h 2 c (omega arith), h 3 d (omega arith))
made_shallow form.Phi (a ∷ b ∷ c ∷ []) most h = omega (arith, h 0 a (omega arith), h 1 b (omega arith), h 2 c (omega arith))
made_shallow form.Delta (a ∷ b ∷ []) most h = both_shallow a b most h
made_shallow form.Function (a ∷ []) most h = one_shallow a most h
made_shallow form.Ap (a ∷ b ∷ []) most h = both_shallow a b most h
made_shallow form.GuidePi (a ∷ b ∷ []) most h = both_shallow a b most h
made_shallow form.GuideAll (a ∷ b ∷ []) most h = both_shallow a b most h
made_shallow form.GuideAllt (a ∷ b ∷ []) most h = both_shallow a b most h
made_shallow form.GuideTlam (a ∷ []) most h = one_shallow a most h
made_shallow form.GuideXtlam (a ∷ []) most h = one_shallow a most h
made_shallow form.GuideAt (a ∷ b ∷ []) most h = both_shallow a b most h
made_shallow form.GuideOn (a ∷ b ∷ []) most h = both_shallow a b most h
made_shallow form.GuideIota (a ∷ b ∷ []) most h = both_shallow a b most h
made_shallow form.GuideEq (a ∷ b ∷ []) most h = both_shallow a b most h
made_shallow form.GuideKpi (a ∷ b ∷ []) most h = both_shallow a b most h
made_shallow form.GuideKpit (a ∷ b ∷ []) most h = both_shallow a b most h
made_shallow f us most h = omega arith

-- the tree of a form is one level over its parts
pub form_shallow : (p : Part) (f : Form) (ps : List Part) (most : ℕ) → part_tree p ≡ made f (trees ps) → AreShallow most ps → depth (part_tree p) ≤ most + 1
form_shallow p f ps most e h = rw e (made_shallow f (trees ps) most (All-map (λ t. depth t ≤ most) part_tree ps h))

-- one part more
pub shallow_more : (ps qs : List Part) (p : Part) (most : ℕ) → qs ≡ ps ++ p ∷ [] → AreShallow most ps → depth (part_tree p) ≤ most → AreShallow most qs
shallow_more ps qs p most e h g = rw e (All-append (λ q. depth (part_tree q) ≤ most) ps (p ∷ []) h (one p g))
  where
    one : (p : Part) → depth (part_tree p) ≤ most → AreShallow most (p ∷ [])
    one p g zero d lt = g
    one p g (suc k) d lt = absurd (omega arith)

pub deeper_shallow : (ps : List Part) (most more : ℕ) → AreShallow most ps → most ≤ more → AreShallow more ps
deeper_shallow ps most more h le = λ k d lt. let here = h k d lt in omega arith

pub ruleset shallow_rules = (shallow_more, deeper_shallow)
