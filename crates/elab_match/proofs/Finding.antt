-- What is found for the unknowns in their order.
use Rattle.std.proofs.Common.{◌≡◌, ◌<◌, ◌≤◌, ℕ, zero, suc, Bool, true, false, [], ◌∷◌, ◌++◌, length, drop, Option, Some, None, get_or, is_some, refl, sym, ap, ◌∙◌, subst, append_assoc, arith}
use Rattle.std.proofs.lemmas.Bool.{false≢true}
use Rattle.std.proofs.lemmas.List.{append-nil, drop_all, length_push}
use Rattle.cdle_model.specs.Trees.{Tree}
use Rattle.elab_model.specs.Instances.{Solution, found_in, all_found, mentions, Part, first_place, part_outside, with_solved, solved}
use Rattle.elab_match.specs.Answers.{standing, Extends}
use Rattle.elab_match.proofs.Places.{place-mentioned}

-- ---- what stands for one unknown

-- an unknown that has a part stands in the pattern
part-mentioned : (n : ℕ) (p t a : Tree) → part_outside (first_place n 0 p t) ≡ Some a → mentions n p ≡ true
part-mentioned n p t a = by_place (first_place n 0 p t) refl
  where
    by_place : (o : Option Part) → first_place n 0 p t ≡ o → part_outside o ≡ Some a → mentions n p ≡ true
    by_place (Some x) e h = place-mentioned n 0 p t x e
    by_place None e h = absurd cc

part-stands : (n : ℕ) (p t a : Tree) → part_outside (first_place n 0 p t) ≡ Some a → standing n None p t ≡ Some (Some a)
part-stands n p t a h = rw (part-mentioned n p t a h, h) refl

-- the next unknown is not solved, and has a part
pub part_next : (os fs gs : Solution) (n : ℕ) (p t a : Tree) (o : Option Tree) → n ≡ length fs → found_in os n ≡ None → o ≡ part_outside (first_place n 0 p t) → o ≡ Some a → gs ≡ fs ++ Some a ∷ []
    → Extends (standing (length fs) (found_in os (length fs)) p t) fs gs true
part_next os fs gs n p t a o i e h k g =
    let s : standing (length fs) (found_in os (length fs)) p t ≡ Some (Some a) =
    ap (λ m. standing m (found_in os m) p t) (sym i) ∙ ap (λ x. standing n x p t) e ∙ part-stands n p t a (sym h ∙ k) in
    subst (λ x. Extends x fs gs true) (sym s) g

-- ---- one unknown after the other

-- what was found, and then the rest
abbrev pub behind : Solution → Option Solution → Option Solution
behind fs (Some s) = Some (fs ++ s)
behind fs None = None

solved-next : (n k : ℕ) (os : Solution) (p t : Tree) → n < length os → solved k (drop n os) p t ≡ with_solved (standing k (found_in os n) p t) (solved (suc k) (drop (suc n) os) p t)
solved-next n k [] p t h = absurd (omega arith)
solved-next zero k (Some a ∷ os) p t h = refl
solved-next zero k (None ∷ os) p t h = refl
solved-next (suc n) k (o ∷ os) p t h = solved-next n k os p t (omega arith)

behind-more : (fs gs : Solution) (o : Option (Option Tree)) (r : Option Solution) (b : Bool) → Extends o fs gs b → b ≡ true → behind fs (with_solved o r) ≡ behind gs r
behind-more fs gs (Some x) (Some s) true h e = rw h (ap Some (sym (append_assoc fs (x ∷ []) s)))
behind-more fs gs (Some x) None true h e = refl
behind-more fs gs None r true h e = absurd h
behind-more fs gs o r false h e = absurd cc

behind-none : (fs gs : Solution) (o : Option (Option Tree)) (r : Option Solution) (b : Bool) → Extends o fs gs b → b ≡ false → behind fs (with_solved o r) ≡ None
behind-none fs gs None r false h e = refl
behind-none fs gs (Some x) r false h e = absurd h
behind-none fs gs o r true h e = absurd cc

-- what has come so far leads to the whole
abbrev pub Leads : Solution → Solution → Tree → Tree → Type 0
Leads os fs p t = behind fs (solved (length fs) (drop (length fs) os) p t) ≡ solved 0 os p t

pub one_more : (fs gs : Solution) (o : Option (Option Tree)) (b : Bool) → Extends o fs gs b → b ≡ true → length gs ≡ suc (length fs)
one_more fs gs (Some x) true h e = rw h (length_push fs x ∙ omega arith)
one_more fs gs None true h e = absurd h
one_more fs gs o false h e = absurd cc

pub leads_on : (os fs gs : Solution) (p t : Tree) (b : Bool) → length fs < length os → Leads os fs p t → Extends (standing (length fs) (found_in os (length fs)) p t) fs gs b → b ≡ true → Leads os gs p t
leads_on os fs gs p t b l h e i =
    let n : length gs ≡ suc (length fs) = one_more fs gs _ b e i in
    rw n (sym (behind-more fs gs _ (solved (suc (length fs)) (drop (suc (length fs)) os) p t) b e i) ∙ ap (behind fs) (sym (solved-next (length fs) (length fs) os p t l)) ∙ h)

pub leads_nowhere : (os fs gs : Solution) (p t : Tree) (b : Bool) → length fs < length os → Leads os fs p t → Extends (standing (length fs) (found_in os (length fs)) p t) fs gs b → b ≡ false → solved 0 os p t ≡ None
leads_nowhere os fs gs p t b l h e i =
    sym h ∙ ap (behind fs) (solved-next (length fs) (length fs) os p t l) ∙ behind-none fs gs _ (solved (suc (length fs)) (drop (suc (length fs)) os) p t) b e i

pub leads_all : (os fs : Solution) (p t : Tree) → length os ≤ length fs → Leads os fs p t → solved 0 os p t ≡ Some fs
leads_all os fs p t l h = sym h ∙ rw (drop_all (length fs) os l) (ap Some (append-nil fs))

-- ---- whether all are found

pub found_none : (os : Solution) (i : ℕ) (o : Option Tree) → i < length os → o ≡ get_or os i o → is_some o ≡ false → all_found (drop i os) ≡ false
found_none [] i o l e h = absurd (omega arith)
found_none (None ∷ os) zero o l e h = refl
found_none (Some a ∷ os) zero o l e h = absurd (false≢true (sym h ∙ ap is_some e))
found_none (x ∷ os) (suc i) o l e h = found_none os i o (omega arith) e h

pub found_more : (os : Solution) (i j : ℕ) (o : Option Tree) → j ≡ suc i → i < length os → o ≡ get_or os i o → is_some o ≡ true → all_found (drop j os) ≡ all_found (drop i os)
found_more [] i j o k l e h = absurd (omega arith)
found_more (Some a ∷ os) zero j o k l e h = rw k refl
found_more (None ∷ os) zero j o k l e h = absurd (false≢true (sym (ap is_some e) ∙ h))
found_more (x ∷ os) (suc i) j o k l e h = rw k (found_more os i (suc i) o refl (omega arith) e h)
