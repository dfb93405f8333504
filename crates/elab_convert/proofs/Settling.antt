-- The pairs in place of two head forms.
use Rattle.std.proofs.Common.{◌≡◌, ◌⊎◌, inl, inr, suc, ◌<◌, Bool, true, false, List, [], ◌∷◌, ◌++◌, length, drop, get_or, Result, Ok, Err, IfOk, None, refl, sym, ap, ◌∙◌, subst, arith, append_assoc}
use Rattle.cdle_model.specs.Trees.{Function, of_pure, of_term, of_type, Leaf, star_of, unknown, pi_of, all_of, allt_of, iota_of, kpi_of, kpit_of, Tree, var, name, leaf, unary, fun, apply, binary, bind, shift}
use Rattle.cdle_model.specs.Forms.{fn}
use Rattle.cdle_model.specs.Comparison.{Head, variable, constant, argument, function, leaf_head, former, binary_head, stuck, applied_head, head_of, parts_by, parts_of, pairs_of, Pair, function_of, applied, into, differ, same_heads, against, split}
use Rattle.cdle_model.proofs.HeadParts.{same_heads-cases}
use Rattle.elab_convert.specs.declared.side.Arg.{Arg}
use Rattle.elab_convert.specs.declared.side.Arg.TheVariants.{OfPure, OfTerm, OfType}
use Rattle.elab_convert.specs.declared.side.ArgClass.{ArgClass}
use Rattle.elab_convert.specs.declared.side.ArgClass.TheVariants as c
use Rattle.elab_convert.specs.declared.side.SidePair.{SidePair}
use Rattle.elab_convert.specs.declared.side.Root.{Root}
use Rattle.elab_convert.specs.declared.side.Root.TheVariants.{Variable, Constant}
use Rattle.elab_convert.specs.declared.former.Word.{Word}
use Rattle.elab_convert.specs.declared.former.Word.TheVariants as w
use Rattle.elab_convert.specs.declared.former.Former.{Former}
use Rattle.elab_convert.specs.Formers.{IsFormer, IsFormerOf, part_trees, word_head}
use Rattle.elab_convert.specs.Sides.{arg_class, arg_function, arg_tree, class_function, spine, root_tree, pair_trees, stack}
use Rattle.elab_convert.specs.Answers.{ArePartsPut, ArePut, IsSettled, classes, raised_all, zipped}

pub if_ok : {A E : Type 0} (P Q : A → Type 0) (r : Result A E) → ((x : A) → P x → Q x) → IfOk r P → IfOk r Q
if_ok P Q (Ok x) f h = f x h
if_ok P Q (Err e) f h = tt

-- ---- the list

pub stack_push : (ps : List Pair) (ds : List SidePair) (d : SidePair) → stack ps (ds ++ d ∷ []) ≡ pair_trees d ∷ stack ps ds
stack_push ps [] d = refl
stack_push ps (c ∷ ds) d = stack_push (pair_trees c ∷ ps) ds d

-- ---- one head or two

heads_one : (h k : Head) (qs : List Pair) → h ≡ k → same_heads h k qs ≡ into qs
heads_one h k qs e = by_cases (same_heads-cases h k qs)
  where
    by_cases : (h ≡ k) × (same_heads h k qs ≡ into qs) ⊎ (h ≡ k → ⊥) × (same_heads h k qs ≡ differ) → same_heads h k qs ≡ into qs
    by_cases (inl u) = u.1
    by_cases (inr u) = absurd (u.0 e)

heads_two : (h k : Head) (qs : List Pair) → (h ≡ k → ⊥) → same_heads h k qs ≡ differ
heads_two h k qs e = by_cases (same_heads-cases h k qs)
  where
    by_cases : (h ≡ k) × (same_heads h k qs ≡ into qs) ⊎ (h ≡ k → ⊥) × (same_heads h k qs ≡ differ) → same_heads h k qs ≡ differ
    by_cases (inl u) = absurd (e u.0)
    by_cases (inr u) = u.1

plain_split : (a b : Tree) → function_of a ≡ None → function_of b ≡ None → split a b ≡ same_heads (head_of a) (head_of b) (pairs_of (parts_of a) (parts_of b))
plain_split a b e f = rw (e, f) refl

-- two that are no functions, with one head or with two
one_head : (a b : Tree) (old new : List SidePair) → function_of a ≡ None → function_of b ≡ None → head_of a ≡ head_of b → stack [] new ≡ pairs_of (parts_of a) (parts_of b) ++ stack [] old
    → IsSettled a b old new true
one_head a b old new e f h k = (pairs_of (parts_of a) (parts_of b), plain_split a b e f ∙ heads_one (head_of a) (head_of b) (pairs_of (parts_of a) (parts_of b)) h, k)

two_heads : (a b : Tree) (old new : List SidePair) → function_of a ≡ None → function_of b ≡ None → (head_of a ≡ head_of b → ⊥) → IsSettled a b old new false
two_heads a b old new e f h = plain_split a b e f ∙ heads_two (head_of a) (head_of b) (pairs_of (parts_of a) (parts_of b)) h

-- ---- roots with arguments

root_head : Root → Head
root_head (Variable i) = variable i
root_head (Constant n) = constant n

wrapped : Root → List Arg → Head
wrapped r [] = root_head r
wrapped r (x ∷ xs) = argument (arg_function x) (wrapped r xs)

applied_wrapped : (f : Function) (r : Root) (xs : List Arg) → applied_head f (wrapped r xs) ≡ argument f (wrapped r xs)
unfolding wrapped root_head
applied_wrapped f (Variable i) [] = refl
applied_wrapped f (Constant n) [] = refl
applied_wrapped f r (x ∷ xs) = refl

head_is : (r : Root) (xs : List Arg) → head_of (spine (root_tree r) xs) ≡ wrapped r xs
unfolding wrapped root_head
head_is (Variable i) [] = refl
head_is (Constant n) [] = refl
head_is r (x ∷ xs) = ap (applied_head (arg_function x)) (head_is r xs) ∙ applied_wrapped (arg_function x) r xs

against_wrapped : (r : Root) (xs : List Arg) (qs : List Pair) → against (wrapped r xs) qs ≡ into qs
unfolding wrapped root_head
against_wrapped (Variable i) [] qs = refl
against_wrapped (Constant n) [] qs = refl
against_wrapped r (x ∷ xs) qs = refl

-- the arguments from the innermost on
turned : List Arg → List Tree
turned [] = []
turned (x ∷ xs) = turned xs ++ (arg_tree x ∷ [])

parts_wrapped : (r : Root) (xs : List Arg) (ps : List Tree) (p q : Tree) → parts_by (wrapped r xs) ps p q ≡ ps ++ (q ∷ [])
unfolding wrapped root_head
parts_wrapped (Variable i) [] ps p q = refl
parts_wrapped (Constant n) [] ps p q = refl
parts_wrapped r (x ∷ xs) ps p q = refl

parts_are : (r : Root) (xs : List Arg) → parts_of (spine (root_tree r) xs) ≡ turned xs
unfolding turned
parts_are (Variable i) [] = refl
parts_are (Constant n) [] = refl
parts_are r (x ∷ xs) =
    ap (λ h. parts_by h (parts_of (spine (root_tree r) xs)) (spine (root_tree r) xs) (arg_tree x)) (head_is r xs)
    ∙ parts_wrapped r xs (parts_of (spine (root_tree r) xs)) (spine (root_tree r) xs) (arg_tree x) ∙ ap (λ z. z ++ (arg_tree x ∷ [])) (parts_are r xs)

one_length : (xs ys : List Arg) → classes xs ≡ classes ys → length (turned xs) ≡ length (turned ys)
unfolding turned
one_length [] [] e = refl
one_length [] (y ∷ ys) e = absurd (grind arith)
one_length (x ∷ xs) [] e = absurd (grind arith)
one_length (x ∷ xs) (y ∷ ys) e =
    let f : classes xs ≡ classes ys = cc in
    length_push (turned xs) (arg_tree x) ∙ ap suc (one_length xs ys f) ∙ sym (length_push (turned ys) (arg_tree y))
  where
    length_push : (ts : List Tree) (t : Tree) → length (ts ++ (t ∷ [])) ≡ suc (length ts)
    length_push [] t = refl
    length_push (u ∷ ts) t = ap suc (length_push ts t)

pairs_push : (xs ys : List Tree) (x y : Tree) → length xs ≡ length ys → pairs_of (xs ++ (x ∷ [])) (ys ++ (y ∷ [])) ≡ pairs_of xs ys ++ ((x, y) ∷ [])
pairs_push [] [] x y e = refl
pairs_push [] (b ∷ ys) x y e = absurd (omega arith)
pairs_push (a ∷ xs) [] x y e = absurd (omega arith)
pairs_push (a ∷ xs) (b ∷ ys) x y e = ap (λ z. (a, b) ∷ z) (pairs_push xs ys x y (omega arith))

zipped_turned : (ps : List Pair) (xs ys : List Arg) → classes xs ≡ classes ys → zipped ps xs ys ≡ pairs_of (turned xs) (turned ys) ++ ps
unfolding turned
zipped_turned ps [] [] e = refl
zipped_turned ps [] (y ∷ ys) e = absurd (grind arith)
zipped_turned ps (x ∷ xs) [] e = absurd (grind arith)
zipped_turned ps (x ∷ xs) (y ∷ ys) e =
    let f : classes xs ≡ classes ys = cc in
    zipped_turned ((arg_tree x, arg_tree y) ∷ ps) xs ys f
    ∙ sym (ap (λ z. z ++ ps) (pairs_push (turned xs) (turned ys) (arg_tree x) (arg_tree y) (one_length xs ys f)) ∙ append_assoc (pairs_of (turned xs) (turned ys)) ((arg_tree x, arg_tree y) ∷ []) ps)

one_wrapped : (r : Root) (xs ys : List Arg) → classes xs ≡ classes ys → wrapped r xs ≡ wrapped r ys
unfolding wrapped
one_wrapped r [] [] e = refl
one_wrapped r [] (y ∷ ys) e = absurd (grind arith)
one_wrapped r (x ∷ xs) [] e = absurd (grind arith)
one_wrapped r (x ∷ xs) (y ∷ ys) e =
    let f : classes xs ≡ classes ys = cc in let g : arg_class x ≡ arg_class y = cc in
    ap (λ k. argument (class_function k) (wrapped r xs)) g ∙ ap (argument (arg_function y)) (one_wrapped r xs ys f)

-- a class is known from its function, and a word from its head
class_of : Function → ArgClass
class_of of_pure = c.OfPure
class_of of_term = c.OfTerm
class_of of_type = c.OfType

class_known : (k : ArgClass) → class_of (class_function k) ≡ k
unfolding class_of
class_known c.OfPure = refl
class_known c.OfTerm = refl
class_known c.OfType = refl

one_class : (k l : ArgClass) → class_function k ≡ class_function l → k ≡ l
one_class k l e = sym (class_known k) ∙ ap class_of e ∙ class_known l

one_root : (r q : Root) (xs ys : List Arg) → wrapped r xs ≡ wrapped q ys → (r ≡ q) × (classes xs ≡ classes ys)
unfolding wrapped root_head
one_root (Variable i) (Variable j) [] [] e = let f : i ≡ j = cc in (ap Variable f, refl)
one_root (Constant i) (Constant j) [] [] e = let f : i ≡ j = cc in (ap Constant f, refl)
one_root (Variable i) (Constant j) [] [] e = absurd (grind arith)
one_root (Constant i) (Variable j) [] [] e = absurd (grind arith)
one_root (Variable i) q [] (y ∷ ys) e = absurd (grind arith)
one_root (Constant i) q [] (y ∷ ys) e = absurd (grind arith)
one_root r (Variable i) (x ∷ xs) [] e = absurd (grind arith)
one_root r (Constant i) (x ∷ xs) [] e = absurd (grind arith)
one_root r q (x ∷ xs) (y ∷ ys) e =
    let f : wrapped r xs ≡ wrapped q ys = cc in let g = one_root r q xs ys f in
    let h : arg_function x ≡ arg_function y = cc in
    (g.0, ap (λ k. k ∷ classes xs) (one_class (arg_class x) (arg_class y) h) ∙ ap (λ ks. arg_class y ∷ ks) g.1)

plain_root : (r : Root) (xs : List Arg) → function_of (spine (root_tree r) xs) ≡ None
plain_root (Variable i) [] = refl
plain_root (Constant n) [] = refl
plain_root r (x ∷ xs) = refl

-- ---- the answers of the code on functions and roots

pub functions_settled : (p q : Tree) (old new : List SidePair) → stack [] new ≡ (p, q) ∷ stack [] old → IsSettled (fn p) (fn q) old new true
functions_settled p q old new e = ((p, q) ∷ [], refl, e)

pub left_settled : (p t : Tree) (k : Root) (xs : List Arg) (old new : List SidePair) → t ≡ applied (spine (root_tree k) xs) → stack [] new ≡ (p, t) ∷ stack [] old
    → IsSettled (fn p) (spine (root_tree k) xs) old new true
left_settled p t k xs old new g e = (
  (p, applied (spine (root_tree k) xs)) ∷ [],
  rw (plain_root k xs) (rw (head_is k xs) (against_wrapped k xs ((p, applied (spine (root_tree k) xs)) ∷ []))),
  e ∙ ap (λ z. (p, z) ∷ stack [] old) g,
)

pub right_settled : (q t : Tree) (k : Root) (xs : List Arg) (old new : List SidePair) → t ≡ applied (spine (root_tree k) xs) → stack [] new ≡ (t, q) ∷ stack [] old
    → IsSettled (spine (root_tree k) xs) (fn q) old new true
right_settled q t k xs old new g e = (
  (applied (spine (root_tree k) xs), q) ∷ [],
  rw (plain_root k xs) (rw (head_is k xs) (against_wrapped k xs ((applied (spine (root_tree k) xs), q) ∷ []))),
  e ∙ ap (λ z. (z, q) ∷ stack [] old) g,
)

pub roots_settled : (k j : Root) (xs ys : List Arg) (old new : List SidePair) (b : Bool) → k ≡ j → ArePut xs ys old new b → IsSettled (spine (root_tree k) xs) (spine (root_tree j) ys) old new b
roots_settled k j xs ys old new true e h = one_head (spine (root_tree k) xs) (spine (root_tree j) ys) old new (plain_root k xs) (plain_root j ys)
    (head_is k xs ∙ ap (λ r. wrapped r xs) e ∙ one_wrapped j xs ys h.0 ∙ sym (head_is j ys))
    (h.1 ∙ zipped_turned (stack [] old) xs ys h.0 ∙ ap (λ z. pairs_of z (turned ys) ++ stack [] old) (sym (parts_are k xs)) ∙ ap (λ z. pairs_of (parts_of (spine (root_tree k) xs)) z ++ stack [] old) (sym (parts_are j ys)))
roots_settled k j xs ys old new false e h = two_heads (spine (root_tree k) xs) (spine (root_tree j) ys) old new (plain_root k xs) (plain_root j ys)
    (λ f. h (one_root k j xs ys (sym (head_is k xs) ∙ f ∙ head_is j ys)).1)

pub roots_apart : (k j : Root) (xs ys : List Arg) (old new : List SidePair) → (k ≡ j → ⊥) → IsSettled (spine (root_tree k) xs) (spine (root_tree j) ys) old new false
roots_apart k j xs ys old new h = two_heads (spine (root_tree k) xs) (spine (root_tree j) ys) old new (plain_root k xs) (plain_root j ys)
    (λ f. h (one_root k j xs ys (sym (head_is k xs) ∙ f ∙ head_is j ys)).0)

-- ---- formers, applied or not

-- the head of no root with arguments
IsShut : Head → Type 0
IsShut (variable i) = ⊥
IsShut (constant n) = ⊥
IsShut (argument f h) = ⊥
IsShut h = Unit {0}

stuck_under : (f : Function) (h : Head) → IsShut h → applied_head f h ≡ stuck f
unfolding IsShut
stuck_under f (variable i) k = absurd k
stuck_under f (constant n) k = absurd k
stuck_under f (argument g h) k = absurd k
stuck_under f h k = refl

stuck_parts : (h : Head) (ps : List Tree) (p q : Tree) → IsShut h → parts_by h ps p q ≡ p ∷ q ∷ []
unfolding IsShut
stuck_parts (variable i) ps p q k = absurd k
stuck_parts (constant n) ps p q k = absurd k
stuck_parts (argument g h) ps p q k = absurd k
stuck_parts h ps p q k = refl

shut_former : (h : Tree) (xs : List Arg) → IsFormer h → IsShut (head_of (spine h xs))
unfolding IsShut
shut_former (var i) [] k = absurd k
shut_former (name n) [] k = absurd k
shut_former (apply f p q) [] k = absurd k
shut_former (leaf l) [] k = tt
shut_former (unary j p) [] k = tt
shut_former (fun f p) [] k = tt
shut_former (binary j p q) [] k = tt
shut_former (bind j p q) [] k = tt
shut_former h (x ∷ xs) k = subst IsShut (sym (stuck_under (arg_function x) (head_of (spine h xs)) (shut_former h xs k))) tt

shut_root : (r : Root) (xs : List Arg) → IsShut (wrapped r xs) → ⊥
unfolding IsShut wrapped root_head
shut_root (Variable i) [] k = k
shut_root (Constant n) [] k = k
shut_root r (x ∷ xs) k = k

plain_former : (h : Tree) (xs : List Arg) → IsFormer h → function_of (spine h xs) ≡ None
plain_former (var i) [] k = absurd k
plain_former (name n) [] k = absurd k
plain_former (apply f p q) [] k = absurd k
plain_former (leaf l) [] k = refl
plain_former (unary j p) [] k = refl
plain_former (fun of_pure p) [] k = absurd k
plain_former (fun of_term p) [] k = refl
plain_former (fun of_type p) [] k = refl
plain_former (binary j p q) [] k = refl
plain_former (bind j p q) [] k = refl
plain_former h (x ∷ xs) k = refl

root_and_former : (r : Root) (xs : List Arg) (h : Tree) (ys : List Arg) → IsFormer h → head_of (spine (root_tree r) xs) ≡ head_of (spine h ys) → ⊥
root_and_former r xs h ys k e = shut_root r xs (subst IsShut (sym e ∙ head_is r xs) (shut_former h ys k))

pub root_against_former : (r : Root) (xs : List Arg) (h : Tree) (ys : List Arg) (old new : List SidePair) → IsFormer h → IsSettled (spine (root_tree r) xs) (spine h ys) old new false
root_against_former r xs h ys old new k = two_heads (spine (root_tree r) xs) (spine h ys) old new (plain_root r xs) (plain_former h ys k) (root_and_former r xs h ys k)

pub former_against_root : (h : Tree) (ys : List Arg) (r : Root) (xs : List Arg) (old new : List SidePair) → IsFormer h → IsSettled (spine h ys) (spine (root_tree r) xs) old new false
former_against_root h ys r xs old new k = two_heads (spine h ys) (spine (root_tree r) xs) old new (plain_former h ys k) (plain_root r xs) (λ e. root_and_former r xs h ys k (sym e))

-- the former of a word
leaf_word : Leaf → Word
leaf_word star_of = w.Star
leaf_word (unknown n) = w.Unknown n

word_in : Head → Word
word_in (leaf_head l) = leaf_word l
word_in (function of_term) = w.Tlam
word_in (function of_type) = w.Xtlam
word_in (binary_head j) = w.Eq
word_in (former pi_of) = w.Pi
word_in (former all_of) = w.All
word_in (former allt_of) = w.Allt
word_in (former iota_of) = w.Iota
word_in (former kpi_of) = w.Kpi
word_in (former kpit_of) = w.Kpit
word_in h = w.Star

word_known : (u : Word) → word_in (word_head u) ≡ u
unfolding word_in leaf_word
word_known w.Star = refl
word_known (w.Unknown n) = refl
word_known w.Tlam = refl
word_known w.Xtlam = refl
word_known w.Pi = refl
word_known w.All = refl
word_known w.Allt = refl
word_known w.Iota = refl
word_known w.Eq = refl
word_known w.Kpi = refl
word_known w.Kpit = refl

one_word : (u v : Word) → word_head u ≡ word_head v → u ≡ v
one_word u v e = sym (word_known u) ∙ ap word_in e ∙ word_known v

pub formers_settled : (h k : Tree) (f g : Former) (old new : List SidePair) (b : Bool) → IsFormer h → IsFormer k → IsFormerOf h f → IsFormerOf k g → ArePartsPut f g old new b → IsSettled h k old new b
formers_settled h k f g old new true i j e d p = one_head h k old new (plain_former h [] i) (plain_former k [] j) (e.0 ∙ ap word_head p.0 ∙ sym d.0)
    (p.1 ∙ ap (λ z. pairs_of z (part_trees g.parts) ++ stack [] old) (sym e.1) ∙ ap (λ z. pairs_of (parts_of h) z ++ stack [] old) (sym d.1))
formers_settled h k f g old new false i j e d p = two_heads h k old new (plain_former h [] i) (plain_former k [] j) (λ q. p (one_word f.word g.word (sym e.0 ∙ q ∙ d.0)))

-- applications of formers, by what they are applied to last
module _ (h : Tree) (x : Arg) (xs : List Arg) (i : IsFormer h) where
  stuck_head : head_of (spine h (x ∷ xs)) ≡ stuck (arg_function x)
  stuck_head = stuck_under (arg_function x) (head_of (spine h xs)) (shut_former h xs i)

  stuck_tree_parts : parts_of (spine h (x ∷ xs)) ≡ spine h xs ∷ arg_tree x ∷ []
  stuck_tree_parts = stuck_parts (head_of (spine h xs)) (parts_of (spine h xs)) (spine h xs) (arg_tree x) (shut_former h xs i)

never_stuck : (h : Tree) (f : Function) → IsFormer h → head_of h ≡ stuck f → ⊥
never_stuck (var i) f k e = absurd k
never_stuck (name n) f k e = absurd k
never_stuck (apply g p q) f k e = absurd k
never_stuck (leaf l) f k e = grind arith
never_stuck (unary j p) f k e = grind arith
never_stuck (fun g p) f k e = grind arith
never_stuck (binary j p q) f k e = grind arith
never_stuck (bind j p q) f k e = grind arith

pub unapplied_settled : (h k : Tree) (xs ys : List Arg) (old new : List SidePair) (b : Bool) → length xs ≡ 0 → length ys ≡ 0 → IsSettled h k old new b → IsSettled (spine h xs) (spine k ys) old new b
unapplied_settled h k [] [] old new b l m e = e
unapplied_settled h k (x ∷ xs) ys old new b l m e = absurd (omega arith)
unapplied_settled h k [] (y ∷ ys) old new b l m e = absurd (omega arith)

pub right_stuck : (h k : Tree) (xs ys : List Arg) (old new : List SidePair) → IsFormer h → IsFormer k → length xs ≡ 0 → 0 < length ys → IsSettled (spine h xs) (spine k ys) old new false
right_stuck h k [] [] old new i j l m = absurd (omega arith)
right_stuck h k (x ∷ xs) ys old new i j l m = absurd (omega arith)
right_stuck h k [] (y ∷ ys) old new i j l m = two_heads h (spine k (y ∷ ys)) old new (plain_former h [] i) (plain_former k (y ∷ ys) j) (λ e. never_stuck h (arg_function y) i (e ∙ stuck_head k y ys j))

pub left_stuck : (h k : Tree) (xs ys : List Arg) (old new : List SidePair) → IsFormer h → IsFormer k → 0 < length xs → length ys ≡ 0 → IsSettled (spine h xs) (spine k ys) old new false
left_stuck h k [] ys old new i j l m = absurd (omega arith)
left_stuck h k (x ∷ xs) (y ∷ ys) old new i j l m = absurd (omega arith)
left_stuck h k (x ∷ xs) [] old new i j l m = two_heads (spine h (x ∷ xs)) k old new (plain_former h (x ∷ xs) i) (plain_former k [] j) (λ e. never_stuck k (arg_function x) j (sym e ∙ stuck_head h x xs i))

module _ (h k : Tree) (x y : Arg) (old new : List SidePair) (i : IsFormer h) (j : IsFormer k) where
  pub stuck_settled : (xs ys : List Arg) (mid : List SidePair) → 0 < length xs → 0 < length ys → x ≡ get_or xs 0 x → y ≡ get_or ys 0 y → arg_class x ≡ arg_class y
      → stack [] mid ≡ (arg_tree x, arg_tree y) ∷ stack [] old → stack [] new ≡ (spine h (drop 1 xs), spine k (drop 1 ys)) ∷ stack [] mid
      → IsSettled (spine h xs) (spine k ys) old new true
  stuck_settled [] ys mid l m f g e p q = absurd (omega arith)
  stuck_settled (u ∷ xs) [] mid l m f g e p q = absurd (omega arith)
  stuck_settled (u ∷ xs) (v ∷ ys) mid l m f g e p q =
      let f' : x ≡ u = f in let g' : y ≡ v = g in
      subst (λ z. IsSettled (spine h (z ∷ xs)) (spine k (v ∷ ys)) old new true) f' (subst (λ z. IsSettled (spine h (x ∷ xs)) (spine k (z ∷ ys)) old new true) g' (
      one_head (spine h (x ∷ xs)) (spine k (y ∷ ys)) old new (plain_former h (x ∷ xs) i) (plain_former k (y ∷ ys) j)
      (stuck_head h x xs i ∙ ap (λ z. stuck (class_function z)) e ∙ sym (stuck_head k y ys j))
      (q ∙ ap (λ z. (spine h xs, spine k ys) ∷ z) p ∙ ap (λ z. pairs_of z (spine k ys ∷ arg_tree y ∷ []) ++ stack [] old) (sym (stuck_tree_parts h x xs i)) ∙ ap (λ z. pairs_of (parts_of (spine h (x ∷ xs))) z ++ stack [] old) (sym (stuck_tree_parts k y ys j)))
      ))

  pub stuck_apart : (xs ys : List Arg) → 0 < length xs → 0 < length ys → x ≡ get_or xs 0 x → y ≡ get_or ys 0 y → (arg_class x ≡ arg_class y → ⊥) → IsSettled (spine h xs) (spine k ys) old new false
  stuck_apart [] ys l m f g e = absurd (omega arith)
  stuck_apart (u ∷ xs) [] l m f g e = absurd (omega arith)
  stuck_apart (u ∷ xs) (v ∷ ys) l m f g e =
      let f' : x ≡ u = f in let g' : y ≡ v = g in
      two_heads (spine h (u ∷ xs)) (spine k (v ∷ ys)) old new (plain_former h (u ∷ xs) i) (plain_former k (v ∷ ys) j)
      (λ r. let r' : stuck (arg_function u) ≡ stuck (arg_function v) = sym (stuck_head h u xs i) ∙ r ∙ stuck_head k v ys j in
      let t : arg_function u ≡ arg_function v = cc in
      e (ap arg_class f' ∙ one_class (arg_class u) (arg_class v) t ∙ sym (ap arg_class g')))

-- ---- raised arguments

shift_spine : (h : Tree) (xs : List Arg) → shift 0 1 (spine h xs) ≡ spine (shift 0 1 h) (raised_all xs)
shift_spine h [] = refl
shift_spine h (OfPure x ∷ xs) = ap (λ t. apply of_pure t (shift 0 1 x)) (shift_spine h xs)
shift_spine h (OfTerm x ∷ xs) = ap (λ t. apply of_term t (shift 0 1 x)) (shift_spine h xs)
shift_spine h (OfType x ∷ xs) = ap (λ t. apply of_type t (shift 0 1 x)) (shift_spine h xs)

pub applied_is : (h t : Tree) (xs ys : List Arg) → t ≡ shift 0 1 h → ys ≡ OfPure (var 0) ∷ raised_all xs → spine t ys ≡ applied (spine h xs)
applied_is h t xs ys e f = rw (e, f) (ap (λ z. apply of_pure z (var 0)) (sym (shift_spine h xs)))
