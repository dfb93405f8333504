-- The plain check: Core's rules read upwards in their order, as questions, each answered with n units by a comparison or a head form.
use Rattle.std.specs.Prelude.{◌≡◌, ◌⊎◌, ℕ, suc, ltb, cond, List, [], ◌∷◌, ◌++◌, length, Option, Some, None, option_map, if◌then◌else◌}
use Rattle.cdle_model.specs.Trees.{of_pure, Binder, Binder-discrete, pi_of, all_of, allt_of, iota_of, kpi_of, kpit_of, Tree, var, name, fun, bind, put, lacks}
use Rattle.cdle_model.specs.Forms.{star, kpi, kpit, pi, all, allt, tlam, xtlam, at_, on, iota, eq, lam, elam, xlam, app, eapp, tapp, pair, fst, snd, beta, rho, phi, delta, Written, def_item, type_item, name_of}
use Rattle.cdle_model.specs.Depth.{depth}
use Rattle.cdle_model.specs.Erasure.{erased}
use Rattle.cdle_model.specs.Machine.{Budgeted, answered, spent}
use Rattle.cdle_model.specs.HeadForms.{Halt, deep, ill_classed, deepest, HeadAnswer, value, no_value, head_form}
use Rattle.cdle_model.specs.Comparison.{Answer, same, apart, halted, compare}
use Rattle.cdle_model.specs.Derivation.{Entry, term_of, type_of, entry, Item, bodies, item, Judgement, a_term, a_type, a_kind, true_pure, false_pure, signature}
use Rattle.std.specs.Str.{bytes_eq}

-- why an item is refused, with the head form that was found, or with what was found and what was wanted, or with the two sides;
-- a wanted kind of None means a product of that class; in `sides_differ` two pure sides stand as the equation of each with itself
pub data Reason : Type 0 where
  not_a_function : Tree → Reason
  not_an_intersection : Tree → Reason
  not_an_equation : Tree → Reason
  wrong_kind : Tree → Option Tree → Reason
  mismatch : Tree → Tree → Reason
  erased_use : Reason
  parts_differ : Tree → Tree → Reason
  not_booleans : Tree → Tree → Reason
  sides_differ : Tree → Tree → Reason

-- what the rules ask of a tree, read upwards, before they find something: whether two erased trees are the same, else a refusal;
-- and for a head form, from which they go on. Each question has the path at which its refusal would stand;
-- a path counts the parts of forms from 1 in written order
pub data Questions : Type 0 where
  finds : Tree → Questions
  refuse : List ℕ → Reason → Questions
  halt : Halt → Questions
  ask_same : List ℕ → Reason → Tree → Tree → Questions → Questions
  ask_head : List ℕ → Tree → (Tree → Questions) → Questions

-- the questions of part i, as seen from the form, and those that follow from the type or kind that they find
abbrev pub at_part : ℕ → Questions → (Tree → Questions) → Questions
at_part i (finds a) f = f a
at_part i (refuse p w) f = refuse (i ∷ p) w
at_part i (halt h) f = halt h
at_part i (ask_same p w a b q) f = ask_same (i ∷ p) w a b (at_part i q f)
at_part i (ask_head p a k) f = ask_head (i ∷ p) a (λ b. at_part i (k b) f)

-- the parts of a binder's form, or the refusal (no type is a pure function)
abbrev pub binder_parts : Binder → Tree → (Tree → Tree → Questions) → Questions → Questions
binder_parts f (bind g a b) k r = elim (Binder-discrete f g) [ yes e ↦ k a b | no e ↦ r ]
binder_parts f (fun of_pure p) k r = halt ill_classed
binder_parts f a k r = r

-- the sides of an equation, or the refusal
abbrev pub equation_parts : Tree → (Tree → Tree → Questions) → Questions → Questions
equation_parts (eq p q) k r = k p q
equation_parts (fun of_pure p) k r = halt ill_classed
equation_parts a k r = r

-- what part i has is a form of this binder, and then the rest with its parts
abbrev pub binder_then : ℕ → Binder → (Tree → Reason) → Questions → (Tree → Tree → Questions) → Questions
binder_then i f w q k = at_part i q (λ a. ask_head (i ∷ []) a (λ b. binder_parts f b k (refuse (i ∷ []) (w b))))

-- what part i has is an equation, and then the rest with its sides
abbrev pub equation_then : ℕ → Questions → (Tree → Tree → Questions) → Questions
equation_then i q k = at_part i q (λ a. ask_head (i ∷ []) a (λ b. equation_parts b k (refuse (i ∷ []) (not_an_equation b))))

-- part i has this type or kind, and then the rest
abbrev pub has_then : ℕ → (Tree → Reason) → Questions → Tree → Questions → Questions
has_then i w q a k = at_part i q (λ b. ask_same (i ∷ []) (w b) b a k)

abbrev pub star_then : ℕ → Questions → Questions → Questions
star_then i q k = has_then i (λ a. wrong_kind a (Some star)) q star k

-- the rest, where a tree that a rule gives or puts a part in is not too deep
abbrev pub unless_deep : Tree → Questions → Questions
unless_deep a q = cond (ltb deepest (depth a)) (halt deep) q

abbrev pub limited : Tree → Questions
limited a = unless_deep a (finds a)

-- what is known of a variable or a name of this class
abbrev pub found : Judgement → Option Entry → Questions
found a_term (Some (term_of a)) = limited a
found a_type (Some (type_of k)) = limited k
found j o = halt ill_classed

module _ (is : List Item) where
  -- the rules for the type of a term, the kind of a type, and for a kind (which gives `*`), in a context
  abbrev pub infer : Judgement → List Entry → Tree → Questions
  -- terms
  infer a_term c (var i) = found a_term (entry c i)
  infer a_term c (name m) = found a_term (item is m)
  infer a_term c (lam a t) = star_then 1 (infer a_type c a) (at_part 2 (infer a_term (term_of (erased a) ∷ c) t) (λ b. limited (pi (erased a) b)))
  infer a_term c (elam a t) = star_then 1 (infer a_type c a) (at_part 2 (infer a_term (term_of (erased a) ∷ c) t) (λ b.
      cond (lacks 0 (erased t)) (limited (all (erased a) b)) (refuse [] erased_use)))
  infer a_term c (xlam k t) = at_part 1 (infer a_kind c k) (λ s. at_part 2 (infer a_term (type_of (erased k) ∷ c) t) (λ b. limited (allt (erased k) b)))
  infer a_term c (app t u) = binder_then 1 pi_of not_a_function (infer a_term c t) (λ a b.
      has_then 2 (λ d. mismatch d a) (infer a_term c u) a (limited (put 0 (erased u) b)))
  infer a_term c (eapp t u) = binder_then 1 all_of not_a_function (infer a_term c t) (λ a b.
      has_then 2 (λ d. mismatch d a) (infer a_term c u) a (limited (put 0 (erased u) b)))
  infer a_term c (tapp t u) = binder_then 1 allt_of not_a_function (infer a_term c t) (λ k b.
      has_then 2 (λ l. wrong_kind l (Some k)) (infer a_type c u) k (limited (put 0 (erased u) b)))
  infer a_term c (fst t) = binder_then 1 iota_of not_an_intersection (infer a_term c t) (λ a b. limited a)
  infer a_term c (snd t) = binder_then 1 iota_of not_an_intersection (infer a_term c t) (λ a b. limited (put 0 (erased t) b))
  infer a_term c (beta p k) = limited (eq p p)
  infer a_term c (pair t u b) = at_part 1 (infer a_term c t) (λ a. star_then 3 (infer a_type (term_of a ∷ c) b)
      (at_part 2 (infer a_term c u) (λ d. unless_deep (put 0 (erased t) (erased b)) (ask_same (2 ∷ []) (mismatch d (put 0 (erased t) (erased b))) d (put 0 (erased t) (erased b))
      (ask_same [] (parts_differ (erased t) (erased u)) (erased t) (erased u) (limited (iota a (erased b))))))))
  infer a_term c (rho q g a t) = equation_then 1 (infer a_term c q) (λ l r. star_then 3 (infer a_type c a)
      (unless_deep (put 0 l g) (ask_same [] (sides_differ (erased a) (put 0 l g)) (erased a) (put 0 l g)
      (at_part 4 (infer a_term c t) (λ d. unless_deep (put 0 r g) (ask_same (4 ∷ []) (mismatch d (put 0 r g)) d (put 0 r g) (limited (erased a))))))))
  infer a_term c (phi q t p) = equation_then 1 (infer a_term c q) (λ l r. at_part 2 (infer a_term c t) (λ a.
      ask_same [] (sides_differ (eq l l) (eq (erased t) (erased t))) l (erased t) (ask_same [] (sides_differ (eq r r) (eq p p)) r p (limited a))))
  infer a_term c (delta a q) = star_then 1 (infer a_type c a) (equation_then 2 (infer a_term c q) (λ l r.
      ask_same [] (not_booleans l r) l true_pure (ask_same [] (not_booleans l r) r false_pure (limited (erased a)))))
  -- types
  infer a_type c (var i) = found a_type (entry c i)
  infer a_type c (name m) = found a_type (item is m)
  infer a_type c (pi a b) = star_then 1 (infer a_type c a) (star_then 2 (infer a_type (term_of (erased a) ∷ c) b) (finds star))
  infer a_type c (all a b) = star_then 1 (infer a_type c a) (star_then 2 (infer a_type (term_of (erased a) ∷ c) b) (finds star))
  infer a_type c (iota a b) = star_then 1 (infer a_type c a) (star_then 2 (infer a_type (term_of (erased a) ∷ c) b) (finds star))
  infer a_type c (allt k b) = at_part 1 (infer a_kind c k) (λ s. star_then 2 (infer a_type (type_of (erased k) ∷ c) b) (finds star))
  infer a_type c (tlam a b) = star_then 1 (infer a_type c a) (at_part 2 (infer a_type (term_of (erased a) ∷ c) b) (λ k. limited (kpi (erased a) k)))
  infer a_type c (xtlam k b) = at_part 1 (infer a_kind c k) (λ s. at_part 2 (infer a_type (type_of (erased k) ∷ c) b) (λ l. limited (kpit (erased k) l)))
  infer a_type c (at_ a t) = binder_then 1 kpi_of (λ k. wrong_kind k None) (infer a_type c a) (λ b k.
      has_then 2 (λ d. mismatch d b) (infer a_term c t) b (limited (put 0 (erased t) k)))
  infer a_type c (on a b) = binder_then 1 kpit_of (λ k. wrong_kind k None) (infer a_type c a) (λ k l.
      has_then 2 (λ m. wrong_kind m (Some k)) (infer a_type c b) k (limited (put 0 (erased b) l)))
  infer a_type c (eq p q) = finds star
  -- kinds
  infer a_kind c star = finds star
  infer a_kind c (kpi a k) = star_then 1 (infer a_type c a) (at_part 2 (infer a_kind (term_of (erased a) ∷ c) k) (λ s. finds star))
  infer a_kind c (kpit k l) = at_part 1 (infer a_kind c k) (λ s. at_part 2 (infer a_kind (type_of (erased k) ∷ c) l) (λ m. finds star))
  infer j c t = halt ill_classed

  -- an item over the items of the signature: its written type has `*` or its written kind is one, and its body has it
  abbrev pub infer_item : Written → Questions
  infer_item (def_item x a t) = star_then 1 (infer a_type [] a) (has_then 2 (λ b. mismatch b (erased a)) (infer a_term [] t) (erased a) (finds (erased a)))
  infer_item (type_item x k a) = at_part 1 (infer a_kind [] k) (λ s. has_then 2 (λ l. wrong_kind l (Some (erased k))) (infer a_type [] a) (erased k) (finds (erased k)))

-- what is found with a number of units: a type or kind, or a refusal at a path, or a path at which the units are spent, or the end
pub data Finding : Type 0 where
  gives : Tree → Finding
  refused : List ℕ → Reason → Finding
  spent_at : List ℕ → Finding
  halts : Halt → Finding

-- the answers, each question with n units of its own
abbrev pub by_answer : List ℕ → Reason → Budgeted Answer → Finding → Finding
by_answer p w (answered same left) r = r
by_answer p w (answered (apart a b) left) r = refused p w
by_answer p w (answered (halted h) left) r = halts h
by_answer p w spent r = spent_at p

abbrev pub by_head : List ℕ → Budgeted HeadAnswer → (Tree → Finding) → Finding
by_head p (answered (value a) left) k = k a
by_head p (answered (no_value h) left) k = halts h
by_head p spent k = spent_at p

abbrev pub answer : List Tree → ℕ → Questions → Finding
answer s n (finds a) = gives a
answer s n (refuse p w) = refused p w
answer s n (halt h) = halts h
answer s n (ask_same p w a b q) = by_answer p w (compare s n a b) (answer s n q)
answer s n (ask_head p a k) = by_head p (head_form s n a) (λ b. answer s n (k b))

-- the check of a list of items: all are accepted, or at the first that is not: a refusal, spent units, the end, or a name that an earlier item has
pub data ListVerdict : Type 0 where
  accepts : ListVerdict
  refuses : ℕ → List ℕ → Reason → ListVerdict
  spends : ℕ → List ℕ → ListVerdict
  ends : ℕ → Halt → ListVerdict
  duplicate : ℕ → ℕ → ListVerdict

-- the first item of this name
abbrev pub first_of : List ℕ → List Written → Option ℕ
first_of x [] = None
first_of x (w ∷ ws) = if bytes_eq (name_of w) x then Some 0 else option_map suc (first_of x ws)

abbrev pub by_name : ℕ → Option ℕ → ListVerdict → ListVerdict
by_name i (Some e) r = duplicate i e
by_name i None r = r

abbrev pub by_finding : ℕ → Finding → ListVerdict → ListVerdict
by_finding i (gives a) r = r
by_finding i (refused p w) r = refuses i p w
by_finding i (spent_at p) r = spends i p
by_finding i (halts h) r = ends i h

-- what is found of an item over the items es
abbrev pub check_item : ℕ → List Written → Written → Finding
check_item n es w = answer (bodies (signature es)) n (infer_item (signature es) w)

-- the items of the second list in order, over those of the first; a repeated name comes before its item
abbrev pub check_after : ℕ → List Written → List Written → ListVerdict
check_after n es [] = accepts
check_after n es (w ∷ ws) = by_name (length es) (first_of (name_of w) es) (by_finding (length es) (check_item n es w) (check_after n (es ++ (w ∷ [])) ws))

abbrev pub check_items : ℕ → List Written → ListVerdict
check_items n = check_after n []

-- the questions before one at path p pass with m units, and that one is spent with n
abbrev pub SpentAfter : List Tree → ℕ → ℕ → List ℕ → Questions → Type 0
SpentAfter s n m p (ask_same p' w a b q) = (p' ≡ p) × (compare s n a b ≡ spent) ⊎ ((left : ℕ) × (compare s m a b ≡ answered same left)) × SpentAfter s n m p q
SpentAfter s n m p (ask_head p' a k) = (p' ≡ p) × (head_form s n a ≡ spent) ⊎ (b : Tree) × (left : ℕ) × (head_form s m a ≡ answered (value b) left) × SpentAfter s n m p (k b)
SpentAfter s n m p q = ⊥

-- the items before number i pass with m units, and so do the questions of that item before one at path p, which is spent with n
abbrev pub UndecidedAfter : ℕ → ℕ → List Written → List Written → ℕ → List ℕ → Type 0
UndecidedAfter n m es [] i p = ⊥
UndecidedAfter n m es (w ∷ ws) i p = (first_of (name_of w) es ≡ None) × ((i ≡ length es) × SpentAfter (bodies (signature es)) n m p (infer_item (signature es) w)
    ⊎ ((a : Tree) × (check_item m es w ≡ gives a)) × UndecidedAfter n m (es ++ (w ∷ [])) ws i p)

abbrev pub IsUndecided : ℕ → ℕ → List Written → ℕ → List ℕ → Type 0
IsUndecided n m = UndecidedAfter n m []
