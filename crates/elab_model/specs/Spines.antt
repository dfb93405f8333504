-- Spines: how a head with its arguments so far goes on, and how it ends. Types may be left out, and an unknown stands for each.
use Rattle.std.specs.Prelude.{ℕ, zero, suc, Bool, true, false, cond, List, [], ◌∷◌, ◌++◌, length, Option, Some, None, slice_get}
use Rattle.cdle_model.specs.Trees.{tapp_of, allt_of, kpi_of, kpit_of, Binary, Binder, Binder-discrete, unknown, Tree, var, name, leaf, binary, bind}
use Rattle.cdle_model.specs.Forms.{star, kpi, kpit, pi, all, allt, tlam, xtlam, at_, on, iota, eq, tapp, Written, def_item, type_item}
use Rattle.cdle_model.specs.Erasure.{erased}
use Rattle.cdle_model.specs.Substitution.{put_written}
use Rattle.cdle_model.specs.HeadForms.{deepest}
use Rattle.cdle_model.specs.Derivation.{Entry, term_of, type_of, entry}
use Rattle.elab_model.specs.declared.codes.Code.TheVariants.{WantedFunction, WantedKind, Mismatch, ArgumentLeftOpen}
use Rattle.source_model.specs.Source.{Span}
use Rattle.elab_model.specs.Questions.{Questions, gives, rejects, deep_at, astray, ask_same, ask_head, then, unless_deep, limited, Env}
use Rattle.elab_model.specs.Instances.{Solution, solved_in, all_found, has_unknown, instance}

-- a term and its type, or a type and its kind
abbrev pub Typed : Type 0
Typed = Tree × Tree

-- a spine so far: the place of its head, its term and its type so far, the kinds of the types left out, and what is found for them; the type
-- so far has no unknown for which something is found
pub record Spine : Type 0 where
  pub head : Span
  pub term : Tree
  pub type : Tree
  pub kinds : List Tree
  pub solution : Solution

-- what a term's rule gives: a term that has the type asked for, a term and its type, or a spine so far
pub data Made : Type 0 where
  checked : Tree → Made
  inferred : Tree → Tree → Made
  spine : Spine → Made

abbrev pub starting : Span → Tree → Tree → Spine
starting s t a = record { head = s; term = t; type = a; kinds = []; solution = [] }

-- the parts of a form of this binder, or the refusal
abbrev pub binder_parts : {A : Type 0} → Binder → Tree → (Tree → Tree → Questions A) → Questions A → Questions A
binder_parts f (bind g a b) k r = elim (Binder-discrete f g) [ yes e ↦ k a b | no e ↦ r ]
binder_parts f a k r = r

-- the sides of an equation, or the refusal
abbrev pub equation_parts : {A : Type 0} → Tree → (Tree → Tree → Questions A) → Questions A → Questions A
equation_parts (eq p q) k r = k p q
equation_parts a k r = r

-- the term, the type so far
abbrev pub made_so_far : Span → Spine → Questions Spine
made_so_far w s = unless_deep w s.term (unless_deep w s.type (gives s))

-- a type argument is left out of a spine whose type so far is `allt k b`
abbrev pub leaves_out : Span → Spine → Tree → Tree → Questions Spine
leaves_out w s k b =
    let x : Tree = leaf (unknown (length s.kinds)) in
    made_so_far w (record { head = s.head; term = tapp s.term x; type = put_written 0 x b; kinds = s.kinds ++ (k ∷ []); solution = s.solution ++ (None ∷ []) })

-- the type so far is brought to head form, and types are left out of it, unless the next argument is one; a term with more left out than a tree
-- may be deep is too deep
abbrev pub brought : ℕ → Span → Bool → Spine → Questions Spine
brought zero w typed s = deep_at w
brought (suc n) w typed s = ask_head w s.head false s.type (λ h.
    let r : Spine = record { head = s.head; term = s.term; type = h; kinds = s.kinds; solution = s.solution } in
    cond typed (gives r) (binder_parts allt_of h (λ k b. then (leaves_out w r k b) (brought n w typed)) (gives r)))

-- a type fits a pattern where it is an instance of it as given, or else where its head form with the names of datatypes kept is one
abbrev pub if_solved : {A : Type 0} → Option Solution → (Solution → Questions A) → Questions A → Questions A
if_solved (Some os) k r = k os
if_solved None k r = r

abbrev pub fits_then : {A : Type 0} → Span → Span → Solution → Tree → Tree → (Solution → Questions A) → Questions A
fits_then w at os p a k = if_solved (instance os p a) k (ask_head w at true a (λ h. if_solved (instance os p h) k (rejects at ArgumentLeftOpen)))

-- the spine with more solutions, its type so far filled
abbrev pub refreshed : Span → Spine → Solution → Questions Spine
refreshed w s os = made_so_far w (record { head = s.head; term = s.term; type = solved_in os s.type; kinds = s.kinds; solution = os })

-- the spine applied to u by this form
abbrev pub applied : Span → Binary → Tree → Tree → Spine → Questions Spine
applied w j u b s = made_so_far w (record { head = s.head; term = binary j s.term u; type = put_written 0 u b; kinds = s.kinds; solution = s.solution })

-- the same where its type so far is a form of this binder
abbrev pub applied_at : Span → Binder → Binary → Tree → Spine → Questions Spine
applied_at w f j u s = binder_parts f s.type (λ a b. applied w j u b s) astray

-- an argument that is a term: it is checked against the domain, or it is inferred where that has an unknown, and its type must fit it
abbrev pub argument : Span → Binder → Binary → Span → Questions Typed → (Tree → Questions Tree) → Spine → Questions Spine
argument w f j at inferring checking s = then (brought (suc deepest) w false s) (λ r. binder_parts f r.type
    (λ a b. cond (has_unknown a)
    (then inferring (λ x. fits_then w at r.solution a x.1 (λ os. then (refreshed w r os) (applied_at w f j x.0))))
    (then (checking a) (λ u. applied w j u b r)))
    (rejects r.head WantedFunction))

-- an argument that is a type: its kind must be the one of the product, in which no unknown may be left
abbrev pub type_argument : Span → Span → Questions Typed → Spine → Questions Spine
type_argument w at kinding s = then (brought (suc deepest) w true s) (λ r. binder_parts allt_of r.type
    (λ k b. then kinding (λ x. cond (has_unknown k) (rejects at WantedKind) (ask_same w at WantedKind (erased x.1) (erased k) (applied w tapp_of x.0 b r))))
    (rejects r.head WantedFunction))

-- ---- how a spine ends

-- what is known of an item, annotated
abbrev pub known_of : Option Written → Option Entry
known_of (Some (def_item x a t)) = Some (term_of a)
known_of (Some (type_item x k a)) = Some (type_of k)
known_of None = None

abbrev pub kind_in : Option Entry → Questions Tree
kind_in (Some (type_of k)) = gives k
kind_in o = astray

module _ (e : Env) where
  -- the kind of an annotated type, read off it; an application whose head has no product as its kind is the refusal (a solution may come from the
  -- type of a variable whose own solutions are not yet known to have their kinds)
  abbrev pub kind_of : Span → List Entry → Tree → Questions Tree
  kind_of w c (var i) = kind_in (entry c i)
  kind_of w c (name n) = kind_in (known_of (slice_get e.items n))
  kind_of w c (pi a b) = gives star
  kind_of w c (all a b) = gives star
  kind_of w c (allt k b) = gives star
  kind_of w c (iota a b) = gives star
  kind_of w c (eq p q) = gives star
  kind_of w c (tlam a b) = then (kind_of w (term_of a ∷ c) b) (λ k. limited w (kpi a k))
  kind_of w c (xtlam k b) = then (kind_of w (type_of k ∷ c) b) (λ l. limited w (kpit k l))
  kind_of w c (at_ a t) = then (kind_of w c a) (λ k. binder_parts kpi_of k (λ b l. limited w (put_written 0 t l)) (rejects w WantedKind))
  kind_of w c (on a b) = then (kind_of w c a) (λ k. binder_parts kpit_of k (λ m l. limited w (put_written 0 b l)) (rejects w WantedKind))
  kind_of w c t = astray

  -- each solution has its kind
  abbrev pub kinds_agree : {A : Type 0} → Span → List Entry → Solution → Solution → List Tree → Questions A → Questions A
  kinds_agree w c os (Some a ∷ bs) (k ∷ ks) q = then (kind_of w c a) (λ l. unless_deep w (solved_in os k) (ask_same w w WantedKind (erased l) (erased (solved_in os k)) (kinds_agree w c os bs ks q)))
  kinds_agree w c os bs ks q = q

  -- no unknown is left open, each solution has its kind, and then the rest with the term and its type in which they are put
  abbrev pub closes : {A : Type 0} → Span → List Entry → Spine → (Tree → Tree → Questions A) → Questions A
  closes w c s k =
      let t : Tree = solved_in s.solution s.term in
      cond (all_found s.solution) (kinds_agree w c s.solution s.solution s.kinds (unless_deep w t (k t (solved_in s.solution s.type)))) (rejects w ArgumentLeftOpen)

  -- where no type is asked for
  abbrev pub without_goal : Span → List Entry → Made → Questions Typed
  without_goal w c (checked t) = astray
  without_goal w c (inferred t a) = gives (t, a)
  without_goal w c (spine s) = closes w c s (λ t a. gives (t, a))

  -- types are left out as long as the type so far is itself a product over types
  abbrev pub leading_out : ℕ → Span → Spine → Questions Spine
  leading_out zero w s = deep_at w
  leading_out (suc n) w s = binder_parts allt_of s.type (λ k b. then (leaves_out w s k b) (leading_out n w)) (gives s)

  -- unless the type asked for is such a product too
  abbrev pub led : Span → Tree → Spine → Questions Spine
  led w a s = binder_parts allt_of s.type
      (λ k b. ask_head w w true a (λ h. binder_parts allt_of h (λ l d. gives s) (leading_out (suc deepest) w s)))
      (gives s)

  -- where unknowns are unsolved, the type asked for must fit the type so far
  abbrev pub fitted : Span → Tree → Spine → Questions Spine
  fitted w a s = cond (all_found s.solution) (gives s) (fits_then w w s.solution s.type a (refreshed w s))

  -- against the type asked for
  abbrev pub against : Span → List Entry → Tree → Made → Questions Tree
  against w c a (checked t) = gives t
  against w c a (inferred t b) = ask_same w w Mismatch (erased b) (erased a) (gives t)
  against w c a (spine s) = then (led w a s) (λ r. then (fitted w a r) (λ r. closes w c r (λ t b. ask_same w w Mismatch (erased b) (erased a) (gives t))))
