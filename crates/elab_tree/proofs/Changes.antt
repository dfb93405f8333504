-- Shifting, putting and solving are what a change makes of a tree.
use Rattle.std.proofs.Common.{◌≡◌, ℕ, suc, ◌+◌, ◌<◌, ◌≤◌, Bool, true, false, cond, ltb, eqb, Option, Some, None, Result, Err, refl, sym, ap, ap₂, ◌∙◌, subst, arith}
use Rattle.cdle_model.specs.Trees.{of_pure, eq_of, beta_of, phi_of, guide_of, star_of, unknown, Tree, var, name, leaf, unary, fun, apply, binary, bind, shift, put_var, put}
use Rattle.cdle_model.specs.Forms.{star}
use Rattle.cdle_model.specs.Depth.{depth, free_bound}
use Rattle.cdle_model.specs.Erasure.{erased, lowered}
use Rattle.cdle_model.specs.Substitution.{put_written}
use Rattle.cdle_model.proofs.Trees.{depth_shift, shift_shift, shift_zero}
use Rattle.cdle_model.proofs.ErasedSubstitution.{erased-shift}
use Rattle.elab_tree.specs.declared.change.Change.{Change}
use Rattle.elab_tree.specs.declared.change.Change.TheVariants.{Raise, Lower, PutPure, PutGuide, PutTerm, PutType, Solve}
use Rattle.elab_tree.specs.declared.stop.TreeStop.{TreeStop}
use Rattle.elab_tree.specs.declared.stop.TreeStop.TheVariants.{TooDeep, NoMemory}
use Rattle.elab_tree.specs.Sizes.{has_unknown}
use Rattle.elab_tree.specs.Answers.{Gives, Makes, MakesBoth}
use Rattle.elab_tree.specs.Solved.{Types, above, erased_types, solved_erased, solved, solutions, solution_at, or_unknown}
use Rattle.elab_tree.specs.Changes.{Stage, annotated, unannotated, of_function, of_left, of_right, of_body, staged, Standing, replaced, first_of, part_of, stands, put_for, fills, changed, leaves}
use Rattle.elab_tree.proofs.Filled.{neither_left, neither_right}

-- ---- what stays as it is

-- unknowns stay
abbrev Unfilled : Standing → Type 0
Unfilled u = (b : Stage) (k n : ℕ) → u b k n ≡ leaf (unknown n)

-- free variables below `at` stay
abbrev Below : Standing → ℕ → Type 0
Below s at = (b : Stage) (k i : ℕ) → i < at + k → s b k i ≡ var i

still : (s u : Standing) (at : ℕ) → Below s at → Unfilled u → (b : Stage) (k : ℕ) (t : Tree) → free_bound t ≤ at + k → replaced s u b k t ≡ t
still s u at e v b k (var i) h = e b k i (omega arith)
still s u at e v b k (name n) h = refl
still s u at e v b k (leaf star_of) h = refl
still s u at e v b k (leaf (unknown n)) h = v b k n
still s u at e v b k (unary j p) h = ap (unary j) (still s u at e v b k p h)
still s u at e v b k (fun c p) h = ap (fun c) (still s u at e v unannotated (suc k) p (omega arith))
still s u at e v b k (apply c p q) h = ap₂ (apply c) (still s u at e v (of_function b c) k p (omega arith)) (still s u at e v (of_function b c) k q (omega arith))
still s u at e v b k (binary j p q) h = ap₂ (binary j) (still s u at e v (of_left b j) k p (omega arith)) (still s u at e v (of_right b j) k q (omega arith))
still s u at e v b k (bind f p q) h = ap₂ (bind f) (still s u at e v b k p (omega arith)) (still s u at e v (of_body b f) (suc k) q (omega arith))

-- without unknowns, and with no variable that moves
none_solved : (s u : Standing) → ((b : Stage) (k i : ℕ) → s b k i ≡ var i) → (b : Stage) (k : ℕ) (t : Tree) → has_unknown t ≡ false → replaced s u b k t ≡ t
none_solved s u e b k (var i) h = e b k i
none_solved s u e b k (name n) h = refl
none_solved s u e b k (leaf star_of) h = refl
none_solved s u e b k (leaf (unknown n)) h = absurd cc
none_solved s u e b k (unary j p) h = ap (unary j) (none_solved s u e b k p h)
none_solved s u e b k (fun c p) h = ap (fun c) (none_solved s u e unannotated (suc k) p h)
none_solved s u e b k (apply c p q) h =
    ap₂ (apply c) (none_solved s u e (of_function b c) k p (neither_left _ _ h)) (none_solved s u e (of_function b c) k q (neither_right (has_unknown p) _ h))
none_solved s u e b k (binary j p q) h = ap₂ (binary j) (none_solved s u e (of_left b j) k p (neither_left _ _ h)) (none_solved s u e (of_right b j) k q (neither_right (has_unknown p) _ h))
none_solved s u e b k (bind f p q) h = ap₂ (bind f) (none_solved s u e b k p (neither_left _ _ h)) (none_solved s u e (of_body b f) (suc k) q (neither_right (has_unknown p) _ h))

-- ---- raising is a shift

raised_var : (from by k m i : ℕ) (b : Stage) → m ≡ from + k → stands (Raise from by) b k i ≡ var (cond (ltb i m) i (i + by))
raised_var from by k m i b e = rw e refl

raised_under : (from by : ℕ) (b : Stage) (k m : ℕ) (t : Tree) → m ≡ from + k → changed (Raise from by) b k t ≡ shift m by t
raised_under from by b k m (var i) e = raised_var from by k m i b e
raised_under from by b k m (name n) e = refl
raised_under from by b k m (leaf star_of) e = refl
raised_under from by b k m (leaf (unknown n)) e = refl
raised_under from by b k m (unary j p) e = ap (unary j) (raised_under from by b k m p e)
raised_under from by b k m (fun c p) e = ap (fun c) (raised_under from by unannotated (suc k) (suc m) p (omega arith))
raised_under from by b k m (apply c p q) e = ap₂ (apply c) (raised_under from by (of_function b c) k m p e) (raised_under from by (of_function b c) k m q e)
raised_under from by b k m (binary j p q) e = ap₂ (binary j) (raised_under from by (of_left b j) k m p e) (raised_under from by (of_right b j) k m q e)
raised_under from by b k m (bind f p q) e = ap₂ (bind f) (raised_under from by b k m p e) (raised_under from by (of_body b f) (suc k) (suc m) q (omega arith))

pub raised : (from by : ℕ) (b : Stage) (t : Tree) → changed (Raise from by) b 0 t ≡ shift from by t
raised from by b t = raised_under from by b 0 from t (omega arith)

-- ---- putting a part

-- a part that is put is raised by the binders over it
raised_again : (k : ℕ) (a : Tree) → shift 0 1 (shift 0 k a) ≡ shift 0 (suc k) a
raised_again k a = shift_shift 0 k 1 a ∙ ap (λ n. shift 0 n a) (let e : k + 1 ≡ suc k = omega arith in e)

abbrev Puts : Standing → Stage → ℕ → Tree → Type 0
Puts s b at a = (k m i : ℕ) → m ≡ at + k → s b k i ≡ put_var m (shift 0 k a) i

-- in an erased tree
put_under : (s u : Standing) (at : ℕ) (a : Tree) → Puts s unannotated at a → Unfilled u → (k m : ℕ) (t : Tree) → m ≡ at + k → replaced s u unannotated k t ≡ put m (shift 0 k a) t
put_under s u at a e v k m (var i) h = e k m i h
put_under s u at a e v k m (name n) h = refl
put_under s u at a e v k m (leaf star_of) h = refl
put_under s u at a e v k m (leaf (unknown n)) h = v unannotated k n
put_under s u at a e v k m (unary j p) h = ap (unary j) (put_under s u at a e v k m p h)
put_under s u at a e v k m (fun c p) h = ap (fun c) (put_under s u at a e v (suc k) (suc m) p (omega arith) ∙ ap (λ x. put (suc m) x p) (sym (raised_again k a)))
put_under s u at a e v k m (apply c p q) h = ap₂ (apply c) (put_under s u at a e v k m p h) (put_under s u at a e v k m q h)
put_under s u at a e v k m (binary j p q) h = ap₂ (binary j) (put_under s u at a e v k m p h) (put_under s u at a e v k m q h)
put_under s u at a e v k m (bind f p q) h =
    ap₂ (bind f) (put_under s u at a e v k m p h) (put_under s u at a e v (suc k) (suc m) q (omega arith) ∙ ap (λ x. put (suc m) x q) (sym (raised_again k a)))

-- in an annotated tree: in sides and guides the erasure
erased_under : (s u : Standing) (at : ℕ) (a : Tree) → Puts s unannotated at (erased a) → Unfilled u → (k m : ℕ) (t : Tree) → m ≡ at + k → replaced s u unannotated k t ≡ put m (erased (shift 0 k a)) t
erased_under s u at a e v k m t h = put_under s u at (erased a) e v k m t h ∙ ap (λ x. put m x t) (sym (erased-shift 0 k a))

written_under : (s u : Standing) (at : ℕ) (a : Tree) → Puts s annotated at a → Puts s unannotated at (erased a) → Unfilled u → (k m : ℕ) (t : Tree) → m ≡ at + k → replaced s u annotated k t ≡ put_written m (shift 0 k a) t
written_under s u at a w e v k m (var i) h = w k m i h
written_under s u at a w e v k m (name n) h = refl
written_under s u at a w e v k m (leaf star_of) h = refl
written_under s u at a w e v k m (leaf (unknown n)) h = v annotated k n
written_under s u at a w e v k m (unary j p) h = ap (unary j) (written_under s u at a w e v k m p h)
written_under s u at a w e v k m (fun c p) h = erased_under s u at a e v k m (fun c p) h
written_under s u at a w e v k m (apply of_pure p q) h = erased_under s u at a e v k m (apply of_pure p q) h
written_under s u at a w e v k m (apply c p q) h = ap₂ (apply c) (written_under s u at a w e v k m p h) (written_under s u at a w e v k m q h)
written_under s u at a w e v k m (binary eq_of p q) h = erased_under s u at a e v k m (binary eq_of p q) h
written_under s u at a w e v k m (binary beta_of p q) h = erased_under s u at a e v k m (binary beta_of p q) h
written_under s u at a w e v k m (binary phi_of p q) h = ap₂ (binary phi_of) (written_under s u at a w e v k m p h) (erased_under s u at a e v k m q h)
written_under s u at a w e v k m (binary j p q) h = ap₂ (binary j) (written_under s u at a w e v k m p h) (written_under s u at a w e v k m q h)
written_under s u at a w e v k m (bind guide_of p q) h =
    ap₂ (bind guide_of) (written_under s u at a w e v k m p h)
    (put_under s u at (erased a) e v (suc k) (suc m) q (omega arith) ∙ ap (λ x. put (suc m) x q) (sym (raised_again k (erased a)) ∙ ap (shift 0 1) (sym (erased-shift 0 k a))))
written_under s u at a w e v k m (bind f p q) h =
    ap₂ (bind f) (written_under s u at a w e v k m p h) (written_under s u at a w e v (suc k) (suc m) q (omega arith) ∙ ap (λ x. put_written (suc m) x q) (sym (raised_again k a)))

-- the same of the changes
put_here : (at k m i : ℕ) (x y : Tree) → x ≡ y → m ≡ at + k → put_var (at + k) (shift 0 k x) i ≡ put_var m (shift 0 k y) i
put_here at k m i x y e h = rw (h, e) refl

unfilled : Unfilled (put_for None)
unfilled b k n = refl

pub lower_is : (t : Tree) → changed Lower unannotated 0 t ≡ lowered t
lower_is t = put_under (stands Lower) (fills Lower) 0 star (λ k m i. put_here 0 k m i star star refl) (λ b k n. refl) 0 0 t (omega arith)

pub put_pure_is : (at : ℕ) (p : _) (t : Tree) → changed (PutPure at p) unannotated 0 t ≡ put at p.now t
put_pure_is at p t =
    put_under (stands (PutPure at p)) (fills (PutPure at p)) at p.now (λ k m i. put_here at k m i p.now p.now refl) (λ b k n. refl) 0 at t (omega arith) ∙ ap (λ a. put at a t) (shift_zero 0 p.now)

pub put_guide_is : (at : ℕ) (g : _) (t : Tree) → changed (PutGuide at g) unannotated 0 t ≡ put at g.now t
put_guide_is at g t =
    put_under (stands (PutGuide at g)) (fills (PutGuide at g)) at g.now (λ k m i. put_here at k m i g.now g.now refl) (λ b k n. refl) 0 at t (omega arith) ∙ ap (λ a. put at a t) (shift_zero 0 g.now)

pub put_term_is : (at : ℕ) (a : _) (p : _) (t : Tree) → part_of (PutTerm at a p) unannotated ≡ erased (part_of (PutTerm at a p) annotated) → changed (PutTerm at a p) annotated 0 t ≡ put_written at (part_of (PutTerm at a p) annotated) t
put_term_is at a p t h =
    written_under (stands (PutTerm at a p)) (fills (PutTerm at a p)) at a.now (λ k m i. put_here at k m i a.now a.now refl) (λ k m i. put_here at k m i p.now (erased a.now) h) (λ b k n. refl) 0 at t (omega arith)
    ∙ ap (λ x. put_written at x t) (shift_zero 0 a.now)

pub put_type_is : (at : ℕ) (a : _) (g : _) (t : Tree) → part_of (PutType at a g) unannotated ≡ erased (part_of (PutType at a g) annotated) → changed (PutType at a g) annotated 0 t ≡ put_written at (part_of (PutType at a g) annotated) t
put_type_is at a g t h =
    written_under (stands (PutType at a g)) (fills (PutType at a g)) at a.now (λ k m i. put_here at k m i a.now a.now refl) (λ k m i. put_here at k m i g.now (erased a.now) h) (λ b k n. refl) 0 at t (omega arith)
    ∙ ap (λ x. put_written at x t) (shift_zero 0 a.now)

-- a put for a variable that is not in the tree, nor any above it, leaves it
abbrev put_of : ℕ → Tree → Standing
put_of at a b k i = put_var (at + k) (shift 0 k (staged b a)) i

put_of_below : (at : ℕ) (a : Tree) → Below (put_of at a) at
put_of_below at a b k i h = grind arith

pub unused_written : (at : ℕ) (a t : Tree) → free_bound t ≤ at → put_written at a t ≡ t
unused_written at a t h =
    sym (ap (λ x. put_written at x t) (shift_zero 0 a))
    ∙ sym (written_under (put_of at a) (put_for None) at a (λ k m i. put_here at k m i a a refl) (λ k m i. put_here at k m i (erased a) (erased a) refl) unfilled 0 at t (omega arith))
    ∙ still (put_of at a) (put_for None) at (put_of_below at a) unfilled annotated 0 t (omega arith)

-- ---- solving

-- what stands for an unknown is raised by the binders over it
abbrev Raised : Types → ℕ → Types → Type 0
Raised f k g = (n : ℕ) → f n ≡ shift 0 k (g n)

raised_above : (f g : Types) (k : ℕ) → Raised f k g → Raised (above f) (suc k) g
raised_above f g k e n = ap (shift 0 1) (e n) ∙ raised_again k (g n)

put_solution : (n k : ℕ) (b : Stage) (o : Option Tree) → put_for o b k n ≡ shift 0 k (staged b (or_unknown n o))
put_solution n k b (Some a) = refl
put_solution n k annotated None = refl
put_solution n k unannotated None = refl

filled_by : (os : _) (b : Stage) (k n : ℕ) → fills (Solve os) b k n ≡ shift 0 k (staged b (solutions os.now n))
filled_by os b k n = put_solution n k b (solution_at os.now n)

-- variables stay, and for each unknown its type stands
abbrev Stays : Standing → Type 0
Stays s = (b : Stage) (k i : ℕ) → s b k i ≡ var i

abbrev Fills : Standing → Types → Type 0
Fills u g = (b : Stage) (k n : ℕ) → u b k n ≡ shift 0 k (staged b (g n))

-- in an erased tree
solve_erased : (s u : Standing) (g : Types) → Stays s → Fills u g → (f : Types) (k : ℕ) (t : Tree) → Raised f k (erased_types g) → replaced s u unannotated k t ≡ solved_erased f t
solve_erased s u g v w f k (var i) e = v unannotated k i
solve_erased s u g v w f k (name n) e = refl
solve_erased s u g v w f k (leaf star_of) e = refl
solve_erased s u g v w f k (leaf (unknown n)) e = w unannotated k n ∙ sym (e n)
solve_erased s u g v w f k (unary j p) e = ap (unary j) (solve_erased s u g v w f k p e)
solve_erased s u g v w f k (fun c p) e = ap (fun c) (solve_erased s u g v w (above f) (suc k) p (raised_above f (erased_types g) k e))
solve_erased s u g v w f k (apply c p q) e = ap₂ (apply c) (solve_erased s u g v w f k p e) (solve_erased s u g v w f k q e)
solve_erased s u g v w f k (binary j p q) e = ap₂ (binary j) (solve_erased s u g v w f k p e) (solve_erased s u g v w f k q e)
solve_erased s u g v w f k (bind b p q) e = ap₂ (bind b) (solve_erased s u g v w f k p e) (solve_erased s u g v w (above f) (suc k) q (raised_above f (erased_types g) k e))

-- in an annotated tree
raised_erasures : (f g : Types) (k : ℕ) → Raised f k g → Raised (erased_types f) k (erased_types g)
raised_erasures f g k e n = ap erased (e n) ∙ erased-shift 0 k (g n)

solve_under : (s u : Standing) (g : Types) → Stays s → Fills u g → (f : Types) (k : ℕ) (t : Tree) → Raised f k g → replaced s u annotated k t ≡ solved f t
solve_under s u g v w f k (var i) e = v annotated k i
solve_under s u g v w f k (name n) e = refl
solve_under s u g v w f k (leaf star_of) e = refl
solve_under s u g v w f k (leaf (unknown n)) e = w annotated k n ∙ sym (e n)
solve_under s u g v w f k (unary j p) e = ap (unary j) (solve_under s u g v w f k p e)
solve_under s u g v w f k (fun c p) e = solve_erased s u g v w (erased_types f) k (fun c p) (raised_erasures f g k e)
solve_under s u g v w f k (apply of_pure p q) e = solve_erased s u g v w (erased_types f) k (apply of_pure p q) (raised_erasures f g k e)
solve_under s u g v w f k (apply c p q) e = ap₂ (apply c) (solve_under s u g v w f k p e) (solve_under s u g v w f k q e)
solve_under s u g v w f k (binary eq_of p q) e = solve_erased s u g v w (erased_types f) k (binary eq_of p q) (raised_erasures f g k e)
solve_under s u g v w f k (binary beta_of p q) e = solve_erased s u g v w (erased_types f) k (binary beta_of p q) (raised_erasures f g k e)
solve_under s u g v w f k (binary phi_of p q) e = ap₂ (binary phi_of) (solve_under s u g v w f k p e) (solve_erased s u g v w (erased_types f) k q (raised_erasures f g k e))
solve_under s u g v w f k (binary j p q) e = ap₂ (binary j) (solve_under s u g v w f k p e) (solve_under s u g v w f k q e)
solve_under s u g v w f k (bind guide_of p q) e =
    ap₂ (bind guide_of) (solve_under s u g v w f k p e) (solve_erased s u g v w (above (erased_types f)) (suc k) q (raised_above (erased_types f) (erased_types g) k (raised_erasures f g k e)))
solve_under s u g v w f k (bind b p q) e = ap₂ (bind b) (solve_under s u g v w f k p e) (solve_under s u g v w (above f) (suc k) q (raised_above f g k e))

pub solve_is : (os : _) (t : Tree) → changed (Solve os) annotated 0 t ≡ solved (solutions os.now) t
solve_is os t = solve_under (stands (Solve os)) (fills (Solve os)) (solutions os.now) (λ b k i. refl) (filled_by os) (solutions os.now) 0 t (λ n. sym (shift_zero 0 (solutions os.now n)))

-- ---- what the recursion takes from this

-- a tree whose size says so stays as it is
left_put : (c : Change) (b : Stage) (k : ℕ) (t : Tree) → Below (stands c) (first_of c) → Unfilled (fills c) → cond (ltb (first_of c + k) (free_bound t)) false true ≡ true → changed c b k t ≡ t
left_put c b k t e v h = still (stands c) (fills c) (first_of c) e v b k t (grind arith)

none_raised : (from by : ℕ) (b : Stage) (k : ℕ) (t : Tree) → eqb by 0 ≡ true → changed (Raise from by) b k t ≡ t
none_raised from by b k t h = let z : by ≡ 0 = grind arith in raised_under from by b k (from + k) t refl ∙ ap (λ n. shift (from + k) n t) z ∙ shift_zero (from + k) t

raise_below : (from by : ℕ) → Below (stands (Raise from by)) from
raise_below from by b k i h = grind arith

left_raise : (from by : ℕ) (b : Stage) (k : ℕ) (t : Tree) (x : Bool) → ltb (from + k) (free_bound t) ≡ x → cond x (eqb by 0) true ≡ true → changed (Raise from by) b k t ≡ t
left_raise from by b k t true e h = none_raised from by b k t h
left_raise from by b k t false e h = still (stands (Raise from by)) (fills (Raise from by)) from (raise_below from by) (λ b k n. refl) b k t (grind arith)

not_true : (x : Bool) → cond x false true ≡ true → x ≡ false
not_true true h = absurd cc
not_true false h = refl

pub left : (c : Change) (b : Stage) (k : ℕ) (t : Tree) → leaves c (free_bound t) (has_unknown t) k ≡ true → changed c b k t ≡ t
left (Raise from by) b k t h = left_raise from by b k t (ltb (from + k) (free_bound t)) refl h
left (Solve os) b k t h = none_solved (stands (Solve os)) (fills (Solve os)) (λ b k i. refl) b k t (not_true (has_unknown t) h)
left Lower b k t h = left_put Lower b k t (λ b k i h. grind arith) (λ b k n. refl) h
left (PutPure at p) b k t h = left_put (PutPure at p) b k t (λ b k i h. grind arith) (λ b k n. refl) h
left (PutGuide at g) b k t h = left_put (PutGuide at g) b k t (λ b k i h. grind arith) (λ b k n. refl) h
left (PutTerm at u p) b k t h = left_put (PutTerm at u p) b k t (λ b k i h. grind arith) (λ b k n. refl) h
left (PutType at a g) b k t h = left_put (PutType at a g) b k t (λ b k i h. grind arith) (λ b k n. refl) h

-- a part that is too deep makes the whole too deep
pub makes_stops : (t u : Tree) (e : TreeStop) → Makes t (Err e) → depth t ≤ depth u → Makes u (Err e)
makes_stops t u TooDeep h below = omega arith
makes_stops t u NoMemory h below = tt

pub both_stops : (t u w : Tree) (e : TreeStop) → MakesBoth t u (Err e) → depth t ≤ depth w → depth u ≤ depth w → Makes w (Err e)
both_stops t u w TooDeep h left right = omega arith
both_stops t u w NoMemory h left right = tt

pub first_stops : (t u : Tree) (e : TreeStop) → Makes t (Err e) → MakesBoth t u (Err e)
first_stops t u TooDeep h = omega arith
first_stops t u NoMemory h = tt

pub second_stops : (t u : Tree) (e : TreeStop) → Makes u (Err e) → MakesBoth t u (Err e)
second_stops t u TooDeep h = omega arith
second_stops t u NoMemory h = tt

pub ruleset changing = (left, makes_stops, both_stops, first_stops, second_stops, depth_shift)

-- a part that was raised by a change is the shifted part
pub raised_part : (by : ℕ) (b : Stage) (p : Tree) (r : Result Tree TreeStop) → Makes (changed (Raise 0 by) b 0 p) r → Makes (shift 0 by p) r
raised_part by b p r h = subst (λ t. Makes t r) (raised 0 by b p) h

-- a change makes no tree less deep
depth_replaced : (s u : Standing) (b : Stage) (k : ℕ) (t : Tree) → depth t ≤ depth (replaced s u b k t)
depth_replaced s u b k (var i) = omega arith
depth_replaced s u b k (name n) = omega arith
depth_replaced s u b k (leaf l) = omega arith
depth_replaced s u b k (unary j p) = omega (arith, depth_replaced s u b k p)
depth_replaced s u b k (fun c p) = omega (arith, depth_replaced s u unannotated (suc k) p)
depth_replaced s u b k (apply c p q) = omega (arith, depth_replaced s u (of_function b c) k p, depth_replaced s u (of_function b c) k q)
depth_replaced s u b k (binary j p q) = omega (arith, depth_replaced s u (of_left b j) k p, depth_replaced s u (of_right b j) k q)
depth_replaced s u b k (bind f p q) = omega (arith, depth_replaced s u b k p, depth_replaced s u (of_body b f) (suc k) q)

pub no_less_deep : (s u : Standing) (b : Stage) (k : ℕ) (t : Tree) → 4096 < depth t → 4096 < depth (replaced s u b k t)
no_less_deep s u b k t h = omega (arith, depth_replaced s u b k t)

pub gives_stops : (t : Tree) (e : TreeStop) → Makes t (Err e) → Gives t (Err e)
gives_stops t TooDeep h = h
gives_stops t NoMemory h = tt

pub ruleset changing_whole = (no_less_deep, gives_stops)
