-- Where the plain check is undecided at a place, it is spent there or earlier; and where it is spent, it is undecided there.
use Rattle.std.proofs.Common.{◌≡◌, inl, inr, ℕ, ◌+◌, List, [], ◌∷◌, ◌++◌, length, Option, Some, None, refl, ap, ◌∙◌, arith}
use Rattle.cdle_model.specs.Trees.{Tree}
use Rattle.cdle_model.specs.Forms.{Written, name_of}
use Rattle.cdle_model.specs.Machine.{Budgeted, answered, spent}
use Rattle.cdle_model.specs.HeadForms.{HeadAnswer, value, no_value, head_form}
use Rattle.cdle_model.specs.Comparison.{Answer, same, apart, halted, compare}
use Rattle.cdle_model.specs.Derivation.{bodies, signature}
use Rattle.cdle_model.specs.Check.{first_of}
use Rattle.cdle_model.specs.Check.{Finding, gives, refused, spent_at, halts, Questions, finds, refuse, halt, ask_same, ask_head, infer_item, by_answer, by_head, answer, SpentAfter, ListVerdict, spends, by_name, by_finding, check_item, check_after, check_items, UndecidedAfter, IsUndecided}
use Rattle.cdle_model.proofs.CheckLargerBudget.{Firm, firm-answer, spent-after}

Spends : ListVerdict → Type 0
Spends v = (i : ℕ) × (p : List ℕ) × (v ≡ spends i p)

passes-spends : (i : ℕ) (r q : Finding) (v : ListVerdict) (a : Tree) → Firm r q → q ≡ gives a → Spends v → Spends (by_finding i r v)
unfolding Spends
passes-spends i (gives b) q v a f e h = h
passes-spends i (refused p w) q v a f e h = let k : refused p w ≡ gives a = f ∙ e in absurd (grind arith)
passes-spends i (spent_at p) q v a f e h = (i, p, refl)
passes-spends i (halts z) q v a f e h = let k : halts z ≡ gives a = f ∙ e in absurd (grind arith)

undecided-after : (n k : ℕ) (es ws : List Written) (i : ℕ) (p : List ℕ) → UndecidedAfter n (n + k) es ws i p → Spends (check_after n es ws)
unfolding Spends
undecided-after n k es [] i p h = absurd h
undecided-after n k es (w ∷ ws) i p (e, inl (f, h)) =
    let (p', g) = spent-after (bodies (signature es)) n k p (infer_item (signature es) w) h in
    (length es, p', rw (e, g) refl)
undecided-after n k es (w ∷ ws) i p (e, inr ((a, f), h)) =
    rw e (passes-spends (length es) _ _ _ a (firm-answer (bodies (signature es)) n k (infer_item (signature es) w)) f (undecided-after n k (es ++ (w ∷ [])) ws i p h))

pub undecided-spent : (n k : ℕ) (ws : List Written) (i : ℕ) (p : List ℕ) → IsUndecided n (n + k) ws i p → (i' : ℕ) × (p' : List ℕ) × (check_items n ws ≡ spends i' p')
unfolding Spends
undecided-spent n k ws i p h = undecided-after n k [] ws i p h

-- the questions of one item
spent-question : (s : List Tree) (n : ℕ) (p : List ℕ) (q : Questions) → answer s n q ≡ spent_at p → SpentAfter s n n p q
spent-question s n p (finds a) e = absurd (grind arith)
spent-question s n p (refuse p' w) e = absurd (grind arith)
spent-question s n p (halt z) e = absurd (grind arith)
spent-question s n p (ask_same p' w a b q) e = by_compare (spent-question s n p q) (compare s n a b) refl e
  where
    by_compare : (answer s n q ≡ spent_at p → SpentAfter s n n p q) → (x : Budgeted Answer) → compare s n a b ≡ x → by_answer p' w x (answer s n q) ≡ spent_at p → SpentAfter s n n p (ask_same p' w a b q)
    by_compare f (answered same l) i e = inr ((l, i), f e)
    by_compare f (answered (apart c d) l) i e = absurd (grind arith)
    by_compare f (answered (halted z) l) i e = absurd (grind arith)
    by_compare f spent i e = let k : p' ≡ p = grind arith in inl (k, i)
spent-question s n p (ask_head p' a k) e = by_headed (λ b. spent-question s n p (k b)) (head_form s n a) refl e
  where
    by_headed : ((b : Tree) → answer s n (k b) ≡ spent_at p → SpentAfter s n n p (k b)) → (x : Budgeted HeadAnswer) → head_form s n a ≡ x → by_head p' x (λ b. answer s n (k b)) ≡ spent_at p → SpentAfter s n n p (ask_head p' a k)
    by_headed f (answered (value b) l) i e = inr (b, l, i, f b e)
    by_headed f (answered (no_value z) l) i e = absurd (grind arith)
    by_headed f spent i e = let j : p' ≡ p = grind arith in inl (j, i)

spent-finding : (n : ℕ) (es ws : List Written) (w : Written) (i : ℕ) (p : List ℕ) (r : Finding) (v : ListVerdict) → first_of (name_of w) es ≡ None → check_item n es w ≡ r
    → (v ≡ spends i p → UndecidedAfter n n (es ++ (w ∷ [])) ws i p) → by_finding (length es) r v ≡ spends i p → UndecidedAfter n n es (w ∷ ws) i p
spent-finding n es ws w i p (gives a) v f g h e = (f, inr ((a, g), h e))
spent-finding n es ws w i p (refused p' x) v f g h e = absurd (grind arith)
spent-finding n es ws w i p (spent_at p') v f g h e =
    let k : i ≡ length es = grind arith in
    let l : p' ≡ p = grind arith in
    (f, inl (k, spent-question (bodies (signature es)) n p (infer_item (signature es) w) (g ∙ ap spent_at l)))
spent-finding n es ws w i p (halts z) v f g h e = absurd (grind arith)

spent-name : (n : ℕ) (es ws : List Written) (w : Written) (i : ℕ) (p : List ℕ) (o : Option ℕ) (v : ListVerdict) → first_of (name_of w) es ≡ o → (first_of (name_of w) es ≡ None → v ≡ spends i p → UndecidedAfter n n es (w ∷ ws) i p)
    → by_name (length es) o v ≡ spends i p → UndecidedAfter n n es (w ∷ ws) i p
spent-name n es ws w i p (Some j) v f h e = absurd (grind arith)
spent-name n es ws w i p None v f h e = h f e

spent-list : (n : ℕ) (es ws : List Written) (i : ℕ) (p : List ℕ) → check_after n es ws ≡ spends i p → UndecidedAfter n n es ws i p
spent-list n es [] i p e = absurd (grind arith)
spent-list n es (w ∷ ws) i p e = spent-name n es ws w i p (first_of (name_of w) es) _ refl
    (λ f. spent-finding n es ws w i p (check_item n es w) _ f refl (spent-list n (es ++ (w ∷ [])) ws i p)) e

pub spent-undecided : (n : ℕ) (ws : List Written) (i : ℕ) (p : List ℕ) → check_items n ws ≡ spends i p → IsUndecided n n ws i p
spent-undecided n ws = spent-list n [] ws
