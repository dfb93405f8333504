-- An answer of the plain check other than spent stays with more units: of the questions of one item, and of a list of items.
use Rattle.std.proofs.Common.{◌≡◌, inl, inr, ℕ, ◌+◌, List, [], ◌∷◌, ◌++◌, length, Option, Some, None, refl, sym, ap, ◌∙◌, subst}
use Rattle.cdle_model.specs.Trees.{Tree}
use Rattle.cdle_model.specs.Forms.{Written, name_of}
use Rattle.cdle_model.specs.Machine.{Budgeted, answered, spent}
use Rattle.cdle_model.specs.HeadForms.{HeadAnswer, value, no_value, head_form}
use Rattle.cdle_model.specs.Comparison.{Answer, same, apart, halted, compare}
use Rattle.cdle_model.specs.Derivation.{bodies, signature}
use Rattle.cdle_model.specs.Check.{first_of}
use Rattle.cdle_model.specs.Check.{Reason, Finding, gives, refused, spent_at, halts, Questions, finds, refuse, halt, ask_same, ask_head, infer_item, by_answer, by_head, answer, SpentAfter, ListVerdict, accepts, refuses, spends, ends, duplicate, by_name, by_finding, check_after, check_items}
use Rattle.cdle_model.proofs.LargerBudget.{head_form_more, compare_more}

-- the second is the first, unless the first is spent
abbrev pub Firm : Finding → Finding → Type 0
Firm (spent_at p) r = Unit {0}
Firm q r = q ≡ r

-- an answer of the first is one of the second
abbrev Keeps : {A : Type 0} → Budgeted A → Budgeted A → Type 0
Keeps {A = A} x y = (z : A) (left : ℕ) → x ≡ answered z left → (more : ℕ) × (y ≡ answered z more)

firm-verdict : (p : List ℕ) (w : Reason) (x y : Budgeted Answer) (k l : Finding) → Keeps x y → Firm k l → Firm (by_answer p w x k) (by_answer p w y l)
firm-verdict p w (answered same i) y k l h f = let (j, e) = h same i refl in rw e f
firm-verdict p w (answered (apart a b) i) y k l h f = let (j, e) = h (apart a b) i refl in rw e refl
firm-verdict p w (answered (halted z) i) y k l h f = let (j, e) = h (halted z) i refl in rw e refl
firm-verdict p w spent y k l h f = tt

firm-head : (p : List ℕ) (x y : Budgeted HeadAnswer) (k l : Tree → Finding) → Keeps x y → ((a : Tree) → Firm (k a) (l a)) → Firm (by_head p x k) (by_head p y l)
firm-head p (answered (value a) i) y k l h f = let (j, e) = h (value a) i refl in rw e (f a)
firm-head p (answered (no_value z) i) y k l h f = let (j, e) = h (no_value z) i refl in rw e refl
firm-head p spent y k l h f = tt

pub firm-answer : (s : List Tree) (n m : ℕ) (q : Questions) → Firm (answer s n q) (answer s (n + m) q)
firm-answer s n m (finds a) = refl
firm-answer s n m (refuse p w) = refl
firm-answer s n m (halt z) = refl
firm-answer s n m (ask_same p w a b q) = firm-verdict p w (compare s n a b) (compare s (n + m) a b) _ _ (λ z i e. (i + m, compare_more s n a b z i m e)) (firm-answer s n m q)
firm-answer s n m (ask_head p a k) = firm-head p (head_form s n a) (head_form s (n + m) a) _ _ (λ z i e. (i + m, head_form_more s n a z i m e)) (λ b. firm-answer s n m (k b))

-- the same for a list of items
abbrev ListFirm : ListVerdict → ListVerdict → Type 0
ListFirm (spends i p) v = Unit {0}
ListFirm u v = u ≡ v

firm-finding : (i : ℕ) (q r : Finding) (u v : ListVerdict) → Firm q r → ListFirm u v → ListFirm (by_finding i q u) (by_finding i r v)
firm-finding i (gives a) r u v e f = subst (λ z. ListFirm u (by_finding i z v)) e f
firm-finding i (refused p w) r u v e f = ap (λ z. by_finding i z v) e
firm-finding i (spent_at p) r u v e f = tt
firm-finding i (halts h) r u v e f = ap (λ z. by_finding i z v) e

firm-name : (i : ℕ) (o : Option ℕ) (u v : ListVerdict) → ListFirm u v → ListFirm (by_name i o u) (by_name i o v)
firm-name i (Some e) u v f = refl
firm-name i None u v f = f

firm-after : (n m : ℕ) (es ws : List Written) → ListFirm (check_after n es ws) (check_after (n + m) es ws)
firm-after n m es [] = refl
firm-after n m es (w ∷ ws) = firm-name (length es) (first_of (name_of w) es) _ _
    (firm-finding (length es) _ _ _ _ (firm-answer (bodies (signature es)) n m (infer_item (signature es) w)) (firm-after n m (es ++ (w ∷ [])) ws))

pub list-stays : (n m : ℕ) (ws : List Written) (v : ListVerdict) → check_items n ws ≡ v → ((i : ℕ) (p : List ℕ) → v ≡ spends i p → ⊥) → check_items (n + m) ws ≡ v
list-stays n m ws v e h = by_list (check_items n ws) e (firm-after n m [] ws)
  where
    by_list : (u : ListVerdict) → u ≡ v → ListFirm u (check_items (n + m) ws) → check_items (n + m) ws ≡ v
    by_list accepts e f = sym f ∙ e
    by_list (refuses i p w) e f = sym f ∙ e
    by_list (spends i p) e f = absurd (h i p (sym e))
    by_list (ends i z) e f = sym f ∙ e
    by_list (duplicate i j) e f = sym f ∙ e

-- where a question is spent with n units after others that pass with more, the answer with n units is spent
pub spent-after : (s : List Tree) (n m : ℕ) (p : List ℕ) (q : Questions) → SpentAfter s n (n + m) p q → (p' : List ℕ) × (answer s n q ≡ spent_at p')
spent-after s n m p (finds a) h = absurd h
spent-after s n m p (refuse p' w) h = absurd h
spent-after s n m p (halt z) h = absurd h
spent-after s n m p (ask_same p' w a b q) (inl h) = (p', ap (λ z. by_answer p' w z (answer s n q)) h.1)
spent-after s n m p (ask_same p' w a b q) (inr h) = by_compare (spent-after s n m p q h.1) (compare s n a b) (λ z i e. compare_more s n a b z i m e)
  where
    by_compare : ((p'' : List ℕ) × (answer s n q ≡ spent_at p'')) → (x : Budgeted Answer) → ((z : Answer) (i : ℕ) → x ≡ answered z i → compare s (n + m) a b ≡ answered z (i + m))
        → (p'' : List ℕ) × (by_answer p' w x (answer s n q) ≡ spent_at p'')
    by_compare f (answered same i) k = f
    by_compare f (answered (apart c d) i) k = let e : answered same h.0.0 ≡ answered (apart c d) (i + m) = sym h.0.1 ∙ k (apart c d) i refl in absurd cc
    by_compare f (answered (halted z) i) k = let e : answered same h.0.0 ≡ answered (halted z) (i + m) = sym h.0.1 ∙ k (halted z) i refl in absurd cc
    by_compare f spent k = (p', refl)
spent-after s n m p (ask_head p' a k) (inl h) = (p', ap (λ z. by_head p' z (λ b. answer s n (k b))) h.1)
spent-after s n m p (ask_head p' a k) (inr (b, left, e, h)) = by_head_form (spent-after s n m p (k b) h) (head_form s n a) (λ z i e. head_form_more s n a z i m e)
  where
    by_head_form : ((p'' : List ℕ) × (answer s n (k b) ≡ spent_at p'')) → (x : Budgeted HeadAnswer) → ((z : HeadAnswer) (i : ℕ) → x ≡ answered z i → head_form s (n + m) a ≡ answered z (i + m))
        → (p'' : List ℕ) × (by_head p' x (λ b. answer s n (k b)) ≡ spent_at p'')
    by_head_form f (answered (value c) i) g =
        let j : answered (value b) left ≡ answered (value c) (i + m) = sym e ∙ g (value c) i refl in
        let l : b ≡ c = cc in subst (λ z. (p'' : List ℕ) × (answer s n (k z) ≡ spent_at p'')) l f
    by_head_form f (answered (no_value z) i) g = let j : answered (value b) left ≡ answered (no_value z) (i + m) = sym e ∙ g (no_value z) i refl in absurd cc
    by_head_form f spent g = (p', refl)
