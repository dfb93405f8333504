-- The items of modules one after the other are those of all their definitions as one list; and they stay with more units.
use Rattle.std.proofs.Common.{◌≡◌, ℕ, ◌+◌, List, [], ◌∷◌, ◌++◌, refl, sym, ap, ◌∙◌}
use Rattle.std.proofs.lemmas.List.{append_assoc, append-nil}
use mathlib.Core.Path.{fun_ext}
use Rattle.cdle_model.specs.Forms.{Written}
use Rattle.scope_model.specs.Scoped.{ScopedItem, ScopedModule}
use Rattle.elab_model.specs.SourceErasure.{Encodings}
use Rattle.elab_model.specs.Questions.{Env, Finding, found, rejected, spent_at, too_deep, out_of_scope, answer}
use Rattle.elab_model.specs.Items.{item_of_source, with_items, found_then, behind, items_of_source, items_of_modules, items_in}
use Rattle.elab_model.proofs.RulesLargerBudget.{Firm, firm-answer}

-- ---- one list

with-none : (e : Env) → with_items e [] ≡ e
with-none e = ap (λ ws. record { items = ws; is_data = e.is_data }) (append-nil e.items)

with-more : (e : Env) (vs ws : List Written) → with_items (with_items e vs) ws ≡ with_items e (vs ++ ws)
with-more e vs ws = ap (λ us. record { items = us; is_data = e.is_data }) (append_assoc e.items vs ws)

behind-none : (r : Finding (List Written)) → behind [] r ≡ r
behind-none (found ws) = refl
behind-none (rejected p c) = refl
behind-none (spent_at p) = refl
behind-none (too_deep p) = refl
behind-none out_of_scope = refl

behind-twice : (vs ws : List Written) (r : Finding (List Written)) → behind vs (behind ws r) ≡ behind (vs ++ ws) r
behind-twice vs ws (found us) = ap found (sym (append_assoc vs ws us))
behind-twice vs ws (rejected p c) = refl
behind-twice vs ws (spent_at p) = refl
behind-twice vs ws (too_deep p) = refl
behind-twice vs ws out_of_scope = refl

-- what comes behind a list of which some are put first
put-first : (e : Env) (vs : List Written) (k : Env → Finding (List Written)) (r : Finding (List Written))
    → behind vs (found_then r (λ ws. behind ws (k (with_items (with_items e vs) ws)))) ≡ found_then (behind vs r) (λ ws. behind ws (k (with_items e ws)))
put-first e vs k (found ws) = behind-twice vs ws (k (with_items (with_items e vs) ws)) ∙ ap (λ d. behind (vs ++ ws) (k d)) (with-more e vs ws)
put-first e vs k (rejected p c) = refl
put-first e vs k (spent_at p) = refl
put-first e vs k (too_deep p) = refl
put-first e vs k out_of_scope = refl

behind-first : (x : Finding Written) (k l : Written → Finding (List Written)) (m : List Written → Finding (List Written)) → ((w : Written) → k w ≡ found_then (l w) m) → found_then x k ≡ found_then (found_then x l) m
behind-first (found w) k l m h = h w
behind-first (rejected p c) k l m h = refl
behind-first (spent_at p) k l m h = refl
behind-first (too_deep p) k l m h = refl
behind-first out_of_scope k l m h = refl

items-append : (n : ℕ) (e : Env) (f : Encodings) (xs ys : List ScopedItem) → items_of_source n e f (xs ++ ys) ≡ found_then (items_of_source n e f xs) (λ ws. behind ws (items_of_source n (with_items e ws) f ys))
items-append n e f [] ys = sym (behind-none _ ∙ ap (λ d. items_of_source n d f ys) (with-none e))
items-append n e f (x ∷ xs) ys = behind-first (answer e n (item_of_source e f x)) _ _ _
    (λ w. ap (behind (w ∷ [])) (items-append n (with_items e (w ∷ [])) f xs ys) ∙ put-first e (w ∷ []) (λ d. items_of_source n d f ys) (items_of_source n (with_items e (w ∷ [])) f xs))

pub modules-are : (n : ℕ) (e : Env) (f : Encodings) (ms : List ScopedModule) → items_of_modules n e f ms ≡ items_of_source n e f (items_in ms)
modules-are n e f [] = refl
modules-are n e f (m ∷ ms) =
    ap (found_then (items_of_source n e f m.items)) (fun_ext (λ ws. ap (behind ws) (modules-are n (with_items e ws) f ms))) ∙ sym (items-append n e f m.items (items_in ms))

-- ---- more units

firm-found : {A B : Type 0} (x y : Finding A) (k l : A → Finding B) → Firm x y → ((a : A) → Firm (k a) (l a)) → Firm (found_then x k) (found_then y l)
firm-found (found x) y k l h u = rw (← h) (u x)
firm-found (rejected p w) y k l h u = rw (← h) refl
firm-found (spent_at p) y k l h u = tt
firm-found (too_deep p) y k l h u = rw (← h) refl
firm-found out_of_scope y k l h u = rw (← h) refl

firm-behind : (ws : List Written) (x y : Finding (List Written)) → Firm x y → Firm (behind ws x) (behind ws y)
firm-behind ws (found us) y h = rw (← h) refl
firm-behind ws (rejected p w) y h = rw (← h) refl
firm-behind ws (spent_at p) y h = tt
firm-behind ws (too_deep p) y h = rw (← h) refl
firm-behind ws out_of_scope y h = rw (← h) refl

pub firm-items : (n m : ℕ) (e : Env) (f : Encodings) (is : List ScopedItem) → Firm (items_of_source n e f is) (items_of_source (n + m) e f is)
firm-items n m e f [] = refl
firm-items n m e f (i ∷ is) = firm-found (answer e n (item_of_source e f i)) (answer e (n + m) (item_of_source e f i)) _ _ (firm-answer e n m (item_of_source e f i))
    (λ w. firm-behind (w ∷ []) _ _ (firm-items n m (with_items e (w ∷ [])) f is))

pub firm-modules : (n m : ℕ) (e : Env) (f : Encodings) (ms : List ScopedModule) → Firm (items_of_modules n e f ms) (items_of_modules (n + m) e f ms)
firm-modules n m e f ms = rw (modules-are n e f ms, modules-are (n + m) e f ms) (firm-items n m e f (items_in ms))
