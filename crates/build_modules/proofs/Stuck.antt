-- The name of the item for which nothing is given, by the items before it.
use Rattle.std.proofs.Common.{◌≡◌, ℕ, zero, suc, List, [], ◌∷◌, ◌++◌, take, Some, refl, sym, ap, subst, ◌∙◌, arith}
use Rattle.std.specs.List.{slice_get}
use Rattle.std.proofs.lemmas.List.{append_assoc, append-nil}
use Rattle.cdle_model.specs.Forms.{Written}
use Rattle.source_model.specs.Source.{Span}
use Rattle.scope_model.specs.Scoped.{ScopedItem}
use Rattle.elab_model.specs.Items.{behind, found_then, item_of_source, items_of_source, source_name, with_items}
use Rattle.elab_model.specs.Questions.{Env, Finding, answer, found, rejected, spent_at, too_deep, out_of_scope}
use Rattle.elab_model.specs.Soundness.{no_encodings}
use Rattle.modules_model.specs.ModuleTexts.{if_found, stuck_at}

with_none : (e : Env) → with_items e [] ≡ e
with_none e = ap (λ ws. record { items = ws; is_data = e.is_data }) (append-nil e.items)

with_more : (e : Env) (vs ws : List Written) → with_items (with_items e vs) ws ≡ with_items e (vs ++ ws)
with_more e vs ws = ap (λ us. record { items = us; is_data = e.is_data }) (append_assoc e.items vs ws)

first_found : (x : Finding Written) (k : Written → Finding (List Written)) (ws : List Written) → found_then x k ≡ found ws → (w : Written) × (x ≡ found w) × (k w ≡ found ws)
first_found (found w) k ws h = (w, refl, h)
first_found (rejected p c) k ws h = absurd (grind arith)
first_found (spent_at p) k ws h = absurd (grind arith)
first_found (too_deep p) k ws h = absurd (grind arith)
first_found out_of_scope k ws h = absurd (grind arith)

rest_found : (vs : List Written) (r : Finding (List Written)) (ws : List Written) → behind vs r ≡ found ws → (us : List Written) × (r ≡ found us) × (ws ≡ vs ++ us)
rest_found vs (found us) ws h = (us, refl, grind arith)
rest_found vs (rejected p c) ws h = absurd (grind arith)
rest_found vs (spent_at p) ws h = absurd (grind arith)
rest_found vs (too_deep p) ws h = absurd (grind arith)
rest_found vs out_of_scope ws h = absurd (grind arith)

-- over these items that source item is too deep
abbrev DeepOver : ℕ → Span → ScopedItem → Env → Type 0
DeepOver n p s d = answer d n (item_of_source d no_encodings s) ≡ too_deep p

stuck_first : (n : ℕ) (e : Env) (is : List ScopedItem) (s : ScopedItem) (p : Span) → DeepOver n p s e → stuck_at n e (s ∷ is) ≡ source_name s
stuck_first n e is s p a = ap (λ x. if_found x (λ w. stuck_at n (with_items e (w ∷ [])) is) (source_name s)) a

-- the items before the one of that number give something, and it is too deep over these
pub stuck : (n : ℕ) (e : Env) (is : List ScopedItem) (i : ℕ) (s : ScopedItem) (ws : List Written) (p : Span) → slice_get is i ≡ Some s
    → items_of_source n e no_encodings (take i is) ≡ found ws → answer (with_items e ws) n (item_of_source (with_items e ws) no_encodings s) ≡ too_deep p → stuck_at n e is ≡ source_name s
stuck n e [] i s ws p g h a = absurd (grind arith)
stuck n e (t ∷ is) zero s ws p g h a =
    let j : ws ≡ [] = grind arith in
    let k : s ≡ t = grind arith in
    let b : DeepOver n p s e = subst (DeepOver n p s) (with_none e) (subst (λ (us : List Written). DeepOver n p s (with_items e us)) j a) in
    subst (λ (t : ScopedItem). stuck_at n e (t ∷ is) ≡ source_name s) k (stuck_first n e is s p b)
stuck n e (t ∷ is) (suc i) s ws p g h a =
    let (w, x, y) = first_found (answer e n (item_of_source e no_encodings t)) (λ w. behind (w ∷ []) (items_of_source n (with_items e (w ∷ [])) no_encodings (take i is))) ws h in
    let (us, z, o) = rest_found (w ∷ []) (items_of_source n (with_items e (w ∷ [])) no_encodings (take i is)) ws y in
    let q : with_items e ws ≡ with_items (with_items e (w ∷ [])) us = ap (with_items e) o ∙ sym (with_more e (w ∷ []) us) in
    ap (λ r. if_found r (λ w. stuck_at n (with_items e (w ∷ [])) is) (source_name t)) x ∙ stuck n (with_items e (w ∷ [])) is i s us p g z (subst (DeepOver n p s) q a)
