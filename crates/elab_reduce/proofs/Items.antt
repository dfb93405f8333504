-- What names unfold to, by the items that the code knows.
use Rattle.std.proofs.Common.{◌≡◌, ◌≤◌, ℕ, zero, suc, Bool, true, false, cond, List, [], ◌∷◌, Option, None, Some, length, slice_get, refl, ap, ◌∙◌, arith}
use Rattle.cdle_model.specs.Trees.{Tree}
use Rattle.cdle_model.specs.Forms.{Written}
use Rattle.elab_model.specs.HeadWritten.{type_body}
use Rattle.elab_model.specs.Questions.{kept_names}
use Rattle.elab_tree.specs.Known.{Entry, Known, item_in, item_at}
use Rattle.elab_reduce.specs.Items.{items_of, env_of, unfolds}

item_is : (es : List Entry) (n : ℕ) → slice_get (items_of es) n ≡ item_in (slice_get es n)
item_is [] n = refl
item_is (e ∷ es) zero = refl
item_is (e ∷ es) (suc n) = item_is es n

no_item : (es : List Entry) (n : ℕ) → length es ≤ n → slice_get (items_of es) n ≡ None
no_item [] n l = refl
no_item (e ∷ es) zero l = absurd (omega arith)
no_item (e ∷ es) (suc n) l = no_item es n (omega arith)

none_either : (b : Bool) → cond {A = Option Tree} b None None ≡ None
none_either true = refl
none_either false = refl

-- past the last item there is nothing to unfold
pub past_items : (k : Known) (stop : Bool) (n : ℕ) → length k.entries ≤ n → unfolds k stop n ≡ None
past_items k stop n l = ap (λ o. cond (kept_names (env_of k) stop n) None (type_body o)) (no_item k.entries n l) ∙ none_either (kept_names (env_of k) stop n)

-- where the name is not kept, its item says what it unfolds to
pub not_kept : (k : Known) (stop : Bool) (n : ℕ) (w : Written) → kept_names (env_of k) stop n ≡ false → item_at k n ≡ Some w → unfolds k stop n ≡ type_body (Some w)
not_kept k stop n w h e = ap (λ b. cond b None (type_body (slice_get (items_of k.entries) n))) h ∙ ap type_body (item_is k.entries n ∙ e)
