-- The items so far with more behind them, as the definitions' items.
use Rattle.std.proofs.Common.{◌≡◌, ℕ, zero, suc, false, List, [], ◌∷◌, ◌++◌, map, None, slice_get, refl, sym, ap, ◌∙◌}
use Rattle.std.proofs.lemmas.List.{append-nil, append_assoc, map-append}
use mathlib.Core.Path.{fun_ext}
use Rattle.cdle_model.specs.Forms.{Written}
use Rattle.elab_model.specs.Items.{with_items}
use Rattle.elab_reduce.specs.Items.{env_of, is_known, items_of}
use Rattle.elab_tree.specs.Known.{Entry, Known, data_in, with_entry}
use Rattle.elab_item.specs.Given.{plain, with_given}

pub items_more : (es : List Entry) (ws : List Written) → items_of (es ++ map plain ws) ≡ items_of es ++ ws
items_more [] [] = refl
items_more [] (w ∷ ws) = ap (λ us. w ∷ us) (items_more [] ws)
items_more (e ∷ es) ws = ap (λ us. e.item ∷ us) (items_more es ws)

no_data : (ws : List Written) (n : ℕ) → is_known (data_in (slice_get (map plain ws) n)) ≡ false
no_data [] n = refl
no_data (w ∷ ws) zero = refl
no_data (w ∷ ws) (suc n) = no_data ws n

data_more : (es : List Entry) (ws : List Written) (n : ℕ) → is_known (data_in (slice_get (es ++ map plain ws) n)) ≡ is_known (data_in (slice_get es n))
data_more [] ws n = no_data ws n
data_more (e ∷ es) ws zero = refl
data_more (e ∷ es) ws (suc n) = data_more es ws n

pub env_more : (k : Known) (ws : List Written) → env_of (with_given k ws) ≡ with_items (env_of k) ws
env_more k ws =
    ap (λ us. record { items = us; is_data = λ n. is_known (data_in (slice_get (k.entries ++ map plain ws) n)) }) (items_more k.entries ws)
    ∙ ap (λ d. record { items = items_of k.entries ++ ws; is_data = d }) (fun_ext (λ n. data_more k.entries ws n))

pub given_none : (k : Known) → k ≡ with_given k []
given_none k = ap (λ es. record { entries = es; failed = k.failed }) (sym (append-nil k.entries))

pub given_more : (k : Known) (ws : List Written) (w : Written) → with_entry (with_given k ws) w None ≡ with_given k (ws ++ w ∷ [])
given_more k ws w = ap (λ es. record { entries = es; failed = k.failed }) (append_assoc k.entries (map plain ws) (plain w ∷ []) ∙ ap (λ es. k.entries ++ es) (sym (map-append plain ws (w ∷ []))))
