-- Files that were read one behind the other.
use Rattle.std.proofs.Common.{◌≡◌, ◌∙◌, false, ◌+◌, ℕ, List, [], ◌∷◌, ◌++◌, length, sym, ap, subst, arith, append_assoc}
use Rattle.std.proofs.lemmas.List.{append-nil}
use Rattle.cdle_model.specs.Classes.{AreScoped}
use Rattle.cdle_model.specs.CoreNames.{Name, with_items}
use Rattle.cdle_model.specs.CoreText.{Says}
use Rattle.cdle_model.specs.CoreTokens.{tokens}
use Rattle.cdle_model.specs.Forms.{Written}
use Rattle.cdle_model.proofs.CoreItems.{file_read, names_both, over_both}
use Rattle.core_check.specs.Items.{items_of}
use Rattle.core_tree.specs.declared.items.CoreFile.{CoreFile}

-- the files make one list of items, of which these are the names, and so many
pub record Read (files : List CoreFile) (known : List Name) (items : ℕ) : Type 0 where
  pub over : AreScoped (items_of files)
  pub named : known ≡ with_items (items_of files) []
  pub counted : length known ≡ items

items_push : (fs : List CoreFile) (f : CoreFile) → items_of (fs ++ (f ∷ [])) ≡ items_of fs ++ f.items
items_push [] f = append-nil f.items
items_push (g ∷ fs) f = ap (λ (ws : List Written). g.items ++ ws) (items_push fs f) ∙ sym (append_assoc g.items (items_of fs) f.items)

-- one more file
pub one_more : (fs : List CoreFile) (known : List Name) (n : ℕ) (f : CoreFile) (bytes : List ℕ) (more : List CoreFile) (names : List Name) (m : ℕ) → Read fs known n → Says bytes known f.items
    → more ≡ fs ++ (f ∷ []) → names ≡ with_items f.items known → length names ≡ length known + length f.items → m ≡ n + length f.items → Read more names m
one_more fs known n f bytes more names m r says pushed added counted grown =
    let here = subst (λ (k : List Name). Says bytes k f.items) r.named says in
    let all : items_of more ≡ items_of fs ++ f.items = ap items_of pushed ∙ items_push fs f in
    let count = r.counted in
    record {
      over = rw all (over_both [] (items_of fs) f.items r.over (file_read 1023 (tokens false 0 bytes) (items_of fs) f.items here.file));
      named = rw all (added ∙ ap (with_items f.items) r.named ∙ sym (names_both (items_of fs) f.items []));
      counted = omega arith;
    }
