-- How the items stand after some of the source items.
use Rattle.std.proofs.Common.{◌≡◌, ℕ, suc, ◌+◌, ◌<◌, ◌≤◌, List, [], ◌∷◌, ◌++◌, length, get_or, take, drop, map, None, refl, sym, ap, subst, ◌∙◌, arith, drop-cons}
use Rattle.std.proofs.lemmas.List.{get_or-map, length-append, length-map, take-append-drop, take_all, take_more}
use Rattle.std.proofs.lemmas.Option.{slice_get_read}
use Rattle.cdle_model.specs.Forms.{Written}
use Rattle.scope_model.specs.Scoped as model
use Rattle.scoped_tree.specs.Items.{item_of}
use Rattle.scoped_tree.specs.Trees.{place}
use Rattle.scoped_tree.specs.declared.items.ScopedItem.{ScopedItem}
use Rattle.elab_model.specs.Items.{with_items}
use Rattle.elab_model.specs.Questions.{Finding, found, rejected, spent_at, too_deep}
use Rattle.elab_reduce.specs.Items.{env_of}
use Rattle.elab_tree.specs.Known.{Known, with_entry}
use Rattle.elab_item.specs.declared.fault.ItemFault.{ItemFault}
use Rattle.elab_item.specs.declared.fault.ItemFault.TheVariants as f
use Rattle.elab_item.specs.Answers.{EndsAt, IsItemFault, IsRefusal}
use Rattle.elab_item.specs.Given.{given_one, given_over, with_given}
use Rattle.elab_item.proofs.KnownMore.{env_more, given_more, given_none}
use Rattle.elab_item.proofs.Following.{next_is}

-- after the first i of the source items: these give the items ws, which stand behind the old ones
pub record Standing (n : ℕ) (old new : Known) (is : List model.ScopedItem) (i : ℕ) (ws : List Written) : Type 0 where
  pub given : given_over n old (take i is) ≡ found ws
  pub put : new ≡ with_given old ws
  pub number : length ws ≡ i

pub standing_start : (n : ℕ) (old : Known) (is : List model.ScopedItem) (ws : List Written) → ws ≡ [] → Standing n old old is 0 ws
standing_start n old is ws none = subst (Standing n old old is 0) (sym none) (record { given = refl; put = given_none old; number = refl })

pub standing_end : (n : ℕ) (old new : Known) (is : List ScopedItem) (i : ℕ) (ws : List Written) → length is ≤ i → Standing n old new (map item_of is) i ws → given_over n old (map item_of is) ≡ found ws
standing_end n old new is i ws past s =
    let len = length-map is item_of in
    ap (given_over n old) (sym (take_all i (map item_of is) (omega arith))) ∙ s.given

module _ (n : ℕ) (old new : Known) (is : List ScopedItem) (i : ℕ) (ws : List Written) (x : ScopedItem) (s : Standing n old new (map item_of is) i ws) (lt : i < length is) (here : x ≡ get_or is i x) where
  env_is : env_of new ≡ with_items (env_of old) ws
  env_is = ap env_of s.put ∙ env_more old ws

  below : i < length (map item_of is)
  below = let len = length-map is item_of in omega arith

  item_is : item_of x ≡ get_or (map item_of is) i (item_of x)
  item_is = sym (get_or-map item_of is i x (item_of x) lt ∙ ap item_of (sym here))

  from_here : map item_of is ≡ take i (map item_of is) ++ item_of x ∷ drop (suc i) (map item_of is)
  from_here = sym (take-append-drop i (map item_of is)) ∙ ap (λ js. take i (map item_of is) ++ js) (drop-cons (map item_of is) i (item_of x) below ∙ ap (λ j. j ∷ drop (suc i) (map item_of is)) (sym item_is))

  up_to_here : take (i + 1) (map item_of is) ≡ take i (map item_of is) ++ item_of x ∷ []
  up_to_here = take_more (map item_of is) i (item_of x) below ∙ ap (λ j. take i (map item_of is) ++ j ∷ []) (sym item_is)

  pub standing_next : (new' : Known) (ws' : List Written) (w : Written) → given_one n (env_of new) (item_of x) ≡ found w → new' ≡ with_entry new w None → ws' ≡ ws ++ w ∷ [] → Standing n old new' (map item_of is) (i + 1) ws'
  standing_next new' ws' w g p grown = subst (Standing n old new' (map item_of is) (i + 1)) (sym grown) (record {
    given = ap (given_over n old) up_to_here ∙ next_is n (env_of old) (take i (map item_of is)) ws s.given (item_of x) [] (found w) (subst (λ e. given_one n e (item_of x) ≡ found w) env_is g);
    put = p ∙ ap (λ k. with_entry k w None) s.put ∙ given_more old ws w;
    number = let count = length-append ws (w ∷ []) in let before = s.number in omega arith;
  })

  ends_at : (r : Finding Written) (y : Finding (List Written)) → given_one n (env_of new) (item_of x) ≡ r → given_over n old (take i (map item_of is) ++ item_of x ∷ drop (suc i) (map item_of is)) ≡ y
      → EndsAt n old new.entries (map item_of is) i r y
  ends_at r y g h = record {
    item = item_of x;
    before = ws;
    there = slice_get_read (map item_of is) (length (map item_of is)) i (item_of x) refl below item_is;
    given = s.given;
    put = ap (λ k. k.entries) s.put;
    answered = subst (λ e. given_one n e (item_of x) ≡ r) env_is g;
    all = ap (given_over n old) from_here ∙ h;
  }

  next : (r : Finding Written) → given_one n (env_of new) (item_of x) ≡ r → given_one n (with_items (env_of old) ws) (item_of x) ≡ r
  next r g = subst (λ e. given_one n e (item_of x) ≡ r) env_is g

  pub standing_refused : (number : ℕ) (d : ItemFault) → number ≡ i → IsItemFault number (given_one n (env_of new) (item_of x)) d → IsRefusal n old new.entries (map item_of is) d
  standing_refused number (f.Reject j p w) count (e, g) = rw (e ∙ count) (ends_at (rejected (place p) w) (rejected (place p) w) g (next_is n (env_of old) (take i (map item_of is)) ws s.given (item_of x) _ _ (next _ g)))
  standing_refused number (f.Spent j p) count (e, g) = rw (e ∙ count) (ends_at (spent_at (place p)) (spent_at (place p)) g (next_is n (env_of old) (take i (map item_of is)) ws s.given (item_of x) _ _ (next _ g)))
  standing_refused number (f.TooDeep j) count (e, (p, g)) = rw (e ∙ count) (p, ends_at (too_deep p) (too_deep p) g (next_is n (env_of old) (take i (map item_of is)) ws s.given (item_of x) _ _ (next _ g)))
  standing_refused number f.Failed count h = absurd h
  standing_refused number f.NoMemory count h = tt
