-- What is known of the items so far, and what they unfold to, is of its class and has an erasure.
use Rattle.std.proofs.Common.{◌≡◌, ℕ, zero, suc, Bool, List, [], ◌∷◌, ◌++◌, Option, Some, None, slice_get, option_map, refl, sym, ap, ◌∙◌, subst, arith}
use Rattle.std.proofs.lemmas.List.{append_assoc}
use Rattle.cdle_model.specs.declared.grammar.Sort.{Sort}
use Rattle.cdle_model.specs.declared.grammar.Sort.TheVariants.{OfTerm, OfType}
use Rattle.cdle_model.specs.Trees.{Tree}
use Rattle.cdle_model.specs.Forms.{Written, def_item, type_item}
use Rattle.cdle_model.specs.Classes.{terms, types, kinds, item_sort, item_sorts, IsScopedOver, AreScopedOver}
use Rattle.cdle_model.specs.Fitting.{ItemHasErasures, HaveErasures, entry_sort, entry_sorts}
use Rattle.cdle_model.specs.Derivation.{Entry, term_of, type_of, raised, entry, bodies, signature}
use Rattle.cdle_model.proofs.ClassSubstitution.{Leads, fits-closed}
use Rattle.cdle_model.proofs.Lists.{get-left}
use Rattle.elab_model.specs.HeadWritten.{all_but}
use Rattle.elab_model.specs.Unfoldings.{IsSigned}
use Rattle.elab_model.specs.Questions.{Env, kept_names}
use Rattle.elab_model.specs.Spines.{known_of}
use Rattle.elab_model.proofs.DerivedBodies.{bodies-signed, bodies-sound}
use Rattle.elab_model.specs.SoundTrees.{Sound}
use Rattle.elab_model.specs.Soundness.{ItemSound, EnvSound, EntrySound, ContextSound}
use Rattle.elab_model.proofs.SoundPuts.{sound-shift}
use Rattle.elab_model.specs.Unfoldings.{UnfoldsSound}

sorts-append : (es ws : List Written) → item_sorts (es ++ ws) ≡ item_sorts es ++ item_sorts ws
sorts-append [] ws = refl
sorts-append (e ∷ es) ws = ap (◌∷◌ (item_sort e)) (sorts-append es ws)

leads-left : (es ws : List Written) → Leads (λ n. n) (item_sorts es) (item_sorts (es ++ ws))
leads-left es ws n x e = rw (sorts-append es ws) (get-left (item_sorts es) (item_sorts ws) n x e)

item-here : (es ws : List Written) (vs : List Sort) (w : Written) → IsScopedOver es w → ItemHasErasures w → ItemSound (item_sorts (es ++ ws)) vs w
item-here es ws vs (def_item x a t) h k =
    ((fits-closed (item_sorts es) (item_sorts (es ++ ws)) vs (leads-left es ws) types a h.0, k.0), (fits-closed (item_sorts es) (item_sorts (es ++ ws)) vs (leads-left es ws) terms t h.1, k.1))
item-here es ws vs (type_item x l a) h k =
    ((fits-closed (item_sorts es) (item_sorts (es ++ ws)) vs (leads-left es ws) kinds l h.0, k.0), (fits-closed (item_sorts es) (item_sorts (es ++ ws)) vs (leads-left es ws) types a h.1, k.1))

items-here : (es ws : List Written) (vs : List Sort) → AreScopedOver es ws → HaveErasures ws → (n : ℕ) (w : Written) → slice_get ws n ≡ Some w → ItemSound (item_sorts (es ++ ws)) vs w
items-here es [] vs h k n w e = absurd (grind arith)
items-here es (v ∷ ws) vs h k zero w e = let i : v ≡ w = grind arith in rw (← i) (item-here es (v ∷ ws) vs v h.0 k.0)
items-here es (v ∷ ws) vs h k (suc n) w e = subst (λ z. ItemSound (item_sorts z) vs w) (append_assoc es (v ∷ []) ws) (items-here (es ++ (v ∷ [])) ws vs h.1 k.1 n w e)

sort-get : (ws : List Written) (n : ℕ) (w : Written) → slice_get ws n ≡ Some w → slice_get (item_sorts ws) n ≡ Some (item_sort w)
sort-get [] n w e = absurd (grind arith)
sort-get (v ∷ ws) zero w e = let i : v ≡ w = grind arith in rw (← i) refl
sort-get (v ∷ ws) (suc n) w e = sort-get ws n w e

module _ (e : Env) (g : EnvSound e) where
  pub item-sound : (vs : List Sort) (n : ℕ) (w : Written) → slice_get e.items n ≡ Some w → ItemSound (item_sorts e.items) vs w
  item-sound vs n w i = items-here [] e.items vs g.items g.erasures n w i

  -- a name of a term with its type, a name of a type with its kind
  pub known-term : (vs : List Sort) (n : ℕ) (a : Tree) (o : Option Written) → slice_get e.items n ≡ o → known_of o ≡ Some (term_of a) → (slice_get (item_sorts e.items) n ≡ Some OfTerm) × Sound (item_sorts e.items) vs types a
  known-term vs n a (Some (def_item x b t)) i j = let l : b ≡ a = grind arith in (sort-get e.items n (def_item x b t) i, rw (← l) ((item-sound vs n (def_item x b t) i).0))
  known-term vs n a (Some (type_item x k b)) i j = absurd (grind arith)
  known-term vs n a None i j = absurd (grind arith)

  pub known-type : (vs : List Sort) (n : ℕ) (a : Tree) (o : Option Written) → slice_get e.items n ≡ o → known_of o ≡ Some (type_of a) → (slice_get (item_sorts e.items) n ≡ Some OfType) × Sound (item_sorts e.items) vs kinds a
  known-type vs n a (Some (type_item x k b)) i j = let l : k ≡ a = grind arith in (sort-get e.items n (type_item x k b) i, rw (← l) ((item-sound vs n (type_item x k b) i).0))
  known-type vs n a (Some (def_item x b t)) i j = absurd (grind arith)
  known-type vs n a None i j = absurd (grind arith)

  pub unfolds-sound : (d : Bool) → UnfoldsSound (item_sorts e.items) (all_but (kept_names e d) e.items)
  unfolds-sound d = bodies-sound e.items g.items g.erasures (kept_names e d)

  pub env-signed : (d : Bool) → IsSigned (bodies (signature e.items)) (all_but (kept_names e d) e.items)
  env-signed d = bodies-signed e.items g.items (kept_names e d)

-- ---- contexts

entry-raised : (xs vs : List Sort) (y : Sort) (e : Entry) → EntrySound xs vs e → EntrySound xs (y ∷ vs) (raised e)
entry-raised xs vs y (term_of a) h = sound-shift xs vs y types a h
entry-raised xs vs y (type_of k) h = sound-shift xs vs y kinds k h

entry-from : (o : Option Entry) (f : Entry) → option_map raised o ≡ Some f → (m : Entry) × (o ≡ Some m) × (raised m ≡ f)
entry-from (Some m) f h = (m, refl, grind arith)
entry-from None f h = absurd (grind arith)

sort-raised : (e : Entry) → entry_sort (raised e) ≡ entry_sort e
sort-raised (term_of a) = refl
sort-raised (type_of k) = refl

pub entry-sound : (xs : List Sort) (c : List Entry) (i : ℕ) (f : Entry) → ContextSound xs c → entry c i ≡ Some f → (slice_get (entry_sorts c) i ≡ Some (entry_sort f)) × EntrySound xs (entry_sorts c) f
entry-sound xs [] i f h e = absurd (grind arith)
entry-sound xs (g ∷ c) zero f h e =
    let k : raised g ≡ f = grind arith in
    rw (← k) (ap Some (sym (sort-raised g)), entry-raised xs (entry_sorts c) _ g h.0)
entry-sound xs (g ∷ c) (suc i) f h e =
    let (m, p, q) = entry-from (entry c i) f e in
    let (k, l) = entry-sound xs c i m h.1 p in
    rw (← q) (k ∙ ap Some (sym (sort-raised m)), entry-raised xs (entry_sorts c) _ m l)
