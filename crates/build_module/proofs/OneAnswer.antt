-- What a module's file comes to is there, and it is one.
use Rattle.std.proofs.Common.{◌≡◌, ◌⊎◌, inl, inr, ℕ, ◌<◌, ◌≤◌, List, [], length, Option, Some, None, Result, Ok, Err, refl, sym, ap, subst, ◌∙◌, arith}
use Rattle.std.proofs.lemmas.Bool.{cases_lt}
use Rattle.cdle_model.specs.Forms.{Written}
use Rattle.source_model.specs.Source.{Span, Module}
use Rattle.scope_model.specs.Scope.{ScopeFault, all_names, scoped_module}
use Rattle.scope_model.specs.ScopeNames.{Text}
use Rattle.scope_model.specs.Scoped.{ScopedModule}
use Rattle.elab_model.specs.Items.{items_of_source}
use Rattle.elab_model.specs.Questions.{Finding, found, rejected, spent_at, too_deep, out_of_scope}
use Rattle.elab_model.specs.Soundness.{no_encodings}
use Rattle.build_model.specs.SourceFiles.{IsSource, SourceFault, IsFirstSourceFault}
use Rattle.build_model.proofs.SourceFiles.{one_source, one_source_fault, source_is_faultless, source_or_faulty}
use Rattle.build_module.specs.ModuleAnswers.{ModuleAnswer, gives, no_module, many_items, unscoped, not_built, refuses, spends, deepens, most_items, unbuilt_in, nothing, stuck_at, printed, answered, answer_of, IsModule, IsScopedModule, IsModuleAnswer}
use Rattle.build_module.proofs.ModuleItems.{Tells, ready, tells}

-- ---- answers by the items

-- the answer is one by the items of a module that is built
abbrev IsOfItems : ModuleAnswer → Type 0
IsOfItems (gives ws text) = Unit {0}
IsOfItems (no_module f) = ⊥
IsOfItems many_items = ⊥
IsOfItems (unscoped f) = ⊥
IsOfItems (not_built p) = ⊥
IsOfItems (refuses p c) = Unit {0}
IsOfItems (spends p) = Unit {0}
IsOfItems (deepens w) = Unit {0}

of_printed : (ws : List Written) (r : Result (List ℕ) ℕ) → IsOfItems (printed ws r)
of_printed ws (Ok text) = tt
of_printed ws (Err i) = tt

same_some : {A : Type 0} (x y : A) → Some x ≡ Some y → x ≡ y
same_some x y e = cc

of_items : (w : Text) (x : Finding (List Written)) (a : ModuleAnswer) → answered w x ≡ Some a → IsOfItems a
of_items w (found ws) a e = subst IsOfItems (same_some _ a e) (of_printed ws _)
of_items w (rejected p c) a e = subst IsOfItems (same_some _ a e) tt
of_items w (spent_at p) a e = subst IsOfItems (same_some _ a e) tt
of_items w (too_deep p) a e = subst IsOfItems (same_some _ a e) tt
of_items w out_of_scope a e = absurd cc

-- an answer by the items is the file's
items_answer : (n : ℕ) (bytes : List ℕ) (name : Text) (m : Module Text) (r : ScopedModule) → IsScopedModule bytes name m r → (a : ModuleAnswer) → IsOfItems a → answer_of n r ≡ Some a → IsModuleAnswer n bytes name a
items_answer n bytes name m r s (gives ws text) o e = (m, r, s, e)
items_answer n bytes name m r s (no_module f) o e = absurd o
items_answer n bytes name m r s many_items o e = absurd o
items_answer n bytes name m r s (unscoped f) o e = absurd o
items_answer n bytes name m r s (not_built p) o e = absurd o
items_answer n bytes name m r s (refuses p c) o e = (m, r, s, e)
items_answer n bytes name m r s (spends p) o e = (m, r, s, e)
items_answer n bytes name m r s (deepens w) o e = (m, r, s, e)

-- ---- there is one

some_answer : (w : Text) (r : ScopedModule) (x : Finding (List Written)) → Tells r.items x → (a : ModuleAnswer) × (answered w x ≡ Some a)
some_answer w r (found ws) h = (_, refl)
some_answer w r (rejected p c) h = (_, refl)
some_answer w r (spent_at p) h = (_, refl)
some_answer w r (too_deep p) h = (_, refl)
some_answer w r out_of_scope h = absurd h

module _ (n : ℕ) (bytes : List ℕ) (name : Text) where
  abbrev Answer : Type 0
  Answer = (a : ModuleAnswer) × IsModuleAnswer n bytes name a

  of_scoped : (m : Module Text) (r : ScopedModule) → IsScopedModule bytes name m r → Answer
  of_scoped m r s =
      let w = stuck_at n nothing r.items in
      let x = items_of_source n nothing no_encodings r.items in
      let (a, e) = some_answer w r x (tells r.items n nothing (ready bytes name m r s)) in
      (a, items_answer n bytes name m r s a (of_items w x a e) e)

  of_forms : (m : Module Text) → IsModule bytes name m → (r : ScopedModule) → scoped_module [] m ≡ Ok r → (u : Option Span) → unbuilt_in m r ≡ u → Answer
  of_forms m s r e (Some p) u = (not_built p, (m, s, r, e, u))
  of_forms m s r e None u = of_scoped m r (record { is = s; scoped = e; built = u })

  of_scope : (m : Module Text) → IsModule bytes name m → (x : Result ScopedModule ScopeFault) → scoped_module [] m ≡ x → Answer
  of_scope m s (Ok r) e = of_forms m s r e (unbuilt_in m r) refl
  of_scope m s (Err f) e = (unscoped f, (m, s, e))

  of_count : (m : Module Text) → IsSource bytes name m → (most_items < length (all_names m.items)) ⊎ (length (all_names m.items) ≤ most_items) → Answer
  of_count m s (inl l) = (many_items, (m, s, l))
  of_count m s (inr l) = of_scope m (record { source = s; few = l }) (scoped_module [] m) refl

  of_bytes : ((m : Module Text) × IsSource bytes name m) ⊎ ((f : SourceFault) × IsFirstSourceFault bytes name f) → Answer
  of_bytes (inl s) = of_count s.0 s.1 (cases_lt most_items (length (all_names s.0.items)))
  of_bytes (inr f) = (no_module f.0, f.1)

  pub an_answer : (a : ModuleAnswer) × IsModuleAnswer n bytes name a
  an_answer = of_bytes (source_or_faulty bytes name)

-- ---- there is no other

-- what a module comes to by its forms, and by its scope
abbrev by_forms : ℕ → ScopedModule → Option Span → Option ModuleAnswer
by_forms n r (Some p) = Some (not_built p)
by_forms n r None = answer_of n r

abbrev by_scope : ℕ → Module Text → Result ScopedModule ScopeFault → Option ModuleAnswer
by_scope n m (Ok r) = by_forms n r (unbuilt_in m r)
by_scope n m (Err f) = Some (unscoped f)

-- the bytes are no module, or have too many items, or their module comes to this
data Ways (n : ℕ) (bytes : List ℕ) (name : Text) (a : ModuleAnswer) : Type 0 where
  faulty : (f : SourceFault) → IsFirstSourceFault bytes name f → no_module f ≡ a → Ways n bytes name a
  many : (m : Module Text) → IsSource bytes name m → most_items < length (all_names m.items) → many_items ≡ a → Ways n bytes name a
  few : (m : Module Text) → IsModule bytes name m → by_scope n m (scoped_module [] m) ≡ Some a → Ways n bytes name a

by_items : (n : ℕ) (bytes : List ℕ) (name : Text) (a : ModuleAnswer) → (m : Module Text) × (r : ScopedModule) × IsScopedModule bytes name m r × (answer_of n r ≡ Some a) → Ways n bytes name a
by_items n bytes name a (m, r, s, e) = few m s.is (ap (by_scope n m) s.scoped ∙ (ap (by_forms n r) s.built ∙ e))

way : (n : ℕ) (bytes : List ℕ) (name : Text) (a : ModuleAnswer) → IsModuleAnswer n bytes name a → Ways n bytes name a
way n bytes name (gives ws text) h = by_items n bytes name (gives ws text) h
way n bytes name (no_module f) h = faulty f h refl
way n bytes name many_items (m, s, l) = many m s l refl
way n bytes name (unscoped f) (m, s, e) = few m s (ap (by_scope n m) e)
way n bytes name (not_built p) (m, s, r, e, u) = few m s (ap (by_scope n m) e ∙ ap (by_forms n r) u)
way n bytes name (refuses p c) h = by_items n bytes name (refuses p c) h
way n bytes name (spends p) h = by_items n bytes name (spends p) h
way n bytes name (deepens w) h = by_items n bytes name (deepens w) h

too_many : (m k : Module Text) → m ≡ k → most_items < length (all_names m.items) → length (all_names k.items) ≤ most_items → ⊥
too_many m k e l f = let h = subst (λ x. most_items < length (all_names x.items)) e l in omega (arith, h, f)

same_way : (n : ℕ) (bytes : List ℕ) (name : Text) (a b : ModuleAnswer) → Ways n bytes name a → Ways n bytes name b → a ≡ b
same_way n bytes name a b (faulty f h d) (faulty g j e) = sym d ∙ (ap no_module (one_source_fault bytes name f g h j) ∙ e)
same_way n bytes name a b (faulty f h d) (many m s l e) = absurd (source_is_faultless bytes name m f s h)
same_way n bytes name a b (faulty f h d) (few m s e) = absurd (source_is_faultless bytes name m f s.source h)
same_way n bytes name a b (many m s l d) (faulty g j e) = absurd (source_is_faultless bytes name m g s j)
same_way n bytes name a b (many m s l d) (many k t i e) = sym d ∙ e
same_way n bytes name a b (many m s l d) (few k t e) = absurd (too_many m k (one_source bytes name m k s t.source) l t.few)
same_way n bytes name a b (few m s d) (faulty g j e) = absurd (source_is_faultless bytes name m g s.source j)
same_way n bytes name a b (few m s d) (many k t l e) = absurd (too_many k m (one_source bytes name k m t s.source) l s.few)
same_way n bytes name a b (few m s d) (few k t e) = same_some a b (sym d ∙ (ap (λ x. by_scope n x (scoped_module [] x)) (one_source bytes name m k s.source t.source) ∙ e))

pub one_answer : (n : ℕ) (bytes : List ℕ) (name : Text) (a b : ModuleAnswer) → IsModuleAnswer n bytes name a → IsModuleAnswer n bytes name b → a ≡ b
one_answer n bytes name a b h j = same_way n bytes name a b (way n bytes name a h) (way n bytes name b j)
