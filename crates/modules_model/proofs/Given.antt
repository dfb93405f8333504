-- What the rules give for modules in their order: they always say something, and what is given has the modules' names, erases to these and has a derivation.
use Rattle.std.proofs.Common.{◌≡◌, ◌∙◌, ℕ, Bool, true, false, List, [], ◌∷◌, ◌++◌, map, Option, Some, None, Result, Ok, Err, refl, sym, ap₂, subst}
use Rattle.std.specs.List.{AllByRecursion}
use Rattle.std.specs.Str.{bytes_eq}
use Rattle.std.proofs.lemmas.List.{append_assoc, append-nil}
use Rattle.std.proofs.lemmas.Slice.Eq.{bytes_eq-Decides}
use Rattle.cdle_model.specs.Classes.{AreScoped}
use Rattle.cdle_model.specs.Derivation.{AreDerived}
use Rattle.cdle_model.specs.Forms.{Written}
use Rattle.source_model.specs.Source.{Module, Span}
use Rattle.scope_model.specs.Scope.{ScopeFault, all_names, count, scoped_module, with_module}
use Rattle.scope_model.specs.ScopeNames.{Exported, Text}
use Rattle.scope_model.specs.Scoped.{ScopedModule}
use Rattle.elab_model.specs.Items.{EraseTo, items_of_source, names_of, with_items}
use Rattle.elab_model.specs.Questions.{Env, Finding, found, rejected, spent_at, too_deep, out_of_scope}
use Rattle.elab_model.specs.Soundness.{no_encodings}
use Rattle.elab_model.proofs.GivenItems.{items-given}
use Rattle.print_model.specs.PrintedFiles.{all_items}
use Rattle.build_model.specs.Unbuilt.{unbuilt_items}
use Rattle.modules_model.specs.AllBuilt.{AreDifferent, AreSaid, EraseEach, core_names}
use Rattle.modules_model.specs.ModuleTexts.{Stuck, given_modules, given_then, scoped_modules, scoped_then, stuck_at, unbuilt_modules, unbuilt_then, with_first}
use Rattle.modules_model.proofs.Lists.{all_append}
use Rattle.modules_model.proofs.Standing.{IsOther, IsSaid, Stands, own_names, ready, stands_next}
use Rattle.modules_model.proofs.Tells.{Tells, tells}

-- ---- the first module and the others

scope_first : (x : Result ScopedModule ScopeFault) (y : Result (List ScopedModule) (ℕ × ScopeFault)) (rs : List ScopedModule) → scoped_then x y ≡ Ok rs
    → (r : ScopedModule) × (xs : List ScopedModule) × (x ≡ Ok r) × (y ≡ Ok xs) × (r ∷ xs ≡ rs)
scope_first (Ok r) (Ok xs) rs e = (r, xs, refl, refl, cc)
scope_first (Ok r) (Err f) rs e = absurd cc
scope_first (Err f) y rs e = absurd cc

built_first : (x : Option Span) (y : Option (ℕ × Span)) → unbuilt_then x y ≡ None → (x ≡ None) × (y ≡ None)
built_first None None e = (refl, refl)
built_first None (Some p) e = absurd cc
built_first (Some p) y e = absurd cc

-- ---- modules that are still to come

-- none of the known modules has the name of any of these
abbrev pub AreOther : List Exported → List (Module Text) → Type 0
AreOther known ms = AllByRecursion (IsOther known) ms

not_same : (b : Bool) → (b ≡ true → ⊥) → b ≡ false
not_same true h = absurd (h refl)
not_same false h = refl

others_next : (known : List Exported) (m : Module Text) (ms : List (Module Text)) → AreOther known ms → AllByRecursion (λ k. m.name ≡ k.name → ⊥) ms → AreOther (with_module known m) ms
others_next known m [] h d = tt
others_next known m (k ∷ ks) h d = (
  all_append (λ x. bytes_eq x.name k.name ≡ false) known (record { name = m.name; first = count known; items = all_names m.items } ∷ []) h.0
      (not_same (bytes_eq m.name k.name) (λ e. d.0 ((bytes_eq-Decides m.name k.name).0 e)), tt),
  others_next known m ks h.1 d.1,
)

-- nothing is known yet
pub none_known : (ms : List (Module Text)) → AreOther [] ms
none_known [] = tt
none_known (m ∷ ms) = (tt, none_known ms)

-- ---- what is given

-- behind these items each module has its names and erases to its definitions, and all items stand in order and have a derivation
pub record AreGiven (es : List Written) (ms : List (Module Text)) (rs : List ScopedModule) (wss : List (List Written)) : Type 0 where
  pub names : map names_of wss ≡ map core_names ms
  pub erase : EraseEach rs wss
  pub scoped : AreScoped (es ++ all_items wss)
  pub derived : AreDerived (es ++ all_items wss)

none_given : (es : List Written) → AreScoped es → AreDerived es → AreGiven es [] [] []
none_given es h d = record { names = refl; erase = tt; scoped = subst AreScoped (sym (append-nil es)) h; derived = subst AreDerived (sym (append-nil es)) d }

one_given : (es ws : List Written) (m : Module Text) (ms : List (Module Text)) (r : ScopedModule) (rs : List ScopedModule) (wss : List (List Written)) → names_of ws ≡ core_names m → EraseTo (λ a b. a ≡ b) no_encodings r.items ws
    → AreGiven (es ++ ws) ms rs wss → AreGiven es (m ∷ ms) (r ∷ rs) (ws ∷ wss)
one_given es ws m ms r rs wss e h g = record {
  names = ap₂ ◌∷◌ e g.names;
  erase = (h, g.erase);
  scoped = subst AreScoped (append_assoc es ws (all_items wss)) g.scoped;
  derived = subst AreDerived (append_assoc es ws (all_items wss)) g.derived;
}

-- there is a reason why nothing is given
abbrev pub IsReason : Finding (List Written) → Type 0
IsReason (found ws) = ⊥
IsReason (rejected p c) = Unit {0}
IsReason (spent_at p) = Unit {0}
IsReason (too_deep p) = Unit {0}
IsReason out_of_scope = ⊥

-- these modules are given in this way, or there is a reason why not
abbrev pub AreTold : List Written → List (Module Text) → List ScopedModule → Result (List (List Written)) (ℕ × Stuck) → Type 0
AreTold es ms rs (Ok wss) = AreGiven es ms rs wss
AreTold es ms rs (Err x) = IsReason x.1.finding

told_behind : (es ws : List Written) (m : Module Text) (ms : List (Module Text)) (r : ScopedModule) (rs : List ScopedModule) → names_of ws ≡ core_names m → EraseTo (λ a b. a ≡ b) no_encodings r.items ws
    → (y : Result (List (List Written)) (ℕ × Stuck)) → AreTold (es ++ ws) ms rs y → AreTold es (m ∷ ms) (r ∷ rs) (with_first ws y)
told_behind es ws m ms r rs e h (Ok wss) g = one_given es ws m ms r rs wss e h g
told_behind es ws m ms r rs e h (Err x) g = g

module _ (n : ℕ) (known : List Exported) (e : Env) (s : Stands known e) (m : Module Text) (said : IsSaid m) (r : ScopedModule) (scope : scoped_module known m ≡ Ok r) (built : unbuilt_items r.items ≡ None)
    (other : IsOther known m) (ms : List (Module Text)) (rs : List ScopedModule) where
  told_first : ((ws : List Written) → Stands (with_module known m) (with_items e ws) → AreTold (e.items ++ ws) ms rs (given_modules n (with_items e ws) rs))
      → (x : Finding (List Written)) → items_of_source n e no_encodings r.items ≡ x → Tells r.items x
      → AreTold e.items (m ∷ ms) (r ∷ rs) (given_then (stuck_at n e r.items) x (λ ws. given_modules n (with_items e ws) rs))
  told_first rest (found ws) g t =
      let q = ready known e s m said r scope built other in
      let i = items-given r.items n e q.sound q.derived q.fit q.differ ws g in
      told_behind e.items ws m ms r rs (t.0 ∙ own_names known e s m said r scope built) i.erase (given_modules n (with_items e ws) rs)
      (rest ws (stands_next known e s m said r scope built ws t i))
  told_first rest (rejected p c) g t = tt
  told_first rest (spent_at p) g t = tt
  told_first rest (too_deep p) g t = tt
  told_first rest out_of_scope g t = absurd t

pub told : (n : ℕ) (ms : List (Module Text)) (known : List Exported) (e : Env) (rs : List ScopedModule) → Stands known e → AreSaid ms → AreDifferent ms → AreOther known ms → scoped_modules known ms ≡ Ok rs → unbuilt_modules rs ≡ None
    → AreTold e.items ms rs (given_modules n e rs)
told n [] known e rs s said differ other scope built =
    let none : [] ≡ rs = cc in
    subst (λ xs. AreTold e.items [] xs (given_modules n e xs)) none (none_given e.items s.sound.items s.derived)
told n (m ∷ ms) known e rs s said differ other scope built =
    let (r, xs, own, rest, same) = scope_first (scoped_module known m) (scoped_modules (with_module known m) ms) rs scope in
    let b = built_first (unbuilt_items r.items) (unbuilt_modules xs) (subst (λ ys. unbuilt_modules ys ≡ None) (sym same) built) in
    let t = tells r.items n e (ready known e s m said.0 r own b.0 other.0) in
    subst (λ ys. AreTold e.items (m ∷ ms) ys (given_modules n e ys)) same
    (told_first n known e s m said.0 r own b.0 other.0 ms xs (λ ws q. told n ms (with_module known m) (with_items e ws) xs q said.1 differ.1 (others_next known m ms other.1 differ.0) rest b.1)
    (items_of_source n e no_encodings r.items) refl t)
