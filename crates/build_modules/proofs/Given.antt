-- What the rules give for one module more, and why they give nothing.
use Rattle.std.proofs.Common.{◌≡◌, ℕ, ◌+◌, false, true≢false, Some, List, ◌∷◌, Result, Ok, Err, length, map, slice_get, sym, ap, ap₂, ◌∙◌, arith}
use Rattle.std.specs.Global.{Vec}
use Rattle.std.proofs.lemmas.List.{length-map}
use Rattle.cdle_model.specs.Forms.{Written}
use Rattle.scope_model.specs.Scoped as model
use Rattle.scope_model.specs.ScopeNames.{Text}
use Rattle.elab_model.specs.Items.{items_of_source, source_name, with_items}
use Rattle.elab_model.specs.Questions.{Env, Finding, found, rejected, spent_at, too_deep, out_of_scope}
use Rattle.elab_model.specs.Soundness.{no_encodings}
use Rattle.elab_reduce.specs.Items.{env_of}
use Rattle.elab_tree.specs.Items.{written}
use Rattle.elab_tree.specs.Known.{Entry, Known}
use Rattle.elab_tree.specs.declared.items.OutItem.{OutItem}
use Rattle.elab_item.specs.Answers.{EndsAt, IsRefusal}
use Rattle.elab_item.specs.Answers as item_answers
use Rattle.elab_item.specs.declared.fault.ItemFault.{ItemFault}
use Rattle.elab_item.specs.declared.fault.ItemFault.TheVariants as item
use Rattle.elab_item.proofs.KnownMore.{env_more}
use Rattle.scoped_tree.specs.Items.{module_of}
use Rattle.scoped_tree.specs.declared.items.ScopedModule.{ScopedModule}
use Rattle.modules_model.specs.ModuleTexts.{Stuck, TextsAnswer, by_rules, deepens, given_modules, given_then, nothing, refusal_of, stuck_at}
use Rattle.build_modules.specs.Answers.{GivesNext, IsBuildFault, IsRefused, items_of_each}
use Rattle.build_modules.specs.Steps.{before_rest}
use Rattle.build_modules.specs.declared.fault.BuildFault.{BuildFault}
use Rattle.build_modules.proofs.Faults.{fault_as}
use Rattle.build_modules.proofs.Stuck.{stuck}

-- ---- one module

some_one : {A : Type 0} {x y : A} → Some x ≡ Some y → x ≡ y
some_one e = cc

-- the item of that number is too deep, and this is its name
pub of_deep : (n : ℕ) (old : Known) (es : List Entry) (is : List model.ScopedItem) (i number : ℕ) (s : model.ScopedItem) (f : BuildFault) → IsRefusal n old es is (item.TooDeep number) → slice_get is number ≡ Some s → IsBuildFault (λ a. a ≡ deepens (source_name s)) f
    → IsRefused n (env_of old) is i f
of_deep n old es is i number s f h there named =
    let e = h.1 in
    let same : e.item ≡ s = some_one (sym e.there ∙ there) in
    let name : stuck_at n (env_of old) is ≡ source_name s = stuck n (env_of old) is number e.item e.before h.0 e.there e.given e.answered ∙ ap source_name same in
    fault_as (λ a. a ≡ deepens (source_name s)) (λ a. refusal_of i (stuck_at n (env_of old) is) (items_of_source n (env_of old) no_encodings is) ≡ Some a)
    (λ a k. ap₂ (refusal_of i) name e.all ∙ ap Some (sym k)) f named

pub given_next : (n : ℕ) (old new : Known) (is : List model.ScopedItem) (i : ℕ) (items : Vec OutItem) → item_answers.Answers n old new is (Ok items) → GivesNext n old new is i (Ok items)
given_next n old new is i items h = (ap (λ (k : Known). k.failed) h.2 ∙ h.0, h.1, ap env_of h.2 ∙ env_more old (map written items.items))

pub not_given : (n : ℕ) (old new : Known) (is : List model.ScopedItem) (i : ℕ) (fault : ItemFault) (f : BuildFault) → old.failed ≡ false → item_answers.Answers n old new is (Err fault)
    → ((n : ℕ) (k : Known) (es : List Entry) → IsRefusal n k es is fault → IsRefused n (env_of k) is i f) → GivesNext n old new is i (Err f)
not_given n old new is i item.Failed f going h g = absurd (true≢false (sym h.0 ∙ going))
not_given n old new is i (item.Reject j p w) f going h g = g n old new.entries h.2
not_given n old new is i (item.Spent j p) f going h g = g n old new.entries h.2
not_given n old new is i (item.TooDeep j) f going h g = g n old new.entries h.2
not_given n old new is i item.NoMemory f going h g = g n old new.entries tt

-- ---- one module after the other

-- the modules come to what is done, before what the rest come to over these items
abbrev pub AreGiven : ℕ → List ScopedModule → List (Vec OutItem) → Env → List ScopedModule → Type 0
AreGiven n all done e rest = given_modules n nothing (map module_of all) ≡ before_rest (items_of_each done) (given_modules n e (map module_of rest))

-- what is done, before what the first of the rest comes to
abbrev by_rest : ℕ → List (List Written) → Env → List ScopedModule → Text → Finding (List Written) → Result (List (List Written)) (ℕ × Stuck)
by_rest n done e others w x = before_rest done (given_then w x (λ ws. given_modules n (with_items e ws) (map module_of others)))

by_next : (n : ℕ) (all rest others : List ScopedModule) (m : ScopedModule) (done : List (Vec OutItem)) (e : Env) → AreGiven n all done e rest → rest ≡ m ∷ others
    → given_modules n nothing (map module_of all) ≡ by_rest n (items_of_each done) e others (stuck_at n e (module_of m).items) (items_of_source n e no_encodings (module_of m).items)
by_next n all rest others m done e s h = s ∙ ap (λ ms. before_rest (items_of_each done) (given_modules n e (map module_of ms))) h

-- nothing is given for the first of the rest, and this is why
stopped : (n : ℕ) (done : List (List Written)) (e : Env) (others : List ScopedModule) (w : Text) (x : Finding (List Written)) (i : ℕ) (a : TextsAnswer) → length done + 0 ≡ i → refusal_of i w x ≡ Some a → by_rules (by_rest n done e others w x) ≡ Some a
stopped n done e others w (found ws) i a l h = absurd cc
stopped n done e others w (rejected p c) i a l h = ap (λ k. refusal_of k w (rejected p c)) l ∙ h
stopped n done e others w (spent_at p) i a l h = ap (λ k. refusal_of k w (spent_at p)) l ∙ h
stopped n done e others w (too_deep p) i a l h = ap (λ k. refusal_of k w (too_deep p)) l ∙ h
stopped n done e others w out_of_scope i a l h = absurd cc

pub given_stops : (n : ℕ) (all rest others : List ScopedModule) (m : ScopedModule) (done : List (Vec OutItem)) (e : Env) (i : ℕ) (f : BuildFault) → AreGiven n all done e rest → rest ≡ m ∷ others → i ≡ length done → IsRefused n e (module_of m).items i f
    → IsBuildFault (λ a. by_rules (given_modules n nothing (map module_of all)) ≡ Some a) f
given_stops n all rest others m done e i f s h at g =
    let many : length (items_of_each done) ≡ length done = length-map done (λ (items : Vec OutItem). map written items.items) in
    let here : length (items_of_each done) + 0 ≡ i = omega (arith, many, at) in
    fault_as (λ a. refusal_of i (stuck_at n e (module_of m).items) (items_of_source n e no_encodings (module_of m).items) ≡ Some a) (λ a. by_rules (given_modules n nothing (map module_of all)) ≡ Some a)
    (λ a k. ap by_rules (by_next n all rest others m done e s h) ∙ stopped n (items_of_each done) e others (stuck_at n e (module_of m).items) (items_of_source n e no_encodings (module_of m).items) i a here k) f g
