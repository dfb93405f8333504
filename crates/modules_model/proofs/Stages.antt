-- What modules come to, stage after stage.
use Rattle.std.proofs.Common.{◌≡◌, ℕ, List, [], Option, Some, None, Result, Ok, Err, refl, subst}
use Rattle.cdle_model.specs.Forms.{Written}
use Rattle.source_model.specs.Source.{Module, Span}
use Rattle.scope_model.specs.Scope.{ScopeFault}
use Rattle.scope_model.specs.ScopeNames.{Text}
use Rattle.scope_model.specs.Scoped.{ScopedModule}
use Rattle.elab_model.specs.Questions.{Finding, found, rejected, spent_at, too_deep, out_of_scope}
use Rattle.print_model.specs.PrintedFiles.{all_items}
use Rattle.modules_model.specs.AllBuilt.{AreCoresOf, AreDifferent, AreSaid}
use Rattle.modules_model.specs.ModuleTexts.{Stuck, TextsAnswer, all_given, by_count, by_forms, by_rules, by_scope, by_texts, given_modules, nothing, past_limit, printed_files, refusal_of, scoped_modules, texts_answer, unbuilt_modules}
use Rattle.modules_model.proofs.Given.{IsReason, AreTold, none_known, told}
use Rattle.modules_model.proofs.Printed.{item_names, named, say_each}
use Rattle.modules_model.proofs.Standing.{nothing_stands}

-- ---- there is an answer

abbrev IsAnswered : Option TextsAnswer → Type 0
IsAnswered x = (a : TextsAnswer) × (x ≡ Some a)

reason_answered : (i : ℕ) (w : Text) (x : Finding (List Written)) → IsReason x → IsAnswered (refusal_of i w x)
reason_answered i w (found ws) h = absurd h
reason_answered i w (rejected p c) h = (_, refl)
reason_answered i w (spent_at p) h = (_, refl)
reason_answered i w (too_deep p) h = (_, refl)
reason_answered i w out_of_scope h = absurd h

rules_answered : (ms : List (Module Text)) (rs : List ScopedModule) (x : Result (List (List Written)) (ℕ × Stuck)) → AreTold [] ms rs x → IsAnswered (by_rules x)
rules_answered ms rs (Ok wss) h = (_, refl)
rules_answered ms rs (Err x) h = reason_answered x.0 x.1.item x.1.finding h

module _ (n : ℕ) (ms : List (Module Text)) (said : AreSaid ms) (differ : AreDifferent ms) where
  all_told : (rs : List ScopedModule) → scoped_modules [] ms ≡ Ok rs → unbuilt_modules rs ≡ None → AreTold [] ms rs (given_modules n nothing rs)
  all_told rs e u = told n ms [] nothing rs nothing_stands said differ (none_known ms) e u

  forms_answered : (rs : List ScopedModule) → scoped_modules [] ms ≡ Ok rs → (u : Option (ℕ × Span)) → unbuilt_modules rs ≡ u → IsAnswered (by_forms n rs u)
  forms_answered rs e (Some p) u = (_, refl)
  forms_answered rs e None u = rules_answered ms rs (given_modules n nothing rs) (all_told rs e u)

  scope_answered : (x : Result (List ScopedModule) (ℕ × ScopeFault)) → scoped_modules [] ms ≡ x → IsAnswered (by_scope n x)
  scope_answered (Ok rs) e = forms_answered rs e (unbuilt_modules rs) refl
  scope_answered (Err f) e = (_, refl)

  count_answered : (x : Option ℕ) → IsAnswered (by_count n ms x)
  count_answered (Some i) = (_, refl)
  count_answered None = scope_answered (scoped_modules [] ms) refl

pub modules_answered : (n : ℕ) (ms : List (Module Text)) → AreSaid ms → AreDifferent ms → (a : TextsAnswer) × (texts_answer n ms ≡ Some a)
modules_answered n ms said differ = count_answered n ms said differ (past_limit 0 ms)

-- ---- texts that are given

module _ (wss : List (List Written)) (texts : List (List ℕ)) where
  abbrev Gives : Option TextsAnswer → Type 0
  Gives x = x ≡ Some (all_given wss texts)

  texts_given : (us : List (List Written)) (x : Result (List (List ℕ)) Text) → by_texts us x ≡ all_given wss texts → (us ≡ wss) × (x ≡ Ok texts)
  texts_given us (Ok ts) e = (cc, cc)
  texts_given us (Err w) e = absurd cc

  reason_gives : (i : ℕ) (w : Text) (x : Finding (List Written)) → Gives (refusal_of i w x) → ⊥
  reason_gives i w (found ws) e = absurd cc
  reason_gives i w (rejected p c) e = absurd cc
  reason_gives i w (spent_at p) e = absurd cc
  reason_gives i w (too_deep p) e = absurd cc
  reason_gives i w out_of_scope e = absurd cc

  rules_given : (x : Result (List (List Written)) (ℕ × Stuck)) → Gives (by_rules x) → (x ≡ Ok wss) × (printed_files [] wss ≡ Ok texts)
  rules_given (Ok us) e =
      let same : by_texts us (printed_files [] us) ≡ all_given wss texts = cc in
      let h = texts_given us (printed_files [] us) same in
      (let i = h.0 in cc, subst (λ vs. printed_files [] vs ≡ Ok texts) h.0 h.1)
  rules_given (Err x) e = absurd (reason_gives x.0 x.1.item x.1.finding e)

  module _ (n : ℕ) where
    forms_given : (rs : List ScopedModule) (u : Option (ℕ × Span)) → Gives (by_forms n rs u) → (u ≡ None) × Gives (by_rules (given_modules n nothing rs))
    forms_given rs (Some p) e = absurd cc
    forms_given rs None e = (refl, e)

    scope_given : (x : Result (List ScopedModule) (ℕ × ScopeFault)) → Gives (by_scope n x) → (rs : List ScopedModule) × (x ≡ Ok rs) × Gives (by_forms n rs (unbuilt_modules rs))
    scope_given (Ok rs) e = (rs, refl, e)
    scope_given (Err f) e = absurd cc

    count_given : (ms : List (Module Text)) (x : Option ℕ) → Gives (by_count n ms x) → Gives (by_scope n (scoped_modules [] ms))
    count_given ms (Some i) e = absurd cc
    count_given ms None e = e

pub given_texts : (n : ℕ) (ms : List (Module Text)) (wss : List (List Written)) (texts : List (List ℕ)) → AreSaid ms → AreDifferent ms → texts_answer n ms ≡ Some (all_given wss texts) → AreCoresOf ms wss texts
given_texts n ms wss texts said differ e =
    let (rs, scope, forms) = scope_given wss texts n (scoped_modules [] ms) (count_given wss texts n ms (past_limit 0 ms) e) in
    let (built, rules) = forms_given wss texts n rs (unbuilt_modules rs) forms in
    let (given, printed) = rules_given wss texts (given_modules n nothing rs) rules in
    let g = subst (AreTold [] ms rs) given (all_told n ms said differ rs scope built) in
    record {
      scoped = rs;
      scope = scope;
      say = say_each [] wss texts (named [] (all_items wss) (item_names ms wss said g.names) g.derived) g.scoped printed;
      names = g.names;
      erase = g.erase;
      derived = g.derived;
    }
