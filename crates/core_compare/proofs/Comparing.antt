-- The list of pairs, from the first to the answer.
use Rattle.std.proofs.Common.{◌≡◌, ℕ, zero, suc, ◌+◌, ◌<◌, ◌≤◌, List, [], ◌∷◌, ◌++◌, length, Option, Some, None, Ok, Err, sym, ◌∙◌, subst, refl, ap, arith}
use Rattle.std.specs.declared.result.Result.{Result}
use Rattle.std.specs.Option.{IsSome}
use Rattle.cdle_model.specs.declared.grammar.Sort.{Sort}
use Rattle.cdle_model.specs.Trees.{Tree}
use Rattle.cdle_model.specs.Steps.{IsSignature}
use Rattle.cdle_model.specs.Machine.{answered, spent, run}
use Rattle.cdle_model.specs.HeadForms.{deep}
use Rattle.cdle_model.specs.Comparison.{Pair, Answer, same, apart, halted, pairs, take_pair, move_pairs, move}
use Rattle.cdle_model.proofs.SameJoined.{compare-joined}
use Rattle.cdle_model.proofs.ApartNotJoined.{compare-apart}
use Rattle.core_reduce.specs.declared.value.Value.{Value}
use Rattle.core_reduce.specs.declared.reduce.Stop.{Stop}
use Rattle.core_reduce.specs.declared.reduce.Stop.TheVariants.{Spent, TooDeep, NoMemory}
use Rattle.cdle_model.proofs.Leads.{Leads, leads_one, leads_on}
use Rattle.core_compare.specs.declared.pairs.SidePair.{SidePair}
use Rattle.core_compare.specs.declared.comparison.Answer as declared
use Rattle.core_compare.specs.declared.comparison.Answer.TheVariants as a
use Rattle.core_compare.specs.Answers.{Answers, AnswersApart, MeetsPairs, MeetsCompare, AnswersSo, Decides}
use Rattle.core_compare.specs.Pairs.{IsComparable, AreComparable, stack, TurnOn, MeetsTurn}
use Rattle.core_compare.proofs.Ways.{spent_below, one_answer}
use Rattle.core_compare.proofs.Stacks.{comparable_pop, stack_append}

module _ (zs : List Sort) (s : List Tree) where
  -- so far, the list of pairs was reached
  pub record Comparing (ps : List Pair) (units : ℕ) (ds : List SidePair) (left : ℕ) : Type 0 where
    pub used : ℕ
    pub leads : Leads (move s) (pairs ps) used (pairs (stack [] ds))
    pub taken : units ≤ used + left
    pub comparable : AreComparable zs ds

  pub comparing_same : (ps : List Pair) (units : ℕ) (ds : List SidePair) (left : ℕ) → Comparing ps units ds left → ds ≡ [] → Answers s (pairs ps) same
  comparing_same ps units ds left c e = record {
    units = c.used;
    rest = 0;
    is = c.leads.runs c.used 0 (omega arith) ∙ ap (λ x. run (move s) 0 (pairs (stack [] x))) e;
  }

  -- the next pair
  module _ (ps : List Pair) (units : ℕ) (ds ys : List SidePair) (d : SidePair) (left : ℕ) (c : Comparing ps units ds left) (e : ds ≡ ys ++ d ∷ []) where
    popped : stack [] ds ≡ (d.left.tree, d.right.tree) ∷ stack [] ys
    popped = ap (stack []) e ∙ stack_append [] ys (d ∷ [])

    pub next_comparable : AreComparable zs ys × IsComparable zs d
    next_comparable = comparable_pop zs ys d (subst (AreComparable zs) e c.comparable)

    -- the pair is taken
    takes : Leads (move s) (pairs ps) (c.used + 1) (take_pair d.left.tree d.right.tree (stack [] ys))
    takes = leads_on (move s) _ _ _ c.used 1 c.leads (leads_one (move s) _ _ (ap move_pairs popped))

    pub comparing_spent : left ≡ 0 → run (move s) units (pairs ps) ≡ spent
    comparing_spent z =
        let f : run (move s) 0 (pairs (stack [] ds)) ≡ spent = ap (λ x. run (move s) 0 (pairs x)) popped in
        let t = c.taken in
        spent_below (move s) c.used (pairs ps) (move s (pairs ps)) refl (c.leads.runs c.used 0 (omega arith) ∙ f) units (omega arith)

    comparing_answers : (x : Answer) → Answers s (take_pair d.left.tree d.right.tree (stack [] ys)) x → Answers s (pairs ps) x
    comparing_answers x h = record {
      units = (c.used + 1) + h.units;
      rest = h.rest;
      is = takes.runs ((c.used + 1) + h.units) h.units refl ∙ h.is;
    }

    pub comparing_apart : (v w : Value) → AnswersApart s (take_pair d.left.tree d.right.tree (stack [] ys)) v w → AnswersApart s (pairs ps) v w
    comparing_apart v w h = record {
      left = h.left;
      right = h.right;
      class = h.class;
      left_is = h.left_is;
      right_is = h.right_is;
      answers = comparing_answers (apart h.left h.right) h.answers;
    }

    pub comparing_err : (new : List SidePair) (less last : ℕ) (z : Stop) → left ≡ less + 1 → MeetsTurn zs s d.left.tree d.right.tree ys new less last (Err z) → MeetsPairs s ps units (Err z)
    comparing_err new less last Spent t h =
        let k = c.taken in
        spent_below (move s) ((c.used + 1) + less) (pairs ps) (move s (pairs ps)) refl (takes.runs ((c.used + 1) + less) less refl ∙ h) units (omega arith)
    comparing_err new less last TooDeep t h = comparing_answers (halted deep) h
    comparing_err new less last NoMemory t h = tt

    pub comparing_on : (new : List SidePair) (less last : ℕ) → left ≡ less + 1 → TurnOn zs s d.left.tree d.right.tree ys new less last → Comparing ps units new last
    comparing_on new less last t h = record {
      used = (c.used + 1) + h.used;
      leads = leads_on (move s) _ _ _ (c.used + 1) h.used takes (record { runs = h.leads });
      taken = (let k = c.taken in let b = h.taken in omega arith);
      comparable = h.comparable next_comparable.0;
    }

pub answers_so : (s : List Tree) (l r : Tree) (units : ℕ) (o : Result declared.Answer Stop) → MeetsCompare s l r units o → AnswersSo s l r units o
answers_so s l r units (Ok a.Same) h = λ x rest e. one_answer s l r units h.units x same rest h.rest e h.is
answers_so s l r units (Ok (a.Apart v w)) h = λ x rest e.
    (h.left, h.right, h.class, one_answer s l r units h.answers.units x (apart h.left h.right) rest h.answers.rest e h.answers.is, h.left_is, h.right_is)
answers_so s l r units (Err Spent) h = λ x rest e. let c : answered x rest ≡ spent = sym e ∙ h in cc
answers_so s l r units (Err TooDeep) h = λ x rest e. one_answer s l r units h.units x (halted deep) rest h.rest e h.is
answers_so s l r units (Err NoMemory) h = tt

pub decides : (s : List Tree) → IsSignature s → (l r : Tree) (units : ℕ) (o : Result declared.Answer Stop) → MeetsCompare s l r units o → Decides s l r o
decides s g l r units (Ok a.Same) h = compare-joined s h.units l r h.rest h.is
decides s g l r units (Ok (a.Apart v w)) h = compare-apart s g h.answers.units l r h.left h.right h.answers.rest h.answers.is
decides s g l r units (Err e) h = tt

pub no_pairs : (xs : List SidePair) → length xs ≡ 0 → xs ≡ []
no_pairs [] e = refl
no_pairs (x ∷ xs) e = absurd (omega arith)

pub no_more : (n : ℕ) (r : Option SidePair) → (0 < n → IsSome r) → ((x : SidePair) → r ≡ Some x → ⊥) → n ≡ 0
no_more zero r h f = refl
no_more (suc n) None h f = let l : 0 < suc n = omega arith in let o : Option SidePair = None in let k : IsSome o = h l in cc
no_more (suc n) (Some x) h f = absurd (f x refl)
