-- A pair that was taken: its head forms, and what becomes of them.
use Rattle.std.proofs.Common.{◌≡◌, ℕ, ◌+◌, ◌≤◌, false, List, [], Err, sym, ◌∙◌, subst, refl, ap, arith}
use Rattle.cdle_model.specs.declared.grammar.Sort.{Sort}
use Rattle.cdle_model.specs.Trees.{Tree}
use Rattle.cdle_model.specs.Classes.{within, Fits}
use Rattle.cdle_model.specs.Fitting.{BodiesFit}
use Rattle.cdle_model.specs.Machine.{stop, answered, spent, run}
use Rattle.cdle_model.specs.HeadForms.{deep}
use Rattle.cdle_model.specs.Comparison.{Pair, differ, split, apart, halted, pairs, taken, same_name, take_pair, move_pairs, move_split, move}
use Rattle.cdle_model.proofs.Runs.{stops}
use Rattle.cdle_model.proofs.ClassSteps.{HeadFits, head-fits}
use Rattle.core_reduce.specs.declared.side.SideClass.{SideClass}
use Rattle.core_reduce.specs.declared.value.Value.{Value}
use Rattle.core_reduce.specs.declared.reduce.Stop.{Stop}
use Rattle.core_reduce.specs.declared.reduce.Stop.TheVariants.{Spent, TooDeep, NoMemory}
use Rattle.core_reduce.specs.Sides.{class_trees}
use Rattle.core_reduce.specs.Values.{value_tree}
use Rattle.core_reduce.specs.Heads.{IsHeadForm, MeetsHead}
use Rattle.core_reduce.proofs.Going.{erased_class}
use Rattle.cdle_model.proofs.Leads.{Leads, leads_on}
use Rattle.core_compare.specs.declared.pairs.SidePair.{SidePair}
use Rattle.core_compare.specs.Answers.{ArePlaced, AnswersApart}
use Rattle.core_compare.specs.Pairs.{most, stack, IsForm, AreForms, SettledInto, TurnOn, MeetsTurn}
use Rattle.core_compare.proofs.Ways.{leads_free, spent_below}
use Rattle.core_compare.proofs.Reaching.{on_left, on_right, both_still, Reaches, head_reaches, head_spends, head_deepens}

module _ (zs : List Sort) (s : List Tree) where
  -- a head form is reached, with the units taken at most those that plain head reduction takes
  record Found (t : Tree) (units left : ℕ) (v : Tree) : Type 0 where
    used : ℕ
    reaches : Reaches s t used v
    taken_most : units ≤ used + left

  found : (k : SideClass) (t : Tree) (units left : ℕ) (v : Value) → (h : IsHeadForm s k t units left v) → Found t units left h.form
  found k t units left v h =
      let f = head_reaches s (h.used + h.rest) t h.form h.rest h.is in
      record { used = f.used; reaches = f.reaches; taken_most = (let a = f.total in let b = h.taken in omega arith) }

  takes_pair : (l r : Tree) (ps : List Pair) → same_name l r ≡ false → take_pair l r ps ≡ taken l r ps
  takes_pair l r ps e = rw e refl

  pub left_err : (k : SideClass) (l r : Tree) (old new : List SidePair) (units left : ℕ) (z : Stop) → same_name l r ≡ false → MeetsHead s k l units left (Err z)
      → MeetsTurn zs s l r old new units left (Err z)
  left_err k l r old new units left Spent e h =
      subst (λ z. run (move s) units z ≡ spent) (sym (takes_pair l r (stack [] old) e))
      (head_spends s units l (λ t. taken t r (stack [] old)) (on_left s r (stack [] old)) h)
  left_err k l r old new units left TooDeep e h = record {
    units = h.units;
    rest = h.rest;
    is = subst (λ z. run (move s) h.units z ≡ answered (halted deep) h.rest) (sym (takes_pair l r (stack [] old) e))
        (head_deepens s h.units l (λ t. taken t r (stack [] old)) (on_left s r (stack [] old)) h.rest h.is);
  }
  left_err k l r old new units left NoMemory e h = tt

  pub right_err : (k c : SideClass) (l r : Tree) (v : Value) (old new : List SidePair) (units mid left : ℕ) (z : Stop) → same_name l r ≡ false → IsHeadForm s k l units mid v
      → MeetsHead s c r mid left (Err z) → MeetsTurn zs s l r old new units left (Err z)
  right_err k c l r v old new units mid left z e i h = by_stop z h
    where
      ps : List Pair
      ps = stack [] old

      f : Found l units mid i.form
      f = found k l units mid v i

      leads : Leads (move s) (taken l r ps) f.used (taken i.form r ps)
      leads = f.reaches.within (λ t. taken t r ps) (on_left s r ps)

      by_stop : (z : Stop) → MeetsHead s c r mid left (Err z) → MeetsTurn zs s l r old new units left (Err z)
      by_stop Spent h =
          let b : run (move s) mid (taken i.form r ps) ≡ spent = head_spends s mid r (λ t. taken i.form t ps) (on_right s i.form ps f.reaches.is_still) h in
          subst (λ z. run (move s) units z ≡ spent) (sym (takes_pair l r ps e))
          (spent_below (move s) (f.used + mid) (taken l r ps) (move s (taken l r ps)) refl (leads.runs (f.used + mid) mid refl ∙ b) units f.taken_most)
      by_stop TooDeep h =
          let b : run (move s) h.units (taken i.form r ps) ≡ answered (halted deep) h.rest =
          head_deepens s h.units r (λ t. taken i.form t ps) (on_right s i.form ps f.reaches.is_still) h.rest h.is in
          record {
            units = f.used + h.units;
            rest = h.rest;
            is = subst (λ z. run (move s) (f.used + h.units) z ≡ answered (halted deep) h.rest) (sym (takes_pair l r ps e)) (leads.runs (f.used + h.units) h.units refl ∙ b);
          }
      by_stop NoMemory h = tt

  -- both head forms were made
  module _ (k : SideClass) (l r : Tree) (v w : Value) (units mid left : ℕ) (e : same_name l r ≡ false) (i : IsHeadForm s k l units mid v) (j : IsHeadForm s k r mid left w) where
    f : Found l units mid i.form
    f = found k l units mid v i

    g : Found r mid left j.form
    g = found k r mid left w j

    both : (ps : List Pair) → Leads (move s) (take_pair l r ps) (f.used + g.used) (taken i.form j.form ps)
    both ps =
        subst (λ z. Leads (move s) z (f.used + g.used) (taken i.form j.form ps)) (sym (takes_pair l r ps e))
        (leads_on (move s) _ _ _ f.used g.used (f.reaches.within (λ t. taken t r ps) (on_left s r ps)) (g.reaches.within (λ t. taken i.form t ps) (on_right s i.form ps f.reaches.is_still)))

    left_form : IsForm k v
    left_form = (i.stands.0, i.stands.2)

    right_form : IsForm k w
    right_form = (j.stands.0, j.stands.2)

    split_is : split (value_tree k v) (value_tree k w) ≡ split i.form j.form
    split_is = ap (λ t. split t (value_tree k w)) i.stands.1 ∙ ap (split i.form) j.stands.1

    placed : BodiesFit zs s → (n : ℕ) → ArePlaced n zs (class_trees k) l r → ArePlaced n zs (class_trees k) (value_tree k v) (value_tree k w)
    placed b n p = record {
      sorts = p.sorts;
      few = p.few;
      left = subst (Fits (within p.sorts zs) (class_trees k)) (sym i.stands.1)
          (subst (HeadFits zs s b p.sorts (class_trees k)) i.is (head-fits zs s b (i.used + i.rest) p.sorts (class_trees k) l (erased_class k) p.left));
      right = subst (Fits (within p.sorts zs) (class_trees k)) (sym j.stands.1)
          (subst (HeadFits zs s b p.sorts (class_trees k)) j.is (head-fits zs s b (j.used + j.rest) p.sorts (class_trees k) r (erased_class k) p.right));
    }

    pub forms : BodiesFit zs s → (n : ℕ) → n ≤ 40000000 → ArePlaced (most n) zs (class_trees k) l r → AreForms n v w
    forms b n m p = record { class = k; left = left_form; right = right_form; few = m; items = zs; placed = placed b (most n) p }

    pub turn_apart : (old : List SidePair) → ((k : SideClass) → IsForm k v → IsForm k w → split (value_tree k v) (value_tree k w) ≡ differ) → AnswersApart s (take_pair l r (stack [] old)) v w
    turn_apart old h =
        let ps = stack [] old in
        let p : split i.form j.form ≡ differ = sym split_is ∙ h k left_form right_form in
        let m : move s (taken i.form j.form ps) ≡ stop (apart i.form j.form) =
        both_still s i.form j.form ps f.reaches.is_still g.reaches.is_still ∙ ap (λ z. move_split z i.form j.form ps) p in
        record {
          left = i.form;
          right = j.form;
          class = k;
          left_is = i.stands;
          right_is = j.stands;
          answers = record {
            units = f.used + g.used;
            rest = 0;
            is = (both ps).runs (f.used + g.used) 0 (omega arith) ∙ stops (move s) (taken i.form j.form ps) (apart i.form j.form) m 0;
          };
        }

    pub turn_on : BodiesFit zs s → (n : ℕ) (old new : List SidePair) → ArePlaced (most n) zs (class_trees k) l r → SettledInto n v w old new → TurnOn zs s l r old new units left
    turn_on b n old new p h =
        let ps = stack [] old in
        let (qs, q, o) = h.parts k left_form right_form in
        let m : move s (taken i.form j.form ps) ≡ move s (pairs (stack [] new)) =
        both_still s i.form j.form ps f.reaches.is_still g.reaches.is_still ∙ (ap (λ z. move_split z i.form j.form ps) (sym split_is ∙ q) ∙ ap move_pairs o) in
        record {
          used = (f.used + g.used) + 0;
          leads = (leads_on (move s) _ _ _ (f.used + g.used) 0 (both ps) (leads_free (move s) (taken i.form j.form ps) (pairs (stack [] new)) m)).runs;
          taken = (let a = f.taken_most in let c = g.taken_most in omega arith);
          comparable = h.comparable k zs left_form right_form (placed b (most n) p);
        }
