-- The way of head reduction from a tree to its head form.
use Rattle.std.proofs.Common.{◌≡◌, inl, inr, ℕ, ◌+◌, List, Ok, Err, sym, ◌∙◌, subst, refl, arith}
use Rattle.std.specs.declared.result.Result.{Result}
use Rattle.cdle_model.specs.declared.grammar.Sort.{Sort}
use Rattle.cdle_model.specs.Trees.{Tree}
use Rattle.cdle_model.specs.Steps.{Step}
use Rattle.cdle_model.specs.Fitting.{BodiesFit, IsErased}
use Rattle.cdle_model.specs.Machine.{answered, spent, run}
use Rattle.cdle_model.specs.HeadForms.{deep, HeadStep, none, to, blocked, head_step, at, fallen, value, no_value, head_move, head_form}
use Rattle.cdle_model.proofs.Runs.{stops, goes}
use Rattle.cdle_model.proofs.SameJoined.{Moves, move-moves}
use Rattle.cdle_model.proofs.ClassKept.{step-fits}
use Rattle.core_reduce.specs.declared.root.Root.{Root}
use Rattle.core_reduce.specs.declared.root.Arg.{Arg}
use Rattle.core_reduce.specs.declared.side.SideClass.{SideClass}
use Rattle.core_reduce.specs.declared.side.SideClass.TheVariants.{OfPure, OfType, OfKind}
use Rattle.core_reduce.specs.declared.value.Value.{Value}
use Rattle.core_reduce.specs.declared.reduce.Stop.{Stop}
use Rattle.core_reduce.specs.declared.reduce.Stop.TheVariants.{Spent, TooDeep, NoMemory}
use Rattle.core_reduce.specs.Sides.{IsPlaced, class_trees, root_class, root_tree, spine}
use Rattle.core_reduce.specs.Values.{StandsFor}
use Rattle.core_reduce.specs.Heads.{IsHeadForm, MeetsHead, HeadSo, MeetsStep}
use Rattle.cdle_model.proofs.Leads.{Leads, leads_one, leads_on, one_head}

pub erased_class : (k : SideClass) → IsErased (class_trees k)
erased_class OfPure = tt
erased_class OfType = tt
erased_class OfKind = tt

module _ (xs : List Sort) (s : List Tree) (k : SideClass) where
  -- a step keeps the place
  pub placed_step : BodiesFit xs s → (m : ℕ) (a b : Tree) → head_step s a ≡ to b → IsPlaced m xs (class_trees k) a → IsPlaced m xs (class_trees k) b
  placed_step w m a b e g = record {
    sorts = g.sorts;
    few = g.few;
    fits = (let r : Step s a b = subst (Moves s a) e (move-moves s a) in step-fits xs s w g.sorts (class_trees k) a b (erased_class k) r g.fits);
  }

  -- so far, the head with its arguments was reached
  pub record Going (m : ℕ) (t : Tree) (old : ℕ) (h : Root) (ys : List Arg) (left : ℕ) : Type 0 where
    pub class : root_class h ≡ k
    pub used : ℕ
    pub total : used + left ≡ old
    pub leads : Leads (head_move s) (at t) used (at (spine (root_tree h) ys))
    pub placed : IsPlaced m xs (class_trees k) (spine (root_tree h) ys)

  pub going_on : BodiesFit xs s → (m : ℕ) (t : Tree) (old : ℕ) (h r : Root) (ys zs : List Arg) (left less : ℕ) → Going m t old h ys left → MeetsStep s k (root_tree h) ys left zs less (Ok r)
      → Going m t old r zs less
  going_on w m t old h r ys zs left less g (c, inl u) = record {
    class = c;
    used = g.used;
    total = (let a = g.total in let b = u.units in omega arith);
    leads = subst (λ z. Leads (head_move s) (at t) g.used (at z)) (sym u.is) g.leads;
    placed = subst (IsPlaced m xs (class_trees k)) (sym u.is) g.placed;
  }
  going_on w m t old h r ys zs left less g (c, inr u) = record {
    class = c;
    used = g.used + 1;
    total = (let a = g.total in let b = u.units in omega arith);
    leads = (let e = u.is in leads_on (head_move s) _ _ _ g.used 1 g.leads (leads_one (head_move s) (at (spine (root_tree h) ys)) (at (spine (root_tree r) zs)) (rw e refl)));
    placed = placed_step w m (spine (root_tree h) ys) (spine (root_tree r) zs) u.is g.placed;
  }

  pub going_form : (m : ℕ) (t : Tree) (old : ℕ) (h : Root) (ys : List Arg) (left : ℕ) (x : Value) → Going m t old h ys left → head_step s (spine (root_tree h) ys) ≡ none
      → StandsFor k x (spine (root_tree h) ys) → IsHeadForm s k t old left x
  going_form m t old h ys left x g e q = record {
    form = spine (root_tree h) ys;
    stands = q;
    used = g.used;
    rest = left;
    is = g.leads.runs (g.used + left) left refl ∙ stops (head_move s) (at (spine (root_tree h) ys)) (value (spine (root_tree h) ys)) (rw e refl) left;
    taken = (let q = g.total in omega arith);
  }

  halted : (t : Tree) (e : HeadStep) → head_step s t ≡ e → (e ≡ none → ⊥) → run (head_move s) 0 (at t) ≡ spent
  halted t none e n = absurd (n refl)
  halted t (to u) e n = rw (e, run) refl
  halted t (blocked z) e n = rw (e, run) refl

  pub going_err : (m : ℕ) (t : Tree) (old : ℕ) (h : Root) (ys zs : List Arg) (left less : ℕ) (stop : Stop) → Going m t old h ys left
      → MeetsStep s k (root_tree h) ys left zs less (Err stop) → MeetsHead s k t old less (Err stop)
  going_err m t old h ys zs left less Spent g u =
      let a = g.total in let b = u.units in
      g.leads.runs old 0 (omega arith) ∙ halted (spine (root_tree h) ys) (head_step s (spine (root_tree h) ys)) refl u.is
  going_err m t old h ys zs left less TooDeep g u =
      let e = u.0 in
      record {
        units = g.used + 1;
        rest = 0;
        is = g.leads.runs (g.used + 1) 1 refl ∙ (goes (head_move s) (at (spine (root_tree h) ys)) (fallen deep) (rw e refl) 0 ∙ refl);
      }
  going_err m t old h ys zs left less NoMemory g u = tt

pub head_so : (s : List Tree) (k : SideClass) (t : Tree) (units new : ℕ) (o : Result Value Stop) → MeetsHead s k t units new o → HeadSo s k t units o
head_so s k t units new (Ok v) h = λ x rest e. (h.form, one_head s t units (h.used + h.rest) x (value h.form) rest h.rest e h.is, h.stands)
head_so s k t units new (Err Spent) h = λ x rest e. let c : answered x rest ≡ spent = sym e ∙ h in cc
head_so s k t units new (Err TooDeep) h = λ x rest e. one_head s t units h.units x (no_value deep) rest h.rest e h.is
head_so s k t units new (Err NoMemory) h = tt

-- a tree without a step is its own head form
pub still_form : (s : List Tree) (k : SideClass) (t : Tree) (units : ℕ) (v : Value) → head_step s t ≡ none → StandsFor k v t → IsHeadForm s k t units units v
still_form s k t units v e h = record {
  form = t;
  stands = h;
  used = 0;
  rest = units;
  is = (let q : units ≡ 0 + units = omega arith in subst (λ n. head_form s n t ≡ answered (value t) units) q (stops (head_move s) (at t) (value t) (rw e refl) units));
  taken = omega arith;
}
