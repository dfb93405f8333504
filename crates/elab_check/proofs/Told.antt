-- What the recursion answers, as callers are told it.
use Rattle.std.proofs.Common.{ℕ, Ok, Err, sym, ap, ◌∙◌}
use Rattle.elab_model.specs.Questions.{Questions, rejected, spent_at, too_deep}
use Rattle.elab_tree.specs.Known.{Known}
use Rattle.scoped_tree.specs.Trees.{place}
use Rattle.elab_rules.specs.declared.fault.Fault.{Fault}
use Rattle.elab_rules.specs.declared.fault.Fault.TheVariants as r
use Rattle.elab_rules.specs.Answers.{Meets}
use Rattle.elab_check.specs.declared.fault.ElabFault.{ElabFault}
use Rattle.elab_check.specs.declared.fault.ElabFault.TheVariants as f
use Rattle.elab_check.specs.Answers.{Elaborates, IsTold}

module _ {A : Type 0} (k : Known) (n : ℕ) (q : Questions A) where
  pub elaborated : (x : A) → Meets k n q (Ok x) → Elaborates k n q (Ok x)
  unfolding Meets
  elaborated x h = h

  pub refused_so : (e : Fault) (d : ElabFault) → IsTold e d → Meets k n q (Err e) → Elaborates k n q (Err d)
  unfolding Meets
  refused_so e f.NoMemory t h = tt
  refused_so (r.Rejected p w) (f.Reject s v) (t, u) h = h ∙ (λ i. rejected (sym t i) (sym u i))
  refused_so (r.Undecided p) (f.Spent s) t h = h ∙ ap spent_at (sym t)
  refused_so (r.TooDeep p) (f.TooDeep s) t h = h ∙ ap (λ z. too_deep (place z)) (sym t)
  refused_so (r.Rejected p w) (f.Spent s) t h = absurd t
  refused_so (r.Rejected p w) (f.TooDeep s) t h = absurd t
  refused_so (r.Undecided p) (f.Reject s v) t h = absurd t
  refused_so (r.Undecided p) (f.TooDeep s) t h = absurd t
  refused_so (r.TooDeep p) (f.Reject s v) t h = absurd t
  refused_so (r.TooDeep p) (f.Spent s) t h = absurd t
  refused_so r.NoMemory (f.Reject s v) t h = absurd t
  refused_so r.NoMemory (f.Spent s) t h = absurd t
  refused_so r.NoMemory (f.TooDeep s) t h = absurd t
