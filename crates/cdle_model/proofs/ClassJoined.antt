-- Two trees of a class that are joined are joined by trees of that class: they step to one tree, and each step keeps the class.
use Rattle.std.proofs.Common.{List}
use Rattle.cdle_model.specs.declared.grammar.Sort.{Sort}
use Rattle.cdle_model.specs.Trees.{Tree}
use Rattle.cdle_model.specs.Classes.{TreeClass, within, Fits}
use Rattle.cdle_model.specs.Steps.{IsSignature, Step, Chain, done, next, Linked, end, forth, Joined}
use Rattle.cdle_model.specs.Fitting.{IsErased, BodiesFit, StepWithin, JoinedWithin}
use Rattle.cdle_model.proofs.Rewriting.{linked-join, linked-turn}
use Rattle.cdle_model.proofs.Confluent.{joined-meets}
use Rattle.cdle_model.proofs.ClassKept.{step-fits}

module _ (vs xs : List Sort) (s : List Tree) (w : BodiesFit xs s) (c : TreeClass) (g : IsErased c) where
  chain-within : {a b : Tree} → Fits (within vs xs) c a → Chain (Step s) a b → Linked (StepWithin vs xs c s) a b
  chain-within h done = end
  chain-within {a = a} h (next {b = e} r k) = let f = step-fits xs s w vs c a e g r h in forth (r, h, f) (chain-within f k)

  pub joined-within : IsSignature s → (a b : Tree) → Fits (within vs xs) c a → Fits (within vs xs) c b → Joined s a b → JoinedWithin vs xs c s a b
  joined-within i a b h k j = let (d, x, y) = joined-meets s i j in linked-join (chain-within h x) (linked-turn (chain-within k y))
