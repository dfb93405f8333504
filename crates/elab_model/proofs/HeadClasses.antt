-- A step at the head of an annotated type keeps its class, its scope and that its erasure is defined.
use Rattle.std.proofs.Common.{List, subst}
use Rattle.cdle_model.specs.declared.grammar.Sort.{Sort}
use Rattle.cdle_model.specs.declared.grammar.Sort.TheVariants.{OfTerm, OfType}
use Rattle.cdle_model.specs.Trees.{Tree}
use Rattle.cdle_model.specs.Erasure.{HasErasure}
use Rattle.cdle_model.specs.Classes.{types, within}
use Rattle.cdle_model.specs.Steps.{Chain, done, next}
use Rattle.cdle_model.proofs.ClassSubstitution.{fits-closed}
use Rattle.elab_model.specs.HeadWritten.{Unfolding}
use Rattle.elab_model.specs.HeadSteps.{AtHead, unfolded, at_contracted, on_contracted, under_at, under_on}
use Rattle.elab_model.specs.Unknowns.{trivial, FitsOpen, fill_written}
use Rattle.elab_model.specs.Unfoldings.{IsSigned, UnfoldsSound}
use Rattle.elab_model.specs.SoundTrees.{Sound}
use Rattle.elab_model.proofs.SoundPuts.{sound-put}
use Rattle.elab_model.proofs.Trivial.{written-trivial, has-trivial, had-trivial}
use Rattle.elab_model.proofs.HeadChains.{step-filled}

module _ (xs : List Sort) (u : Unfolding) (w : UnfoldsSound xs u) where
  sound-step : (vs : List Sort) (p q : Tree) → AtHead u p q → Sound xs vs types p → Sound xs vs types q
  sound-step vs _ _ (unfolded {n = n} {p = p} e) h = let (x, y) = w n p e in (fits-closed xs xs vs (λ m z k. k) types p x, y)
  sound-step vs _ _ (at_contracted {b = b} {t = t}) h = sound-put xs vs OfTerm t b types tt (h.0.1, h.1.1) (h.0.0.1, h.1.0.1)
  sound-step vs _ _ (on_contracted {b = b} {a = a}) h = sound-put xs vs OfType a b types tt (h.0.1, h.1.1) (h.0.0.1, h.1.0.1)
  sound-step vs _ _ (under_at {a = a} {b = b} r) h = let (x, y) = sound-step vs a b r (h.0.0, h.1.0) in ((x, h.0.1), (y, h.1.1))
  sound-step vs _ _ (under_on {a = a} {b = b} r) h = let (x, y) = sound-step vs a b r (h.0.0, h.1.0) in ((x, h.0.1), (y, h.1.1))

  pub sound-chain : (vs : List Sort) {p q : Tree} → Chain (AtHead u) p q → Sound xs vs types p → Sound xs vs types q
  sound-chain vs done h = h
  sound-chain vs (next r k) h = sound-chain vs k (sound-step vs _ _ r h)

  -- the same where there are unknowns
  abbrev pub OpenWell : List Sort → Tree → Type 0
  OpenWell vs t = FitsOpen (within vs xs) types t × HasErasure t

  pub step-open : (s : List Tree) → IsSigned s u → (vs : List Sort) (p q : Tree) → AtHead u p q → OpenWell vs p → OpenWell vs q
  step-open s g vs p q r h =
      let k : Sound xs vs types (fill_written trivial p) = rw (written-trivial p) (h.0, has-trivial p h.1) in
      let l : Sound xs vs types (fill_written trivial q) = sound-step vs _ _ (step-filled s u g trivial p q r) k in
      let (x, y) = subst (Sound xs vs types) (written-trivial q) l in (x, had-trivial q y)

  pub chain-open : (s : List Tree) → IsSigned s u → (vs : List Sort) {p q : Tree} → Chain (AtHead u) p q → OpenWell vs p → OpenWell vs q
  chain-open s g vs done h = h
  chain-open s g vs (next r k) h = chain-open s g vs k (step-open s g vs _ _ r h)
