-- What the search for an instance answers.
use Rattle.std.specs.Prelude.{◌≡◌, ℕ, Bool, true, false, cond, [], ◌∷◌, ◌++◌, Option, Some, None, Result, Ok, Err}
use Rattle.cdle_model.specs.Trees.{Tree}
use Rattle.elab_model.specs.Instances as model
use Rattle.elab_model.specs.Instances.{Solution, mentions, first_place, part_outside, asked}
use Rattle.elab_match.specs.declared.place.Part.{Part}

-- true where there is a solution, which is the new one; false where there is none, and then, and after want of memory, the solution stays
abbrev pub Finds : {E : Type 0} → Option Solution → Solution → Solution → Result Bool E → Type 0
Finds (Some s) before after (Ok true) = after ≡ s
Finds None before after (Ok false) = after ≡ before
Finds o before after (Err e) = after ≡ before
Finds o before after r = ⊥

-- what stands for an unknown that has or has not been found: nothing at all where the pattern has it and there is no part for it
abbrev pub standing : ℕ → Option Tree → Tree → Tree → Option (Option Tree)
standing n (Some a) p t = Some (Some a)
standing n None p t = cond (mentions n p) (asked (part_outside (first_place n 0 p t))) (Some None)

-- what stands for the next unknown was put, or there is nothing
abbrev pub Extends : Option (Option Tree) → Solution → Solution → Bool → Type 0
Extends (Some o) before after true = after ≡ before ++ o ∷ []
Extends None before after false = after ≡ before
Extends o before after b = ⊥

-- the part, with the binders over it
abbrev pub IsPart : Option model.Part → Option Part → Type 0
IsPart (Some x) (Some y) = (x.binders ≡ y.binders) × (x.tree ≡ y.ty.now)
IsPart None None = Unit {0}
IsPart x y = ⊥
