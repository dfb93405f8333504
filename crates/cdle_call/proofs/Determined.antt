-- Words and files determine one outcome, or spend the plain check.
use Rattle.std.proofs.Common.{◌≡◌, ◌∙◌, ◌⊎◌, inl, inr, [], Option, Some, None, refl, sym}
use Rattle.cdle_folder.specs.Files.{Files}
use Rattle.cdle_words.specs.Words.{Command, build, core}
use Rattle.build_outcome.specs.declared.outcome.Outcome.{Outcome}
use Rattle.build_outcome.specs.declared.outcome.Outcome.TheVariants as outcome
use Rattle.build_drive.proofs.OneBuild as build_law
use Rattle.build_drive.proofs.OneOutcome.{not_spent, one_outcome, outcome_or_spent}
use Rattle.cdle_call.specs.Work.{IsDetermined, IsSpentOver}

pub determined_or_spent : (command : Option Command) (f : Files) → ((o : Outcome) × IsDetermined command f o) ⊎ IsSpentOver command f
determined_or_spent None f = inl (outcome.Usage, refl)
determined_or_spent (Some (core files n)) f = elim (outcome_or_spent n f files) [
  | inl d ↦ inl (d.1, (d.0, d.2, d.3))
  | inr spent ↦ inr spent
]
determined_or_spent (Some (build name n)) f = build_law.determined_or_spent n f name

pub one_determined : (command : Option Command) (f : Files) (o p : Outcome) → IsDetermined command f o → IsDetermined command f p → o ≡ p
one_determined None f o p h g = h ∙ sym g
one_determined (Some (core files n)) f o p h g = one_outcome n f files h.0 g.0 o p h.1 g.1 h.2 g.2
one_determined (Some (build name n)) f o p h g = build_law.one_determined n f name o p h g

pub none_determined : (command : Option Command) (f : Files) (o : Outcome) → IsSpentOver command f → IsDetermined command f o → ⊥
none_determined None f o spent h = absurd spent
none_determined (Some (core files n)) f o spent h = not_spent n f [] files h.0 o spent.0 h.1 h.2 spent.1 spent.2 spent.3 spent.4
none_determined (Some (build name n)) f o spent h = build_law.not_spent n f name o spent h
