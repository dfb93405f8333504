-- What has been checked has an erasure, and what was found is in its class.
use Rattle.std.proofs.Common.{ℕ, List, Ok, subst}
use Rattle.cdle_model.specs.Trees.{Tree}
use Rattle.cdle_model.specs.Forms.{Written}
use Rattle.cdle_model.specs.Classes.{AreScoped, Fits, item_sorts, within}
use Rattle.cdle_model.specs.Derivation.{Entry, Judgement, bodies, signature}
use Rattle.cdle_model.specs.Erasure.{HasErasure}
use Rattle.cdle_model.specs.Fitting.{ContextFits, HaveErasures, entry_sorts, given_class, subject_class}
use Rattle.cdle_model.specs.Check.{infer}
use Rattle.cdle_model.proofs.ClassChecked.{FindingSound, IsFound, answer-sound, sound}
use Rattle.cdle_model.proofs.ClassItems.{items-fit}
use Rattle.core_rules.specs.Questions.{Meets}

pub kept : (es : List Written) → AreScoped es → HaveErasures es → (n : ℕ) (j : Judgement) (c : List Entry) (t a : Tree) → ContextFits (item_sorts es) c → Fits (within (entry_sorts c) (item_sorts es)) (subject_class j) t
    → Meets es n (infer (signature es) j c t) (Ok a) → HasErasure t × Fits (within (entry_sorts c) (item_sorts es)) (given_class j) a
unfolding Meets
kept es g h n j c t a k f (m, e) =
    let w = items-fit es g h in
    subst (FindingSound (IsFound (item_sorts es) (signature es) w (entry_sorts c) j t)) e
    (answer-sound (item_sorts es) (bodies (signature es)) w.bodies_fit m (IsFound (item_sorts es) (signature es) w (entry_sorts c) j t) (infer (signature es) j c t) (sound (item_sorts es) (signature es) w j c t k f))
