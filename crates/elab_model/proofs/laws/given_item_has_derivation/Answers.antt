use Rattle.std.specs.Prelude.{◌≡◌}
use Rattle.cdle_model.specs.Derivation.{bodies, signature}
use Rattle.cdle_model.specs.Steps.{Joined}
use Rattle.elab_model.specs.Soundness.{no_encodings}
use Rattle.elab_model.proofs.Alike.{fit-none, like-equal, like-joined}
use Rattle.elab_model.proofs.GivenItems.{item-given}
use Rattle.elab_model.proofs.laws.given_item_has_derivation.Goals as goal

pub returns : goal.returns
returns c = record {
  equal = λ e g v i h n w x. item-given e no_encodings g v (fit-none e) (λ a b. a ≡ b) like-equal i h n w x;
  joined = λ e f g v w k i h n x y. item-given e f g v w (Joined (bodies (signature e.items))) (like-joined e g f k) i h n x y;
}
