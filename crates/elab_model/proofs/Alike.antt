-- What the erasure of what is given is like: the source's erasure, or joined with it; or no more than an erasure.
use Rattle.std.proofs.Common.{◌≡◌, refl, ap, ap₂, arith}
use Rattle.cdle_model.specs.Trees.{Tree, fun, apply, bind}
use Rattle.cdle_model.specs.Classes.{item_sorts}
use Rattle.cdle_model.specs.Erasure.{lowered}
use Rattle.cdle_model.specs.Steps.{end, Joined}
use Rattle.cdle_model.specs.Derivation.{bodies, signature}
use Rattle.cdle_model.proofs.Equality.{joined_fun, joined_apply, joined_bind, joined-put}
use Rattle.cdle_model.proofs.ClassItems.{items-signature}
use Rattle.elab_model.specs.Questions.{Env}
use Rattle.elab_model.specs.SourceErasure.{Encodings}
use Rattle.elab_model.specs.Soundness.{EnvSound, EncodingsFit, AreEncodings, no_encodings}
use Rattle.elab_model.proofs.GivenSpines.{IsLike}
use Rattle.elab_model.proofs.GivenSpines.{IsLike}

pub like-equal : IsLike no_encodings (λ a b. a ≡ b)
like-equal = record {
  itself = λ a. refl;
  functions = λ c p q h. ap (fun c) h;
  applications = λ c p q a b h k. ap₂ (apply c) h k;
  binders = λ d p q a b h k. ap₂ (bind d) h k;
  lowers = λ p q h. ap lowered h;
  encodings = λ n p h. absurd (grind arith);
}

pub fit-none : (e : Env) → EncodingsFit (item_sorts e.items) no_encodings
fit-none e n p h = absurd (grind arith)

pub like-joined : (e : Env) → EnvSound e → (f : Encodings) → AreEncodings e f → IsLike f (Joined (bodies (signature e.items)))
like-joined e g f w = record {
  itself = λ a. end;
  functions = λ c p q h. joined_fun h;
  applications = λ c p q a b h k. joined_apply h k;
  binders = λ d p q a b h k. joined_bind h k;
  lowers = λ p q h. joined-put (bodies (signature e.items)) (items-signature e.items g.items) 0 end h;
  encodings = w;
}

-- everything is like everything: for the classes alone
abbrev pub Any : Tree → Tree → Type 0
Any a b = Unit {0}

pub like-any : (f : Encodings) → IsLike f Any
like-any f = record {
  itself = λ a. tt;
  functions = λ c p q h. tt;
  applications = λ c p q a b h k. tt;
  binders = λ d p q a b h k. tt;
  lowers = λ p q h. tt;
  encodings = λ n p h. tt;
}
