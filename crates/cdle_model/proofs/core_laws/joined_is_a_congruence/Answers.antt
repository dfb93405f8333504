use Rattle.cdle_model.specs.Steps.{end}
use Rattle.cdle_model.proofs.Rewriting.{linked-join, linked-turn}
use Rattle.cdle_model.proofs.Equality.{joined_fun, joined_apply, joined_bind, joined_unary, joined_binary, joined-shift, joined-put}
use Rattle.cdle_model.proofs.core_laws.joined_is_a_congruence.Goals as goal

pub returns : goal.returns
returns c = record {
  itself = λ s a. end;
  turned = λ s a b h. linked-turn h;
  chained = λ s a b d h k. linked-join h k;
  unaries = λ s j p q h. joined_unary h;
  functions = λ s d p q h. joined_fun h;
  applications = λ s d p q a b h k. joined_apply h k;
  binaries = λ s j p q a b h k. joined_binary h k;
  binders = λ s f p q a b h k. joined_bind h k;
  shifted = λ s g from by p q h. joined-shift s g from by h;
  put = λ s g at a b p q h k. joined-put s g at h k;
}
