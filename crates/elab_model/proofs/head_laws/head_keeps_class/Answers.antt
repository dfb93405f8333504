use Rattle.cdle_model.specs.Classes.{item_sorts}
use Rattle.cdle_model.specs.Derivation.{bodies, signature}
use Rattle.elab_model.specs.HeadWritten.{all_but}
use Rattle.elab_model.proofs.HeadChains.{head-chain}
use Rattle.elab_model.proofs.HeadClasses.{chain-open, sound-chain}
use Rattle.elab_model.proofs.DerivedBodies.{bodies-signed, bodies-sound}
use Rattle.elab_model.proofs.head_laws.head_keeps_class.Goals as goal

pub returns : goal.returns
returns c = record {
  with_unknowns = λ ws g i vs t f k kept n h left e.
      chain-open (item_sorts ws) (all_but kept ws) (bodies-sound ws g i kept) (bodies (signature ws)) (bodies-signed ws g kept) vs (head-chain (all_but kept ws) n t h left e) (f, k);
  whole = λ ws g i vs t f k kept n h left e. sound-chain (item_sorts ws) (all_but kept ws) (bodies-sound ws g i kept) vs (head-chain (all_but kept ws) n t h left e) (f, k);
}
