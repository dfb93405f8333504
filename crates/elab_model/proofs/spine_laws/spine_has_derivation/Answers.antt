use Rattle.cdle_model.specs.Derivation.{signature}
use Rattle.elab_model.specs.HeadWritten.{all_but}
use Rattle.elab_model.proofs.HeadChains.{head-chain}
use Rattle.elab_model.proofs.DerivedBodies.{items-closed, bodies-signed, bodies-kinded}
use Rattle.elab_model.proofs.OpenSpines.{spine-begins, spine-headed, spine-left_out, spine-kept, spine-erased, spine-type, argument-checked, argument-fits, spine-found, spine-filled, spine-ends, so_far-agrees}
use Rattle.elab_model.proofs.spine_laws.spine_has_derivation.Goals as goal

pub returns : goal.returns
returns x = record {
  begins = λ ws. spine-begins (signature ws);
  headed = λ ws g h c ks s t a b kept n left e. spine-headed (signature ws) (items-closed ws g) c (all_but kept ws) (bodies-signed ws g kept) (bodies-kinded ws h kept) ks s t a b (head-chain (all_but kept ws) n a b left e);
  left_out = λ ws g. spine-left_out (signature ws) (items-closed ws g);
  kept = λ ws g. spine-kept (signature ws) (items-closed ws g);
  erased = λ ws g. spine-erased (signature ws) (items-closed ws g);
  of_type = λ ws g. spine-type (signature ws) (items-closed ws g);
  checked = λ ws. argument-checked (signature ws);
  inferred = λ ws. argument-fits (signature ws);
  found = λ ws c ks s r t a w. spine-found (signature ws) c ks s r t a (λ f y n p e. y n p (w n p e));
  put = λ ws. spine-filled (signature ws);
  solved = so_far-agrees;
  ends = λ ws. spine-ends (signature ws);
}
