use Rattle.std.proofs.Common.{Ok, [], ◌∷◌, ◌++◌, sym, subst}
use Rattle.elab_convert.specs.declared.head.HeadMove.TheVariants as m
use Rattle.elab_convert.specs.Heads.{IsMove}
use Rattle.elab_convert.proofs.head.put_back.Goals as goal

pub returns : goal.returns
returns c s h n k = subst (λ z. IsMove s h (c.args.args.now.items ++ c.args.arg ∷ []) n z n (Ok m.Former)) (sym c.in_ok-push.ensures.items) k
