use Rattle.std.proofs.Common.{refl}
use Rattle.build_outcome.proofs.words.token_text.Goals as goal

pub returns-in-Lambda : goal.returns-in-Lambda
unfolding lib.Utf8.encode
returns-in-Lambda c = rw c.in-Lambda.is refl

pub returns-in-BigLambda : goal.returns-in-BigLambda
unfolding lib.Utf8.encode
returns-in-BigLambda c = rw c.in-BigLambda.is refl

pub returns-in-BigPi : goal.returns-in-BigPi
unfolding lib.Utf8.encode
returns-in-BigPi c = rw c.in-BigPi.is refl

pub returns-in-Iota : goal.returns-in-Iota
unfolding lib.Utf8.encode
returns-in-Iota c = rw c.in-Iota.is refl

pub returns-in-Beta : goal.returns-in-Beta
unfolding lib.Utf8.encode
returns-in-Beta c = rw c.in-Beta.is refl

pub returns-in-Rho : goal.returns-in-Rho
unfolding lib.Utf8.encode
returns-in-Rho c = rw c.in-Rho.is refl

pub returns-in-Phi : goal.returns-in-Phi
unfolding lib.Utf8.encode
returns-in-Phi c = rw c.in-Phi.is refl

pub returns-in-Delta : goal.returns-in-Delta
unfolding lib.Utf8.encode
returns-in-Delta c = rw c.in-Delta.is refl

pub returns-in-Chi : goal.returns-in-Chi
unfolding lib.Utf8.encode
returns-in-Chi c = rw c.in-Chi.is refl

pub returns-in-FinalSigma : goal.returns-in-FinalSigma
unfolding lib.Utf8.encode
returns-in-FinalSigma c = rw c.in-FinalSigma.is refl

pub returns-in-Mu : goal.returns-in-Mu
unfolding lib.Utf8.encode
returns-in-Mu c = rw c.in-Mu.is refl

pub returns-in-Sigma : goal.returns-in-Sigma
unfolding lib.Utf8.encode
returns-in-Sigma c = rw c.in-Sigma.is refl

pub returns-in-Star : goal.returns-in-Star
unfolding lib.Utf8.encode
returns-in-Star c = rw c.in-Star.is refl

pub returns-in-ForAll : goal.returns-in-ForAll
unfolding lib.Utf8.encode
returns-in-ForAll c = rw c.in-ForAll.is refl

pub returns-in-Arrow : goal.returns-in-Arrow
unfolding lib.Utf8.encode
returns-in-Arrow c = rw c.in-Arrow.is refl

pub returns-in-ErasedArrow : goal.returns-in-ErasedArrow
unfolding lib.Utf8.encode
returns-in-ErasedArrow c = rw c.in-ErasedArrow.is refl

pub returns-in-Equal : goal.returns-in-Equal
unfolding lib.Utf8.encode
returns-in-Equal c = rw c.in-Equal.is refl

pub returns-in-MiddleDot : goal.returns-in-MiddleDot
unfolding lib.Utf8.encode
returns-in-MiddleDot c = rw c.in-MiddleDot.is refl
