use Rattle.std.proofs.Common.{Ok}
use Rattle.std.proofs.lemmas.Result.{err_from_is_err_and}
use Rattle.elab_model.specs.Questions.{gives, rejects}
use Rattle.elab_rules.proofs.Steps.{no_memory}
use Rattle.elab_rules.proofs.Endings.{formed_so, formed_else, given_as, refused}
use Rattle.elab_rules.specs.Places.{spot}
use Rattle.elab_rules.specs.Endings.{product_of}
use Rattle.elab_rules.proofs.ask.Rules.two_parts.Goals as goal

pub returns-in_err-clone-in-Some : goal.returns-in_err-clone-in-Some
returns-in_err-clone-in-Some c = let p = err_from_is_err_and c.from_residual.result c.from_residual.ensures.1 in rw (p.1, p.2) (no_memory _ _ _)

pub returns-in_err-clone-in-Some-2 : goal.returns-in_err-clone-in-Some-2
returns-in_err-clone-in-Some-2 c = let p = err_from_is_err_and c.from_residual-in_err-clone-in-Some-2.result c.from_residual-in_err-clone-in-Some-2.ensures.1 in rw (p.1, p.2) (no_memory _ _ _)

pub returns-in_ok-clone-in-Some-2 : goal.returns-in_ok-clone-in-Some-2
returns-in_ok-clone-in-Some-2 c = formed_so c.args.self.now.env.now c.args.self.now.budget (product_of c.args.former) c.args.head.now (λ a b. gives (a, b)) (rejects (spot c.args.at) c.args.code) c.in-Some.left.now c.in-Some.right.now (Ok (c.in_ok-clone-in-Some.field-0, c.in_ok-clone-in-Some-2.field-0)) c.in-Some.ensures (given_as c.args.self.now.env.now c.args.self.now.budget (λ x y. (x, y)) c.in-Some.left.now c.in-Some.right.now c.in_ok-clone-in-Some.field-0 c.in_ok-clone-in-Some-2.field-0 c.in_ok-clone-in-Some.ensures.cases c.in_ok-clone-in-Some-2.ensures.cases)

pub returns-in-None : goal.returns-in-None
returns-in-None c = formed_else c.args.self.now.env.now c.args.self.now.budget (product_of c.args.former) c.args.head.now (λ a b. gives (a, b)) (rejects (spot c.args.at) c.args.code) _ c.in-None.ensures (refused _ c.args.self.now.env.now c.args.self.now.budget c.args.at c.args.code)
