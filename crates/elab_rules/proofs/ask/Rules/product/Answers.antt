use Rattle.std.proofs.Common.{Ok}
use Rattle.std.proofs.lemmas.Result.{err_from_is_err_and}
use Rattle.elab_model.specs.Questions.{gives, rejects}
use Rattle.elab_rules.proofs.Steps.{no_memory}
use Rattle.elab_rules.proofs.Endings.{formed_so, formed_else, given_as}
use Rattle.elab_rules.specs.Places.{spot}
use Rattle.cdle_model.specs.Trees.{all_of, allt_of}
use Rattle.elab_model.specs.declared.codes.Code.TheVariants.{WantedFunction}
use Rattle.elab_model.specs.Spines.{binder_parts}
use Rattle.elab_rules.specs.Endings.{over_term, over_type}
use Rattle.elab_rules.proofs.ask.Rules.product.Goals as goal

pub returns-in_err-clone-in-Some : goal.returns-in_err-clone-in-Some
returns-in_err-clone-in-Some c = let p = err_from_is_err_and c.from_residual.result c.from_residual.ensures.1 in rw (p.1, p.2) (no_memory _ _ _)

pub returns-in_err-clone-in-Some-2 : goal.returns-in_err-clone-in-Some-2
returns-in_err-clone-in-Some-2 c = let p = err_from_is_err_and c.from_residual-in_err-clone-in-Some-2.result c.from_residual-in_err-clone-in-Some-2.ensures.1 in rw (p.1, p.2) (no_memory _ _ _)

pub returns-in_ok-clone-in-Some-2 : goal.returns-in_ok-clone-in-Some-2
returns-in_ok-clone-in-Some-2 c = formed_so c.args.self.now.env.now c.args.self.now.budget all_of c.args.head.now (λ d b. gives (over_term d b)) (binder_parts allt_of c.args.head.now (λ d b. gives (over_type d b)) (rejects (spot c.args.at) WantedFunction)) c.in-Some.domain.now c.in-Some.range.now (Ok (over_term c.in_ok-clone-in-Some.field-0 c.in_ok-clone-in-Some-2.field-0)) c.in-Some.ensures (given_as c.args.self.now.env.now c.args.self.now.budget (λ x y. over_term x y) c.in-Some.domain.now c.in-Some.range.now c.in_ok-clone-in-Some.field-0 c.in_ok-clone-in-Some-2.field-0 c.in_ok-clone-in-Some.ensures.cases c.in_ok-clone-in-Some-2.ensures.cases)

pub returns-in-None : goal.returns-in-None
returns-in-None c = formed_else c.args.self.now.env.now c.args.self.now.budget all_of c.args.head.now (λ d b. gives (over_term d b)) (binder_parts allt_of c.args.head.now (λ d b. gives (over_type d b)) (rejects (spot c.args.at) WantedFunction)) _ c.in-None.ensures (c.type_product.ensures)
