use Rattle.std.proofs.Common.{Ok, suc, true}
use Rattle.std.proofs.lemmas.Result.{err_from_is_err_and}
use Rattle.cdle_model.specs.HeadForms.{deepest}
use Rattle.cdle_model.specs.Trees.{allt_of}
use Rattle.elab_model.specs.Questions.{ask_head, gives}
use Rattle.elab_model.specs.Spines.{binder_parts, leading_out}
use Rattle.elab_reduce.specs.Items.{env_of}
use Rattle.scoped_tree.specs.Trees.{place}
use Rattle.elab_rules.specs.Answers.{seen}
use Rattle.elab_rules.specs.Spines.{spine_of}
use Rattle.elab_rules.proofs.Closing.{passed_spine, where_product, where_no_product}
use Rattle.elab_rules.proofs.Steps.{given, head_on, head_ends}
use Rattle.elab_rules.proofs.ask.Rules.led_by_goal.Goals as goal

pub returns-in_err-head : goal.returns-in_err-head
returns-in_err-head c = let p = err_from_is_err_and c.from_residual.result c.from_residual.ensures.1 in passed_spine c.args.self.now.env.now c.args.self.now.budget (ask_head (place c.args.whole) (place c.args.whole) true c.args.goal.now (λ h. binder_parts allt_of h (λ l d. gives (spine_of c.args.spine)) (leading_out (env_of c.args.self.now.env.now) (suc deepest) (place c.args.whole) (spine_of c.args.spine)))) c.from_residual.result _ _ p.1 p.2 (head_ends c.args.self.now.env.now c.args.self.now.budget (place c.args.whole) (place c.args.whole) true c.args.goal.now (λ h. binder_parts allt_of h (λ l d. gives (spine_of c.args.spine)) (leading_out (env_of c.args.self.now.env.now) (suc deepest) (place c.args.whole) (spine_of c.args.spine))) _ c.in_err-head.ensures)

pub returns-then-is_type_product : goal.returns-then-is_type_product
returns-then-is_type_product c =
    head_on c.args.self.now.env.now c.args.self.now.budget (place c.args.whole) (place c.args.whole) true c.args.goal.now (λ h. binder_parts allt_of h (λ l d. gives (spine_of c.args.spine)) (leading_out (env_of c.args.self.now.env.now) (suc deepest) (place c.args.whole) (spine_of c.args.spine))) c.in_ok-head.head (Ok (spine_of c.args.spine)) c.in_ok-head.ensures
    (where_product c.args.self.now.env.now c.args.self.now.budget c.in_ok-head.head (gives (spine_of c.args.spine)) (leading_out (env_of c.args.self.now.env.now) (suc deepest) (place c.args.whole) (spine_of c.args.spine)) (Ok (spine_of c.args.spine)) _ c.is_type_product.ensures c.if-is_type_product.true (given c.args.self.now.env.now c.args.self.now.budget (spine_of c.args.spine)))

pub returns : goal.returns
returns c =
    head_on c.args.self.now.env.now c.args.self.now.budget (place c.args.whole) (place c.args.whole) true c.args.goal.now (λ h. binder_parts allt_of h (λ l d. gives (spine_of c.args.spine)) (leading_out (env_of c.args.self.now.env.now) (suc deepest) (place c.args.whole) (spine_of c.args.spine))) c.in_ok-head.head (seen spine_of c.led_out.result) c.in_ok-head.ensures
    (where_no_product c.args.self.now.env.now c.args.self.now.budget c.in_ok-head.head (gives (spine_of c.args.spine)) (leading_out (env_of c.args.self.now.env.now) (suc deepest) (place c.args.whole) (spine_of c.args.spine)) (seen spine_of c.led_out.result) _ c.is_type_product.ensures c.if-is_type_product.false c.led_out.ensures)
