use Rattle.std.proofs.Common.{suc, true}
use Rattle.cdle_model.specs.HeadForms.{deepest}
use Rattle.cdle_model.specs.Trees.{allt_of}
use Rattle.elab_model.specs.Questions.{ask_head, gives}
use Rattle.elab_model.specs.Spines.{binder_parts, leading_out}
use Rattle.elab_reduce.specs.Items.{env_of}
use Rattle.scoped_tree.specs.Trees.{place}
use Rattle.elab_rules.specs.Answers.{seen}
use Rattle.elab_rules.specs.Spines.{spine_of}
use Rattle.elab_rules.proofs.Closing.{where_product, where_no_product}
use Rattle.elab_rules.proofs.Steps.{given}
use Rattle.elab_rules.proofs.ask.Rules.led.Goals as goal

pub returns-then-not-is_type_product : goal.returns-then-not-is_type_product
returns-then-not-is_type_product c =
    where_no_product c.args.self.now.env.now c.args.self.now.budget c.args.spine.ty (ask_head (place c.args.whole) (place c.args.whole) true c.args.goal.now (λ h. binder_parts allt_of h (λ l d. gives (spine_of c.args.spine)) (leading_out (env_of c.args.self.now.env.now) (suc deepest) (place c.args.whole) (spine_of c.args.spine)))) (gives (spine_of c.args.spine)) _ _ c.is_type_product.ensures c.if-not-is_type_product.true (given c.args.self.now.env.now c.args.self.now.budget (spine_of c.args.spine))

pub returns : goal.returns
returns c =
    where_product c.args.self.now.env.now c.args.self.now.budget c.args.spine.ty (ask_head (place c.args.whole) (place c.args.whole) true c.args.goal.now (λ h. binder_parts allt_of h (λ l d. gives (spine_of c.args.spine)) (leading_out (env_of c.args.self.now.env.now) (suc deepest) (place c.args.whole) (spine_of c.args.spine)))) (gives (spine_of c.args.spine)) (seen spine_of c.led_by_goal.result) _ c.is_type_product.ensures c.if-not-is_type_product.false c.led_by_goal.ensures
