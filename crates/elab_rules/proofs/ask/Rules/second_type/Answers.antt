use Rattle.cdle_model.specs.Substitution.{put_written}
use Rattle.elab_rules.proofs.ask.Rules.second_type.Goals as goal

pub returns : goal.returns
returns c = c.type_made.ensures c.args.self.now.env.now c.args.self.now.budget (put_written 0 c.args.left.now c.args.range.now) c.put_term.ensures
