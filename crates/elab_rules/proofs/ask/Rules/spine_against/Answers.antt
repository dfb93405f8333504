use Rattle.cdle_model.specs.Erasure.{erased}
use Rattle.std.proofs.lemmas.Result.{err_from_is_err_and}
use Rattle.elab_model.specs.Questions.{ask_same, gives, then}
use Rattle.elab_model.specs.Spines.{closes, fitted as fits, led as leads}
use Rattle.elab_model.specs.declared.codes.Code.TheVariants.{Mismatch}
use Rattle.elab_reduce.specs.Items.{env_of}
use Rattle.scoped_tree.specs.Trees.{place}
use Rattle.elab_rules.specs.Contexts.{entries}
use Rattle.elab_rules.specs.Spines.{spine_of}
use Rattle.elab_rules.proofs.Closing.{passed}
use Rattle.elab_rules.proofs.Steps.{goes_on, ends}
use Rattle.elab_rules.proofs.ask.Rules.spine_against.Goals as goal

pub returns-in_err-led : goal.returns-in_err-led
returns-in_err-led c =
    let p = err_from_is_err_and c.from_residual.result c.from_residual.ensures.1 in passed c.args.self.now.env.now c.args.self.now.budget (then (leads (env_of c.args.self.now.env.now) (place c.args.whole) c.args.goal.now (spine_of c.args.spine)) (λ r. then (fits (env_of c.args.self.now.env.now) (place c.args.whole) c.args.goal.now r) (λ r. closes (env_of c.args.self.now.env.now) (place c.args.whole) (entries c.args.context.now) r (λ t b. ask_same (place c.args.whole) (place c.args.whole) Mismatch (erased b) (erased c.args.goal.now) (gives t))))) c.from_residual.result _ _ p.1 p.2 (ends c.args.self.now.env.now c.args.self.now.budget (leads (env_of c.args.self.now.env.now) (place c.args.whole) c.args.goal.now (spine_of c.args.spine)) (λ r. then (fits (env_of c.args.self.now.env.now) (place c.args.whole) c.args.goal.now r) (λ r. closes (env_of c.args.self.now.env.now) (place c.args.whole) (entries c.args.context.now) r (λ t b. ask_same (place c.args.whole) (place c.args.whole) Mismatch (erased b) (erased c.args.goal.now) (gives t)))) _ c.in_err-led.ensures)

pub returns-in_err-met : goal.returns-in_err-met
returns-in_err-met c =
    let p = err_from_is_err_and c.from_residual-in_err-met.result c.from_residual-in_err-met.ensures.1 in passed c.args.self.now.env.now c.args.self.now.budget (then (leads (env_of c.args.self.now.env.now) (place c.args.whole) c.args.goal.now (spine_of c.args.spine)) (λ r. then (fits (env_of c.args.self.now.env.now) (place c.args.whole) c.args.goal.now r) (λ r. closes (env_of c.args.self.now.env.now) (place c.args.whole) (entries c.args.context.now) r (λ t b. ask_same (place c.args.whole) (place c.args.whole) Mismatch (erased b) (erased c.args.goal.now) (gives t))))) c.from_residual-in_err-met.result _ _ p.1 p.2 (goes_on c.args.self.now.env.now c.args.self.now.budget (leads (env_of c.args.self.now.env.now) (place c.args.whole) c.args.goal.now (spine_of c.args.spine)) (λ r. then (fits (env_of c.args.self.now.env.now) (place c.args.whole) c.args.goal.now r) (λ r. closes (env_of c.args.self.now.env.now) (place c.args.whole) (entries c.args.context.now) r (λ t b. ask_same (place c.args.whole) (place c.args.whole) Mismatch (erased b) (erased c.args.goal.now) (gives t)))) (spine_of c.in_ok-led.led) _ c.in_ok-led.ensures (ends c.args.self.now.env.now c.args.self.now.budget (fits (env_of c.args.self.now.env.now) (place c.args.whole) c.args.goal.now (spine_of c.in_ok-led.led)) (λ r. closes (env_of c.args.self.now.env.now) (place c.args.whole) (entries c.args.context.now) r (λ t b. ask_same (place c.args.whole) (place c.args.whole) Mismatch (erased b) (erased c.args.goal.now) (gives t))) _ c.in_err-met.ensures))

pub returns : goal.returns
returns c =
    goes_on c.args.self.now.env.now c.args.self.now.budget (leads (env_of c.args.self.now.env.now) (place c.args.whole) c.args.goal.now (spine_of c.args.spine)) (λ r. then (fits (env_of c.args.self.now.env.now) (place c.args.whole) c.args.goal.now r) (λ r. closes (env_of c.args.self.now.env.now) (place c.args.whole) (entries c.args.context.now) r (λ t b. ask_same (place c.args.whole) (place c.args.whole) Mismatch (erased b) (erased c.args.goal.now) (gives t)))) (spine_of c.in_ok-led.led) _ c.in_ok-led.ensures
    (goes_on c.args.self.now.env.now c.args.self.now.budget (fits (env_of c.args.self.now.env.now) (place c.args.whole) c.args.goal.now (spine_of c.in_ok-led.led)) (λ r. closes (env_of c.args.self.now.env.now) (place c.args.whole) (entries c.args.context.now) r (λ t b. ask_same (place c.args.whole) (place c.args.whole) Mismatch (erased b) (erased c.args.goal.now) (gives t))) (spine_of c.in_ok-met.met) _ c.in_ok-met.ensures c.closed_against.ensures)
