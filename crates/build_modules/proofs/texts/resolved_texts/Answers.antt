use Rattle.build_modules.proofs.texts.resolved_texts.Goals as goal

pub returns-in-Err-clause-answers : goal.returns-in-Err-clause-answers
returns-in-Err-clause-answers c = c.in-Err.ensures.scoped c.args.budget
