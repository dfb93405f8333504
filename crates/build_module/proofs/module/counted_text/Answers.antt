use Rattle.build_module.proofs.Given.{of_few, of_many}
use Rattle.build_module.proofs.module.counted_text.Goals as goal

pub returns-then-has_few : goal.returns-then-has_few
returns-then-has_few c = λ bytes name s. c.resolved_text.ensures bytes name (of_few bytes name c.args.names.now c.args.source.now s (rw (← c.deref.ensures.value) (c.has_few.ensures.few c.if-has_few.true)))

pub returns-else-has_few : goal.returns-else-has_few
returns-else-has_few c = λ bytes name s. of_many c.args.budget bytes name c.args.names.now c.args.source.now s (rw (← c.deref.ensures.value) (c.has_few.ensures.many c.if-has_few.false))
