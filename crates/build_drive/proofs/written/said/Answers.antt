use Rattle.std.proofs.Common.{List, subst}
use Rattle.cdle_model.specs.CoreNames.{Name}
use Rattle.core_text.specs.File.{IsFaultOf}
use Rattle.build_drive.proofs.written.said.Goals as goal

pub memory_wanted-requires-clause-fault : goal.memory_wanted-requires-clause-fault
memory_wanted-requires-clause-fault c = subst (λ (known : List Name). IsFaultOf c.args.bytes.now known c.in-Err.fault) c.new.ensures c.in-Err.ensures.err
