use Rattle.core_tree.proofs.pure.Pure.put.Goals as goal

pub returns : goal.returns
returns c = c.shallow.ensures _ c.change.ensures
