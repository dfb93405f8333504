use Rattle.core_tree.proofs.guide.GuideKind.put.Goals as goal

pub returns : goal.returns
returns c = c.shallow.ensures _ c.change.ensures
