use Rattle.std.proofs.Common.{ap, ◌∙◌}
use Rattle.scope_model.specs.ScopeNames.{Text, listed}
use Rattle.scope_part.specs.Index.{names_of}
use Rattle.scope_part.proofs.index.ItemIndex.find.Goals as goal

pub returns : goal.returns
returns c = c.behind.ensures ∙ c.latest.ensures.from c.args.first ∙ ap (λ (w : Text). listed w c.args.first (names_of c.args.self.now)) c.as_bytes.ensures.value
