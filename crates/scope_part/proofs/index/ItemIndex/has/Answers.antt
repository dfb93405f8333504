use Rattle.std.proofs.Common.{ap, ◌∙◌}
use Rattle.scope_model.specs.Scope.{texts}
use Rattle.scope_model.specs.ScopeNames.{Text, is_one_of}
use Rattle.scope_part.specs.Index.{names_of}
use Rattle.scope_part.proofs.index.ItemIndex.has.Goals as goal

pub returns : goal.returns
returns c = c.is_some.ensures ∙ c.latest.ensures.some ∙ ap (λ (w : Text). is_one_of w (texts (names_of c.args.self.now))) c.as_bytes.ensures.value
