-- What a context that callers build stands for.
use Rattle.std.specs.Prelude.{List, []}
use Rattle.cdle_model.specs.Derivation.{Entry}
use Rattle.elab_rules.specs.Contexts.{stacked}
use Rattle.elab_check.specs.declared.context.Ctx.{Ctx}

abbrev pub entries_of : Ctx → List Entry
entries_of c = stacked [] c.bindings.items
