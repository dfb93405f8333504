use Rattle.std.proofs.Common.{◌≡◌, drop}
use Rattle.scope_part.specs.Around.{import_texts}
use Rattle.build_reading.specs.Order.{with_new}
use Rattle.build_reading.proofs.wanted.add_imports.Given as goal

-- the names that are left make up what is wanted
abbrev pub invariant-loop-name : goal.invariant-loop-name
invariant-loop-name l = with_new l.order (import_texts l.names (drop l.name-index l.imports)) ≡ with_new l.fn.order (import_texts l.names l.imports)
