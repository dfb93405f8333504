-- The parts of definitions, by the rules.
use Rattle.std.specs.Prelude.{[]}
use Rattle.cdle_model.specs.Erasure.{erased}
use Rattle.source_model.specs.Heights.{span_of}
use Rattle.scope_model.specs.Scoped.{Scoped}
use Rattle.elab_model.specs.declared.codes.Code.TheVariants.{WantedKind}
use Rattle.elab_model.specs.Questions.{Env, Questions, gives, ask_same, then}
use Rattle.elab_model.specs.Rules.{star_then, check, term, type, kind}
use Rattle.elab_model.specs.Soundness.{no_encodings}
use Rattle.elab_model.specs.Spines.{Typed}

-- the written type has `★` and the body has it
abbrev pub definition_of : Env → Scoped → Scoped → Questions Typed
definition_of e a t = star_then (span_of a) a (type e no_encodings [] a) (λ a. then (check e no_encodings [] t (term e no_encodings [] t) a) (λ t. gives (a, t)))

-- the written kind is one and the body has it
abbrev pub type_definition_of : Env → Scoped → Scoped → Questions Typed
type_definition_of e k a = then (kind e no_encodings [] k) (λ k. then (type e no_encodings [] a) (λ y. ask_same (span_of a) (span_of a) WantedKind (erased y.1) (erased k) (gives (k, y.0))))
