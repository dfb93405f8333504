-- The words of the reports on surface text.
use Rattle.std.specs.Prelude.{ℕ, List, codes}
use Rattle.std.specs.Str.{encode_utf8_all}
use Rattle.source_model.specs.SurfaceTokens.{spelling}
use Rattle.source_model.specs.declared.wanted.Wanted.{Wanted}
use Rattle.source_model.specs.declared.wanted.Wanted.TheVariants as wanted
use Rattle.elab_model.specs.declared.codes.Code.{Code}
use Rattle.elab_model.specs.declared.codes.Code.TheVariants as code

-- what the grammar wants: one token by its own spelling, a name without it
abbrev pub surface_word : Wanted → List ℕ
surface_word wanted.Name = codes "name"
surface_word wanted.Item = codes "item"
surface_word wanted.Ty = codes "type"
surface_word wanted.Kind = codes "kind"
surface_word wanted.Class = codes "class"
surface_word wanted.Term = codes "term"
surface_word wanted.Branch = codes "branch"
surface_word (wanted.Token k) = encode_utf8_all (spelling k)

-- why the surface rules refuse, with the code
abbrev pub code_word : Code → List ℕ
code_word code.WantedFunction = codes "J1 wanted function"
code_word code.WantedIntersection = codes "J2 wanted intersection"
code_word code.WantedEquation = codes "J3 wanted equation"
code_word code.WantedKind = codes "J4 wanted kind"
code_word code.Mismatch = codes "J5 mismatch"
code_word code.ErasedVariableUsed = codes "J6 erased variable used"
code_word code.PartsDiffer = codes "J7 parts differ"
code_word code.NotTheTwoBooleans = codes "J8 not the two booleans"
code_word code.SidesDiffer = codes "J9 sides differ"
code_word code.ArgumentLeftOpen = codes "J10 argument left open"
code_word code.AnnotationWanted = codes "J11 annotation wanted"
code_word code.WrongBranches = codes "J12 wrong branches"
