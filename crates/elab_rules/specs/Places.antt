-- The places at which refusals stand.
use Rattle.source_model.specs.Source.{Span}
use Rattle.elab_model.specs.ScopedForms.{letter, bracket}
use Rattle.scoped_tree.specs.Trees.{place}
use Rattle.elab_rules.specs.declared.place.At.{At}
use Rattle.elab_rules.specs.declared.place.At.TheVariants.{Whole, Letter, Bracket}

abbrev pub spot : At → Span
spot (Whole s) = place s
spot (Letter s) = letter (place s)
spot (Bracket s) = bracket (place s)
