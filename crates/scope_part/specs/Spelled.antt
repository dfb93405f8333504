-- A tree with the texts of its names.
use Rattle.std.specs.Prelude.{ℕ, List, map, Option}
use Rattle.source_model.specs.Source.{Tree, Pattern, use_of, leaf, one, two, bind, cases, branch}
use Rattle.scope_model.specs.ScopeNames.{Text}
use Rattle.surf_tree.specs.Forms.{place}
use Rattle.surf_tree.specs.declared.node.SrcPattern.{SrcPattern}
use Rattle.scope_part.specs.Names.{spelled_name, spelled_use}

abbrev pub spelled_patterns : List Text → List (Pattern (Option ℕ)) → List (Pattern (Option Text))
spelled_patterns names ps = map (λ p. record { mode = p.mode; span = p.span; binder = spelled_name names p.binder }) ps

-- a pattern's name without its name
abbrev pub bare_of : SrcPattern → Pattern (Unit {0})
bare_of p = record { mode = p.mode; span = place p.span; binder = tt }

unfoldable pub spelled : List Text → Tree ℕ → Tree Text
spelled names (use_of s u) = use_of s (spelled_use names u)
spelled names (leaf s f) = leaf s f
spelled names (one s f p) = one s f (spelled names p)
spelled names (two s f p q) = two s f (spelled names p) (spelled names q)
spelled names (bind s f x p q) = bind s f (spelled_name names x) (spelled names p) (spelled names q)
spelled names (cases s f x p m bs) = cases s f (spelled_name names x) (spelled names p) (spelled names m) (spelled names bs)
spelled names (branch s u ps p bs) = branch s (spelled_use names u) (spelled_patterns names ps) (spelled names p) (spelled names bs)
