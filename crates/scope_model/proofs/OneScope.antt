-- A module has one scoped module or one first fault.
use Rattle.std.proofs.Common.{◌≡◌, List, Result, Ok, Err, ◌⊎◌, inl, inr, refl, sym, ◌∙◌}
use Rattle.source_model.specs.Source.{Module}
use Rattle.scope_model.specs.Scoped.{ScopedModule}
use Rattle.scope_model.specs.ScopeNames.{Text, Exported}
use Rattle.scope_model.specs.Scope.{ScopeFault, scoped_module}
use Rattle.scope_model.proofs.Results.{one_module, one_fault, not_both}

known_or_faulty : (r : Result ScopedModule ScopeFault) → ((x : ScopedModule) × (r ≡ Ok x)) ⊎ ((f : ScopeFault) × (r ≡ Err f))
known_or_faulty (Ok x) = inl (x, refl)
known_or_faulty (Err f) = inr (f, refl)

pub either : (known : List Exported) (m : Module Text) → ((r : ScopedModule) × (scoped_module known m ≡ Ok r)) ⊎ ((f : ScopeFault) × (scoped_module known m ≡ Err f))
either known m = known_or_faulty (scoped_module known m)

pub never_both : (known : List Exported) (m : Module Text) (r : ScopedModule) (f : ScopeFault) → scoped_module known m ≡ Ok r → scoped_module known m ≡ Err f → ⊥
never_both known m r f d e = not_both r f (sym d ∙ e)

pub one_scope : (known : List Exported) (m : Module Text) (q r : ScopedModule) → scoped_module known m ≡ Ok q → scoped_module known m ≡ Ok r → q ≡ r
one_scope known m q r d e = one_module q r (sym d ∙ e)

pub first_fault : (known : List Exported) (m : Module Text) (f g : ScopeFault) → scoped_module known m ≡ Err f → scoped_module known m ≡ Err g → f ≡ g
first_fault known m f g d e = one_fault f g (sym d ∙ e)
