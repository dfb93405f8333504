-- What is known where a scope is known: there was no fault before.
use Rattle.std.proofs.Common.{◌≡◌, Bool, true, false, if◌then◌else◌, List, Result, Ok, Err, refl}
use Rattle.source_model.specs.Source.{Span}
use Rattle.scope_model.specs.Scoped.{ScopedModule}
use Rattle.scope_model.specs.ScopeNames.{Text}
use Rattle.scope_model.specs.Scope.{ScopeFault, ◌>>=◌, unless_taken, meets}

pub and_then : {A B : Type 0} (r : Result A ScopeFault) (f : A → Result B ScopeFault) (y : B) → (r >>= f) ≡ Ok y → (x : A) × (r ≡ Ok x) × (f x ≡ Ok y)
and_then (Ok x) f y e = (x, refl, e)
and_then (Err g) f y e = absurd cc

taken_case : {A : Type 0} (b : Bool) (g : ScopeFault) (r : Result A ScopeFault) (x : A) → (if b then Err g else r) ≡ Ok x → r ≡ Ok x
taken_case true g r x e = absurd cc
taken_case false g r x e = e

pub not_taken : {A : Type 0} (p : Span) (ns taken : List Text) (r : Result A ScopeFault) (x : A) → unless_taken p ns taken r ≡ Ok x → r ≡ Ok x
not_taken p ns taken r x e = taken_case (meets ns taken) _ r x e

untaken_case : {A : Type 0} (b : Bool) (g : ScopeFault) (r : Result A ScopeFault) (x : A) → (if b then Err g else r) ≡ Ok x → b ≡ false
untaken_case true g r x e = absurd cc
untaken_case false g r x e = refl

pub none_taken : {A : Type 0} (p : Span) (ns taken : List Text) (r : Result A ScopeFault) (x : A) → unless_taken p ns taken r ≡ Ok x → meets ns taken ≡ false
none_taken p ns taken r x e = untaken_case (meets ns taken) _ r x e

abbrev good : ScopedModule → Result ScopedModule ScopeFault
good q = Ok q

pub one_module : (q r : ScopedModule) → good q ≡ good r → q ≡ r
one_module q r e = cc

abbrev failed : ScopeFault → Result ScopedModule ScopeFault
failed f = Err f

pub one_fault : (f g : ScopeFault) → failed f ≡ failed g → f ≡ g
one_fault f g e = cc

pub not_both : (r : ScopedModule) (f : ScopeFault) → good r ≡ failed f → ⊥
not_both r f e = absurd cc
