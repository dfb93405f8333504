-- The scope of a form from that of its parts.
use Rattle.std.proofs.Common.{◌≡◌, ℕ, List, [], ◌∷◌, Option, Result, Ok, refl, sym, subst}
use Rattle.cdle_model.specs.declared.grammar.Sort.{Sort}
use Rattle.cdle_model.specs.declared.grammar.Sort.TheVariants.{OfTerm, OfType}
use Rattle.source_model.specs.Source.{Span, use_of, leaf, one, two, bind, cases, SourceLeaf, SourceOne, SourceTwo, SourceBinder, CaseForm, NameUse, Tree}
use Rattle.scope_model.specs.Scoped.{Reference, Scoped}
use Rattle.scope_model.specs.ScopeNames.{Text, Around, Bound, Variable, stands}
use Rattle.scope_model.specs.Scope.{ScopeFault, ◌>>=◌, binder_sort, body_sort, domain_sort, left_sort, of_case, right_sort, scoped, wanted_as, with_class}
use Rattle.scope_part.specs.Names.{spelled_name, spelled_use}
use Rattle.scope_part.specs.Results.{Fails}
use Rattle.scope_part.specs.Spelled.{spelled}
use Rattle.scope_part.specs.declared.fault.ScopeFault as code
use Rattle.scope_part.specs.declared.fault.ScopeFault.TheVariants as faults

pub passes_on : {A B : Type 0} (e : code.ScopeFault) (r : Result A ScopeFault) (f : A → Result B ScopeFault) → Fails e r → Fails e (r >>= f)
passes_on faults.NoMemory r f h = tt
passes_on (faults.Unbound p) r f h = rw h refl
passes_on (faults.WrongClass p) r f h = rw h refl
passes_on (faults.Twice p) r f h = rw h refl

module _ (a : Around) (names : List Text) (bs : List Bound) (s : Sort) (p : Span) where
  pub name_fails : (e : code.ScopeFault) (u : NameUse ℕ) → Fails e (wanted_as p s (stands a bs (spelled_use names u))) → Fails e (scoped a [] bs s (spelled names (use_of p u)))
  unfolding scoped spelled
  name_fails e u h = passes_on e (wanted_as p s (stands a bs (spelled_use names u))) (λ r. Ok (use_of p r)) h

  pub name_is : (u : NameUse ℕ) (r : Reference) (tree : Scoped) → wanted_as p s (stands a bs (spelled_use names u)) ≡ Ok r → tree ≡ use_of p r → scoped a [] bs s (spelled names (use_of p u)) ≡ Ok tree
  unfolding scoped spelled
  name_is u r tree h e = rw (e, h) refl

  pub leaf_is : (l : SourceLeaf) (tree : Scoped) → tree ≡ leaf p l → scoped a [] bs s (spelled names (leaf p l)) ≡ Ok tree
  unfolding scoped spelled
  leaf_is l tree e = rw e refl

  -- one part
  module _ (j : SourceOne) (t : Tree ℕ) where
    pub inner_fails : (e : code.ScopeFault) → Fails e (scoped a [] bs OfTerm (spelled names t)) → Fails e (scoped a [] bs s (spelled names (one p j t)))
    unfolding scoped spelled
    inner_fails e h = passes_on e (scoped a [] bs OfTerm (spelled names t)) (λ v. Ok (one p j v)) h

    pub one_is : (v tree : Scoped) → scoped a [] bs OfTerm (spelled names t) ≡ Ok v → tree ≡ one p j v → scoped a [] bs s (spelled names (one p j t)) ≡ Ok tree
    unfolding scoped spelled
    one_is v tree h e = rw (e, h) refl

  -- two parts, of these classes
  module _ (j : SourceTwo) (t u : Tree ℕ) (x : Sort) (one : x ≡ left_sort j) where
    pub left_fails : (e : code.ScopeFault) → Fails e (scoped a [] bs x (spelled names t)) → Fails e (scoped a [] bs s (spelled names (two p j t u)))
    unfolding scoped spelled
    left_fails e h = passes_on e (scoped a [] bs (left_sort j) (spelled names t)) (λ v. scoped a [] bs (right_sort j) (spelled names u) >>= λ w. Ok (two p j v w)) (subst (λ (z : Sort). Fails e (scoped a [] bs z (spelled names t))) one h)

    module _ (y : Sort) (other : y ≡ right_sort j) where
      pub right_fails : (e : code.ScopeFault) (v : Scoped) → scoped a [] bs x (spelled names t) ≡ Ok v → Fails e (scoped a [] bs y (spelled names u)) → Fails e (scoped a [] bs s (spelled names (two p j t u)))
      unfolding scoped spelled
      right_fails e v g h = rw (sym one, g, sym other) (passes_on e (scoped a [] bs y (spelled names u)) (λ w. Ok (two p j v w)) h)

      pub two_are : (v w tree : Scoped) → scoped a [] bs x (spelled names t) ≡ Ok v → scoped a [] bs y (spelled names u) ≡ Ok w → tree ≡ two p j v w → scoped a [] bs s (spelled names (two p j t u)) ≡ Ok tree
      unfolding scoped spelled
      two_are v w tree g h e = rw (e, sym one, g, sym other, h) refl

  -- a part under a binder, of these classes, with the form that the binder has by its first use
  module _ (f : SourceBinder) (x : Option ℕ) (t u : Tree ℕ) (y : Sort) (one : y ≡ domain_sort f) where
    pub domain_fails : (e : code.ScopeFault) → Fails e (scoped a [] bs y (spelled names t)) → Fails e (scoped a [] bs s (spelled names (bind p f x t u)))
    unfolding scoped spelled
    domain_fails e h = passes_on e (scoped a [] bs (domain_sort f) (spelled names t)) _ (subst (λ (z : Sort). Fails e (scoped a [] bs z (spelled names t))) one h)

    module _ (k : SourceBinder) (known : k ≡ with_class f (spelled_name names x) (spelled names u)) (b z : Sort) (bound : b ≡ binder_sort k) (other : z ≡ body_sort f) where
      pub body_fails : (e : code.ScopeFault) (v : Scoped) → scoped a [] bs y (spelled names t) ≡ Ok v → Fails e (scoped a [] (record { name = spelled_name names x; binding = Variable b } ∷ bs) z (spelled names u)) → Fails e (scoped a [] bs s (spelled names (bind p f x t u)))
      unfolding scoped spelled
      body_fails e v g h = rw (sym one, g, sym known, sym bound, sym other) (passes_on e (scoped a [] (record { name = spelled_name names x; binding = Variable b } ∷ bs) z (spelled names u)) (λ w. Ok (bind p k tt v w)) h)

      pub bind_is : (v w tree : Scoped) → scoped a [] bs y (spelled names t) ≡ Ok v → scoped a [] (record { name = spelled_name names x; binding = Variable b } ∷ bs) z (spelled names u) ≡ Ok w → tree ≡ bind p k tt v w → scoped a [] bs s (spelled names (bind p f x t u)) ≡ Ok tree
      unfolding scoped spelled
      bind_is v w tree g h e = rw (e, sym one, g, sym known, sym bound, sym other, h) refl

  -- a case
  module _ (f : CaseForm) (x : Option ℕ) (t m us : Tree ℕ) where
    pub of_fails : (e : code.ScopeFault) → Fails e (scoped a [] bs OfTerm (spelled names t)) → Fails e (scoped a [] bs s (spelled names (cases p f x t m us)))
    unfolding scoped spelled
    of_fails e h = passes_on e (scoped a [] bs OfTerm (spelled names t)) _ h

    pub motive_fails : (e : code.ScopeFault) (v : Scoped) → scoped a [] bs OfTerm (spelled names t) ≡ Ok v → Fails e (scoped a [] bs OfType (spelled names m)) → Fails e (scoped a [] bs s (spelled names (cases p f x t m us)))
    unfolding scoped spelled
    motive_fails e v g h = rw g (passes_on e (scoped a [] bs OfType (spelled names m)) _ h)

    pub branches_fail : (e : code.ScopeFault) (v n : Scoped) → scoped a [] bs OfTerm (spelled names t) ≡ Ok v → scoped a [] bs OfType (spelled names m) ≡ Ok n → Fails e (scoped a (of_case f (spelled_name names x)) bs OfTerm (spelled names us)) → Fails e (scoped a [] bs s (spelled names (cases p f x t m us)))
    unfolding scoped spelled
    branches_fail e v n g h i = rw (g, h) (passes_on e (scoped a (of_case f (spelled_name names x)) bs OfTerm (spelled names us)) _ i)

    pub cases_are : (v n ws tree : Scoped) → scoped a [] bs OfTerm (spelled names t) ≡ Ok v → scoped a [] bs OfType (spelled names m) ≡ Ok n → scoped a (of_case f (spelled_name names x)) bs OfTerm (spelled names us) ≡ Ok ws → tree ≡ cases p f tt v n ws → scoped a [] bs s (spelled names (cases p f x t m us)) ≡ Ok tree
    unfolding scoped spelled
    cases_are v n ws tree g h i e = rw (e, g, h, i) refl
