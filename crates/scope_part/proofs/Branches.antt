-- The scope of branches, one after the other.
use Rattle.std.proofs.Common.{◌≡◌, List, [], ◌∷◌, ◌++◌, length, map, Result, Ok, Err, refl, sym, ap, ◌∙◌, subst, arith}
use Rattle.std.proofs.lemmas.List.{append-nil}
use Rattle.cdle_model.specs.declared.grammar.Sort.TheVariants.{OfTerm}
use Rattle.source_model.specs.Source.{Span, Pattern, branch, none, nowhere}
use Rattle.scope_model.specs.Scoped.{Reference, Scoped}
use Rattle.scope_model.specs.ScopeNames.{Text, Around, Bound, stands}
use Rattle.scope_model.specs.Scope.{ScopeFault, Unbound, WrongClass, Twice, ◌>>=◌, bare, scoped, wanted_as, with_patterns}
use Rattle.scoped_tree.specs.Trees.{argument, chain as scoped_chain, place, reference}
use Rattle.scoped_tree.specs.declared.forms.Argument.{Argument}
use Rattle.scoped_tree.specs.declared.node.ScopedBranch.{ScopedBranch}
use Rattle.surf_tree.specs.Forms.{chain, name_use, pattern_of}
use Rattle.surf_tree.specs.declared.node.SrcBranch.{SrcBranch}
use Rattle.surf_tree.specs.declared.node.SrcPattern.{SrcPattern}
use Rattle.scope_part.specs.Layers.{pattern_bounds}
use Rattle.scope_part.specs.Names.{spelled_use}
use Rattle.scope_part.specs.Results.{Fails}
use Rattle.scope_part.specs.Spelled.{bare_of, spelled, spelled_patterns}
use Rattle.scope_part.specs.declared.fault.ScopeFault as code
use Rattle.scope_part.specs.declared.fault.ScopeFault.TheVariants as faults
use Rattle.scope_part.proofs.Bounds.{with_split}
use Rattle.scope_part.proofs.Scoping.{passes_on}

-- the branches that are known, and behind them those that follow
abbrev pub joined : List ScopedBranch → Scoped → Scoped
joined [] ws = ws
joined (b ∷ bs) ws = branch (place b.span) (reference b.ctor) (map argument b.args.items) b.part (joined bs ws)

joined_end : (bs : List ScopedBranch) → joined bs (none nowhere) ≡ scoped_chain bs
joined_end [] = refl
joined_end (b ∷ bs) = ap (branch (place b.span) (reference b.ctor) (map argument b.args.items) b.part) (joined_end bs)

joined_push : (bs : List ScopedBranch) (b : ScopedBranch) (ws : Scoped) → joined (bs ++ (b ∷ [])) ws ≡ joined bs (joined (b ∷ []) ws)
joined_push [] b ws = refl
joined_push (c ∷ bs) b ws = ap (branch (place c.span) (reference c.ctor) (map argument c.args.items) c.part) (joined_push bs b ws)

pub bare_is : (names : List Text) (ps : List SrcPattern) → bare (spelled_patterns names (map pattern_of ps)) ≡ map bare_of ps
bare_is names [] = refl
bare_is names (p ∷ ps) = ap (λ qs. bare_of p ∷ qs) (bare_is names ps)

pub argument_on : (xs : List Argument) (x : Argument) (p : SrcPattern) (ps : List SrcPattern) → argument x ≡ bare_of p → map argument (xs ++ (x ∷ [])) ++ map bare_of ps ≡ map argument xs ++ map bare_of (p ∷ ps)
argument_on [] x p ps e = ap (λ q. q ∷ map bare_of ps) e
argument_on (y ∷ xs) x p ps e = ap (λ qs. argument y ∷ qs) (argument_on xs x p ps e)

pub arguments_end : (xs : List Argument) (ps all : List SrcPattern) → length ps ≡ 0 → map argument xs ++ map bare_of ps ≡ map bare_of all → map argument xs ≡ map bare_of all
arguments_end xs [] all z h = sym (append-nil (map argument xs)) ∙ h
arguments_end xs (p ∷ ps) all z h = absurd (omega arith)

then_assoc : {A B C : Type 0} (r : Result A ScopeFault) (f : A → Result B ScopeFault) (g : B → Result C ScopeFault) → ((r >>= f) >>= g) ≡ (r >>= (λ x. f x >>= g))
then_assoc (Ok x) f g = refl
then_assoc (Err e) f g = refl

module _ (a : Around) (names : List Text) (m bs : List Bound) where
  -- one branch
  module _ (b : SrcBranch) where
    abbrev pub standing : Result Reference ScopeFault
    standing = wanted_as (place b.span) OfTerm (stands a bs (spelled_use names (name_use b.ctor)))

    -- the branch's part under the names of its pattern
    abbrev pub inside : List SrcPattern → Result Scoped ScopeFault
    inside ps = scoped a [] (pattern_bounds names ps ++ (m ++ bs)) OfTerm (spelled names b.part)

    inside_is : (ps : List SrcPattern) → ps ≡ b.args.items → inside ps ≡ scoped a [] (with_patterns (spelled_patterns names (map pattern_of b.args.items)) (m ++ bs)) OfTerm (spelled names b.part)
    inside_is ps e = ap (λ qs. inside qs) e ∙ ap (λ (under : List Bound). scoped a [] under OfTerm (spelled names b.part)) (sym (with_split (spelled_patterns names (map pattern_of b.args.items)) (m ++ bs)))

    pub ctor_fails : (e : code.ScopeFault) → Fails e standing → Fails e (scoped a m bs OfTerm (spelled names (chain (b ∷ []))))
    unfolding scoped spelled
    ctor_fails e h = passes_on e standing _ h

    pub inside_fails : (e : code.ScopeFault) (r : Reference) (ps : List SrcPattern) → ps ≡ b.args.items → standing ≡ Ok r → Fails e (inside ps) → Fails e (scoped a m bs OfTerm (spelled names (chain (b ∷ []))))
    unfolding scoped spelled
    inside_fails e r ps q g h = rw g (passes_on e (scoped a [] (with_patterns (spelled_patterns names (map pattern_of b.args.items)) (m ++ bs)) OfTerm (spelled names b.part)) _ (subst (λ (z : Result Scoped ScopeFault). Fails e z) (inside_is ps q) h))

    pub branch_is : (r : Reference) (v : Scoped) (ps qs : List SrcPattern) (xs : List Argument) → ps ≡ b.args.items → qs ≡ b.args.items → standing ≡ Ok r → inside ps ≡ Ok v → map argument xs ≡ map bare_of qs → scoped a m bs OfTerm (spelled names (chain (b ∷ []))) ≡ Ok (branch (place b.span) r (map argument xs) v (none nowhere))
    unfolding scoped spelled
    branch_is r v ps qs xs p q g h k = rw (g, sym (inside_is ps p) ∙ h) (ap (λ ys. Ok (branch (place b.span) r ys v (none nowhere))) (bare_is names b.args.items ∙ sym (ap (map bare_of) q) ∙ sym k))

-- ---- one after the other

-- what stands behind the one branch
abbrev behind_it : Result Scoped ScopeFault → Scoped → Scoped
behind_it (Ok (branch p r xs v us)) ws = branch p r xs v ws
behind_it other ws = ws

goes_on : (r : Result Reference ScopeFault) (i : Result Scoped ScopeFault) (p : Span) (xs : List (Pattern (Unit {0}))) (b : ScopedBranch) (rest : Result Scoped ScopeFault)
    → (r >>= λ n. i >>= λ v. Ok (branch p n xs v (none nowhere))) ≡ Ok (scoped_chain (b ∷ [])) → (r >>= λ n. i >>= λ v. rest >>= λ ws. Ok (branch p n xs v ws)) ≡ (rest >>= λ ws. Ok (joined (b ∷ []) ws))
goes_on (Err e) i p xs b rest h = absurd cc
goes_on (Ok n) (Err e) p xs b rest h = absurd cc
goes_on (Ok n) (Ok v) p xs b rest h = ap (λ z. rest >>= λ ws. Ok (behind_it z ws)) h

stops : (r : Result Reference ScopeFault) (i : Result Scoped ScopeFault) (p : Span) (xs : List (Pattern (Unit {0}))) (rest : Result Scoped ScopeFault) (e : ScopeFault)
    → (r >>= λ n. i >>= λ v. Ok (branch p n xs v (none nowhere))) ≡ Err e → (r >>= λ n. i >>= λ v. rest >>= λ ws. Ok (branch p n xs v ws)) ≡ Err e
stops (Err d) i p xs rest e h = cc
stops (Ok n) (Err d) p xs rest e h = cc
stops (Ok n) (Ok v) p xs rest e h = absurd cc

whole : (r : Result Scoped ScopeFault) → (r >>= λ x. Ok x) ≡ r
whole (Ok x) = refl
whole (Err e) = refl

same_then : (r : Result Scoped ScopeFault) (f g : Scoped → Scoped) → ((x : Scoped) → f x ≡ g x) → (r >>= λ x. Ok (f x)) ≡ (r >>= λ x. Ok (g x))
same_then (Ok x) f g h = ap Ok (h x)
same_then (Err e) f g h = refl

module _ (a : Around) (names : List Text) (m bs : List Bound) where
  -- the scope of these, behind those that are known
  unfoldable pub so_far : List ScopedBranch → List SrcBranch → Result Scoped ScopeFault
  so_far known rest = scoped a m bs OfTerm (spelled names (chain rest)) >>= λ ws. Ok (joined known ws)

  pub starts : (all : List SrcBranch) → so_far [] all ≡ scoped a m bs OfTerm (spelled names (chain all))
  unfolding so_far
  starts all = whole (scoped a m bs OfTerm (spelled names (chain all)))

  pub branch_on : (b : SrcBranch) (others : List SrcBranch) (known : List ScopedBranch) (c : ScopedBranch) → scoped a m bs OfTerm (spelled names (chain (b ∷ []))) ≡ Ok (scoped_chain (c ∷ [])) → so_far known (b ∷ others) ≡ so_far (known ++ (c ∷ [])) others
  unfolding so_far scoped spelled
  branch_on b others known c h =
      ap (λ (z : Result Scoped ScopeFault). z >>= λ ws. Ok (joined known ws)) (goes_on (wanted_as (place b.span) OfTerm (stands a bs (spelled_use names (name_use b.ctor)))) (scoped a [] (with_patterns (spelled_patterns names (map pattern_of b.args.items)) (m ++ bs)) OfTerm (spelled names b.part)) (place b.span) (bare (spelled_patterns names (map pattern_of b.args.items))) c (scoped a m bs OfTerm (spelled names (chain others))) h)
      ∙ then_assoc (scoped a m bs OfTerm (spelled names (chain others))) (λ ws. Ok (joined (c ∷ []) ws)) (λ ws. Ok (joined known ws))
      ∙ same_then (scoped a m bs OfTerm (spelled names (chain others))) (λ ws. joined known (joined (c ∷ []) ws)) (joined (known ++ (c ∷ []))) (λ ws. sym (joined_push known c ws))

  stopped : (b : SrcBranch) (others : List SrcBranch) (known : List ScopedBranch) (e : ScopeFault) → scoped a m bs OfTerm (spelled names (chain (b ∷ []))) ≡ Err e → so_far known (b ∷ others) ≡ Err e
  unfolding so_far scoped spelled
  stopped b others known e h = ap (λ (z : Result Scoped ScopeFault). z >>= λ ws. Ok (joined known ws)) (stops (wanted_as (place b.span) OfTerm (stands a bs (spelled_use names (name_use b.ctor)))) (scoped a [] (with_patterns (spelled_patterns names (map pattern_of b.args.items)) (m ++ bs)) OfTerm (spelled names b.part)) (place b.span) (bare (spelled_patterns names (map pattern_of b.args.items))) (scoped a m bs OfTerm (spelled names (chain others))) e h)

  fails_here : (b : SrcBranch) (others : List SrcBranch) (known : List ScopedBranch) (e : code.ScopeFault) → Fails e (scoped a m bs OfTerm (spelled names (chain (b ∷ [])))) → Fails e (so_far known (b ∷ others))
  fails_here b others known faults.NoMemory h = tt
  fails_here b others known (faults.Unbound p) h = stopped b others known (Unbound (place p)) h
  fails_here b others known (faults.WrongClass p) h = stopped b others known (WrongClass (place p)) h
  fails_here b others known (faults.Twice p) h = stopped b others known (Twice (place p)) h

  pub branch_fails : (b : SrcBranch) (others rest all : List SrcBranch) (known : List ScopedBranch) (e : code.ScopeFault) → rest ≡ b ∷ others → so_far known rest ≡ so_far [] all → Fails e (scoped a m bs OfTerm (spelled names (chain (b ∷ [])))) → Fails e (scoped a m bs OfTerm (spelled names (chain all)))
  branch_fails b others rest all known e r same h = subst (λ (z : Result Scoped ScopeFault). Fails e z) (sym (ap (λ xs. so_far known xs) r) ∙ same ∙ starts all) (fails_here b others known e h)

  pub branches_end : (known : List ScopedBranch) (rest all : List SrcBranch) → length rest ≡ 0 → so_far known rest ≡ so_far [] all → scoped a m bs OfTerm (spelled names (chain all)) ≡ Ok (scoped_chain known)
  unfolding so_far scoped spelled
  branches_end known [] all z h = sym (starts all) ∙ sym h ∙ ap Ok (joined_end known)
  branches_end known (b ∷ rest) all z h = absurd (omega arith)
