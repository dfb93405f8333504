-- The first use of a binder in a form from those in its parts.
use Rattle.std.proofs.Common.{◌≡◌, ℕ, if◌then◌else◌, List, [], ◌∷◌, Option, Some, None, length, map, refl, sym, ap, ◌∙◌, arith}
use Rattle.cdle_model.specs.declared.grammar.Sort.{Sort}
use Rattle.cdle_model.specs.declared.grammar.Sort.TheVariants.{OfTerm, OfType}
use Rattle.source_model.specs.Source.{Span, use_of, leaf, one, two, bind, cases, SourceLeaf, SourceOne, SourceTwo, SourceBinder, CaseForm, NameUse, Tree}
use Rattle.scope_model.specs.ScopeNames.{Text, Bound, is_called}
use Rattle.scope_model.specs.Scope.{body_sort, domain_sort, first_of_two, first_use, hides, is_use, left_sort, of_case, right_sort, unless_hidden, with_patterns}
use Rattle.surf_tree.specs.Forms.{chain, name_use, pattern_of}
use Rattle.surf_tree.specs.declared.node.SrcBranch.{SrcBranch}
use Rattle.scope_part.specs.Names.{spelled_name, spelled_use}
use Rattle.scope_part.specs.Spelled.{spelled, spelled_patterns}

-- the tree of each form, and what was found in it
module _ (w : Text) (names : List Text) (s : Sort) (p : Span) (tree : Tree ℕ) (found : Option Sort) where
  pub in_name : (u : NameUse ℕ) → use_of p u ≡ tree → found ≡ (if is_use w (spelled_use names u) then Some s else None) → found ≡ first_use w [] s (spelled names tree)
  unfolding first_use spelled
  in_name u e h = rw (sym e) h

  pub in_leaf : (l : SourceLeaf) → leaf p l ≡ tree → found ≡ None → found ≡ first_use w [] s (spelled names tree)
  unfolding first_use spelled
  in_leaf l e h = rw (sym e) h

  pub in_one : (j : SourceOne) (t : Tree ℕ) → one p j t ≡ tree → found ≡ first_use w [] OfTerm (spelled names t) → found ≡ first_use w [] s (spelled names tree)
  unfolding first_use spelled
  in_one j t e h = rw (sym e) h

  pub in_two : (j : SourceTwo) (t u : Tree ℕ) → two p j t u ≡ tree → found ≡ first_of_two (first_use w [] (left_sort j) (spelled names t)) (first_use w [] (right_sort j) (spelled names u)) → found ≡ first_use w [] s (spelled names tree)
  unfolding first_use spelled
  in_two j t u e h = rw (sym e) h

  pub in_bind : (f : SourceBinder) (x : Option ℕ) (t u : Tree ℕ) → bind p f x t u ≡ tree → found ≡ first_of_two (first_use w [] (domain_sort f) (spelled names t)) (unless_hidden (is_called w (spelled_name names x)) (first_use w [] (body_sort f) (spelled names u))) → found ≡ first_use w [] s (spelled names tree)
  unfolding first_use spelled
  in_bind f x t u e h = rw (sym e) h

  pub in_cases : (f : CaseForm) (x : Option ℕ) (t m us : Tree ℕ) → cases p f x t m us ≡ tree → found ≡ first_of_two (first_use w [] OfTerm (spelled names t)) (first_of_two (first_use w [] OfType (spelled names m)) (first_use w (of_case f (spelled_name names x)) OfTerm (spelled names us))) → found ≡ first_use w [] s (spelled names tree)
  unfolding first_use spelled
  in_cases f x t m us e h = rw (sym e) h

first_none : (a : Option Sort) → first_of_two a None ≡ a
first_none (Some s) = refl
first_none None = refl

first_assoc : (a b c : Option Sort) → first_of_two a (first_of_two b c) ≡ first_of_two (first_of_two a b) c
first_assoc (Some s) b c = refl
first_assoc None b c = refl

-- each branch binds these before its pattern
module _ (w : Text) (names : List Text) (m : List Bound) (b : SrcBranch) where
  abbrev pub used : Option Sort
  used = if is_use w (spelled_use names (name_use b.ctor)) then Some OfTerm else None

  abbrev pub inside : Option Sort
  inside = unless_hidden (hides w (with_patterns (spelled_patterns names (map pattern_of b.args.items)) m)) (first_use w [] OfTerm (spelled names b.part))

  pub branch_is : first_use w m OfTerm (spelled names (chain (b ∷ []))) ≡ first_of_two used inside
  unfolding first_use spelled
  branch_is = ap (first_of_two used) (first_none inside)

  behind : (bs : List SrcBranch) → first_use w m OfTerm (spelled names (chain (b ∷ bs))) ≡ first_of_two (first_use w m OfTerm (spelled names (chain (b ∷ [])))) (first_use w m OfTerm (spelled names (chain bs)))
  unfolding first_use spelled
  behind bs = first_assoc used inside (first_use w m OfTerm (spelled names (chain bs))) ∙ ap (λ x. first_of_two x (first_use w m OfTerm (spelled names (chain bs)))) (sym branch_is)

  pub branch_here : (bs : List SrcBranch) (s : Sort) → Some s ≡ first_use w m OfTerm (spelled names (chain (b ∷ []))) → Some s ≡ first_use w m OfTerm (spelled names (chain (b ∷ bs)))
  branch_here bs s e = sym (behind bs ∙ ap (λ x. first_of_two x (first_use w m OfTerm (spelled names (chain bs)))) (sym e))

  pub branch_on : (bs : List SrcBranch) → None ≡ first_use w m OfTerm (spelled names (chain (b ∷ []))) → first_use w m OfTerm (spelled names (chain (b ∷ bs))) ≡ first_use w m OfTerm (spelled names (chain bs))
  branch_on bs e = behind bs ∙ ap (λ x. first_of_two x (first_use w m OfTerm (spelled names (chain bs)))) (sym e)

pub no_branches : (w : Text) (names : List Text) (m : List Bound) (rest all : List SrcBranch) → length rest ≡ 0 → first_use w m OfTerm (spelled names (chain rest)) ≡ first_use w m OfTerm (spelled names (chain all)) → None ≡ first_use w m OfTerm (spelled names (chain all))
unfolding first_use spelled
no_branches w names m [] all z h = h
no_branches w names m (b ∷ rest) all z h = absurd (omega arith)
