-- Each row of the grammar, behind its first token, makes and tests alike, and gives what is to hold of what its symbol leaves.
use Rattle.std.proofs.Common.{◌≡◌, ℕ, pred, Bool, true, false, List, [], ◌∷◌, Option, None, refl, ap, ◌∙◌}
use Rattle.source_model.specs.Source.{Tree}
use Rattle.source_model.specs.Grammar.{Token, Value, token, part, patterns, branches, parameters, constructors, module_so_far, Need, any, of_type, as_domain, Symbol, The, Term, Spine, Atom, ClassAtom, Class, Body, Owner, Annotation, Side, KeptTerm, TypeGiven, Motive, MaybeArrow, Projections, Patterns, Arguments, TypeArguments, Branches, Imports, Items, Parameters, Constructors, Want, Test_, Make, Read, IsType, IsShallow}
use Rattle.source_model.specs.Grammar as m
use Rattle.source_model.specs.Rows.{row, same_kind, atom_row, whole_atom_row, spine_row, term_row, argument_row, class_atom_row, class_row, type_argument_row, arrow_row, pattern_row, projection_row, branch_row, owner_row, annotation_row, side_row, kept_row, motive_row, import_row, parameter_row, constructor_row, item_row, body_row, body_is_type, outermost, raised, ◌▸◌}
use Rattle.source_model.specs.Made.{made, use_alone, use_in}
use Rattle.source_model.specs.Parsing.{Given, complaint}
use Rattle.source_model.specs.declared.token.TokenKind.{TokenKind}
use Rattle.source_model.specs.declared.token.TokenKind.TheVariants as k
use Rattle.build_model.proofs.NamedWanted.{After, IsName, OnPart, OnEnclosed, OnOwner, OnPatterns, OnBranches, OnParameters, OnConstructors, OnModule, OnSymbol, OnWants, OnRow, row_on, raised_on, only_on, counted_on, behind_type_on}
use Rattle.build_model.proofs.NamedMade.{type_tested, fit_tested, shallow_tested, few_tested, importable_tested, named_made, owned_made, product_made, forall_made, lambda_made, iota_made, arrow_made, erased_arrow_made, at_made, on_made, app_made, eapp_made, tapp_made, lam_made, elam_made, rho_made, delta_made, chi_made, flip_made, fst_made, snd_made, mu_made, sigma_made, pattern_made, marked_pattern_made, branch_made, parameter_made, constructor_made, import_named, import_made, item_made, datatype_made}

is_name : {A : Type 0} (t : Token A) → t.kind ≡ k.Name → IsName t
is_name t e = ap (λ (j : TokenKind). same_kind k.Name j) e

module _ {A B : Type 0} (f : A → B) (other : B) (g : Given B) where
  abbrev Wants : List Want → List (Value A) → After A → Type 0
  Wants ws vs Q = OnWants f other g ws vs Q

  -- ---- terms

  atom_on : (n : ℕ) (j : TokenKind) (t : Token A) (vs : List (Value A)) (Q : After A) → t.kind ≡ j → OnPart vs Q → OnRow f other g (atom_row n j) (token t ∷ vs) Q
  unfolding made
  atom_on n k.Name t vs Q i h = let r = is_name t i in ((named_made f other g t vs r, h _ _), λ x s. (owned_made f other g x t vs s r, h _ _))
  atom_on n k.Open t vs Q i h = λ p u. λ c s. (refl, h _ u)
  atom_on n k.OpenBracket t vs Q i h = λ p u. λ c r. λ q w. λ d s. (refl, h _ _)
  atom_on n k.Beta t vs Q i h = (((refl, h _ _), λ z w. (refl, h _ _)), λ y u. ((refl, h _ _), λ z w. (refl, h _ _)))
  atom_on n j t vs Q i h = tt

  whole_atom_on : (n : ℕ) (j : TokenKind) (t : Token A) (vs : List (Value A)) (Q : After A) → t.kind ≡ j → OnPart vs Q → OnRow f other g (whole_atom_row n j) (token t ∷ vs) Q
  whole_atom_on n j t vs Q i h = row_on f other g (atom_row n j) _ (token t ∷ vs) Q (atom_on n j t vs _ i (λ p u. h))

  spine_on : (n : ℕ) (j : TokenKind) (t : Token A) (vs : List (Value A)) (Q : After A) → t.kind ≡ j → OnPart vs Q → OnRow f other g (spine_row n j) (token t ∷ vs) Q
  spine_on n j t vs Q i h = row_on f other g (whole_atom_row n j) _ (token t ∷ vs) Q (whole_atom_on n j t vs _ i (λ p u. h))

  term_on : (n : ℕ) (j : TokenKind) (t : Token A) (vs : List (Value A)) (Q : After A) → t.kind ≡ j → OnPart vs Q → OnRow f other g (term_row n j) (token t ∷ vs) Q
  unfolding made
  term_on n k.Lambda t vs Q i h = λ x r. λ p a. λ d s. λ q u. (lam_made f other g p q a u d x t vs r, h _ _)
  term_on n k.BigLambda t vs Q i h = λ x r. λ p a. λ d s. λ q u. (elam_made f other g p q a u d x t vs r, h _ _)
  term_on n k.Rho t vs Q i h = λ p q. λ e c. λ x r. λ b d. λ l a. (type_tested f other g l a _, λ at ok. λ y s. λ z u. (rho_made f other g p l z q a u y b x e t vs r, h _ _))
  term_on n k.Phi t vs Q i h = λ p q. λ c r. λ e u. λ d s. λ y w. λ z v. (refl, h _ _)
  term_on n k.Delta t vs Q i h = λ p a. λ d c. λ e q. (delta_made f other g p e a q d t vs, h _ _)
  term_on n k.Chi t vs Q i h = λ p a. (type_tested f other g p a _, λ at ok. λ d c. λ e u. (chi_made f other g p e a u d t vs, h _ _))
  term_on n k.FinalSigma t vs Q i h = λ p q. (flip_made f other g p q t vs, h _ _)
  term_on n k.Mu t vs Q i h = λ x r. λ d s. λ p u. λ e a. λ b y. (refl, λ bs. λ c z. (mu_made f other g p e u a bs c b d x t vs r, h _ _))
  term_on n k.Sigma t vs Q i h = λ p u. λ e a. λ b y. (refl, λ bs. λ c z. (sigma_made f other g p e u a bs c b t vs, h _ _))
  term_on n j t vs Q i h = spine_on n j t vs Q i h

  class_atom_on : (n : ℕ) (j : TokenKind) (t : Token A) (vs : List (Value A)) (Q : After A) → t.kind ≡ j → OnPart vs Q → OnRow f other g (class_atom_row n j) (token t ∷ vs) Q
  unfolding made
  class_atom_on n k.Star t vs Q i h = (refl, h _ _)
  class_atom_on n k.Name t vs Q i h = let r = is_name t i in ((named_made f other g t vs r, h _ _), λ x s. (owned_made f other g x t vs s r, h _ _))
  class_atom_on n k.Open t vs Q i h = λ p u. λ c s. (refl, h _ u)
  class_atom_on n k.OpenBrace t vs Q i h = λ p u. λ c r. λ e w. λ d s. (refl, h _ _)
  class_atom_on n j t vs Q i h = tt

  argument_on : (n : ℕ) (j : TokenKind) (t : Token A) (p : ℕ) (u : Tree A) (vs : List (Value A)) (Q : After A) → t.kind ≡ j → OnPart vs Q → OnRow f other g (argument_row n j) (token t ∷ part p u ∷ vs) Q
  unfolding made
  argument_on n k.Minus t p u vs Q i h = λ e w. (eapp_made f other g p e u w t vs, h _ _)
  argument_on n k.MiddleDot t p u vs Q i h = λ e a. (type_tested f other g e a _, λ at ok. (tapp_made f other g p e u a t vs, h _ _))
  argument_on n j t p u vs Q i h = row_on f other g (whole_atom_row n j) (Make m.App ∷ []) (token t ∷ part p u ∷ vs) Q (whole_atom_on n j t (part p u ∷ vs) (λ us. Wants (Make m.App ∷ []) us Q) i (λ e w. (app_made f other g p e u w vs, h _ _)))

  -- ---- classes

  class_on : (n : ℕ) (l : Option ℕ) (j : TokenKind) (t : Token A) (vs : List (Value A)) (Q : After A) → t.kind ≡ j → OnPart vs Q → OnRow f other g (class_row n l j) (token t ∷ vs) Q
  unfolding made
  class_on n l k.BigPi t vs Q i h = counted_on f other g l _ (token t ∷ vs) Q (λ x r. λ c y. λ p a. λ d z. λ e b. (fit_tested f other g e p d a b _, λ at ok. (product_made f other g p e a b d c x t vs r, h _ _)))
  class_on n l k.ForAll t vs Q i h = counted_on f other g l _ (token t ∷ vs) Q (λ x r. λ c y. λ p a. λ d z. λ e b. (type_tested f other g e b _, λ at ok. (forall_made f other g p e a b d c x t vs r, h _ _)))
  class_on n l k.Lambda t vs Q i h = λ x r. λ c y. λ p a. λ d z. λ e b. (type_tested f other g e b _, λ at ok. (lambda_made f other g p e a b d c x t vs r, h _ _))
  class_on n l k.Iota t vs Q i h = λ x r. λ c y. λ p a. (type_tested f other g p a _, λ at ok. λ d z. λ e b. (type_tested f other g e b _, λ at ok. (iota_made f other g p e a b d c x t vs r, h _ _)))
  class_on n l j t vs Q i h = row_on f other g (class_atom_row n j) (Read (TypeArguments n) ∷ Read (MaybeArrow n l) ∷ []) (token t ∷ vs) Q (class_atom_on n j t vs (λ us. Wants (Read (TypeArguments n) ∷ Read (MaybeArrow n l) ∷ []) us Q) i (λ p a. λ e b. h))

  type_argument_on : (n : ℕ) (j : TokenKind) (t : Token A) (p : ℕ) (a : Tree A) (vs : List (Value A)) (Q : After A) → t.kind ≡ j → OnPart vs Q → OnRow f other g (type_argument_row n j) (token t ∷ part p a ∷ vs) Q
  unfolding made
  type_argument_on n k.MiddleDot t p a vs Q i h = λ e b. (type_tested f other g e b _, λ at ok. (on_made f other g p e a b t vs, h _ _))
  type_argument_on n j t p a vs Q i h = row_on f other g (whole_atom_row n j) (Make m.At ∷ []) (token t ∷ part p a ∷ vs) Q (whole_atom_on n j t (part p a ∷ vs) (λ us. Wants (Make m.At ∷ []) us Q) i (λ e w. (at_made f other g p e a w vs, h _ _)))

  arrow_on : (n : ℕ) (l : Option ℕ) (j : TokenKind) (t : Token A) (p : ℕ) (a : Tree A) (vs : List (Value A)) (Q : After A) → OnPart vs Q → OnRow f other g (arrow_row n l j) (token t ∷ part p a ∷ vs) Q
  unfolding made
  arrow_on n l k.Arrow t p a vs Q h = counted_on f other g l _ (token t ∷ part p a ∷ vs) Q (λ e b. (fit_tested f other g e p t a b _, λ at ok. (arrow_made f other g p e a b t vs, h _ _)))
  arrow_on n l k.ErasedArrow t p a vs Q h = counted_on f other g l _ (token t ∷ part p a ∷ vs) Q (λ e b. (type_tested f other g e b _, λ at ok. (erased_arrow_made f other g p e a b t vs, h _ _)))
  arrow_on n l j t p a vs Q h = tt

  body_on : (b : Bool) (j : TokenKind) (t : Token A) (vs : List (Value A)) (Q : After A) → t.kind ≡ j → OnPart vs Q → OnRow f other g (body_row b j) (token t ∷ vs) Q
  body_on true j t vs Q i h = class_on (pred outermost) None j t vs Q i h
  body_on false j t vs Q i h = term_on (pred outermost) j t vs Q i h

  -- ---- options and repetitions

  owner_on : (j : TokenKind) (t : Token A) (vs : List (Value A)) (Q : After A) → OnOwner vs Q → OnRow f other g (owner_row j) (token t ∷ vs) Q
  unfolding made
  owner_on j t vs Q h = only_on f other g (same_kind k.Hash j) _ (token t ∷ vs) Q (λ e. λ x r. (refl, h.1 x r))

  annotation_on : (n : ℕ) (need : Need) (j : TokenKind) (t : Token A) (vs : List (Value A)) (Q : After A) → OnPart vs Q → OnRow f other g (annotation_row n need j) (token t ∷ vs) Q
  unfolding made
  annotation_on n of_type j t vs Q h = only_on f other g (same_kind k.Colon j) _ (token t ∷ vs) Q (λ e. λ p a. (type_tested f other g p a _, λ at ok. (refl, h p a)))
  annotation_on n any j t vs Q h = only_on f other g (same_kind k.Colon j) _ (token t ∷ vs) Q (λ e. λ p a. (refl, h p a))
  annotation_on n as_domain j t vs Q h = only_on f other g (same_kind k.Colon j) _ (token t ∷ vs) Q (λ e. λ p a. (refl, h p a))

  side_on : (n : ℕ) (j : TokenKind) (t : Token A) (vs : List (Value A)) (Q : After A) → OnEnclosed vs Q → OnRow f other g (side_row n j) (token t ∷ vs) Q
  unfolding made
  side_on n j t vs Q h = only_on f other g (same_kind k.Less j) _ (token t ∷ vs) Q (λ e. λ p u. λ c r. (refl, h.1 _ u))

  kept_on : (n : ℕ) (j : TokenKind) (t : Token A) (vs : List (Value A)) (Q : After A) → OnEnclosed vs Q → OnRow f other g (kept_row n j) (token t ∷ vs) Q
  unfolding made
  kept_on n j t vs Q h = only_on f other g (same_kind k.OpenBrace j) _ (token t ∷ vs) Q (λ e. λ p u. λ c r. (refl, h.1 _ u))

  given_on : (n : ℕ) (j : TokenKind) (t : Token A) (vs : List (Value A)) (Q : After A) → t.kind ≡ j → OnPart vs Q → OnRow f other g (class_atom_row n j ▸ (Test_ IsType ∷ [])) (token t ∷ vs) Q
  given_on n j t vs Q i h = row_on f other g (class_atom_row n j) _ (token t ∷ vs) Q (class_atom_on n j t vs _ i (λ p a. (type_tested f other g p a _, λ at ok. h p a)))

  motive_on : (n : ℕ) (j : TokenKind) (t : Token A) (vs : List (Value A)) (Q : After A) → OnPart vs Q → OnRow f other g (motive_row n j) (token t ∷ vs) Q
  unfolding made
  motive_on n j t vs Q h = only_on f other g (same_kind k.At j) _ (token t ∷ vs) Q (λ e. λ p a. (type_tested f other g p a _, λ at ok. (refl, h p a)))

  projection_on : (j : TokenKind) (t : Token A) (p : ℕ) (u : Tree A) (vs : List (Value A)) (Q : After A) → OnPart vs Q → OnRow f other g (projection_row j) (token t ∷ part p u ∷ vs) Q
  unfolding made
  projection_on k.First t p u vs Q h = (fst_made f other g p u t vs, (shallow_tested f other g p _ vs, λ at ok. h))
  projection_on k.Second t p u vs Q h = (snd_made f other g p u t vs, (shallow_tested f other g p _ vs, λ at ok. h))
  projection_on j t p u vs Q h = tt

  pattern_on : (j : TokenKind) (t : Token A) (vs : List (Value A)) (Q : After A) → t.kind ≡ j → OnPatterns vs Q → OnRow f other g (pattern_row j) (token t ∷ vs) Q
  unfolding made
  pattern_on k.Name t (patterns ps ∷ vs) Q i h = (pattern_made f other g _ t ps vs (is_name t i), h)
  pattern_on k.Minus t (patterns ps ∷ vs) Q i h = λ x r. (marked_pattern_made f other g _ x t ps vs r, h)
  pattern_on k.MiddleDot t (patterns ps ∷ vs) Q i h = λ x r. (marked_pattern_made f other g _ x t ps vs r, h)
  pattern_on j t (patterns ps ∷ vs) Q i h = tt
  pattern_on j t vs Q i h = absurd h

  branch_on : (n : ℕ) (j : TokenKind) (t : Token A) (vs : List (Value A)) (Q : After A) → OnBranches vs Q → OnRow f other g (branch_row n j) (token t ∷ vs) Q
  unfolding made
  branch_on n j t (branches bs ∷ vs) Q h = only_on f other g (same_kind k.Bar j) _ (token t ∷ branches bs ∷ vs) Q
      (λ e. λ c r. (
        (named_made f other g c (token t ∷ branches bs ∷ vs) r, (refl, λ ps. λ d y. λ p u. (branch_made f other g c.span.from p (use_alone c) u d t ps bs vs, h))),
        λ x s. (owned_made f other g x c (token t ∷ branches bs ∷ vs) s r, (refl, λ ps. λ d y. λ p u. (branch_made f other g c.span.from p (use_in c x) u d t ps bs vs, h))),
      ))
  branch_on n j t vs Q h = absurd h

  -- ---- items

  parameter_on : (n : ℕ) (j : TokenKind) (t : Token A) (vs : List (Value A)) (Q : After A) → OnParameters vs Q → OnRow f other g (parameter_row n j) (token t ∷ vs) Q
  unfolding made complaint
  parameter_on n j t (parameters ps ∷ vs) Q h = only_on f other g (same_kind k.Open j) _ (token t ∷ parameters ps ∷ vs) Q (λ e. (λ at. refl, λ at ok. λ x r. λ b y. λ p c. λ d z. (parameter_made f other g p c d b x t ps vs r, h)))
  parameter_on n j t vs Q h = absurd h

  constructor_on : (n : ℕ) (j : TokenKind) (t : Token A) (vs : List (Value A)) (Q : After A) → OnConstructors vs Q → OnRow f other g (constructor_row n j) (token t ∷ vs) Q
  unfolding made complaint
  constructor_on n j t (constructors cs ∷ vs) Q h = only_on f other g (same_kind k.Bar j) _ (token t ∷ constructors cs ∷ vs) Q
      (λ e. (λ at. refl, λ at ok. λ x r. λ b y. λ p c. (type_tested f other g p c (token b ∷ token x ∷ token t ∷ constructors cs ∷ vs), λ at ok. (few_tested f other g p c (token b ∷ token x ∷ token t ∷ constructors cs ∷ vs), λ at ok. (constructor_made f other g p c b x t cs vs r, h)))))
  constructor_on n j t vs Q h = absurd h

  import_on : (j : TokenKind) (t : Token A) (vs : List (Value A)) (Q : After A) → OnModule vs Q → OnRow f other g (import_row j) (token t ∷ vs) Q
  unfolding made
  import_on j t (module_so_far b ∷ vs) Q h = only_on f other g (same_kind k.Import j) _ (token t ∷ module_so_far b ∷ vs) Q (λ e. λ x r. (importable_tested f other g x _ r, λ at ok. λ d y. (import_made f other g d x t b vs r, λ c z. h c (z ∙ import_named f other g (λ y. g.text (f y)) x b))))
  import_on j t vs Q h = absurd h

  item_on : (j : TokenKind) (t : Token A) (vs : List (Value A)) (Q : After A) → t.kind ≡ j → OnModule vs Q → OnRow f other g (item_row j) (token t ∷ vs) Q
  unfolding made
  item_on k.Name t (module_so_far b ∷ vs) Q i h = λ c y. λ p a. λ e z. λ q u. (type_tested f other g q u _, λ at ok. λ d w. (item_made f other g p q a u d e c t b vs (is_name t i), h))
  item_on k.Data t (module_so_far b ∷ vs) Q i h = λ x r. (refl, λ ps. λ c r1. λ s r2. λ e r3. (refl, λ cs. λ d r4. (datatype_made f other g d e s c x t ps cs b vs r, h)))
  item_on j t (module_so_far b ∷ vs) Q i h = tt
  item_on j t vs Q i h = absurd h

  -- ---- symbols

  symbol_of : (s : Symbol) (j : TokenKind) (t : Token A) (vs : List (Value A)) (Q : After A) → t.kind ≡ j → OnSymbol s vs Q → OnRow f other g (row s vs j) (token t ∷ vs) Q
  unfolding row
  symbol_of (The s w) j t vs Q i h = only_on f other g (same_kind s j) [] (token t ∷ vs) Q (λ e. h t (rw i e))
  symbol_of (Term n) j t vs Q i h = raised_on f other g n (term_row (pred n) j) (token t ∷ vs) Q (term_on (pred n) j t vs Q i h)
  symbol_of (Spine n) j t vs Q i h = spine_on n j t vs Q i h
  symbol_of (Atom n) j t vs Q i h = whole_atom_on n j t vs Q i h
  symbol_of (ClassAtom n w) j t vs Q i h = class_atom_on n j t vs Q i h
  symbol_of (Class n need l) j t vs Q i h = raised_on f other g n (class_row (pred n) l j) (token t ∷ vs) Q (class_on (pred n) l j t vs Q i h)
  symbol_of Body j t vs Q i h = raised_on f other g outermost (body_row (body_is_type vs) j) (token t ∷ vs) Q (body_on (body_is_type vs) j t vs Q i h)
  symbol_of Owner j t vs Q i h = owner_on j t vs Q h
  symbol_of (Annotation n need) j t vs Q i h = annotation_on n need j t vs Q h
  symbol_of (Side n) j t vs Q i h = side_on n j t vs Q h
  symbol_of (KeptTerm n) j t vs Q i h = kept_on n j t vs Q h
  symbol_of (TypeGiven n) j t vs Q i h = given_on n j t vs Q i h
  symbol_of (Motive n) j t vs Q i h = motive_on n j t vs Q h
  symbol_of (MaybeArrow n l) j t (part p a ∷ vs) Q i h = arrow_on n l j t p a vs Q h
  symbol_of (MaybeArrow n l) j t vs Q i h = absurd h
  symbol_of Projections j t (part p u ∷ vs) Q i h = projection_on j t p u vs Q h
  symbol_of Projections j t vs Q i h = absurd h
  symbol_of Patterns j t vs Q i h = pattern_on j t vs Q i h
  symbol_of (Arguments n) j t (part p u ∷ vs) Q i h =
      raised_on f other g n (argument_row (pred n) j ▸ (Test_ IsShallow ∷ Read (Arguments (pred n)) ∷ [])) (token t ∷ part p u ∷ vs) Q
      (row_on f other g (argument_row (pred n) j) _ (token t ∷ part p u ∷ vs) Q (argument_on (pred n) j t p u vs (λ us. Wants (Test_ IsShallow ∷ Read (Arguments (pred n)) ∷ []) us Q) i (λ e w. (shallow_tested f other g e w vs, λ at ok. h))))
  symbol_of (Arguments n) j t vs Q i h = absurd h
  symbol_of (TypeArguments n) j t (part p a ∷ vs) Q i h =
      behind_type_on f other g (raised n (type_argument_row (pred n) j ▸ (Test_ IsShallow ∷ Read (TypeArguments (pred n)) ∷ []))) p t a vs Q
      (raised_on f other g n (type_argument_row (pred n) j ▸ (Test_ IsShallow ∷ Read (TypeArguments (pred n)) ∷ [])) (token t ∷ part p a ∷ vs) Q
      (row_on f other g (type_argument_row (pred n) j) _ (token t ∷ part p a ∷ vs) Q (type_argument_on (pred n) j t p a vs (λ us. Wants (Test_ IsShallow ∷ Read (TypeArguments (pred n)) ∷ []) us Q) i (λ e w. (shallow_tested f other g e w vs, λ at ok. h)))))
  symbol_of (TypeArguments n) j t vs Q i h = absurd h
  symbol_of (Branches n) j t vs Q i h = branch_on n j t vs Q h
  symbol_of Imports j t vs Q i h = import_on j t vs Q h
  symbol_of Items j t vs Q i h = item_on j t vs Q i h
  symbol_of (Parameters n) j t vs Q i h = parameter_on n j t vs Q h
  symbol_of (Constructors n) j t vs Q i h = constructor_on n j t vs Q h

  pub symbol_on : (s : Symbol) (t : Token A) (vs : List (Value A)) (Q : After A) → OnSymbol s vs Q → OnRow f other g (row s vs t.kind) (token t ∷ vs) Q
  symbol_on s t vs Q h = symbol_of s t.kind t vs Q refl h
