-- Each row of the grammar, behind its first token, gives what is to hold of what its symbol leaves.
use Rattle.std.proofs.Common.{ℕ, pred, Bool, true, false, List, [], ◌∷◌, inl, inr, Option, Some, None, refl}
use Rattle.cdle_model.specs.Classes.{terms, types}
use Rattle.source_model.specs.Source.{Tree}
use Rattle.source_model.specs.Heights.{is_kind}
use Rattle.source_model.specs.Grammar.{Token, Value, token, part, patterns, branches, parameters, constructors, module_so_far, Need, any, of_type, as_domain, Symbol, The, Term, Spine, Atom, ClassAtom, Class, Body, Owner, Annotation, Side, KeptTerm, TypeGiven, Motive, MaybeArrow, Projections, Patterns, Arguments, TypeArguments, Branches, Imports, Items, Parameters, Constructors, Want, Test_, Make, Read, IsType, IsShallow}
use Rattle.source_model.specs.Grammar as m
use Rattle.source_model.specs.Rows.{row, same_kind, atom_row, whole_atom_row, spine_row, term_row, argument_row, class_atom_row, class_row, type_argument_row, arrow_row, pattern_row, projection_row, branch_row, owner_row, annotation_row, side_row, kept_row, motive_row, import_row, parameter_row, constructor_row, item_row, body_row, body_is_type, outermost, raised, ◌▸◌}
use Rattle.source_model.specs.Made.{made, defined}
use Rattle.source_model.specs.Parsing.{Given}
use Rattle.source_model.specs.declared.token.TokenKind.{TokenKind}
use Rattle.source_model.specs.declared.token.TokenKind.TheVariants as k
use Rattle.build_model.proofs.Forms.{HasForm}
use Rattle.build_model.proofs.Wanted.{After, IsClass, IsBody, IsAnnotation, OnTerm, OnClass, OnOption, OnEnclosed, OnOwner, OnPatterns, OnBranches, OnParameters, OnConstructors, OnModule, OnSymbol, OnWants, OnRow, row_on, raised_on, only_on, counted_on, type_is, fits_is, behind_type_on, as_type}
use Rattle.build_model.proofs.MadeForms.{product_formed, forall_formed, lambda_formed, erased_formed, defined_formed, one_item, import_formed}

module _ {A : Type 0} (g : Given A) where
  -- ---- terms

  atom_on : (n : ℕ) (j : TokenKind) (t : Token A) (vs : List (Value A)) (Q : After A) → OnTerm vs Q → OnRow g (atom_row n j) (token t ∷ vs) Q
  unfolding made
  atom_on n k.Name t vs Q h = (h _ _ tt, λ x. h _ _ tt)
  atom_on n k.Open t vs Q h = λ f u p. λ c. h _ u p
  atom_on n k.OpenBracket t vs Q h = λ f u p. λ c. λ e w q. λ d. h _ _ (p, q)
  atom_on n k.Beta t vs Q h = ((h _ _ (inl refl, inl refl), λ z w q. h _ _ (inl refl, inr q)), λ y u p. (h _ _ (inr p, inl refl), λ z w q. h _ _ (inr p, inr q)))
  atom_on n j t vs Q h = tt

  whole_atom_on : (n : ℕ) (j : TokenKind) (t : Token A) (vs : List (Value A)) (Q : After A) → OnTerm vs Q → OnRow g (whole_atom_row n j) (token t ∷ vs) Q
  whole_atom_on n j t vs Q h = row_on g (atom_row n j) _ (token t ∷ vs) Q (atom_on n j t vs _ (λ f u p. (p, h)))

  spine_on : (n : ℕ) (j : TokenKind) (t : Token A) (vs : List (Value A)) (Q : After A) → OnTerm vs Q → OnRow g (spine_row n j) (token t ∷ vs) Q
  spine_on n j t vs Q h = row_on g (whole_atom_row n j) _ (token t ∷ vs) Q (whole_atom_on n j t vs _ (λ f u p. (p, h)))

  term_on : (n : ℕ) (j : TokenKind) (t : Token A) (vs : List (Value A)) (Q : After A) → OnTerm vs Q → OnRow g (term_row n j) (token t ∷ vs) Q
  unfolding made
  term_on n k.Lambda t vs Q h = λ x. λ f a p. λ d. λ e u q. h _ _ (p, q)
  term_on n k.BigLambda t vs Q h = λ x. λ f a p. λ d. λ e u q. h _ _ (erased_formed t.span x.name a u p q)
  term_on n k.Rho t vs Q h = λ f q p. λ c. λ x. λ d. λ e a r. λ at i. λ z. λ y u s. h _ _ ((p, as_type a r (type_is g e at a _ i)), s)
  term_on n k.Phi t vs Q h = λ f q p. λ c. λ e u r. λ d. λ y w s. λ z. h _ _ ((p, r), s)
  term_on n k.Delta t vs Q h = λ f a p. λ c. λ e q r. h _ _ (p, r)
  term_on n k.Chi t vs Q h = λ f a p. λ at i. λ c. λ e u r. h _ _ (as_type a p (type_is g f at a _ i), r)
  term_on n k.FinalSigma t vs Q h = λ f q p. h _ _ p
  term_on n k.Mu t vs Q h = λ x. λ d. λ f u p. λ e a. λ b. λ bs. λ c. h _ _ tt
  term_on n k.Sigma t vs Q h = λ f u p. λ e a. λ b. λ bs. λ c. h _ _ tt
  term_on n j t vs Q h = spine_on n j t vs Q h

  class_atom_on : (n : ℕ) (j : TokenKind) (t : Token A) (vs : List (Value A)) (Q : After A) → OnClass vs Q → OnRow g (class_atom_row n j) (token t ∷ vs) Q
  unfolding made
  class_atom_on n k.Star t vs Q h = h _ _ tt
  class_atom_on n k.Name t vs Q h = (h _ _ tt, λ x. h _ _ tt)
  class_atom_on n k.Open t vs Q h = λ f u p. λ c. h _ u p
  class_atom_on n k.OpenBrace t vs Q h = λ f u p. λ c. λ e w q. λ d. h _ _ (p, q)
  class_atom_on n j t vs Q h = tt

  argument_on : (n : ℕ) (j : TokenKind) (t : Token A) (f : ℕ) (u : Tree A) (vs : List (Value A)) (Q : After A) → HasForm terms u → OnTerm vs Q → OnRow g (argument_row n j) (token t ∷ part f u ∷ vs) Q
  unfolding made
  argument_on n k.Minus t f u vs Q p h = λ e w q. h _ _ (p, q)
  argument_on n k.MiddleDot t f u vs Q p h = λ e a q. λ at i. h _ _ (p, as_type a q (type_is g e at a _ i))
  argument_on n j t f u vs Q p h = row_on g (whole_atom_row n j) (Make m.App ∷ []) (token t ∷ part f u ∷ vs) Q (whole_atom_on n j t (part f u ∷ vs) (λ us. OnWants g (Make m.App ∷ []) us Q) (λ e w q. h _ _ (p, q)))

  -- ---- classes

  class_on : (n : ℕ) (l : Option ℕ) (j : TokenKind) (t : Token A) (vs : List (Value A)) (Q : After A) → OnClass vs Q → OnRow g (class_row n l j) (token t ∷ vs) Q
  unfolding made
  class_on n l k.BigPi t vs Q h = counted_on g l _ (token t ∷ vs) Q (λ x. λ c. λ f a p. λ d. λ e b q. λ at i. h _ _ (product_formed _ (Some x.name) a b p q (fits_is g e f at d a b _ i)))
  class_on n l k.ForAll t vs Q h = counted_on g l _ (token t ∷ vs) Q (λ x. λ c. λ f a p. λ d. λ e b q. λ at i. h _ _ (forall_formed _ (Some x.name) a b p (as_type b q (type_is g e at b _ i))))
  class_on n l k.Lambda t vs Q h = λ x. λ c. λ f a p. λ d. λ e b q. λ at i. h _ _ (lambda_formed _ (Some x.name) a b p (as_type b q (type_is g e at b _ i)))
  class_on n l k.Iota t vs Q h = λ x. λ c. λ f a p. λ at i. λ d. λ e b q. λ to j. h _ _ (as_type a p (type_is g f at a _ i), as_type b q (type_is g e to b _ j))
  class_on n l j t vs Q h = row_on g (class_atom_row n j) (Read (TypeArguments n) ∷ Read (MaybeArrow n l) ∷ []) (token t ∷ vs) Q (class_atom_on n j t vs (λ us. OnWants g (Read (TypeArguments n) ∷ Read (MaybeArrow n l) ∷ []) us Q) (λ f a p. (p, λ e b q. (q, h))))

  type_argument_on : (n : ℕ) (j : TokenKind) (t : Token A) (f : ℕ) (a : Tree A) (vs : List (Value A)) (Q : After A) → HasForm types a → OnClass vs Q → OnRow g (type_argument_row n j) (token t ∷ part f a ∷ vs) Q
  unfolding made
  type_argument_on n k.MiddleDot t f a vs Q p h = λ e b q. λ at i. h _ _ (p, as_type b q (type_is g e at b _ i))
  type_argument_on n j t f a vs Q p h = row_on g (whole_atom_row n j) (Make m.At ∷ []) (token t ∷ part f a ∷ vs) Q (whole_atom_on n j t (part f a ∷ vs) (λ us. OnWants g (Make m.At ∷ []) us Q) (λ e w q. h _ _ (p, q)))

  arrow_on : (n : ℕ) (l : Option ℕ) (j : TokenKind) (t : Token A) (f : ℕ) (a : Tree A) (vs : List (Value A)) (Q : After A) → IsClass (is_kind a) a → OnClass vs Q → OnRow g (arrow_row n l j) (token t ∷ part f a ∷ vs) Q
  unfolding made
  arrow_on n l k.Arrow t f a vs Q p h = counted_on g l _ (token t ∷ part f a ∷ vs) Q (λ e b q. λ at i. h _ _ (product_formed _ None a b p q (fits_is g e f at t a b _ i)))
  arrow_on n l k.ErasedArrow t f a vs Q p h = counted_on g l _ (token t ∷ part f a ∷ vs) Q (λ e b q. λ at i. h _ _ (forall_formed _ None a b p (as_type b q (type_is g e at b _ i))))
  arrow_on n l j t f a vs Q p h = tt

  body_on : (b : Bool) (j : TokenKind) (t : Token A) (vs : List (Value A)) (Q : After A) → ((f : ℕ) (u : Tree A) → IsBody b u → Q (part f u ∷ vs)) → OnRow g (body_row b j) (token t ∷ vs) Q
  body_on true j t vs Q h = class_on (pred outermost) None j t vs Q h
  body_on false j t vs Q h = term_on (pred outermost) j t vs Q h

  -- ---- options and repetitions

  owner_on : (j : TokenKind) (t : Token A) (vs : List (Value A)) (Q : After A) → OnOwner vs Q → OnRow g (owner_row j) (token t ∷ vs) Q
  unfolding made
  owner_on j t vs Q h = only_on g (same_kind k.Hash j) _ (token t ∷ vs) Q (λ x. h.1 x)

  annotation_on : (n : ℕ) (need : Need) (j : TokenKind) (t : Token A) (vs : List (Value A)) (Q : After A) → OnOption (IsAnnotation need) vs Q → OnRow g (annotation_row n need j) (token t ∷ vs) Q
  unfolding made
  annotation_on n of_type j t vs Q h = only_on g (same_kind k.Colon j) _ (token t ∷ vs) Q (λ f a p. λ at i. h f a (inr (as_type a p (type_is g f at a _ i))))
  annotation_on n any j t vs Q h = only_on g (same_kind k.Colon j) _ (token t ∷ vs) Q (λ f a p. h f a (inr p))
  annotation_on n as_domain j t vs Q h = only_on g (same_kind k.Colon j) _ (token t ∷ vs) Q (λ f a p. h f a (inr p))

  side_on : (n : ℕ) (j : TokenKind) (t : Token A) (vs : List (Value A)) (Q : After A) → OnEnclosed vs Q → OnRow g (side_row n j) (token t ∷ vs) Q
  unfolding made
  side_on n j t vs Q h = only_on g (same_kind k.Less j) _ (token t ∷ vs) Q (λ f u p. λ c. h.1 _ u p)

  kept_on : (n : ℕ) (j : TokenKind) (t : Token A) (vs : List (Value A)) (Q : After A) → OnEnclosed vs Q → OnRow g (kept_row n j) (token t ∷ vs) Q
  unfolding made
  kept_on n j t vs Q h = only_on g (same_kind k.OpenBrace j) _ (token t ∷ vs) Q (λ f u p. λ c. h.1 _ u p)

  given_on : (n : ℕ) (j : TokenKind) (t : Token A) (vs : List (Value A)) (Q : After A) → OnOption (HasForm types) vs Q → OnRow g (class_atom_row n j ▸ (Test_ IsType ∷ [])) (token t ∷ vs) Q
  given_on n j t vs Q h = row_on g (class_atom_row n j) _ (token t ∷ vs) Q (class_atom_on n j t vs _ (λ f a p. λ at i. h f a (inr (as_type a p (type_is g f at a _ i)))))

  motive_on : (n : ℕ) (j : TokenKind) (t : Token A) (vs : List (Value A)) (Q : After A) → ((f : ℕ) (u : Tree A) → Q (part f u ∷ vs)) → OnRow g (motive_row n j) (token t ∷ vs) Q
  unfolding made
  motive_on n j t vs Q h = only_on g (same_kind k.At j) _ (token t ∷ vs) Q (λ f a p. λ at i. h f a)

  projection_on : (j : TokenKind) (t : Token A) (f : ℕ) (u : Tree A) (vs : List (Value A)) (Q : After A) → HasForm terms u → OnTerm vs Q → OnRow g (projection_row j) (token t ∷ part f u ∷ vs) Q
  unfolding made
  projection_on k.First t f u vs Q p h = λ at i. (p, h)
  projection_on k.Second t f u vs Q p h = λ at i. (p, h)
  projection_on j t f u vs Q p h = tt

  pattern_on : (j : TokenKind) (t : Token A) (vs : List (Value A)) (Q : After A) → OnPatterns vs Q → OnRow g (pattern_row j) (token t ∷ vs) Q
  unfolding made
  pattern_on k.Name t (patterns ps ∷ vs) Q h = h
  pattern_on k.Minus t (patterns ps ∷ vs) Q h = λ x. h
  pattern_on k.MiddleDot t (patterns ps ∷ vs) Q h = λ x. h
  pattern_on j t (patterns ps ∷ vs) Q h = tt
  pattern_on j t vs Q h = absurd h

  branch_on : (n : ℕ) (j : TokenKind) (t : Token A) (vs : List (Value A)) (Q : After A) → OnBranches vs Q → OnRow g (branch_row n j) (token t ∷ vs) Q
  unfolding made
  branch_on n j t (branches bs ∷ vs) Q h = only_on g (same_kind k.Bar j) _ (token t ∷ branches bs ∷ vs) Q (λ c. ((λ ps. λ d. λ f u p. h), λ x. (λ ps. λ d. λ f u p. h)))
  branch_on n j t vs Q h = absurd h

  -- ---- items

  parameter_on : (n : ℕ) (j : TokenKind) (t : Token A) (vs : List (Value A)) (Q : After A) → OnParameters vs Q → OnRow g (parameter_row n j) (token t ∷ vs) Q
  unfolding made
  parameter_on n j t (parameters ps ∷ vs) Q h = only_on g (same_kind k.Open j) _ (token t ∷ parameters ps ∷ vs) Q (λ at i. λ x. λ c. λ f a p. λ d. h)
  parameter_on n j t vs Q h = absurd h

  constructor_on : (n : ℕ) (j : TokenKind) (t : Token A) (vs : List (Value A)) (Q : After A) → OnConstructors vs Q → OnRow g (constructor_row n j) (token t ∷ vs) Q
  unfolding made
  constructor_on n j t (constructors cs ∷ vs) Q h = only_on g (same_kind k.Bar j) _ (token t ∷ constructors cs ∷ vs) Q (λ at i. λ x. λ c. λ f a p. λ by y. λ to z. h)
  constructor_on n j t vs Q h = absurd h

  import_on : (j : TokenKind) (t : Token A) (vs : List (Value A)) (Q : After A) → OnModule vs Q → OnRow g (import_row j) (token t ∷ vs) Q
  unfolding made
  import_on j t (module_so_far b ∷ vs) Q h = only_on g (same_kind k.Import j) _ (token t ∷ module_so_far b ∷ vs) Q (λ x. λ at i. λ d. (import_formed g.text x b h.0, h.1))
  import_on j t vs Q h = absurd h

  item_on : (j : TokenKind) (t : Token A) (vs : List (Value A)) (Q : After A) → OnModule vs Q → OnRow g (item_row j) (token t ∷ vs) Q
  unfolding made
  item_on k.Name t (module_so_far b ∷ vs) Q h = λ c. λ f a p. λ d. λ e u q. λ at i. λ z. (one_item b.items (defined t a u) h.0 (defined_formed t a u p q (type_is g e at u _ i)), h.1)
  item_on k.Data t (module_so_far b ∷ vs) Q h = λ x. λ ps. λ c. λ s. λ d. λ cs. λ z. (one_item b.items _ h.0 tt, h.1)
  item_on j t (module_so_far b ∷ vs) Q h = tt
  item_on j t vs Q h = absurd h

  -- ---- symbols

  pub symbol_on : (s : Symbol) (j : TokenKind) (t : Token A) (vs : List (Value A)) (Q : After A) → OnSymbol s vs Q → OnRow g (row s vs j) (token t ∷ vs) Q
  unfolding row
  symbol_on (The s w) j t vs Q h = only_on g (same_kind s j) [] (token t ∷ vs) Q (h t)
  symbol_on (Term n) j t vs Q h = raised_on g n (term_row (pred n) j) (token t ∷ vs) Q (term_on (pred n) j t vs Q h)
  symbol_on (Spine n) j t vs Q h = spine_on n j t vs Q h
  symbol_on (Atom n) j t vs Q h = whole_atom_on n j t vs Q h
  symbol_on (ClassAtom n w) j t vs Q h = class_atom_on n j t vs Q h
  symbol_on (Class n need l) j t vs Q h = raised_on g n (class_row (pred n) l j) (token t ∷ vs) Q (class_on (pred n) l j t vs Q h)
  symbol_on Body j t vs Q h = raised_on g outermost (body_row (body_is_type vs) j) (token t ∷ vs) Q (body_on (body_is_type vs) j t vs Q h)
  symbol_on Owner j t vs Q h = owner_on j t vs Q h
  symbol_on (Annotation n need) j t vs Q h = annotation_on n need j t vs Q h
  symbol_on (Side n) j t vs Q h = side_on n j t vs Q h
  symbol_on (KeptTerm n) j t vs Q h = kept_on n j t vs Q h
  symbol_on (TypeGiven n) j t vs Q h = given_on n j t vs Q h
  symbol_on (Motive n) j t vs Q h = motive_on n j t vs Q h
  symbol_on (MaybeArrow n l) j t (part f a ∷ vs) Q h = arrow_on n l j t f a vs Q h.0 h.1
  symbol_on (MaybeArrow n l) j t vs Q h = absurd h
  symbol_on Projections j t (part f u ∷ vs) Q h = projection_on j t f u vs Q h.0 h.1
  symbol_on Projections j t vs Q h = absurd h
  symbol_on Patterns j t vs Q h = pattern_on j t vs Q h
  symbol_on (Arguments n) j t (part f u ∷ vs) Q h =
      raised_on g n (argument_row (pred n) j ▸ (Test_ IsShallow ∷ Read (Arguments (pred n)) ∷ [])) (token t ∷ part f u ∷ vs) Q (row_on g (argument_row (pred n) j) _ (token t ∷ part f u ∷ vs) Q (argument_on (pred n) j t f u vs (λ us. OnWants g (Test_ IsShallow ∷ Read (Arguments (pred n)) ∷ []) us Q) h.0 (λ e w q. λ at i. (q, h.1))))
  symbol_on (Arguments n) j t vs Q h = absurd h
  symbol_on (TypeArguments n) j t (part f a ∷ vs) Q h = behind_type_on g (raised n (type_argument_row (pred n) j ▸ (Test_ IsShallow ∷ Read (TypeArguments (pred n)) ∷ []))) f t a vs Q
      (λ e. raised_on g n (type_argument_row (pred n) j ▸ (Test_ IsShallow ∷ Read (TypeArguments (pred n)) ∷ [])) (token t ∷ part f a ∷ vs) Q (row_on g (type_argument_row (pred n) j) _ (token t ∷ part f a ∷ vs) Q (type_argument_on (pred n) j t f a vs (λ us. OnWants g (Test_ IsShallow ∷ Read (TypeArguments (pred n)) ∷ []) us Q) (as_type a h.0 e) (λ e w q. λ at i. (q, h.1)))))
  symbol_on (TypeArguments n) j t vs Q h = absurd h
  symbol_on (Branches n) j t vs Q h = branch_on n j t vs Q h
  symbol_on Imports j t vs Q h = import_on j t vs Q h
  symbol_on Items j t vs Q h = item_on j t vs Q h
  symbol_on (Parameters n) j t vs Q h = parameter_on n j t vs Q h
  symbol_on (Constructors n) j t vs Q h = constructor_on n j t vs Q h
