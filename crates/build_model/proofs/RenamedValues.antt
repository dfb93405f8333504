-- What was read, with its names replaced, and what is measured, made and tested of it.
use Rattle.std.proofs.Common.{◌≡◌, ℕ, suc, Bool, true, false, cond, List, [], ◌∷◌, ◌++◌, map, refl, sym, ap, ◌∙◌}
use Rattle.std.proofs.lemmas.List.{map-append}
use Rattle.std.specs.List.{list_any}
use Rattle.std.specs.Option.{option_map}
use Rattle.std.specs.Str.{bytes_eq}
use Rattle.source_model.specs.Source.{Span, use_of, leaf, one, two, bind, cases, branch, star_of, none_of, pi_of, all_of, allt_of, kpi_of, kpit_of, def_item, type_item, Tree, Module}
use Rattle.source_model.specs.Heights.{span_of, levels, is_kind, is_none, arguments_of}
use Rattle.source_model.specs.Grammar.{Token, Branch, Value, token, part, enclosed, nothing, patterns, branches, parameters, constructors, module_so_far, any, of_type, as_domain, Symbol, Class, Body}
use Rattle.source_model.specs.Rows.{same_kind, body_is_type, row, Leaving, MustStand, LeftOut, NotGiven, Ends}
use Rattle.source_model.specs.Made.{from_of, to_of, chained, a_branch, with_import, left_out}
use Rattle.source_model.specs.Parsing.{domain_word, word_of}
use Rattle.source_model.specs.declared.token.TokenKind.{TokenKind}
use Rattle.source_model.specs.declared.token.TokenKind.TheVariants as k
use Rattle.build_model.specs.Renamed.{renamed_pattern, renamed, renamed_parameter, renamed_constructor, renamed_item, renamed_module}

-- ---- measures

module _ {A B : Type 0} (f : A → B) where
  span_renamed : (t : Tree A) → span_of (renamed f t) ≡ span_of t
  span_renamed (use_of s u) = refl
  span_renamed (leaf s l) = refl
  span_renamed (one s j t) = refl
  span_renamed (two s j t u) = refl
  span_renamed (bind s j x t u) = refl
  span_renamed (cases s j x t m us) = refl
  span_renamed (branch s u ps t us) = refl

  pub from_renamed : (t : Tree A) → from_of (renamed f t) ≡ from_of t
  from_renamed t = ap (λ (s : Span). s.from) (span_renamed t)

  pub to_renamed : (t : Tree A) → to_of (renamed f t) ≡ to_of t
  to_renamed t = ap (λ (s : Span). s.to) (span_renamed t)

  pub kind_renamed : (t : Tree A) → is_kind (renamed f t) ≡ is_kind t
  kind_renamed (leaf s star_of) = refl
  kind_renamed (bind s kpi_of x t u) = refl
  kind_renamed (bind s kpit_of x t u) = refl
  kind_renamed t = refl

  pub none_renamed : (t : Tree A) → is_none (renamed f t) ≡ is_none t
  none_renamed (leaf s none_of) = refl
  none_renamed t = refl

  pub levels_renamed : (t : Tree A) → levels (renamed f t) ≡ levels t
  levels_renamed (use_of s u) = refl
  levels_renamed (leaf s star_of) = refl
  levels_renamed (leaf s none_of) = refl
  levels_renamed (one s j t) = rw (levels_renamed t) refl
  levels_renamed (two s j t u) = rw (levels_renamed t, levels_renamed u) refl
  levels_renamed (bind s j x t u) = rw (levels_renamed t, levels_renamed u) refl
  levels_renamed (cases s j x t m us) = rw (levels_renamed t, levels_renamed m, levels_renamed us) refl
  levels_renamed (branch s u ps t us) = rw (levels_renamed t, levels_renamed us) refl

  pub arguments_renamed : (t : Tree A) → arguments_of (renamed f t) ≡ arguments_of t
  arguments_renamed (bind s pi_of x t u) = ap suc (arguments_renamed u)
  arguments_renamed (bind s all_of x t u) = ap suc (arguments_renamed u)
  arguments_renamed (bind s allt_of x t u) = ap suc (arguments_renamed u)
  arguments_renamed t = refl

  -- ---- branches, items

  abbrev pub renamed_branch : Branch A → Branch B
  renamed_branch b = record { span = b.span; owner = option_map f b.owner; name = f b.name; patterns = map (renamed_pattern f) b.patterns; part = renamed f b.part }

  pub chained_renamed : (bs : List (Branch A)) → chained (map renamed_branch bs) ≡ renamed f (chained bs)
  chained_renamed [] = refl
  chained_renamed (b ∷ bs) = rw (chained_renamed bs) refl

  pub branch_renamed : (c t : Tree A) (ps : List _) → a_branch (renamed f c) (map (renamed_pattern f) ps) (renamed f t) ≡ map renamed_branch (a_branch c ps t)
  branch_renamed (use_of s u) t ps = refl
  branch_renamed c t ps = refl

  by_class : (s : Span) (x : A) (c t : Tree A) (b : Bool)
      → cond b (type_item s (f x) (renamed f c) (renamed f t)) (def_item s (f x) (renamed f c) (renamed f t)) ≡ renamed_item f (cond b (type_item s x c t) (def_item s x c t))
  by_class s x c t true = refl
  by_class s x c t false = refl

  pub defined_renamed : (s : Span) (x : A) (c t : Tree A)
      → cond (is_kind (renamed f c)) (type_item s (f x) (renamed f c) (renamed f t)) (def_item s (f x) (renamed f c) (renamed f t)) ≡ renamed_item f (cond (is_kind c) (type_item s x c t) (def_item s x c t))
  defined_renamed s x c t = rw (kind_renamed c) (by_class s x c t (is_kind c))

  any_renamed : (text : B → List ℕ) (w : List ℕ) (is : List (A × Span)) → list_any (λ (i : B × Span). bytes_eq w (text i.0)) (map (λ (i : A × Span). (f i.0, i.1)) is) ≡ list_any (λ (i : A × Span). bytes_eq w (text (f i.0))) is
  any_renamed text w [] = refl
  any_renamed text w (i ∷ is) = rw (any_renamed text w is) refl

  module_by : (b c : Module A) (t : Bool) → cond t (renamed_module f b) (renamed_module f c) ≡ renamed_module f (cond t b c)
  module_by b c true = refl
  module_by b c false = refl

  abbrev one_import : A → Span → Module A → Module A
  one_import x s b = record b { imports = b.imports ++ (x, s) ∷ [] }

  one_import_renamed : (x : A) (s : Span) (b : Module A) → record (renamed_module f b) { imports = map (λ (i : A × Span). (f i.0, i.1)) b.imports ++ (f x, s) ∷ [] } ≡ renamed_module f (one_import x s b)
  one_import_renamed x s b = ap (λ (l : List (B × Span)). record (renamed_module f b) { imports = l }) (sym (map-append (λ (i : A × Span). (f i.0, i.1)) b.imports ((x, s) ∷ [])))

  pub import_renamed : (text : B → List ℕ) (t : Token A) (u : Token B) (b : Module A) → u.span ≡ t.span → u.name ≡ f t.name → with_import text u (renamed_module f b) ≡ renamed_module f (with_import (λ x. text (f x)) t b)
  import_renamed text t u b d e =
      rw (d, e, any_renamed text (text (f t.name)) b.imports)
      (ap (λ (c : Module B). cond (list_any (λ (i : A × Span). bytes_eq (text (f t.name)) (text (f i.0))) b.imports) (renamed_module f b) c) (one_import_renamed t.name t.span b)
      ∙ module_by b (one_import t.name t.span b) (list_any (λ (i : A × Span). bytes_eq (text (f t.name)) (text (f i.0))) b.imports))

-- ---- values; tokens that are no names are all called by one name

module _ {A B : Type 0} (f : A → B) (other : B) where
  abbrev pub called_anew : Token A → Token B
  called_anew t = record { kind = t.kind; span = t.span; name = cond (same_kind k.Name t.kind) (f t.name) other }

  abbrev pub anew : Value A → Value B
  anew (token t) = token (called_anew t)
  anew (part n t) = part n (renamed f t)
  anew (enclosed n t) = enclosed n (renamed f t)
  anew nothing = nothing
  anew (patterns ps) = patterns (map (renamed_pattern f) ps)
  anew (branches bs) = branches (map (renamed_branch f) bs)
  anew (parameters ps) = parameters (map (renamed_parameter f) ps)
  anew (constructors cs) = constructors (map (renamed_constructor f) cs)
  anew (module_so_far b) = module_so_far (renamed_module f b)

  -- ---- what goes by values

  pub body_anew : (vs : List (Value A)) → body_is_type (map anew vs) ≡ body_is_type vs
  body_anew (token t ∷ part n c ∷ vs) = kind_renamed f c
  body_anew vs = refl

  domain_anew : (vs : List (Value A)) → domain_word (map anew vs) ≡ domain_word vs
  domain_anew (token t ∷ part n c ∷ vs) = rw (kind_renamed f c) refl
  domain_anew vs = refl

  pub word_anew : (s : Symbol) (vs : List (Value A)) → word_of s (map anew vs) ≡ word_of s vs
  unfolding word_of
  word_anew (Class n as_domain l) vs = domain_anew vs
  word_anew (Class n any l) vs = refl
  word_anew (Class n of_type l) vs = refl
  word_anew Body vs = rw (body_anew vs) refl
  word_anew s vs = refl

  pub row_anew : (s : Symbol) (vs : List (Value A)) (j : TokenKind) → row s (map anew vs) j ≡ row s vs j
  unfolding row
  row_anew Body vs j = rw (body_anew vs) refl
  row_anew s vs j = refl

  pub left_anew : (l : Leaving) (vs : List (Value A)) → left_out l (map anew vs) ≡ map anew (left_out l vs)
  left_anew MustStand vs = refl
  left_anew LeftOut vs = refl
  left_anew NotGiven vs = refl
  left_anew Ends vs = refl
