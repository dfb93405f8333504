-- What tokens say, or their first fault, is the same whatever they are called, where their names stand for the same.
use Rattle.std.proofs.Common.{◌≡◌, ℕ, ◌<◌, Bool, true, false, cond, List, [], ◌∷◌, Result, Ok, Err, map, refl, sym, ap, subst, ◌∙◌}
use Rattle.source_model.specs.Source.{Module}
use Rattle.source_model.specs.Grammar.{Token, Value, module_so_far}
use Rattle.source_model.specs.Rows.{same_kind}
use Rattle.source_model.specs.Parsing.{Given, Fault, IsFirstFault, parsed}
use Rattle.source_model.specs.SurfaceText.{Says}
use Rattle.source_model.specs.declared.token.TokenKind.{TokenKind}
use Rattle.source_model.specs.declared.token.TokenKind.TheVariants as k
use Rattle.source_model.proofs.Reading.{said_is_parsed}
use Rattle.source_model.proofs.Said.{parsed_is_said}
use Rattle.source_model.proofs.Whole.{whatever_is_read}
use Rattle.scope_model.specs.ItemNames.{AreCalled}
use Rattle.scope_model.proofs.SaidNames.{said_names}
use Rattle.build_model.specs.ByText.{AreCalledBy, Below}
use Rattle.build_model.specs.Renamed.{renamed_module}
use Rattle.build_model.proofs.RenamedTwice.{module_kept}
use Rattle.build_model.proofs.RenamedValues.{called_anew, anew}
use Rattle.build_model.proofs.NamedWanted.{before}
use Rattle.build_model.proofs.ReadAnew.{all_anew, parsed_anew}

name_kind : (j : TokenKind) → same_kind k.Name j ≡ true → j ≡ k.Name
name_kind k.Name e = refl
name_kind j e = absurd cc

name_alike : {B : Type 0} (j : TokenKind) (x y other : B) (b : Bool) → same_kind k.Name j ≡ b → (j ≡ k.Name → x ≡ y) → cond b x other ≡ cond b y other
name_alike j x y other true e h = h (name_kind j e)
name_alike j x y other false e h = refl

module _ {A B : Type 0} (f : A → B) (other : B) where
  token_alike : (t : Token A) (u : Token B) → t.kind ≡ u.kind → t.span ≡ u.span → (t.kind ≡ k.Name → f t.name ≡ u.name) → called_anew f other t ≡ called_anew (λ (x : B). x) other u
  token_alike t u e d h =
      ap (λ (x : B). record { kind = t.kind; span = t.span; name = x }) (name_alike t.kind (f t.name) u.name other (same_kind k.Name t.kind) refl h)
      ∙ (λ i. record { kind = e i; span = d i; name = cond (same_kind k.Name (e i)) u.name other })

  tokens_alike : (ts : List (Token A)) (us : List (Token B)) → AreCalledBy f ts us → map (called_anew f other) ts ≡ map (called_anew (λ (x : B). x) other) us
  tokens_alike [] [] h = refl
  tokens_alike (t ∷ ts) (u ∷ us) h = λ i. token_alike t u h.0 h.1 h.2 i ∷ tokens_alike ts us h.3 i
  tokens_alike [] (u ∷ us) h = absurd h
  tokens_alike (t ∷ ts) [] h = absurd h

module _ {A B : Type 0} (f : A → B) (other : B) (g : Given B) where
  read_is : (r : Result (List (Value A)) Fault) (xs : List (Value B)) → all_anew f other g r ≡ Ok xs → (vs : List (Value A)) × (r ≡ Ok vs) × (map (anew f other) vs ≡ xs)
  read_is (Ok vs) xs h = (vs, refl, cc)
  read_is (Err d) xs h = absurd cc

  fault_is : (r : Result (List (Value A)) Fault) (d : Fault) → all_anew f other g r ≡ Err d → r ≡ Err d
  fault_is (Ok vs) d h = absurd cc
  fault_is (Err c) d h = cc

  -- where a module is read with its names replaced, it is read
  module_read : (ts : List (Token A)) (m : Module B) → all_anew f other g (parsed (before f other g) ts) ≡ Ok (module_so_far m ∷ []) → (b : Module A) × Says (before f other g) ts b × (m ≡ renamed_module f b)
  module_read ts m h =
      let o = read_is (parsed (before f other g) ts) (module_so_far m ∷ []) h in
      let w = whatever_is_read (before f other g) ts o.0 o.1 in
      let one : module_so_far (renamed_module f w.0) ∷ [] ≡ module_so_far m ∷ [] = ap (map (anew f other)) (sym w.1) ∙ o.2 in
      let same : m ≡ renamed_module f w.0 = cc in
      (w.0, parsed_is_said (before f other g) ts w.0 (o.1 ∙ ap (λ (vs : List (Value A)). Ok vs) w.1), same)

module _ {A B : Type 0} (f : A → B) (other : B) (g : Given B) (ts : List (Token A)) (us : List (Token B)) (e : AreCalledBy f ts us) where
  read_alike : all_anew (λ (x : B). x) other g (parsed g us) ≡ all_anew f other g (parsed (before f other g) ts)
  read_alike = sym (parsed_anew (λ (x : B). x) other g us) ∙ ap (parsed g) (sym (tokens_alike f other ts us e)) ∙ parsed_anew f other g ts

  pub faulty_anew : (d : Fault) → IsFirstFault (before f other g) ts d → IsFirstFault g us d
  faulty_anew d h = fault_is (λ (x : B). x) other g (parsed g us) d (read_alike ∙ ap (all_anew f other g) h)

  pub said_anew : (m : Module A) → Says (before f other g) ts m → Says g us (renamed_module f m)
  said_anew m s =
      let o = module_read (λ (x : B). x) other g us (renamed_module f m) (read_alike ∙ ap (all_anew f other g) (said_is_parsed (before f other g) ts m s)) in
      subst (λ (b : Module B). Says g us b) (sym (o.2 ∙ module_kept o.0)) o.1

  said_before : (m : Module B) → Says g us m → (b : Module A) × Says (before f other g) ts b × (m ≡ renamed_module f b)
  said_before m s =
      module_read f other g ts m (sym read_alike ∙ ap (all_anew (λ (x : B). x) other g) (said_is_parsed g us m s) ∙ ap (λ (b : Module B). Ok (module_so_far b ∷ [])) (module_kept m))

-- ---- numbers below a bound

module _ (n : ℕ) (other : Below n) where
  abbrev below_by : (t : Token ℕ) (b : Bool) → same_kind k.Name t.kind ≡ b → (t.kind ≡ k.Name → t.name < n) → Below n
  below_by t true e h = (t.name, h (name_kind t.kind e))
  below_by t false e h = other

  below_is : (t : Token ℕ) (b : Bool) (e : same_kind k.Name t.kind ≡ b) (h : t.kind ≡ k.Name → t.name < n) → t.kind ≡ k.Name → (below_by t b e h).0 ≡ t.name
  below_is t true e h i = refl
  below_is t false e h i = let no : false ≡ true = sym e ∙ ap (λ (j : TokenKind). same_kind k.Name j) i in absurd cc

  abbrev all_below : (ts : List (Token ℕ)) → AreCalled (λ x. x < n) ts → List (Token (Below n))
  all_below [] h = []
  all_below (t ∷ ts) h = record { kind = t.kind; span = t.span; name = below_by t (same_kind k.Name t.kind) refl h.0 } ∷ all_below ts h.1

  are_below : (ts : List (Token ℕ)) (h : AreCalled (λ x. x < n) ts) → AreCalledBy (λ (x : Below n). x.0) (all_below ts h) ts
  are_below [] h = tt
  are_below (t ∷ ts) h = (refl, refl, below_is t (same_kind k.Name t.kind) refl h.0, are_below ts h.1)

-- where each name of the tokens is below the bound, so is each name of the module
pub said_below : (n : ℕ) (g : Given ℕ) (ts : List (Token ℕ)) (m : Module ℕ) → AreCalled (λ x. x < n) ts → Says g ts m → (b : Module (Below n)) × (m ≡ renamed_module (λ (x : Below n). x.0) b)
said_below n g ts m h s =
    let other : Below n = (m.name, (said_names (λ (x : ℕ). x < n) g ts m h s).0) in
    let b = said_before (λ (x : Below n). x.0) 0 g (all_below n other ts h) ts (are_below n other ts h) m s in
    (b.0, b.2)
