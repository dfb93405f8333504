-- What the rows make of parts of their classes is of its class.
use Rattle.std.proofs.Common.{◌≡◌, ℕ, Bool, true, false, cond, List, [], ◌∷◌, ◌++◌, ◌⊎◌, Option, Some, refl}
use Rattle.cdle_model.specs.Classes.{terms, types}
use Rattle.source_model.specs.Source.{Span, bind, pi_of, all_of, allt_of, tlam_of, xtlam_of, kpi_of, kpit_of, elam_of, xlam_of, unclassed_of, def_item, type_item, Tree, Item, Module}
use Rattle.source_model.specs.Heights.{is_kind, is_none}
use Rattle.source_model.specs.Grammar.{Token}
use Rattle.source_model.specs.Made.{product, forall, erased_lambda, defined, with_import}
use Rattle.build_model.proofs.Forms.{HasForm, ItemHasForm, HaveForms}
use Rattle.build_model.proofs.Wanted.{IsClass, IsBody, as_type}

module _ {A : Type 0} where
  abbrev IsWhole : Tree A → Type 0
  IsWhole t = IsClass (is_kind t) t

  product_by : (s : Span) (x : Option A) (a b : Tree A) (j k : Bool) → IsClass j a → IsClass k b → (j ≡ true → k ≡ true) → IsWhole (bind s (cond k (cond j kpit_of kpi_of) pi_of) x a b)
  product_by s x a b true true p q f = (p, q)
  product_by s x a b true false p q f = let e = f refl in absurd cc
  product_by s x a b false true p q f = (p, q)
  product_by s x a b false false p q f = (p, q)

  pub product_formed : (s : Span) (x : Option A) (a b : Tree A) → IsWhole a → IsWhole b → (is_kind a ≡ true → is_kind b ≡ true) → IsWhole (product s x a b)
  product_formed s x a b p q f = product_by s x a b (is_kind a) (is_kind b) p q f

  forall_by : (s : Span) (x : Option A) (a b : Tree A) (j : Bool) → IsClass j a → HasForm types b → IsWhole (bind s (cond j allt_of all_of) x a b)
  forall_by s x a b true p q = (p, q)
  forall_by s x a b false p q = (p, q)

  pub forall_formed : (s : Span) (x : Option A) (a b : Tree A) → IsWhole a → HasForm types b → IsWhole (forall s x a b)
  forall_formed s x a b p q = forall_by s x a b (is_kind a) p q

  lambda_by : (s : Span) (x : Option A) (a b : Tree A) (j : Bool) → IsClass j a → HasForm types b → IsWhole (bind s (cond j xtlam_of tlam_of) x a b)
  lambda_by s x a b true p q = (p, q)
  lambda_by s x a b false p q = (p, q)

  pub lambda_formed : (s : Span) (x : Option A) (a b : Tree A) → IsWhole a → HasForm types b → IsWhole (bind s (cond (is_kind a) xtlam_of tlam_of) x a b)
  lambda_formed s x a b p q = lambda_by s x a b (is_kind a) p q

  erased_by : (s : Span) (x : A) (a t : Tree A) (n j : Bool) → is_none a ≡ n → (is_none a ≡ true) ⊎ IsClass j a → HasForm terms t → HasForm terms (bind s (cond n unclassed_of (cond j xlam_of elam_of)) (Some x) a t)
  erased_by s x a t true j e p q = (e, q)
  erased_by s x a t false true e p q = (p, q)
  erased_by s x a t false false e p q = (p, q)

  pub erased_formed : (s : Span) (x : A) (a t : Tree A) → (is_none a ≡ true) ⊎ IsWhole a → HasForm terms t → HasForm terms (erased_lambda s x a t)
  erased_formed s x a t p q = erased_by s x a t (is_none a) (is_kind a) refl p q

  -- ---- items

  defined_by : (x : Token A) (c t : Tree A) (j : Bool) → IsClass j c → IsBody j t → is_kind t ≡ false → ItemHasForm (cond j (type_item x.span x.name c t) (def_item x.span x.name c t))
  defined_by x c t true p q e = (p, as_type t q e)
  defined_by x c t false p q e = (p, q)

  pub defined_formed : (x : Token A) (c t : Tree A) → IsWhole c → IsBody (is_kind c) t → is_kind t ≡ false → ItemHasForm (defined x c t)
  defined_formed x c t p q e = defined_by x c t (is_kind c) p q e

  pub one_item : (is : List (Item A)) (i : Item A) → HaveForms is → ItemHasForm i → HaveForms (is ++ i ∷ [])
  one_item [] i h p = (p, tt)
  one_item (j ∷ is) i h p = (h.0, one_item is i h.1 p)

  import_by : (b c : Module A) (t : Bool) → HaveForms b.items → HaveForms c.items → HaveForms (cond t b c).items
  import_by b c true h k = h
  import_by b c false h k = k

  pub import_formed : (text : A → List ℕ) (x : Token A) (b : Module A) → HaveForms b.items → HaveForms (with_import text x b).items
  import_formed text x b h = import_by b _ _ h h
