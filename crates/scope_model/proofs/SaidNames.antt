-- The names of a module and of its items are those of its name tokens.
use Rattle.std.proofs.Common.{◌≡◌, ℕ, Bool, true, false, cond, List, [], ◌∷◌, ◌++◌, Option, Some, map, refl, sym, subst}
use Rattle.std.specs.List.{AllByRecursion}
use Rattle.source_model.specs.Source.{Tree, Item, Module, Parameter, Constructor, NameUse, def_item, type_item, data_item}
use Rattle.source_model.specs.Heights.{is_kind}
use Rattle.source_model.specs.Grammar.{Token, Value, token, part, parameters, constructors, module_so_far, Symbol, The, Class, Body, Imports, Items, Parameters, Constructors, Want, Test_, Make, Read}
use Rattle.source_model.specs.Rows.{only, same_kind, row, item_row}
use Rattle.source_model.specs.Made.{made, defined, with_import}
use Rattle.source_model.specs.Parsing.{Given}
use Rattle.source_model.specs.SurfaceText.{Reads, begins, left, makes, tests, ReadsAll, end, more, Says}
use Rattle.source_model.specs.declared.token.TokenKind.{TokenKind}
use Rattle.source_model.specs.declared.token.TokenKind.TheVariants as k
use Rattle.scope_model.specs.ItemNames.{AreCalled, declared_by, AllDeclared, AllNames}
use Rattle.scope_model.proofs.Frames.{class_read, body_read, parameters_read}

name_kind : (j : TokenKind) → same_kind k.Name j ≡ true → j ≡ k.Name
name_kind k.Name e = refl
name_kind j e = absurd cc

only_is : (b : Bool) (ws front : List Want) → only b ws ≡ Some front → (b ≡ true) × (ws ≡ front)
only_is true ws front e = (refl, cc)
only_is false ws front e = absurd cc

some_is : (ws front : List Want) → Some ws ≡ Some front → ws ≡ front
some_is ws front e = cc

module _ {A : Type 0} (P : A → Type 0) where
  -- ---- names in what is made

  abbrev AllConstructors : List (Constructor A (Option A) (NameUse A)) → Type 0
  AllConstructors cs = AllByRecursion P (map (λ c. c.name) cs)

  one_more : (cs : List (Constructor A (Option A) (NameUse A))) (c : Constructor A (Option A) (NameUse A)) → AllConstructors cs → P c.name → AllConstructors (cs ++ c ∷ [])
  one_more [] c h p = (p, tt)
  one_more (d ∷ cs) c h p = (h.0, one_more cs c h.1 p)

  one_item : (is : List (Item A)) (i : Item A) → AllDeclared P is → AllByRecursion P (declared_by i) → AllDeclared P (is ++ i ∷ [])
  one_item [] i h p = (p, tt)
  one_item (j ∷ is) i h p = (h.0, one_item is i h.1 p)

  defined_named : (x : Token A) (c t : Tree A) → P x.name → AllByRecursion P (declared_by (defined x c t))
  defined_named x c t p = by_class (is_kind c)
    where
      by_class : (b : Bool) → AllByRecursion P (declared_by (cond b (type_item x.span x.name c t) (def_item x.span x.name c t)))
      by_class true = (p, tt)
      by_class false = (p, tt)

  import_named : (text : A → List ℕ) (x : Token A) (b : Module A) → AllNames P b → AllNames P (with_import text x b)
  import_named text x b h = by_test _
    where
      by_test : (t : Bool) → AllNames P (cond t b (record b { imports = b.imports ++ (x.name, x.span) ∷ [] }))
      by_test true = h
      by_test false = h

  -- ---- What is to hold of the values where the outer rows are read: whatever token, class, body or list stands there, it holds of the values behind it.

  abbrev Named : Token A → Type 0
  Named t = t.kind ≡ k.Name → P t.name

  abbrev OnConstructors : List (Value A) → (List (Value A) → Type 0) → Type 0
  OnConstructors (constructors cs ∷ vs) Q = AllConstructors cs × ((ds : List (Constructor A (Option A) (NameUse A))) → AllConstructors ds → Q (constructors ds ∷ vs))
  OnConstructors vs Q = ⊥

  abbrev OnParameters : List (Value A) → (List (Value A) → Type 0) → Type 0
  OnParameters (parameters ps ∷ vs) Q = (qs : List (Parameter (Option A) (NameUse A))) → Q (parameters qs ∷ vs)
  OnParameters vs Q = ⊥

  abbrev OnModule : List (Value A) → (List (Value A) → Type 0) → Type 0
  OnModule (module_so_far b ∷ vs) Q = AllNames P b × ((c : Module A) → AllNames P c → Q (module_so_far c ∷ vs))
  OnModule vs Q = ⊥

  abbrev OnPart : List (Value A) → (List (Value A) → Type 0) → Type 0
  OnPart vs Q = (f : ℕ) (t : Tree A) → Q (part f t ∷ vs)

  abbrev OnSymbol : Symbol → List (Value A) → (List (Value A) → Type 0) → Type 0
  OnSymbol (The s w) vs Q = (t : Token A) → same_kind s t.kind ≡ true → Named t → Q (token t ∷ vs)
  OnSymbol (Class n need l) vs Q = OnPart vs Q
  OnSymbol Body vs Q = OnPart vs Q
  OnSymbol (Parameters n) vs Q = OnParameters vs Q
  OnSymbol (Constructors n) vs Q = OnConstructors vs Q
  OnSymbol Imports vs Q = OnModule vs Q
  OnSymbol Items vs Q = OnModule vs Q
  OnSymbol s vs Q = ⊥

  abbrev OnWant : (A → List ℕ) → Want → List (Value A) → (List (Value A) → Type 0) → Type 0
  OnWant text (Test_ q) vs Q = Q vs
  OnWant text (Make f) vs Q = Q (made text f vs)
  OnWant text (Read s) vs Q = OnSymbol s vs Q

  abbrev OnWants : (A → List ℕ) → List Want → List (Value A) → (List (Value A) → Type 0) → Type 0
  OnWants text [] vs Q = Q vs
  OnWants text (w ∷ ws) vs Q = OnWant text w vs (λ us. OnWants text ws us Q)

  -- ---- the outer rows

  constructor_row_named : (text : A → List ℕ) (n : ℕ) (t : Token A) (vs : List (Value A)) (front : List Want) (Q : List (Value A) → Type 0)
      → row (Constructors n) vs t.kind ≡ Some front → OnConstructors vs Q → OnWants text front (token t ∷ vs) Q
  unfolding row made
  constructor_row_named text n t (constructors cs ∷ vs) front Q e h =
      let o = only_is (same_kind k.Bar t.kind) _ front e in
      subst (λ (ws : List Want). OnWants text ws (token t ∷ constructors cs ∷ vs) Q) o.1
      (λ x r p. λ c s q. λ f ty. (one_more cs (record { span = x.span; name = x.name; type = ty }) h.0 (p (name_kind x.kind r)), h.1))
  constructor_row_named text n t vs front Q e h = absurd h

  import_row_named : (text : A → List ℕ) (t : Token A) (vs : List (Value A)) (front : List Want) (Q : List (Value A) → Type 0)
      → row Imports vs t.kind ≡ Some front → OnModule vs Q → OnWants text front (token t ∷ vs) Q
  unfolding row made
  import_row_named text t (module_so_far b ∷ vs) front Q e h =
      let o = only_is (same_kind k.Import t.kind) _ front e in
      subst (λ (ws : List Want). OnWants text ws (token t ∷ module_so_far b ∷ vs) Q) o.1
      (λ x r p. λ d s q. (import_named text x b h.0, h.1))
  import_row_named text t vs front Q e h = absurd h

  item_named : (text : A → List ℕ) (j : TokenKind) (t : Token A) (b : Module A) (vs : List (Value A)) (front : List Want) (Q : List (Value A) → Type 0)
      → t.kind ≡ j → Named t → item_row j ≡ Some front → OnModule (module_so_far b ∷ vs) Q → OnWants text front (token t ∷ module_so_far b ∷ vs) Q
  unfolding made
  item_named text k.Name t b vs front Q i p e h =
      subst (λ (ws : List Want). OnWants text ws (token t ∷ module_so_far b ∷ vs) Q) (some_is _ front e)
      (λ c r q. λ f ty. λ d s u. λ g body. λ z v w. ((h.0.0, one_item b.items (defined t ty body) h.0.1 (defined_named t ty body (p i))), h.1))
  item_named text k.Data t b vs front Q i p e h =
      subst (λ (ws : List Want). OnWants text ws (token t ∷ module_so_far b ∷ vs) Q) (some_is _ front e)
      (λ x r q. λ ps. λ c r2 q2. λ s r3 q3. λ d r4 q4. (tt, λ cs all. λ z r5 q5. ((h.0.0, one_item b.items (data_item x.span x.name ps cs) h.0.1 (q (name_kind x.kind r), all)), h.1)))
  item_named text j t b vs front Q i p e h = absurd cc

  item_row_named : (text : A → List ℕ) (t : Token A) (vs : List (Value A)) (front : List Want) (Q : List (Value A) → Type 0)
      → row Items vs t.kind ≡ Some front → Named t → OnModule vs Q → OnWants text front (token t ∷ vs) Q
  unfolding row
  item_row_named text t (module_so_far b ∷ vs) front Q e p h = item_named text t.kind t b vs front Q refl p e h
  item_row_named text t vs front Q e p h = absurd h

  -- ---- what is read of them

  nothing_more : {g : Given A} {at to : ℕ} {ts rest : List (Token A)} {vs us : List (Value A)} (Q : List (Value A) → Type 0) → ReadsAll g [] at ts vs to rest us → Q vs → Q us
  nothing_more Q end q = q

  token_read : {g : Given A} {ts rest : List (Token A)} {at to : ℕ} {us : List (Value A)} (s : TokenKind) (t : Token A) (vs : List (Value A)) (front : List Want) (Q : List (Value A) → Type 0)
      → only (same_kind s t.kind) [] ≡ Some front → ReadsAll g front at ts (token t ∷ vs) to rest us → Named t → ((u : Token A) → same_kind s u.kind ≡ true → Named u → Q (token u ∷ vs)) → Q us
  token_read {g} {ts} {rest} {at} {to} {us} s t vs front Q e d p h =
      let o = only_is (same_kind s t.kind) [] front e in
      nothing_more Q (subst (λ (ws : List Want). ReadsAll g ws at ts (token t ∷ vs) to rest us) (sym o.1) d) (h t o.0 p)

  parameters_named : {g : Given A} {n : ℕ} {ts rest : List (Token A)} {at to : ℕ} {us : List (Value A)} (vs : List (Value A)) (Q : List (Value A) → Type 0) → Reads g (Read (Parameters n)) at ts vs to rest us → OnParameters vs Q → Q us
  parameters_named (parameters ps ∷ vs) Q d h = let o = parameters_read d in subst Q (sym o.1) (h o.0)
  parameters_named vs Q d h = absurd h

  constructors_end : (vs : List (Value A)) (Q : List (Value A) → Type 0) → OnConstructors vs Q → Q vs
  constructors_end (constructors cs ∷ vs) Q h = h.1 cs h.0
  constructors_end vs Q h = absurd h

  module_end : (vs : List (Value A)) (Q : List (Value A) → Type 0) → OnModule vs Q → Q vs
  module_end (module_so_far b ∷ vs) Q h = h.1 b h.0
  module_end vs Q h = absurd h

mutual
  rest_called : {A : Type 0} (P : A → Type 0) {g : Given A} {w : Want} {at to : ℕ} {ts rest : List (Token A)} {vs us : List (Value A)} → Reads g w at ts vs to rest us → AreCalled P ts → AreCalled P rest
  rest_called P (begins r d) c = all_called P d c.1
  rest_called P (left n b) c = c
  rest_called P makes c = c
  rest_called P (tests e) c = c

  all_called : {A : Type 0} (P : A → Type 0) {g : Given A} {ws : List Want} {at to : ℕ} {ts rest : List (Token A)} {vs us : List (Value A)} → ReadsAll g ws at ts vs to rest us → AreCalled P ts → AreCalled P rest
  all_called P end c = c
  all_called P (more d i) c = all_called P i (rest_called P d c)

mutual
  unfolding row

  want_named : {A : Type 0} (P : A → Type 0) {g : Given A} {w : Want} {at to : ℕ} {ts rest : List (Token A)} {vs us : List (Value A)}
      → Reads g w at ts vs to rest us → AreCalled P ts → (Q : List (Value A) → Type 0) → OnWant P g.text w vs Q → Q us
  want_named P makes c Q h = h
  want_named P (tests e) c Q h = h
  want_named P (begins {s = The j w} {ws = front} {t = t} {vs = vs} r d) c Q h = token_read P j t vs front Q r d c.0 h
  want_named P (begins {s = Class n need l} r d) c Q h = let o = class_read {at = 0} (begins {s = Class n need l} r d) in subst Q (sym o.2) (h o.0 o.1)
  want_named P (begins {s = Body} r d) c Q h = let o = body_read {at = 0} (begins {s = Body} r d) in subst Q (sym o.2) (h o.0 o.1)
  want_named P (begins {s = Parameters n} {vs = vs} r d) c Q h = parameters_named P {at = 0} vs Q (begins {s = Parameters n} r d) h
  want_named P {g = g} (begins {s = Constructors n} {ws = front} {t = t} {vs = vs} r d) c Q h = all_named P d c.1 Q (constructor_row_named P g.text n t vs front Q r h)
  want_named P {g = g} (begins {s = Imports} {ws = front} {t = t} {vs = vs} r d) c Q h = all_named P d c.1 Q (import_row_named P g.text t vs front Q r h)
  want_named P {g = g} (begins {s = Items} {ws = front} {t = t} {vs = vs} r d) c Q h = all_named P d c.1 Q (item_row_named P g.text t vs front Q r c.0 h)
  want_named P (begins {s = s} r d) c Q h = absurd h
  want_named P {g = g} (left {s = Parameters n} {vs = vs} k b) c Q h = parameters_named P {g = g} {at = 0} vs Q (left {s = Parameters n} k b) h
  want_named P (left {s = Constructors n} {vs = vs} k b) c Q h = constructors_end P vs Q h
  want_named P (left {s = Imports} {vs = vs} k b) c Q h = module_end P vs Q h
  want_named P (left {s = Items} {vs = vs} k b) c Q h = module_end P vs Q h
  want_named P (left {s = The j w} k b) c Q h = absurd (k refl)
  want_named P (left {s = Class n need l} k b) c Q h = absurd (k refl)
  want_named P (left {s = Body} k b) c Q h = absurd (k refl)
  want_named P (left {s = s} k b) c Q h = absurd h

  all_named : {A : Type 0} (P : A → Type 0) {g : Given A} {ws : List Want} {at to : ℕ} {ts rest : List (Token A)} {vs us : List (Value A)}
      → ReadsAll g ws at ts vs to rest us → AreCalled P ts → (Q : List (Value A) → Type 0) → OnWants P g.text ws vs Q → Q us
  all_named P end c Q h = h
  all_named P {g = g} (more {ws = ws} d i) c Q h = all_named P i (rest_called P d c) Q (want_named P d c (λ us. OnWants P g.text ws us Q) h)

-- what is known of the module that was read
abbrev IsNamed : {A : Type 0} → (A → Type 0) → List (Value A) → Type 0
IsNamed P (module_so_far b ∷ vs) = AllNames P b
IsNamed P vs = Unit {0}

-- for names of any type, as the numbers of a table are
pub said_names : {A : Type 0} (P : A → Type 0) (g : Given A) (ts : List (Token A)) (b : Module A) → AreCalled P ts → Says g ts b → AllNames P b
unfolding made
said_names P g ts b c s = all_named P s.reads c (IsNamed P) (λ o r p. λ x r2 p2. λ d r3 p3. ((p2 (name_kind x.kind r2), tt), λ e he. (he, λ f hf. hf)))
