-- Each beginning of a text goes on to a text: behind it, what must still stand has a shortest text.
use Rattle.std.proofs.Common.{◌≡◌, ℕ, pred, ◌<◌, Bool, true, false, List, [], ◌∷◌, ◌++◌, Option, Some, None, refl, ap, subst, ◌∙◌, arith}
use Rattle.std.proofs.lemmas.Bool.{eq-eqb}
use Rattle.source_model.specs.Source.{nowhere}
use Rattle.source_model.specs.Grammar.{Token, Value, token, Test, Making, Symbol, The, Term, Spine, Atom, ClassAtom, Class, Body, Owner, Annotation, Side, KeptTerm, TypeGiven, Motive, MaybeArrow, Projections, Patterns, Arguments, TypeArguments, Branches, Imports, Items, Parameters, Constructors, Want, Test_, Make, Read}
use Rattle.source_model.specs.Grammar as m
use Rattle.source_model.specs.declared.token.TokenKind.{TokenKind}
use Rattle.source_model.specs.declared.token.TokenKind.TheVariants as k
use Rattle.source_model.specs.Rows.{Row, kind_number, body_is_type, row, outermost, leaving, Leaving, MustStand, LeftOut, NotGiven, Ends, sign}
use Rattle.source_model.specs.declared.wanted.Wanted.{Wanted}
use Rattle.source_model.specs.Made.{made, left_out}
use Rattle.source_model.specs.Parsing.{Given}
use Rattle.source_model.specs.SurfaceText.{BeginsNot}
use Rattle.source_model.specs.Prefixes.{Wanting, read_or_left, behind_token, on_wanting, behind, first_needed, start, IsText, CanGoOn}
use Rattle.source_model.proofs.Follows.{shortest, MayFollow, rank_of_first, rank_ahead, Follow, follow_append, FollowRow, row_follows, begins_not}
use Rattle.source_model.proofs.Stops.{TakesAlike, alike_test, alike_making, alike_option, needed_is, takes_row, behind_then}

may_be_left : (s : Symbol) → shortest s ≡ [] → ¬ (leaving s ≡ MustStand)
may_be_left (The t w) e n = absurd cc
may_be_left (Term c) e n = absurd cc
may_be_left (Spine c) e n = absurd cc
may_be_left (Atom c) e n = absurd cc
may_be_left (ClassAtom c w) e n = absurd cc
may_be_left (Class c need left) e n = absurd cc
may_be_left Body e n = absurd cc
may_be_left s e n = absurd cc

-- the tokens that are put behind a beginning are all called by one name
module _ {A : Type 0} (g : Given A) (name : A) where
  -- ---- what is wanted behind tokens follows on itself

  abbrev FollowSome : Option (Wanting A) → ℕ → Type 0
  FollowSome None r = Unit {0}
  FollowSome (Some w) r = Follow w.wants r

  read_follows : (t : Token A) (ws : List Want) (vs : List (Value A)) (front : Row) (l : Leaving) (left : Option (Wanting A)) (r : ℕ)
      → FollowRow front (rank_ahead ws r) → Follow ws r → FollowSome left r → FollowSome (read_or_left t ws vs front l left) r
  read_follows t ws vs (Some front) l left r h j i = follow_append front ws r h j
  read_follows t ws vs None MustStand left r h j i = tt
  read_follows t ws vs None LeftOut left r h j i = i
  read_follows t ws vs None NotGiven left r h j i = i
  read_follows t ws vs None Ends left r h j i = i

  token_follows : (t : Token A) (ws : List Want) (vs : List (Value A)) (r : ℕ) → Follow ws r → FollowSome (behind_token g.text t ws vs) r
  unfolding behind_token
  token_follows t [] vs r h = tt
  token_follows t (Test_ q ∷ ws) vs r h = token_follows t ws vs r h
  token_follows t (Make f ∷ ws) vs r h = token_follows t ws (made g.text f vs) r h
  token_follows t (Read s ∷ ws) vs r h =
      read_follows t ws vs (row s vs t.kind) (leaving s) (behind_token g.text t ws (left_out (leaving s) vs)) r
      (row_follows s vs t.kind (rank_ahead ws r) h.0) h.1 (token_follows t ws (left_out (leaving s) vs) r h.1)

  on_follows : (x : Option (Wanting A)) (f : Wanting A → Option (Wanting A)) (r : ℕ)
      → FollowSome x r → ((w : Wanting A) → Follow w.wants r → FollowSome (f w) r) → FollowSome (on_wanting x f) r
  on_follows None f r h i = tt
  on_follows (Some w) f r h i = i w h

  behind_follows : (ts : List (Token A)) (w : Wanting A) (r : ℕ) → Follow w.wants r → FollowSome (behind g.text ts w) r
  unfolding behind
  behind_follows [] w r h = h
  behind_follows (t ∷ ts) w r h = on_follows (behind_token g.text t w.wants w.values) (λ u. behind g.text ts u) r (token_follows t w.wants w.values r h) (λ u i. behind_follows ts u r i)

  -- ---- what must stand, one after the other

  abbrev token_of : TokenKind → Token A
  token_of t = record { kind = t; span = nowhere; name = name }

  abbrev tokens_of : List TokenKind → List (Token A)
  tokens_of [] = []
  tokens_of (t ∷ ts) = token_of t ∷ tokens_of ts

  -- a text may end there
  abbrev IsLast : Option (Wanting A) → Type 0
  IsLast None = ⊥
  IsLast (Some w) = first_needed g.text w.wants w.values ≡ None

  -- behind these tokens nothing more must stand
  abbrev AreWanted : List TokenKind → List Want → List (Value A) → Type 0
  AreWanted ts ws vs = IsLast (behind g.text (tokens_of ts) (record { wants = ws; values = vs }))

  wanted_alike : (ts : List TokenKind) (ws xs : List Want) (vs us : List (Value A)) → TakesAlike g ws vs xs us (tokens_of ts) → first_needed g.text ws vs ≡ first_needed g.text xs us
      → AreWanted ts xs us → AreWanted ts ws vs
  unfolding behind
  wanted_alike [] ws xs vs us a n h = n ∙ h
  wanted_alike (t ∷ ts) ws xs vs us a n h = rw a h

  wanted_test : (q : Test) (ts : List TokenKind) (ws : List Want) (vs : List (Value A)) → AreWanted ts ws vs → AreWanted ts (Test_ q ∷ ws) vs
  unfolding first_needed
  wanted_test q ts ws vs h = wanted_alike ts (Test_ q ∷ ws) ws vs vs (alike_test g q ws (tokens_of ts) vs) refl h

  wanted_making : (f : Making) (ts : List TokenKind) (ws : List Want) (vs : List (Value A)) → AreWanted ts ws (made g.text f vs) → AreWanted ts (Make f ∷ ws) vs
  unfolding first_needed
  wanted_making f ts ws vs h = wanted_alike ts (Make f ∷ ws) ws vs (made g.text f vs) (alike_making g f ws (tokens_of ts) vs) refl h

  not_begun : (s : Symbol) (ts : List TokenKind) (vs : List (Value A)) → shortest s ≡ [] → MayFollow s (rank_of_first ts 6) → BeginsNot s vs (tokens_of ts)
  not_begun s [] vs e h = tt
  not_begun s (t ∷ ts) vs e h = begins_not s vs t e h

  wanted_option : (s : Symbol) (ts : List TokenKind) (ws : List Want) (vs : List (Value A)) → shortest s ≡ [] → MayFollow s (rank_of_first ts 6)
      → AreWanted ts ws (left_out (leaving s) vs) → AreWanted ts (Read s ∷ ws) vs
  unfolding first_needed
  wanted_option s ts ws vs e f h =
      let n = may_be_left s e in
      wanted_alike ts (Read s ∷ ws) ws vs (left_out (leaving s) vs) (alike_option g s ws (tokens_of ts) vs n (not_begun s ts vs e f))
      (needed_is s vs (leaving s) (first_needed g.text ws (left_out (leaving s) vs)) n) h

  -- wants that need no token before these
  abbrev Pass : List Want → ℕ → Type 0
  Pass [] r = Unit {0}
  Pass (Test_ q ∷ ws) r = Pass ws r
  Pass (Make f ∷ ws) r = Pass ws r
  Pass (Read s ∷ ws) r = (shortest s ≡ []) × MayFollow s r × Pass ws r

  wanted_behind : (front : List Want) (ts : List TokenKind) (ws : List Want) → Pass front (rank_of_first ts 6) → ((us : List (Value A)) → AreWanted ts ws us) → (vs : List (Value A))
      → AreWanted ts (front ++ ws) vs
  wanted_behind [] ts ws p h vs = h vs
  wanted_behind (Test_ q ∷ front) ts ws p h vs = wanted_test q ts (front ++ ws) vs (wanted_behind front ts ws p h vs)
  wanted_behind (Make f ∷ front) ts ws p h vs = wanted_making f ts (front ++ ws) vs (wanted_behind front ts ws p h (made g.text f vs))
  wanted_behind (Read s ∷ front) ts ws p h vs = wanted_option s ts (front ++ ws) vs p.0 p.1 (wanted_behind front ts ws p.2 h (left_out (leaving s) vs))

  -- a symbol begins with a token, and its row needs no other
  wanted_row : (s : Symbol) (t : TokenKind) (front : List Want) (ts : List TokenKind) (ws : List Want) (vs : List (Value A)) → row s vs t ≡ Some front
      → AreWanted ts (front ++ ws) (token (token_of t) ∷ vs) → AreWanted (t ∷ ts) (Read s ∷ ws) vs
  unfolding behind
  wanted_row s t front ts ws vs e h = rw (takes_row g s ws front (token_of t) vs e) h

  wanted_sign : (t : TokenKind) (w : Wanted) (ts : List TokenKind) (ws : List Want) → ((us : List (Value A)) → AreWanted ts ws us) → (vs : List (Value A))
      → AreWanted (t ∷ ts) (Read (The t w) ∷ ws) vs
  unfolding row
  wanted_sign t w ts ws h vs = wanted_row (The t w) t [] ts ws vs (rw (eq-eqb (kind_number t) (kind_number t) refl) refl) (h (token (token_of t) ∷ vs))

  -- a symbol that begins with a name
  wanted_name : (s : Symbol) (front : List Want) (ts : List TokenKind) (ws : List Want) (vs : List (Value A)) → row s vs k.Name ≡ Some front → Pass front (rank_of_first ts 6)
      → ((us : List (Value A)) → AreWanted ts ws us) → AreWanted (k.Name ∷ ts) (Read s ∷ ws) vs
  wanted_name s front ts ws vs e p h = wanted_row s k.Name front ts ws vs e (wanted_behind front ts ws p h (token (token_of k.Name) ∷ vs))

  abbrev atom_front : ℕ → List Want
  atom_front n = Read Owner ∷ Make m.Named ∷ Read Projections ∷ []

  abbrev term_front : ℕ → List Want
  term_front n = Read Owner ∷ Make m.Named ∷ Read Projections ∷ Read (Arguments n) ∷ []

  abbrev class_front : ℕ → Option ℕ → List Want
  class_front n left = Read Owner ∷ Make m.Named ∷ Read (TypeArguments n) ∷ Read (MaybeArrow n left) ∷ []

  term_passes : (n r : ℕ) → 4 < r → Pass (term_front n) r
  term_passes n r h = (refl, omega arith, (refl, omega arith, (refl, h, tt)))

  class_passes : (n : ℕ) (left : Option ℕ) (r : ℕ) → 3 < r → Pass (class_front n left) r
  class_passes n left r h = (refl, omega arith, (refl, h, (refl, h, tt)))

  wanted_term : (n : ℕ) (ts : List TokenKind) (ws : List Want) → 4 < rank_of_first ts 6 → ((us : List (Value A)) → AreWanted ts ws us) → (vs : List (Value A))
      → AreWanted (k.Name ∷ ts) (Read (Term n) ∷ ws) vs
  unfolding row
  wanted_term n ts ws f h vs = wanted_name (Term n) (Test_ (m.HasRoom n) ∷ term_front (pred n)) ts ws vs refl (term_passes (pred n) (rank_of_first ts 6) f) h

  wanted_body : (b : Bool) (ts : List TokenKind) (ws : List Want) → 4 < rank_of_first ts 6 → ((us : List (Value A)) → AreWanted ts ws us) → (vs : List (Value A))
      → body_is_type vs ≡ b → AreWanted (k.Name ∷ ts) (Read Body ∷ ws) vs
  unfolding row
  wanted_body true ts ws f h vs e =
      wanted_name Body (Test_ (m.HasRoom outermost) ∷ class_front (pred outermost) None) ts ws vs (rw e refl) (class_passes (pred outermost) None (rank_of_first ts 6) (omega arith)) h
  wanted_body false ts ws f h vs e =
      wanted_name Body (Test_ (m.HasRoom outermost) ∷ term_front (pred outermost)) ts ws vs (rw e refl) (term_passes (pred outermost) (rank_of_first ts 6) f) h

  -- the braces behind `β`
  wanted_braces : (n : ℕ) (ts : List TokenKind) (ws : List Want) → ((us : List (Value A)) → AreWanted ts ws us) → (vs : List (Value A))
      → AreWanted (k.OpenBrace ∷ k.Name ∷ k.CloseBrace ∷ ts) (Read (KeptTerm n) ∷ ws) vs
  unfolding row
  wanted_braces n ts ws h vs =
      wanted_row (KeptTerm n) k.OpenBrace (Read (Term n) ∷ sign k.CloseBrace ∷ Make m.Enclosed ∷ []) (k.Name ∷ k.CloseBrace ∷ ts) ws vs refl
      (wanted_term n (k.CloseBrace ∷ ts) (sign k.CloseBrace ∷ Make m.Enclosed ∷ ws) (omega arith)
      (wanted_sign k.CloseBrace _ ts (Make m.Enclosed ∷ ws) (λ us. wanted_making m.Enclosed ts ws us (h (made g.text m.Enclosed us)))) (token (token_of k.OpenBrace) ∷ vs))

  wanted_symbol : (s : Symbol) (ts : List TokenKind) (ws : List Want) → MayFollow s (rank_of_first ts 6) → ((us : List (Value A)) → AreWanted ts ws us) → (vs : List (Value A))
      → AreWanted (shortest s ++ ts) (Read s ∷ ws) vs
  unfolding row
  wanted_symbol (The t w) ts ws f h vs = wanted_sign t w ts ws h vs
  wanted_symbol (Term n) ts ws f h vs = wanted_term n ts ws f h vs
  wanted_symbol (Spine n) ts ws f h vs = wanted_name (Spine n) (term_front n) ts ws vs refl (term_passes n (rank_of_first ts 6) f) h
  wanted_symbol (Atom n) ts ws f h vs = wanted_name (Atom n) (atom_front n) ts ws vs refl (refl, f, (refl, f, tt)) h
  wanted_symbol (ClassAtom n w) ts ws f h vs = wanted_name (ClassAtom n w) (Read Owner ∷ Make m.Named ∷ []) ts ws vs refl (refl, f, tt) h
  wanted_symbol (Class n need left) ts ws f h vs =
      wanted_name (Class n need left) (Test_ (m.HasRoom n) ∷ class_front (pred n) left) ts ws vs refl (class_passes (pred n) left (rank_of_first ts 6) f) h
  wanted_symbol Body ts ws f h vs = wanted_body (body_is_type vs) ts ws f h vs refl
  wanted_symbol (KeptTerm n) ts ws f h vs = wanted_braces n ts ws h vs
  wanted_symbol s ts ws f h vs = wanted_option s ts ws vs refl f (h (left_out (leaving s) vs))

  -- a shortest text of all that is wanted
  abbrev ending : List Want → List TokenKind
  ending [] = []
  ending (Test_ q ∷ ws) = ending ws
  ending (Make f ∷ ws) = ending ws
  ending (Read s ∷ ws) = shortest s ++ ending ws

  first_append : (ts us : List TokenKind) (r : ℕ) → rank_of_first (ts ++ us) r ≡ rank_of_first ts (rank_of_first us r)
  first_append [] us r = refl
  first_append (t ∷ ts) us r = refl

  first_ahead : (ws : List Want) (r : ℕ) → rank_of_first (ending ws) r ≡ rank_ahead ws r
  first_ahead [] r = refl
  first_ahead (Test_ q ∷ ws) r = first_ahead ws r
  first_ahead (Make f ∷ ws) r = first_ahead ws r
  first_ahead (Read s ∷ ws) r = first_append (shortest s) (ending ws) r ∙ ap (rank_of_first (shortest s)) (first_ahead ws r)

  ends : (ws : List Want) → Follow ws 6 → (vs : List (Value A)) → AreWanted (ending ws) ws vs
  unfolding behind first_needed
  ends [] f vs = refl
  ends (Test_ q ∷ ws) f vs = wanted_test q (ending ws) ws vs (ends ws f vs)
  ends (Make m ∷ ws) f vs = wanted_making m (ending ws) ws vs (ends ws f (made g.text m vs))
  ends (Read s ∷ ws) f vs = wanted_symbol s (ending ws) ws (rw (first_ahead ws 6) f.0) (λ us. ends ws f.1 us) vs

  whole_text : (front more : List (Token A)) (r : Option (Wanting A)) → behind g.text (front ++ more) start ≡ r → IsLast r → IsText g.text (front ++ more)
  whole_text front more None e h = absurd h
  whole_text front more (Some w) e h = record { last = w; taken = e; whole = h }

  -- tokens that are taken go on to a text
  pub goes_on : (front : List (Token A)) (w : Wanting A) → behind g.text front start ≡ Some w → CanGoOn g.text front
  goes_on front w e =
      let f : Follow w.wants 6 = subst (λ (x : Option (Wanting A)). FollowSome x 6) e (behind_follows front start 6 (omega arith)) in
      let more = tokens_of (ending w.wants) in
      (more, whole_text front more (behind g.text more w) (behind_then g front more start w e) (ends w.wants f w.values))
