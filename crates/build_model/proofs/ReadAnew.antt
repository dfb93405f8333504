-- Reading is the same whatever the names are: the values that are read are those of the other names, and a fault is the same.
use Rattle.std.proofs.Common.{◌≡◌, ◌∙◌, ℕ, Bool, true, false, cond, sym, List, [], ◌∷◌, Option, Some, None, Result, Ok, Err, map, refl, subst}
use Rattle.std.specs.Option.{option_map}
use Rattle.std.specs.Str.{bytes_eq}
use Rattle.source_model.specs.Source.{Module}
use Rattle.source_model.specs.Grammar.{Token, Value, token, module_so_far, Symbol, Want, Test_, Make, Read}
use Rattle.source_model.specs.Rows.{Row, row, leaving, Leaving, MustStand, LeftOut, NotGiven, Ends, a_module}
use Rattle.source_model.specs.Made.{made, left_out}
use Rattle.source_model.specs.Parsing.{Given, Fault, Unexpected, Complaint, complaint, ◌>>=◌, Step, stays, takes, absent, begun, tested, step, Settled, done, taken, settle_on, settle, State, Reading, run_on, run, ended, parsed, unless, has_slash}
use Rattle.source_model.specs.declared.wanted.Wanted.TheVariants as wanted
use Rattle.source_model.proofs.Said.{ended_is}
use Rattle.build_model.proofs.RenamedValues.{called_anew, anew, word_anew, row_anew}
use Rattle.build_model.proofs.NamedWanted.{After, before, left_on, OnSymbol, OnWant, OnWants, OnRow, wants_on}
use Rattle.build_model.proofs.NamedRows.{symbol_on}
use Rattle.build_model.proofs.NamedMade.{module_tested, start_made}

module _ {A B : Type 0} (f : A → B) (other : B) (g : Given B) where
  abbrev values : List (Value A) → List (Value B)
  values vs = map (anew f other) vs

  abbrev tokens : List (Token A) → List (Token B)
  tokens ts = map (called_anew f other) ts

  -- ---- one want

  abbrev step_anew : Result (Step A) Fault → Result (Step B) Fault
  step_anew (Ok (stays vs)) = Ok (stays (values vs))
  step_anew (Ok (takes t ws vs)) = Ok (takes (called_anew f other t) ws (values vs))
  step_anew (Err e) = Err e

  abbrev OnStep : Result (Step A) Fault → After A → Type 0
  OnStep (Ok (stays vs)) Q = Q vs
  OnStep (Ok (takes t ws vs)) Q = OnWants f other g ws vs Q
  OnStep (Err e) Q = Unit {0}

  abbrev IsAlike : Result (Step A) Fault → Result (Step B) Fault → After A → Type 0
  IsAlike r s Q = (s ≡ step_anew r) × OnStep r Q

  tested_alike : (vs : List (Value A)) (c : Complaint) (Q : After A) → (c ≡ None → Q vs) → IsAlike (tested vs c) (tested (values vs) c) Q
  tested_alike vs None Q q = (refl, q refl)
  tested_alike vs (Some e) Q q = (refl, tt)

  absent_alike : (at : ℕ) (s : Symbol) (l : Leaving) (vs : List (Value A)) (Q : After A) → (¬ (l ≡ MustStand) → Q (left_out l vs)) → IsAlike (absent at s l vs) (absent at s l (values vs)) Q
  absent_alike at s MustStand vs Q q = (rw (word_anew f other s vs) refl, tt)
  absent_alike at s LeftOut vs Q q = (refl, q (λ h. let e : LeftOut ≡ MustStand = h in absurd cc))
  absent_alike at s NotGiven vs Q q = (refl, q (λ h. let e : NotGiven ≡ MustStand = h in absurd cc))
  absent_alike at s Ends vs Q q = (refl, q (λ h. let e : Ends ≡ MustStand = h in absurd cc))

  begun_alike : (s : Symbol) (t : Token A) (vs : List (Value A)) (r : Row) (Q : After A) → OnRow f other g r (token t ∷ vs) Q → OnSymbol s vs Q
      → IsAlike (begun s t vs r) (begun s (called_anew f other t) (values vs) r) Q
  begun_alike s t vs (Some ws) Q h o = (refl, h)
  begun_alike s t vs None Q h o = absent_alike t.span.from s (leaving s) vs Q (λ n. left_on s vs Q n o)

  step_alike : (next : Option (Token A)) (at : ℕ) (w : Want) (vs : List (Value A)) (Q : After A) → OnWant f other g w vs Q
      → IsAlike (step (before f other g) next at w vs) (step g (option_map (called_anew f other) next) at w (values vs)) Q
  unfolding step
  step_alike next at (Test_ q) vs Q h = rw (h.0 at) (tested_alike vs (complaint (before f other g) q at vs) Q (h.1 at))
  step_alike next at (Make m) vs Q h = (rw h.0 refl, h.1)
  step_alike (Some t) at (Read s) vs Q h = rw (row_anew f other s vs t.kind) (begun_alike s t vs (row s vs t.kind) Q (symbol_on f other g s t vs Q h) h)
  step_alike None at (Read s) vs Q h = absent_alike g.end s (leaving s) vs Q (λ n. left_on s vs Q n h)

  -- ---- all that is wanted

  abbrev settled_anew : Result (Settled A) Fault → Result (Settled B) Fault
  settled_anew (Ok (done vs)) = Ok (done (values vs))
  settled_anew (Ok (taken t ws vs)) = Ok (taken (called_anew f other t) ws (values vs))
  settled_anew (Err e) = Err e

  abbrev OnSettled : Result (Settled A) Fault → After A → Type 0
  OnSettled (Ok (done vs)) Q = Q vs
  OnSettled (Ok (taken t ws vs)) Q = OnWants f other g ws vs Q
  OnSettled (Err e) Q = Unit {0}

  abbrev IsSettledAlike : Result (Settled A) Fault → Result (Settled B) Fault → After A → Type 0
  IsSettledAlike r s Q = (s ≡ settled_anew r) × OnSettled r Q

  settle_by : (next : Option (Token A)) (at : ℕ) (ws : List Want) (Q : After A) (r : Result (Step A) Fault)
      → ((us : List (Value A)) → OnWants f other g ws us Q → IsSettledAlike (settle (before f other g) next at ws us) (settle g (option_map (called_anew f other) next) at ws (values us)) Q)
      → OnStep r (λ us. OnWants f other g ws us Q)
      → IsSettledAlike (r >>= settle_on ws (λ us. settle (before f other g) next at ws us)) (step_anew r >>= settle_on ws (λ us. settle g (option_map (called_anew f other) next) at ws us)) Q
  settle_by next at ws Q (Ok (stays us)) later h = later us h
  settle_by next at ws Q (Ok (takes t front us)) later h = (refl, wants_on f other g front ws us Q h)
  settle_by next at ws Q (Err e) later h = (refl, tt)

  settle_alike : (next : Option (Token A)) (at : ℕ) (ws : List Want) (vs : List (Value A)) (Q : After A) → OnWants f other g ws vs Q
      → IsSettledAlike (settle (before f other g) next at ws vs) (settle g (option_map (called_anew f other) next) at ws (values vs)) Q
  unfolding settle
  settle_alike next at [] vs Q h = (refl, h)
  settle_alike next at (w ∷ ws) vs Q h =
      let s = step_alike next at w vs (λ us. OnWants f other g ws us Q) h in
      rw s.0 (settle_by next at ws Q (step (before f other g) next at w vs) (λ us k. settle_alike next at ws us Q k) s.1)

  -- ---- reading

  abbrev state_anew : State A → State B
  state_anew s = record { at = s.at; tokens = tokens s.tokens; values = values s.values }

  abbrev reading_anew : Reading A → Reading B
  reading_anew (Ok s) = Ok (state_anew s)
  reading_anew (Err e) = Err e

  abbrev OnReading : Reading A → After A → Type 0
  OnReading (Ok s) Q = Q s.values
  OnReading (Err e) Q = Unit {0}

  abbrev IsReadAlike : Reading A → Reading B → After A → Type 0
  IsReadAlike r s Q = (s ≡ reading_anew r) × OnReading r Q

  run_by : (ts : List (Token A)) (at : ℕ) (Q : After A) (goes : Token A → List Want → List (Value A) → Reading A) (goes_anew : Token B → List Want → List (Value B) → Reading B) (r : Result (Settled A) Fault)
      → ((t : Token A) (ws : List Want) (us : List (Value A)) → OnWants f other g ws us Q → IsReadAlike (goes t ws us) (goes_anew (called_anew f other t) ws (values us)) Q)
      → OnSettled r Q
      → IsReadAlike (r >>= run_on (λ us. record { at = at; tokens = ts; values = us }) goes) (settled_anew r >>= run_on (λ us. record { at = at; tokens = tokens ts; values = us }) goes_anew) Q
  run_by ts at Q goes goes_anew (Ok (done us)) later h = (refl, h)
  run_by ts at Q goes goes_anew (Ok (taken t ws us)) later h = later t ws us h
  run_by ts at Q goes goes_anew (Err e) later h = (refl, tt)

  run_alike : (ws : List Want) (at : ℕ) (ts : List (Token A)) (vs : List (Value A)) (Q : After A) → OnWants f other g ws vs Q → IsReadAlike (run (before f other g) ws at ts vs) (run g ws at (tokens ts) (values vs)) Q
  unfolding run
  run_alike ws at [] vs Q h =
      let s = settle_alike None at ws vs Q h in
      rw s.0 (run_by [] at Q (λ t front us. Err (Unexpected g.end wanted.Item)) (λ t front us. Err (Unexpected g.end wanted.Item)) (settle (before f other g) None at ws vs) (λ t front us k. (refl, tt)) s.1)
  run_alike ws at (t ∷ ts) vs Q h =
      let s = settle_alike (Some t) at ws vs Q h in
      rw s.0
      (run_by (t ∷ ts) at Q (λ s front us. run (before f other g) front s.span.from ts us) (λ s front us. run g front s.span.from (tokens ts) us) (settle (before f other g) (Some t) at ws vs)
      (λ s front us k. run_alike front s.span.from ts us Q k) s.1)

  -- ---- whole texts

  abbrev pub all_anew : Result (List (Value A)) Fault → Result (List (Value B)) Fault
  all_anew (Ok vs) = Ok (values vs)
  all_anew (Err e) = Err e

  ended_alike : (vs : List (Value A)) (ts : List (Token A)) → ended (values vs) (tokens ts) ≡ all_anew (ended vs ts)
  ended_alike vs [] = refl
  ended_alike vs (t ∷ ts) = refl

  whole_alike : (r : Reading A) → (reading_anew r >>= λ s. ended s.values s.tokens) ≡ all_anew (r >>= λ s. ended s.values s.tokens)
  whole_alike (Ok s) = ended_alike s.values s.tokens
  whole_alike (Err e) = refl

  -- the module that was read has the wanted name
  abbrev IsNamed : List (Value A) → Type 0
  IsNamed (module_so_far b ∷ vs) = cond (has_slash (g.text (f b.name))) false (bytes_eq (g.text (f b.name)) g.module_name) ≡ true
  IsNamed vs = Unit {0}

  passed : (b : Bool) (e : Fault) → unless b e ≡ None → b ≡ true
  passed true e h = refl
  passed false e h = absurd cc

  start : OnWants f other g a_module [] IsNamed
  unfolding made complaint
  start = λ o r. λ x s. (
    module_tested f other g x (token o ∷ []) s,
    λ at ok. λ d y. (
      start_made f other g d x o [] s,
      λ b e. λ c i.
          subst (λ (z : A). cond (has_slash (g.text (f z))) false (bytes_eq (g.text (f z)) g.module_name) ≡ true) (sym (i ∙ e)) (passed (cond (has_slash (g.text (f x.name))) false (bytes_eq (g.text (f x.name)) g.module_name)) (Unexpected at wanted.Name) ok),
    ),
  )

  read_alike : (ts : List (Token A)) → IsReadAlike (run (before f other g) a_module 0 ts []) (run g a_module 0 (tokens ts) []) IsNamed
  read_alike ts = run_alike a_module 0 ts [] IsNamed start

  pub parsed_anew : (ts : List (Token A)) → parsed g (tokens ts) ≡ all_anew (parsed (before f other g) ts)
  unfolding parsed
  parsed_anew ts = rw (read_alike ts).0 (whole_alike (run (before f other g) a_module 0 ts []))

  named_by : (r : Reading A) (m : Module A) → OnReading r IsNamed → (r >>= λ s. ended s.values s.tokens) ≡ Ok (module_so_far m ∷ []) → IsNamed (module_so_far m ∷ [])
  named_by (Ok s) m h e = subst (λ (vs : List (Value A)). IsNamed vs) (ended_is (before f other g) s.values (module_so_far m ∷ []) s.tokens e).0 h
  named_by (Err d) m h e = absurd cc

  pub parsed_named : (ts : List (Token A)) (m : Module A) → parsed (before f other g) ts ≡ Ok (module_so_far m ∷ []) → IsNamed (module_so_far m ∷ [])
  unfolding parsed
  parsed_named ts m e = named_by (run (before f other g) a_module 0 ts []) m (read_alike ts).1 e
