-- Reading on behind the parts of repetitions, and that it goes ahead.
use Rattle.std.proofs.Common.{◌≡◌, cond, ℕ, zero, suc, pred, ◌+◌, ◌-◌, ◌<◌, ◌≤◌, Bool, true, false, eqb, List, [], ◌∷◌, ◌++◌, length, length-drop, map, Some, None, Result, Ok, Err, refl, sym, ap, ◌∙◌, arith}
use Rattle.std.proofs.lemmas.Bool.Decides.{nat_tests}
use Rattle.std.proofs.lemmas.List.{length-map}
use Rattle.std.specs.List.{list_any}
use Rattle.std.specs.Str.{bytes_eq}
use Rattle.cdle_model.specs.declared.grammar.Count.{Count}
use Rattle.source_model.specs.Source.{Module}
use Rattle.source_model.specs.Made.{with_import}
use Rattle.source_model.specs.declared.token.TokenKind.{TokenKind}
use Rattle.source_model.specs.declared.token.TokenKind.TheVariants as k
use Rattle.source_model.specs.Grammar.{Token, Value, token, Symbol, Want, Read, Test_, HasRoomFor, Body, Class, Term, of_type}
use Rattle.source_model.specs.Rows.{row, body_is_type, outermost, a_module, item_row}
use Rattle.source_model.specs.Parsing.{Given, Fault, TooMany, State, Reading, one, turn, complaint, ◌>>=◌, word_of, parsed, ended}
use Rattle.source_model.specs.SurfaceText.{Reads, begins, left, makes, tests, ReadsAll, end, more}
use Rattle.source_model.proofs.Said.{run_is}
use Rattle.source_model.proofs.Turns.{one_test, run_turn}
use Rattle.surf_reader.specs.declared.token.Named.{Named}
use Rattle.surf_reader.specs.declared.reader.Reader.{Reader}
use Rattle.surf_reader.specs.declared.error.ParseFault.{ParseFault}
use Rattle.surf_reader.specs.declared.error.ParseFault.TheVariants as faults
use Rattle.surf_tree.specs.Forms.{place}
use Rattle.surf_parse.specs.Answers.{IsParsed}
use Rattle.surf_parse.specs.Outer.{imported}
use Rattle.surf_reader.specs.View.{Fails, Goes, Next, before, given_of, here, rest, token_of}
use Rattle.surf_reader.proofs.Steps as steps
use Rattle.surf_reader.proofs.Steps.{bind_done, fails_on, fails_same, one_by, told_same, turn_then}

-- ---- no token comes back

mutual
  one_shrinks : {A : Type 0} {g : Given A} {w : Want} {at to : ℕ} {ts rest : List (Token A)} {vs us : List (Value A)} → Reads g w at ts vs to rest us → length rest ≤ length ts
  one_shrinks (begins e h) = let n = all_shrink h in omega (arith, n)
  one_shrinks (left n b) = omega arith
  one_shrinks makes = omega arith
  one_shrinks (tests e) = omega arith

  all_shrink : {A : Type 0} {g : Given A} {ws : List Want} {at to : ℕ} {ts rest : List (Token A)} {vs us : List (Value A)} → ReadsAll g ws at ts vs to rest us → length rest ≤ length ts
  all_shrink end = omega arith
  all_shrink (more h k) = let n = one_shrinks h in let l = all_shrink k in omega (arith, n, l)

rest_length : (ts : List Named) (at : ℕ) → length (rest ts at) ≡ length ts - at
unfolding rest
rest_length ts at = length-drop at (map token_of ts) ∙ ap (λ (n : ℕ). n - at) (length-map ts token_of)

pub shrinks : (r : Reader) (ws : List Want) (at to : ℕ) (vs us : List (Value ℕ)) → turn (given_of r) ws (here r at vs) ≡ Ok (here r to us) → length r.tokens.now - to ≤ length r.tokens.now - at
shrinks r ws at to vs us e =
    let h = all_shrink (run_is (given_of r) ws (here r at vs).at (rest r.tokens.now at) vs (here r to us) (run_turn (given_of r) ws (here r at vs).at (rest r.tokens.now at) vs ∙ e)) in
    omega (arith, h, rest_length r.tokens.now at, rest_length r.tokens.now to)

-- ---- one more part of a repetition

pub goes_on : (r : Reader) (s next : Symbol) (at to : ℕ) (t : Named) (front : List Want) (vs us : List (Value ℕ)) → Next r at t → row s vs t.kind ≡ Some (front ++ Read next ∷ [])
    → turn (given_of r) front (here r (at + 1) (token (token_of t) ∷ vs)) ≡ Ok (here r to us) → one (given_of r) (Read s) (here r at vs) ≡ one (given_of r) (Read next) (here r to us)
goes_on r s next at to t front vs us n e h =
    steps.begins r s at t (front ++ Read next ∷ []) vs n e
    ∙ turn_then (given_of r) front (Read next ∷ []) (here r (at + 1) (token (token_of t) ∷ vs))
    ∙ ap (λ (q : Reading ℕ). q >>= λ p. turn (given_of r) (Read next ∷ []) p) h
    ∙ bind_done (one (given_of r) (Read next) (here r to us))

pub goes_wrong : (r : Reader) (s next : Symbol) (at : ℕ) (t : Named) (front : List Want) (vs : List (Value ℕ)) (e : ParseFault) → Next r at t → row s vs t.kind ≡ Some (front ++ Read next ∷ [])
    → Fails e (turn (given_of r) front (here r (at + 1) (token (token_of t) ∷ vs))) → Fails e (one (given_of r) (Read s) (here r at vs))
goes_wrong r s next at t front vs e n f h =
    fails_same e _ _ (steps.begins r s at t (front ++ Read next ∷ []) vs n f ∙ turn_then (given_of r) front (Read next ∷ []) (here r (at + 1) (token (token_of t) ∷ vs)))
    (fails_on e _ _ h)

-- what is wanted first, and then others
pub told_front : {X : Type 0} (r : Reader) (put : X → List (Value ℕ) → List (Value ℕ)) (res : Result (X × ℕ) ParseFault) (front back : List Want) (under mid : List (Value ℕ) → List (Value ℕ)) (at to : ℕ)
    → ((vs : List (Value ℕ)) → turn (given_of r) front (here r at (under vs)) ≡ Ok (here r to (mid vs))) → Goes r put res back mid to → Goes r put res (front ++ back) under at
told_front r put res front back under mid at to e h =
    told_same r put res _ _ (λ vs. turn_then (given_of r) front back (here r at (under vs)) ∙ ap (λ (q : Reading ℕ). q >>= λ s. turn (given_of r) back s) (e vs)) h

-- ---- where parts are counted

pub room_for : (g : Given ℕ) (q : Count) (n : ℕ) (ws : List Want) (s : State ℕ) → 0 < n → turn g (Test_ (HasRoomFor q n) ∷ ws) s ≡ turn g ws s
unfolding complaint
room_for g q n ws s lt =
    let some : eqb n 0 ≡ false = grind (arith, nat_tests) in
    rw (one_test g (HasRoomFor q n), some) refl

pub too_many : (r : Reader) (s : Symbol) (q : Count) (n at : ℕ) (t : Named) (front : List Want) (vs : List (Value ℕ)) → Next r at t → row s vs t.kind ≡ Some (Test_ (HasRoomFor q n) ∷ front) → n ≡ 0
    → one (given_of r) (Read s) (here r at vs) ≡ Err (TooMany t.span.from q)
unfolding complaint
too_many r s q n at t front vs x e none =
    let full : eqb n 0 ≡ true = grind (arith, nat_tests) in
    steps.begins r s at t (Test_ (HasRoomFor q n) ∷ front) vs x e ∙ rw (one_test (given_of r) (HasRoomFor q n), full, x.before) refl

pub pred_is : (n : ℕ) → pred n ≡ n - 1
pred_is zero = refl
pred_is (suc n) = omega arith

-- ---- what stands behind the `=` of a definition

pub body_of_type : (g : Given ℕ) (q : State ℕ) → body_is_type q.values ≡ true → one g (Read Body) q ≡ one g (Read (Class outermost of_type None)) q
unfolding row word_of
body_of_type g q e = one_by g Body q refl ∙ rw e refl ∙ sym (one_by g (Class outermost of_type None) q refl)

pub body_of_term : (g : Given ℕ) (q : State ℕ) → body_is_type q.values ≡ false → one g (Read Body) q ≡ one g (Read (Term outermost)) q
unfolding row word_of
body_of_term g q e = one_by g Body q refl ∙ rw e refl ∙ sym (one_by g (Term outermost) q refl)

-- ---- imports and the whole

pub with_import_is : (text : ℕ → List ℕ) (x : Named) (b : Module ℕ) → with_import text (token_of x) b ≡ record b { imports = imported text x b.imports }
with_import_is text x b = tests (list_any (λ i. bytes_eq (text x.name.0) (text i.0)) b.imports)
  where
    tests : (c : Bool) → cond c b (record b { imports = b.imports ++ (x.name.0, place x.span) ∷ [] }) ≡ record b { imports = cond c b.imports (b.imports ++ (x.name.0, place x.span) ∷ []) }
    tests true = refl
    tests false = refl

pub item_none : (t : TokenKind) → ¬ (t ≡ k.Name) → ¬ (t ≡ k.Data) → item_row t ≡ None
item_none k.Name h _ = absurd (h refl)
item_none k.Data _ h = absurd (h refl)
item_none t _ _ = refl

pub parsed_by : (r : Reader) → parsed (given_of r) (map token_of r.tokens.now) ≡ (turn (given_of r) a_module (here r 0 []) >>= λ s. ended s.values s.tokens)
unfolding parsed rest before
parsed_by r = ap (λ (q : Reading ℕ). q >>= λ s. ended s.values s.tokens) (run_turn (given_of r) a_module 0 (map token_of r.tokens.now) [])

pub wrong : (e : ParseFault) (g : Given ℕ) (ts : List (Token ℕ)) (q : Reading ℕ) (f : State ℕ → Result (List (Value ℕ)) Fault) → parsed g ts ≡ (q >>= f) → Fails e q → IsParsed g ts (Err e)
wrong faults.NoMemory g ts q f p h = tt
wrong (faults.Unexpected at what) g ts q f p h = p ∙ rw h refl
wrong (faults.TooDeep at) g ts q f p h = p ∙ rw h refl
wrong (faults.TooMany at what) g ts q f p h = p ∙ rw h refl
