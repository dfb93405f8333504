-- Reading for one want, by the tokens of the parser.
use Rattle.std.proofs.Common.{◌≡◌, ℕ, zero, suc, ◌-◌, ◌+◌, ◌<◌, ◌≤◌, Bool, false, eqb, List, [], ◌∷◌, ◌++◌, length, get_or, Some, None, Result, Ok, Err, refl, sym, ap, subst, ◌∙◌, arith}
use Rattle.std.proofs.lemmas.Bool.Decides.{nat_tests}
use Rattle.source_model.specs.declared.token.TokenKind.{TokenKind}
use Rattle.source_model.specs.declared.wanted.Wanted.{Wanted}
use Rattle.source_model.specs.Grammar.{Token, Value, token, Symbol, Want, Read, Test_, HasRoom}
use Rattle.source_model.specs.Rows.{row, leaving, Leaving, MustStand, Row, ◌▸◌, raised, same_kind, only}
use Rattle.source_model.specs.Made.{left_out}
use Rattle.source_model.specs.Parsing.{Given, Unexpected, TooDeep, State, Reading, one, turn, missed, by_row, complaint, word_of, ◌>>=◌}
use Rattle.source_model.proofs.Turns.{one_token, one_end, one_test}
use Rattle.surf_reader.specs.View.{rest, before, token_of, given_of, here, Next, Taken, Lacks, at_end, other, Fails, Told, Gives, Goes, Closes, Reads, by, by_front, by_tokens, on_token}
use Rattle.surf_reader.specs.declared.token.Named.{Named}
use Rattle.surf_reader.specs.declared.reader.Reader.{Reader}
use Rattle.surf_reader.specs.declared.error.ParseFault.{ParseFault}
use Rattle.surf_reader.specs.declared.error.ParseFault.TheVariants as faults

-- ---- the list of tokens

pub rest_more : (ts : List Named) (at : ℕ) (d : Named) → at < length ts → rest ts at ≡ token_of (get_or ts at d) ∷ rest ts (at + 1)
unfolding rest
rest_more [] at d lt = absurd (omega arith)
rest_more (t ∷ ts) zero d lt = refl
rest_more (t ∷ ts) (suc at) d lt = let q : suc at + 1 ≡ suc (at + 1) = omega arith in rw q (rest_more ts at d (omega arith))

pub rest_end : (ts : List Named) (at : ℕ) → length ts ≤ at → rest ts at ≡ []
unfolding rest
rest_end [] zero le = refl
rest_end [] (suc at) le = refl
rest_end (t ∷ ts) zero le = absurd (omega arith)
rest_end (t ∷ ts) (suc at) le = rest_end ts at (omega arith)

pub before_more : (ts : List Named) (at : ℕ) (d : Named) → at < length ts → before ts (at + 1) ≡ (get_or ts at d).span.from
unfolding before
before_more [] at d lt = absurd (omega arith)
before_more (t ∷ ts) zero d lt = refl
before_more (t ∷ ts) (suc at) d lt =
    let q : suc at + 1 ≡ suc (suc at) = omega arith in
    let p : suc at ≡ at + 1 = omega arith in
    ap (before (t ∷ ts)) q ∙ ap (before ts) p ∙ before_more ts at d (omega arith)

pub before_past : (ts : List Named) (at : ℕ) → length ts < at → before ts at ≡ 0
unfolding before
before_past ts zero lt = refl
before_past [] (suc at) lt = refl
before_past (t ∷ ts) (suc zero) lt = absurd (omega arith)
before_past (t ∷ ts) (suc (suc at)) lt = before_past ts (suc at) (omega arith)

pub before_none : (ts : List Named) → before ts 0 ≡ 0
unfolding before
before_none ts = refl

pub before_last : (ts : List Named) (at : ℕ) (d : Named) → 0 < at → at ≤ length ts → before ts at ≡ (get_or ts (at - 1) d).span.from
before_last ts at d lt le =
    let q : at ≡ (at - 1) + 1 = omega arith in
    ap (before ts) q ∙ before_more ts (at - 1) d (omega arith)

pub ruleset list_rules = (rest_more, rest_end, before_more)

pub ruleset latest_rules = (before_past, before_none, before_last)

-- ---- one symbol

-- it begins with a token: its row follows
pub begins : (r : Reader) (s : Symbol) (at : ℕ) (t : Named) (front : List Want) (vs : List (Value ℕ)) → Next r at t → row s vs t.kind ≡ Some front
    → one (given_of r) (Read s) (here r at vs) ≡ turn (given_of r) front (here r (at + 1) (token (token_of t) ∷ vs))
begins r s at t front vs n e =
    one_token (given_of r) s (here r at vs) (token_of t) (rest r.tokens.now (at + 1)) n.rest
    ∙ ap (by_row (given_of r) s (here r at vs) (token_of t) (rest r.tokens.now (at + 1))) e
    ∙ ap (λ (n : ℕ). turn (given_of r) front (record { at = n; tokens = rest r.tokens.now (at + 1); values = token (token_of t) ∷ vs })) (sym n.before)

-- it does not begin with the token that is next
pub misses : (r : Reader) (s : Symbol) (at : ℕ) (t : Named) (vs : List (Value ℕ)) → Next r at t → row s vs t.kind ≡ None
    → one (given_of r) (Read s) (here r at vs) ≡ missed t.span.from s (leaving s) (here r at vs)
misses r s at t vs n e =
    one_token (given_of r) s (here r at vs) (token_of t) (rest r.tokens.now (at + 1)) n.rest ∙ ap (by_row (given_of r) s (here r at vs) (token_of t) (rest r.tokens.now (at + 1))) e

-- nothing is next
pub ends : (r : Reader) (s : Symbol) (at : ℕ) (vs : List (Value ℕ)) → rest r.tokens.now at ≡ [] → one (given_of r) (Read s) (here r at vs) ≡ missed (given_of r).end s (leaving s) (here r at vs)
ends r s at vs e = one_end (given_of r) s (here r at vs) e

-- an option or a repetition is left out
missing : (at : ℕ) (s : Symbol) (l : Leaving) (q : State ℕ) → ¬ (l ≡ MustStand) → missed at s l q ≡ Ok (record q { values = left_out l q.values })
missing at s MustStand q h = absurd (h refl)
missing at s Leaving.LeftOut q h = refl
missing at s Leaving.NotGiven q h = refl
missing at s Leaving.Ends q h = refl

pub omitted : (r : Reader) (s : Symbol) (kind : TokenKind) (at : ℕ) (front : List Want) (vs : List (Value ℕ)) → Lacks r kind at → ((t : TokenKind) → row s vs t ≡ only (same_kind kind t) front)
    → ¬ (leaving s ≡ MustStand) → one (given_of r) (Read s) (here r at vs) ≡ Ok (here r at (left_out (leaving s) vs))
omitted r s kind at front vs (at_end e) h l = ends r s at vs e ∙ missing (given_of r).end s (leaving s) (here r at vs) l
omitted r s kind at front vs (other t n e) h l = misses r s at t vs n (h t.kind ∙ ap (λ (b : Bool). only b front) e) ∙ missing t.span.from s (leaving s) (here r at vs) l

-- ---- faults

-- what follows a fault is not read
pub fails_on : (e : ParseFault) (r : Reading ℕ) (f : State ℕ → Reading ℕ) → Fails e r → Fails e (r >>= f)
fails_on faults.NoMemory r f h = tt
fails_on (faults.Unexpected at what) r f h = rw h refl
fails_on (faults.TooDeep at) r f h = rw h refl
fails_on (faults.TooMany at what) r f h = rw h refl

pub fails_same : (e : ParseFault) (r s : Reading ℕ) → r ≡ s → Fails e s → Fails e r
fails_same e r s q h = subst (Fails e) (sym q) h

-- ---- readings one by another

-- the same reading is told the same
pub told_same : {X : Type 0} (r : Reader) (put : X → List (Value ℕ) → List (Value ℕ)) (res : Result (X × ℕ) ParseFault) (f h : List (Value ℕ) → Reading ℕ)
    → ((vs : List (Value ℕ)) → f vs ≡ h vs) → Told r put res h → Told r put res f
told_same r put (Ok x) f h e t = λ vs. e vs ∙ t vs
told_same r put (Err d) f h e t = λ vs. fails_same d _ _ (e vs) (t vs)

-- what is read for a symbol is what is read for its row
pub told_row : {X : Type 0} (r : Reader) (put : X → List (Value ℕ) → List (Value ℕ)) (res : Result (X × ℕ) ParseFault) (s : Symbol) (at : ℕ) (t : Named) (front : List Want)
    → Next r at t → ((vs : List (Value ℕ)) → row s vs t.kind ≡ Some front) → Goes r put res front (on_token t) (at + 1) → Gives r put res s at
told_row r put res s at t front n e h = told_same r put res _ _ (λ vs. begins r s at t front vs n (e vs)) h

-- an option that stands there
pub told_option : {X : Type 0} (r : Reader) (put : X → List (Value ℕ) → List (Value ℕ)) (res : Result (X × ℕ) ParseFault) (s : Symbol) (kind : TokenKind) (at : ℕ) (t : Named) (front : List Want)
    → Taken r kind at t → ((vs : List (Value ℕ)) (k : TokenKind) → row s vs k ≡ only (same_kind kind k) front) → Goes r put res front (on_token t) (at + 1) → Gives r put res s at
told_option r put res s kind at t front n e h = told_row r put res s at t front n.next (λ vs. e vs t.kind ∙ ap (λ (b : Bool). only b front) n.same) h

pub bind_done : (r : Reading ℕ) → (r >>= λ s. Ok s) ≡ r
bind_done (Ok s) = refl
bind_done (Err e) = refl

-- a reading that has this fault
pub told_err : {X : Type 0} (r : Reader) (put : X → List (Value ℕ) → List (Value ℕ)) (res : Result (X × ℕ) ParseFault) (e : ParseFault) (f : List (Value ℕ) → Reading ℕ) → res ≡ Err e → ((vs : List (Value ℕ)) → Fails e (f vs)) → Told r put res f
told_err r put res e f q h = rw q h

-- the end of a row that has this fault
pub closes_err : {X : Type 0} (r : Reader) (put : X → List (Value ℕ) → List (Value ℕ)) (res : Result X ParseFault) (e : ParseFault) (ws : List Want) (under : List (Value ℕ) → List (Value ℕ)) (at : ℕ)
    → res ≡ Err e → ((vs : List (Value ℕ)) → Fails e (turn (given_of r) ws (here r at (under vs)))) → Closes r put res ws under at
closes_err r put res e ws under at q h = rw q h

-- one want was read, and then the others
pub go : (g : Given ℕ) (w : Want) (ws : List Want) (s t : State ℕ) (r : Reading ℕ) → one g w s ≡ Ok t → turn g ws t ≡ r → turn g (w ∷ ws) s ≡ r
go g w ws s t r e h = ap (λ (q : Reading ℕ). q >>= λ p. turn g ws p) e ∙ h

-- the last want
pub told_last : {X : Type 0} (r : Reader) (put : X → List (Value ℕ) → List (Value ℕ)) (res : Result (X × ℕ) ParseFault) (w : Want) (under : List (Value ℕ) → List (Value ℕ)) (at : ℕ)
    → Told r put res (λ vs. one (given_of r) w (here r at (under vs))) → Goes r put res (w ∷ []) under at
told_last r put res w under at h = told_same r put res _ _ (λ vs. bind_done (one (given_of r) w (here r at (under vs)))) h

-- the first want, and then others
pub told_more : {X : Type 0} (r : Reader) (put : X → List (Value ℕ) → List (Value ℕ)) (res : Result (X × ℕ) ParseFault) (w : Want) (ws : List Want) (under middle : List (Value ℕ) → List (Value ℕ)) (at to : ℕ)
    → ((vs : List (Value ℕ)) → one (given_of r) w (here r at (under vs)) ≡ Ok (here r to (middle vs))) → Goes r put res ws middle to → Goes r put res (w ∷ ws) under at
told_more r put res w ws under middle at to e h = told_same r put res _ _ (λ vs. ap (λ (q : Reading ℕ). q >>= λ s. turn (given_of r) ws s) (e vs)) h

-- what follows a reading that went on
pub told_then : {X : Type 0} (r : Reader) (put : X → List (Value ℕ) → List (Value ℕ)) (res : Result (X × ℕ) ParseFault) (first : List (Value ℕ) → Reading ℕ) (next : State ℕ → Reading ℕ) (middle : List (Value ℕ) → State ℕ)
    → ((vs : List (Value ℕ)) → first vs ≡ Ok (middle vs)) → Told r put res (λ vs. next (middle vs)) → Told r put res (λ vs. first vs >>= next)
told_then r put res first next middle e h = told_same r put res _ _ (λ vs. ap (λ (q : Reading ℕ). q >>= next) (e vs)) h

-- two lists of wants
pub turn_then : (g : Given ℕ) (ws xs : List Want) (s : State ℕ) → turn g (ws ++ xs) s ≡ (turn g ws s >>= λ r. turn g xs r)
turn_then g [] xs s = refl
turn_then g (w ∷ ws) xs s = bind_then (one g w s) (λ r. turn_then g ws xs r)
  where
    bind_then : (r : Reading ℕ) → ((q : State ℕ) → turn g (ws ++ xs) q ≡ (turn g ws q >>= λ p. turn g xs p)) → (r >>= λ q. turn g (ws ++ xs) q) ≡ ((r >>= λ q. turn g ws q) >>= λ p. turn g xs p)
    bind_then (Ok q) h = h q
    bind_then (Err e) h = refl

-- ---- rows

-- a token that has the row is next
pub by_begins : (r : Reader) (f : TokenKind → Row) (w : Wanted) (at : ℕ) (t : Named) (front : List Want) (vs : List (Value ℕ)) → Next r at t → f t.kind ≡ Some front
    → by (given_of r) f w (here r at vs) ≡ turn (given_of r) front (here r (at + 1) (token (token_of t) ∷ vs))
by_begins r f w at t front vs n e =
    ap (by_tokens (given_of r) f w (here r at vs)) n.rest
    ∙ ap (by_front (given_of r) w (here r at vs) (token_of t) (rest r.tokens.now (at + 1))) e
    ∙ ap (λ (n : ℕ). turn (given_of r) front (record { at = n; tokens = rest r.tokens.now (at + 1); values = token (token_of t) ∷ vs })) (sym n.before)

pub by_misses : (r : Reader) (f : TokenKind → Row) (w : Wanted) (at : ℕ) (t : Named) (vs : List (Value ℕ)) → Next r at t → f t.kind ≡ None → by (given_of r) f w (here r at vs) ≡ Err (Unexpected t.span.from w)
by_misses r f w at t vs n e = ap (by_tokens (given_of r) f w (here r at vs)) n.rest ∙ ap (by_front (given_of r) w (here r at vs) (token_of t) (rest r.tokens.now (at + 1))) e

pub by_ends : (r : Reader) (f : TokenKind → Row) (w : Wanted) (at : ℕ) (vs : List (Value ℕ)) → rest r.tokens.now at ≡ [] → by (given_of r) f w (here r at vs) ≡ Err (Unexpected (given_of r).end w)
by_ends r f w at vs e = ap (by_tokens (given_of r) f w (here r at vs)) e

-- what is read by a row is what is read behind its first token
pub told_by : {X : Type 0} (r : Reader) (put : X → List (Value ℕ) → List (Value ℕ)) (res : Result (X × ℕ) ParseFault) (f : TokenKind → Row) (w : Wanted) (at : ℕ) (t : Named) (front : List Want)
    → Next r at t → f t.kind ≡ Some front → Goes r put res front (on_token t) (at + 1) → Reads r put res f w at
told_by r put res f w at t front n e h = told_same r put res _ _ (λ vs. by_begins r f w at t front vs n e) h

-- a symbol that must stand is read by its row
one_by_tokens : (g : Given ℕ) (s : Symbol) (q : State ℕ) (ts : List (Token ℕ)) → leaving s ≡ MustStand → q.tokens ≡ ts → one g (Read s) q ≡ by_tokens g (λ k. row s q.values k) (word_of s q.values) q ts
one_by_tokens g s q [] m e = one_end g s q e ∙ ap (λ (l : Leaving). missed g.end s l q) m
one_by_tokens g s q (t ∷ ts) m e = one_token g s q t ts e ∙ front_is (row s q.values t.kind)
  where
    front_is : (f : Row) → by_row g s q t ts f ≡ by_front g (word_of s q.values) q t ts f
    front_is (Some front) = refl
    front_is None = ap (λ (l : Leaving). missed t.span.from s l q) m

pub one_by : (g : Given ℕ) (s : Symbol) (q : State ℕ) → leaving s ≡ MustStand → one g (Read s) q ≡ by g (λ k. row s q.values k) (word_of s q.values) q
one_by g s q m = one_by_tokens g s q q.tokens m refl

-- a row, and then others
pub by_then : (g : Given ℕ) (f : TokenKind → Row) (ws : List Want) (w : Wanted) (q : State ℕ) → by g (λ k. f k ▸ ws) w q ≡ (by g f w q >>= λ p. turn g ws p)
by_then g f ws w q = tokens_then q.tokens
  where
    front_then : (t : Token ℕ) (ts : List (Token ℕ)) (r : Row) → by_front g w q t ts (r ▸ ws) ≡ (by_front g w q t ts r >>= λ p. turn g ws p)
    front_then t ts None = refl
    front_then t ts (Some front) = turn_then g front ws (record { at = t.span.from; tokens = ts; values = token t ∷ q.values })

    tokens_then : (ts : List (Token ℕ)) → by_tokens g (λ k. f k ▸ ws) w q ts ≡ (by_tokens g f w q ts >>= λ p. turn g ws p)
    tokens_then [] = refl
    tokens_then (t ∷ ts) = front_then t ts (f t.kind)

pub room : (g : Given ℕ) (n : ℕ) (q : State ℕ) → one g (Test_ (HasRoom (suc n))) q ≡ Ok q
unfolding complaint
room g n q =
    let more : eqb (suc n) 0 ≡ false = grind (arith, nat_tests) in
    rw (one_test g (HasRoom (suc n)), more) refl

-- where nesting may still rise, the row is read
pub by_raised : (g : Given ℕ) (n : ℕ) (f : TokenKind → Row) (w : Wanted) (q : State ℕ) → by g (λ k. raised (suc n) (f k)) w q ≡ by g f w q
by_raised g n f w q = tokens_raised q.tokens
  where
    front_raised : (t : Token ℕ) (ts : List (Token ℕ)) (r : Row) → by_front g w q t ts (raised (suc n) r) ≡ by_front g w q t ts r
    front_raised t ts None = refl
    front_raised t ts (Some front) = ap (λ (p : Reading ℕ). p >>= λ s. turn g front s) (room g n (record { at = t.span.from; tokens = ts; values = token t ∷ q.values }))

    tokens_raised : (ts : List (Token ℕ)) → by_tokens g (λ k. raised (suc n) (f k)) w q ts ≡ by_tokens g f w q ts
    tokens_raised [] = refl
    tokens_raised (t ∷ ts) = front_raised t ts (f t.kind)

-- and where it may not, what begins so is too deep
pub by_deep : (r : Reader) (f : TokenKind → Row) (w : Wanted) (at : ℕ) (t : Named) (front : List Want) (vs : List (Value ℕ)) → Next r at t → f t.kind ≡ Some front
    → by (given_of r) (λ k. raised 0 (f k)) w (here r at vs) ≡ Err (TooDeep t.span.from)
unfolding complaint
by_deep r f w at t front vs n e =
    by_begins r (λ k. raised 0 (f k)) w at t (Test_ (HasRoom 0) ∷ front) vs n (ap (raised 0) e) ∙ rw (one_test (given_of r) (HasRoom 0), n.before) refl
