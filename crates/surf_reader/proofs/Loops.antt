-- What repeats: each part that is read takes tokens, and reading goes on behind it.
use Rattle.std.proofs.Common.{◌≡◌, ℕ, zero, suc, ◌-◌, ◌+◌, ◌≤◌, List, [], ◌∷◌, ◌++◌, length, map, Option, Some, None, Result, Ok, Err, refl, sym, ap, ◌∙◌, arith}
use Rattle.source_model.specs.Source.{Tree, use_of}
use Rattle.source_model.specs.Grammar.{Token, Value, token, part, branches, patterns, Symbol, Want, Read, Make, Branch}
use Rattle.source_model.specs.Grammar as m
use Rattle.source_model.specs.Rows.{row}
use Rattle.source_model.specs.Made.{made, chained}
use Rattle.source_model.specs.Parsing.{Given, Fault, Unexpected, State, Reading, Settled, done, taken, settle, run, run_on, one, turn, ◌>>=◌}
use Rattle.source_model.specs.declared.wanted.Wanted.TheVariants as wanted
use Rattle.source_model.proofs.Turns.{one_make}
use Rattle.surf_tree.specs.Forms.{chain, name_use, place, pattern_of}
use Rattle.surf_tree.specs.declared.node.SrcBranch.{SrcBranch}
use Rattle.surf_reader.specs.View.{rest, token_of, given_of, here, Next, Fails, branch_value, case_making, case_under, case_tree}
use Rattle.surf_reader.specs.declared.token.Named.{Named}
use Rattle.surf_reader.specs.declared.reader.Reader.{Reader}
use Rattle.surf_reader.specs.declared.error.ParseFault.{ParseFault}
use Rattle.surf_reader.proofs.Steps.{begins, bind_done, fails_on, fails_same, turn_then}

-- ---- one more part

-- the part that is next was read
pub again : (r : Reader) (s after : Symbol) (at : ℕ) (t : Named) (front : List Want) (vs : List (Value ℕ)) (to : ℕ) (us : List (Value ℕ)) → Next r at t → row s vs t.kind ≡ Some (front ++ Read after ∷ [])
    → turn (given_of r) front (here r (at + 1) (token (token_of t) ∷ vs)) ≡ Ok (here r to us) → one (given_of r) (Read s) (here r at vs) ≡ one (given_of r) (Read after) (here r to us)
again r s after at t front vs to us n e h =
    begins r s at t (front ++ Read after ∷ []) vs n e ∙ turn_then (given_of r) front (Read after ∷ []) (here r (at + 1) (token (token_of t) ∷ vs))
    ∙ ap (λ (q : Reading ℕ). q >>= λ p. turn (given_of r) (Read after ∷ []) p) h ∙ bind_done (one (given_of r) (Read after) (here r to us))

-- or it has a fault
pub again_fails : (r : Reader) (s after : Symbol) (at : ℕ) (t : Named) (front : List Want) (vs : List (Value ℕ)) (e : ParseFault) → Next r at t → row s vs t.kind ≡ Some (front ++ Read after ∷ [])
    → Fails e (turn (given_of r) front (here r (at + 1) (token (token_of t) ∷ vs))) → Fails e (one (given_of r) (Read s) (here r at vs))
again_fails r s after at t front vs d n e h =
    fails_same d _ _ (begins r s at t (front ++ Read after ∷ []) vs n e ∙ turn_then (given_of r) front (Read after ∷ []) (here r (at + 1) (token (token_of t) ∷ vs))) (fails_on d _ _ h)

-- ---- reading takes tokens

settled_shrinks : (ts : List (Token ℕ)) (at : ℕ) (goes : Token ℕ → List Want → List (Value ℕ) → Reading ℕ) (r : Result (Settled ℕ) Fault) (q : State ℕ)
    → ((t : Token ℕ) (front : List Want) (us : List (Value ℕ)) (p : State ℕ) → goes t front us ≡ Ok p → length p.tokens ≤ length ts)
    → (r >>= run_on (λ us. record { at = at; tokens = ts; values = us }) goes) ≡ Ok q → length q.tokens ≤ length ts
settled_shrinks ts at goes (Err e) q h k = absurd cc
settled_shrinks ts at goes (Ok (done us)) q h k = let e : length ts ≡ length q.tokens = ap tokens_in k in omega (arith, e)
  where
    tokens_in : Reading ℕ → ℕ
    tokens_in (Ok s) = length s.tokens
    tokens_in (Err e) = 0
settled_shrinks ts at goes (Ok (taken t front us)) q h k = h t front us q k

run_shrinks : (g : Given ℕ) (ts : List (Token ℕ)) (ws : List Want) (at : ℕ) (vs : List (Value ℕ)) (q : State ℕ) → run g ws at ts vs ≡ Ok q → length q.tokens ≤ length ts
unfolding run
run_shrinks g [] ws at vs q h = settled_shrinks [] at (λ t front us. Err (Unexpected g.end wanted.Item)) (settle g None at ws vs) q (λ t front us p e. absurd cc) h
run_shrinks g (t ∷ ts) ws at vs q h =
    settled_shrinks (t ∷ ts) at (λ s front us. run g front s.span.from ts us) (settle g (Some t) at ws vs) q
    (λ s front us p e. let k : length p.tokens ≤ length ts = run_shrinks g ts front s.span.from us p e in omega (arith, k)) h

one_shrinks : (g : Given ℕ) (w : Want) (s q : State ℕ) → one g w s ≡ Ok q → length q.tokens ≤ length s.tokens
unfolding one
one_shrinks g w s q h = run_shrinks g s.tokens (w ∷ []) s.at s.values q h

turn_shrinks : (g : Given ℕ) (ws : List Want) (s q : State ℕ) → turn g ws s ≡ Ok q → length q.tokens ≤ length s.tokens
turn_shrinks g [] s q h = let e : length s.tokens ≡ length q.tokens = ap tokens_in h in omega (arith, e)
  where
    tokens_in : Reading ℕ → ℕ
    tokens_in (Ok s) = length s.tokens
    tokens_in (Err e) = 0
turn_shrinks g (w ∷ ws) s q h = bind_shrinks (one g w s) (λ p e. one_shrinks g w s p e) (λ p e. turn_shrinks g ws p q e) h
  where
    bind_shrinks : (r : Reading ℕ) → ((p : State ℕ) → r ≡ Ok p → length p.tokens ≤ length s.tokens) → ((p : State ℕ) → turn g ws p ≡ Ok q → length q.tokens ≤ length p.tokens)
        → (r >>= λ p. turn g ws p) ≡ Ok q → length q.tokens ≤ length s.tokens
    bind_shrinks (Err e) k i d = absurd cc
    bind_shrinks (Ok p) k i d = let a : length p.tokens ≤ length s.tokens = k p refl in let b : length q.tokens ≤ length p.tokens = i p d in omega (arith, a, b)

rest_length : (ts : List Named) (at : ℕ) → length (rest ts at) ≡ length ts - at
unfolding rest
rest_length [] zero = refl
rest_length [] (suc at) = omega arith
rest_length (t ∷ ts) zero = let h : length (rest ts 0) ≡ length ts - 0 = rest_length ts 0 in omega (arith, h)
rest_length (t ∷ ts) (suc at) = let h : length (rest ts at) ≡ length ts - at = rest_length ts at in omega (arith, h)

-- no place before the one from which reading went on
pub onward : (r : Reader) (ws : List Want) (at to : ℕ) (vs us : List (Value ℕ)) → turn (given_of r) ws (here r at vs) ≡ Ok (here r to us) → length r.tokens.now - to ≤ length r.tokens.now - at
onward r ws at to vs us h =
    let a : length (rest r.tokens.now to) ≤ length (rest r.tokens.now at) = turn_shrinks (given_of r) ws (here r at vs) (here r to us) h in
    let b : length (rest r.tokens.now to) ≡ length r.tokens.now - to = rest_length r.tokens.now to in
    let c : length (rest r.tokens.now at) ≡ length r.tokens.now - at = rest_length r.tokens.now at in
    omega (arith, a, b, c)

-- ---- branches

chained_is : (bs : List SrcBranch) → chained (map branch_value bs) ≡ chain bs
chained_is [] = refl
chained_is (b ∷ bs) = rw (chained_is bs) refl

pub case_makes : (r : Reader) (at : ℕ) (d b : Token ℕ) (f h : ℕ) (letter close : Named) (var : Option Named) (p a : Tree ℕ) (bs : List SrcBranch) (vs : List (Value ℕ))
    → turn (given_of r) (case_making var) (here r at (token (token_of close) ∷ branches (map branch_value bs) ∷ token b ∷ part h a ∷ part f p ∷ case_under d letter var vs))
    ≡ Ok (here r at (part letter.span.from (case_tree letter var close p a bs) ∷ vs))
unfolding made
case_makes r at d b f h letter close None p a bs vs = rw (one_make (given_of r) m.Sigma, chained_is bs) refl
case_makes r at d b f h letter close (Some x) p a bs vs = rw (one_make (given_of r) m.Mu, chained_is bs) refl

pub no_branches_makes : (text : ℕ → List ℕ) (vs : List (Value ℕ)) → made text m.NoBranches vs ≡ branches [] ∷ vs
unfolding made
no_branches_makes text vs = refl

pub no_patterns_makes : (text : ℕ → List ℕ) (vs : List (Value ℕ)) → made text m.NoPatterns vs ≡ patterns [] ∷ vs
unfolding made
no_patterns_makes text vs = refl

-- a branch, whose constructor is this name
pub branch_makes : (r : Reader) (at : ℕ) (f h : ℕ) (d e : Token ℕ) (x : Tree ℕ) (b : SrcBranch) (bs : List (Branch ℕ)) (vs : List (Value ℕ)) → use_of (place b.span) (name_use b.ctor) ≡ x
    → turn (given_of r) (Make m.ABranch ∷ []) (here r at (part h b.part ∷ token d ∷ patterns (map pattern_of b.args.items) ∷ part f x ∷ token e ∷ branches bs ∷ vs)) ≡ Ok (here r at (branches (bs ++ branch_value b ∷ []) ∷ vs))
unfolding made
branch_makes r at f h d e x b bs vs q = rw (one_make (given_of r) m.ABranch, sym q) refl
