-- Reading stops where a test complains, or where no text goes on.
use Rattle.std.proofs.Common.{◌≡◌, ℕ, List, [], ◌∷◌, ◌++◌, Option, Some, None, Result, Ok, Err, ◌⊎◌, inl, inr, refl, sym, ap, subst, ◌∙◌, append_assoc}
use Rattle.source_model.specs.Grammar.{Token, Value, token, Test, Making, Symbol, Want, Test_, Make, Read}
use Rattle.source_model.specs.Rows.{Row, row, leaving, Leaving, MustStand, LeftOut, NotGiven, Ends, a_module}
use Rattle.source_model.specs.Made.{made, left_out}
use Rattle.source_model.specs.Parsing.{Given, Fault, Unexpected, Complaint, complaint, ◌>>=◌, absent, begun, tested, step, Settled, done, taken, settle_on, settle, Reading, run_on, run, ended, parsed, IsFirstFault}
use Rattle.source_model.specs.SurfaceText.{BeginsNot}
use Rattle.source_model.specs.Prefixes.{Wanting, read_or_left, behind_token, on_wanting, behind, needed, first_needed, start, NoneGoesOn, place, needed_word, Complains, here, passed, behind_making, behind_option, in_row, IsComplaint}
use Rattle.source_model.proofs.Said.{first, no_tokens}

-- what must stand, with the values before it, or none
abbrev pub Needed : Type 0 → Type 0
Needed A = Option (Symbol × List (Value A))

left_is : {A : Type 0} (t : Token A) (ws : List Want) (vs : List (Value A)) (l : Leaving) (w : Option (Wanting A)) → ¬ (l ≡ MustStand) → read_or_left t ws vs None l w ≡ w
left_is t ws vs MustStand w n = absurd (n refl)
left_is t ws vs LeftOut w n = refl
left_is t ws vs NotGiven w n = refl
left_is t ws vs Ends w n = refl

pub needed_is : {A : Type 0} (s : Symbol) (vs : List (Value A)) (l : Leaving) (n : Needed A) → ¬ (l ≡ MustStand) → needed s vs l n ≡ n
needed_is s vs MustStand n d = absurd (d refl)
needed_is s vs LeftOut n d = refl
needed_is s vs NotGiven n d = refl
needed_is s vs Ends n d = refl

module _ {A : Type 0} (g : Given A) where
  -- ---- the wants before the next token, or the end

  -- the next token does not stand there
  abbrev pub TakesNot : List Want → List (Value A) → List (Token A) → Type 0
  TakesNot ws vs [] = Unit {0}
  TakesNot ws vs (t ∷ ts) = behind_token g.text t ws vs ≡ None

  -- two lists of wants take the next token alike
  abbrev pub TakesAlike : List Want → List (Value A) → List Want → List (Value A) → List (Token A) → Type 0
  TakesAlike ws vs xs us [] = Unit {0}
  TakesAlike ws vs xs us (t ∷ ts) = behind_token g.text t ws vs ≡ behind_token g.text t xs us

  -- the wants do not go on with the next token, or the text ends; and this is what must stand there
  abbrev pub Stuck : List Want → List (Value A) → List (Token A) → Needed A → Type 0
  Stuck ws vs ts n = TakesNot ws vs ts × (first_needed g.text ws vs ≡ n)

  -- the fault of what must stand and does not
  abbrev IsMissed : List Want → List (Value A) → List (Token A) → Fault → Type 0
  IsMissed ws vs ts f = (n : Symbol × List (Value A)) × Stuck ws vs ts (Some n) × (f ≡ Unexpected (place g.end ts) (needed_word (Some n)))

  -- the wants are done, or take the token that is next, or come to a fault
  abbrev IsSettled : List Want → ℕ → List (Token A) → List (Value A) → Result (Settled A) Fault → Type 0
  IsSettled ws at ts vs (Ok (done us)) = Stuck ws vs ts None
  IsSettled ws at ts vs (Ok (taken t front us)) =
      (rest : List (Token A)) × (ts ≡ t ∷ rest) × (behind_token g.text t ws vs ≡ Some (record { wants = front; values = us }))
      × ((f : Fault) → Complains g front t.span.from rest us f → Complains g ws at ts vs f)
  IsSettled ws at ts vs (Err f) = Complains g ws at ts vs f ⊎ IsMissed ws vs ts f

  -- a want that is done without a token
  record IsDone (w : Want) (ws : List Want) (at : ℕ) (ts : List (Token A)) (vs us : List (Value A)) : Type 0 where
    takes : TakesAlike (w ∷ ws) vs ws us ts
    needs : first_needed g.text (w ∷ ws) vs ≡ first_needed g.text ws us
    complains : (f : Fault) → Complains g ws at ts us f → Complains g (w ∷ ws) at ts vs f

  takes_neither : (ws xs : List Want) (ts : List (Token A)) (vs us : List (Value A)) → TakesAlike ws vs xs us ts → TakesNot xs us ts → TakesNot ws vs ts
  takes_neither ws xs [] vs us a h = tt
  takes_neither ws xs (t ∷ ts) vs us a h = a ∙ h

  takes_both : (ws xs : List Want) (ts : List (Token A)) (vs us : List (Value A)) (t : Token A) (rest : List (Token A)) (w : Option (Wanting A))
      → TakesAlike ws vs xs us ts → ts ≡ t ∷ rest → behind_token g.text t xs us ≡ w → behind_token g.text t ws vs ≡ w
  takes_both ws xs [] vs us t rest w a e h = absurd cc
  takes_both ws xs (u ∷ ts) vs us t rest w a e h = let q : u ≡ t = cc in (rw q at a) ∙ h

  done_settled : (w : Want) (ws : List Want) (at : ℕ) (ts : List (Token A)) (vs us : List (Value A)) (r : Result (Settled A) Fault)
      → IsDone w ws at ts vs us → IsSettled ws at ts us r → IsSettled (w ∷ ws) at ts vs r
  done_settled w ws at ts vs us (Ok (done xs)) d h = (takes_neither (w ∷ ws) ws ts vs us d.takes h.0, d.needs ∙ h.1)
  done_settled w ws at ts vs us (Ok (taken t front xs)) d h = (h.0, h.1, takes_both (w ∷ ws) ws ts vs us t h.0 _ d.takes h.1 h.2, λ f c. d.complains f (h.3 f c))
  done_settled w ws at ts vs us (Err f) d (inl c) = inl (d.complains f c)
  done_settled w ws at ts vs us (Err f) d (inr n) = inr (n.0, (takes_neither (w ∷ ws) ws ts vs us d.takes n.1.0, d.needs ∙ n.1.1), n.2)

  pub alike_test : (q : Test) (ws : List Want) (ts : List (Token A)) (vs : List (Value A)) → TakesAlike (Test_ q ∷ ws) vs ws vs ts
  unfolding behind_token
  alike_test q ws [] vs = tt
  alike_test q ws (t ∷ ts) vs = refl

  test_done : (q : Test) (ws : List Want) (at : ℕ) (ts : List (Token A)) (vs : List (Value A)) → complaint g q at vs ≡ None → IsDone (Test_ q) ws at ts vs vs
  unfolding first_needed
  test_done q ws at ts vs e = record { takes = alike_test q ws ts vs; needs = refl; complains = λ f c. passed e c }

  pub alike_making : (m : Making) (ws : List Want) (ts : List (Token A)) (vs : List (Value A)) → TakesAlike (Make m ∷ ws) vs ws (made g.text m vs) ts
  unfolding behind_token
  alike_making m ws [] vs = tt
  alike_making m ws (t ∷ ts) vs = refl

  making_done : (m : Making) (ws : List Want) (at : ℕ) (ts : List (Token A)) (vs : List (Value A)) → IsDone (Make m) ws at ts vs (made g.text m vs)
  unfolding first_needed
  making_done m ws at ts vs = record { takes = alike_making m ws ts vs; needs = refl; complains = λ f c. behind_making c }

  pub alike_option : (s : Symbol) (ws : List Want) (ts : List (Token A)) (vs : List (Value A))
      → ¬ (leaving s ≡ MustStand) → BeginsNot s vs ts → TakesAlike (Read s ∷ ws) vs ws (left_out (leaving s) vs) ts
  unfolding behind_token
  alike_option s ws [] vs n b = tt
  alike_option s ws (t ∷ ts) vs n b = rw b (left_is t ws vs (leaving s) (behind_token g.text t ws (left_out (leaving s) vs)) n)

  option_done : (s : Symbol) (ws : List Want) (at : ℕ) (ts : List (Token A)) (vs : List (Value A))
      → ¬ (leaving s ≡ MustStand) → BeginsNot s vs ts → IsDone (Read s) ws at ts vs (left_out (leaving s) vs)
  unfolding first_needed
  option_done s ws at ts vs n b =
      record {
        takes = alike_option s ws ts vs n b;
        needs = needed_is s vs (leaving s) (first_needed g.text ws (left_out (leaving s) vs)) n;
        complains = λ f c. behind_option n b c;
      }

  -- what the rest of the wants comes to
  abbrev Later : List Want → ℕ → List (Token A) → List (Value A) → Result (Settled A) Fault
  Later ws at ts vs = settle g (first ts) at ws vs

  test_settled : (q : Test) (ws : List Want) (at : ℕ) (ts : List (Token A)) (vs : List (Value A)) (c : Complaint) → complaint g q at vs ≡ c → IsSettled ws at ts vs (Later ws at ts vs)
      → IsSettled (Test_ q ∷ ws) at ts vs (tested vs c >>= settle_on ws (λ us. Later ws at ts us))
  test_settled q ws at ts vs None e h = done_settled (Test_ q) ws at ts vs vs _ (test_done q ws at ts vs e) h
  test_settled q ws at ts vs (Some f) e h = inl (here e)

  must_stand : (s : Symbol) (ws : List Want) (ts : List (Token A)) (vs : List (Value A)) → leaving s ≡ MustStand → BeginsNot s vs ts → Stuck (Read s ∷ ws) vs ts (Some (s, vs))
  unfolding behind_token first_needed
  must_stand s ws [] vs e b = (tt, rw e refl)
  must_stand s ws (t ∷ ts) vs e b = (rw (b, e) refl, rw e refl)

  absent_settled : (s : Symbol) (ws : List Want) (at : ℕ) (ts : List (Token A)) (vs : List (Value A)) (l : Leaving) → leaving s ≡ l → BeginsNot s vs ts
      → IsSettled ws at ts (left_out (leaving s) vs) (Later ws at ts (left_out (leaving s) vs))
      → IsSettled (Read s ∷ ws) at ts vs (absent (place g.end ts) s l vs >>= settle_on ws (λ us. Later ws at ts us))
  absent_settled s ws at ts vs MustStand e b h = inr ((s, vs), must_stand s ws ts vs e b, refl)
  absent_settled s ws at ts vs LeftOut e b h = rw e at (done_settled (Read s) ws at ts vs _ _ (option_done s ws at ts vs (rw e (λ d. absurd cc)) b) h)
  absent_settled s ws at ts vs NotGiven e b h = rw e at (done_settled (Read s) ws at ts vs _ _ (option_done s ws at ts vs (rw e (λ d. absurd cc)) b) h)
  absent_settled s ws at ts vs Ends e b h = rw e at (done_settled (Read s) ws at ts vs _ _ (option_done s ws at ts vs (rw e (λ d. absurd cc)) b) h)

  pub takes_row : (s : Symbol) (ws front : List Want) (t : Token A) (vs : List (Value A))
      → row s vs t.kind ≡ Some front → behind_token g.text t (Read s ∷ ws) vs ≡ Some (record { wants = front ++ ws; values = token t ∷ vs })
  unfolding behind_token
  takes_row s ws front t vs e = rw e refl

  begun_settled : (s : Symbol) (ws : List Want) (at : ℕ) (t : Token A) (ts : List (Token A)) (vs : List (Value A)) (r : Row) → row s vs t.kind ≡ r
      → IsSettled ws at (t ∷ ts) (left_out (leaving s) vs) (Later ws at (t ∷ ts) (left_out (leaving s) vs))
      → IsSettled (Read s ∷ ws) at (t ∷ ts) vs (begun s t vs r >>= settle_on ws (λ us. Later ws at (t ∷ ts) us))
  begun_settled s ws at t ts vs (Some front) e h = (ts, refl, takes_row s ws front t vs e, λ f c. in_row e c)
  begun_settled s ws at t ts vs None e h = absent_settled s ws at (t ∷ ts) vs (leaving s) refl e h

  settled : (ws : List Want) (at : ℕ) (ts : List (Token A)) (vs : List (Value A)) → IsSettled ws at ts vs (settle g (first ts) at ws vs)
  unfolding settle step behind_token first_needed
  settled [] at [] vs = (tt, refl)
  settled [] at (t ∷ ts) vs = (refl, refl)
  settled (Test_ q ∷ ws) at ts vs = test_settled q ws at ts vs (complaint g q at vs) refl (settled ws at ts vs)
  settled (Make m ∷ ws) at ts vs = done_settled (Make m) ws at ts vs _ _ (making_done m ws at ts vs) (settled ws at ts (made g.text m vs))
  settled (Read s ∷ ws) at [] vs = absent_settled s ws at [] vs (leaving s) refl tt (settled ws at [] (left_out (leaving s) vs))
  settled (Read s ∷ ws) at (t ∷ ts) vs = begun_settled s ws at t ts vs (row s vs t.kind) refl (settled ws at (t ∷ ts) (left_out (leaving s) vs))

  -- ---- all tokens

  -- reading takes tokens, and stops before the others
  pub record StopsAt (ws : List Want) (vs : List (Value A)) (ts others : List (Token A)) (n : Needed A) : Type 0 where
    pub front : List (Token A)
    pub parts : ts ≡ front ++ others
    pub wanting : Wanting A
    pub wanted : behind g.text front (record { wants = ws; values = vs }) ≡ Some wanting
    pub stuck : Stuck wanting.wants wanting.values others n

  -- reading ends where a text may end; or it comes to a complaint, or stops where something else must stand
  abbrev pub IsRun : List Want → ℕ → List (Token A) → List (Value A) → Reading A → Type 0
  IsRun ws at ts vs (Ok x) = StopsAt ws vs ts x.tokens None
  IsRun ws at ts vs (Err f) =
      Complains g ws at ts vs f ⊎ ((others : List (Token A)) × (n : Symbol × List (Value A)) × StopsAt ws vs ts others (Some n) × (f ≡ Unexpected (place g.end others) (needed_word (Some n))))

  stops_here : (ws : List Want) (vs : List (Value A)) (ts : List (Token A)) (n : Needed A) → Stuck ws vs ts n → StopsAt ws vs ts ts n
  unfolding behind
  stops_here ws vs ts n h = record { front = []; parts = refl; wanting = record { wants = ws; values = vs }; wanted = refl; stuck = h }

  stops_later : (ws front : List Want) (vs us : List (Value A)) (t : Token A) (ts rest others : List (Token A)) (n : Needed A) → ts ≡ t ∷ rest
      → behind_token g.text t ws vs ≡ Some (record { wants = front; values = us }) → StopsAt front us rest others n → StopsAt ws vs ts others n
  unfolding behind
  stops_later ws front vs us t ts rest others n e b s =
      record {
        front = t ∷ s.front;
        parts = e ∙ ap (λ (r : List (Token A)). t ∷ r) s.parts;
        wanting = s.wanting;
        wanted = rw b s.wanted;
        stuck = s.stuck;
      }

  run_later : (ws front : List Want) (at : ℕ) (vs us : List (Value A)) (t : Token A) (ts rest : List (Token A)) (r : Reading A) → ts ≡ t ∷ rest
      → behind_token g.text t ws vs ≡ Some (record { wants = front; values = us }) → ((f : Fault) → Complains g front t.span.from rest us f → Complains g ws at ts vs f)
      → IsRun front t.span.from rest us r → IsRun ws at ts vs r
  run_later ws front at vs us t ts rest (Ok x) e b c h = stops_later ws front vs us t ts rest x.tokens None e b h
  run_later ws front at vs us t ts rest (Err f) e b c (inl h) = inl (c f h)
  run_later ws front at vs us t ts rest (Err f) e b c (inr h) = inr (h.0, h.1, stops_later ws front vs us t ts rest h.0 (Some h.1) e b h.2, h.3)

  run_settled : (ws : List Want) (at : ℕ) (ts : List (Token A)) (vs : List (Value A)) (goes : Token A → List Want → List (Value A) → Reading A) (r : Result (Settled A) Fault)
      → ((t : Token A) (rest : List (Token A)) (front : List Want) (us : List (Value A)) → ts ≡ t ∷ rest → IsRun front t.span.from rest us (goes t front us))
      → IsSettled ws at ts vs r → IsRun ws at ts vs (r >>= run_on (λ us. record { at = at; tokens = ts; values = us }) goes)
  run_settled ws at ts vs goes (Ok (done us)) later h = stops_here ws vs ts None h
  run_settled ws at ts vs goes (Ok (taken t front us)) later h = run_later ws front at vs us t ts h.0 (goes t front us) h.1 h.2 h.3 (later t h.0 front us h.1)
  run_settled ws at ts vs goes (Err f) later (inl h) = inl h
  run_settled ws at ts vs goes (Err f) later (inr h) = inr (ts, h.0, stops_here ws vs ts (Some h.0) h.1, h.2)

  pub is_run : (ws : List Want) (at : ℕ) (ts : List (Token A)) (vs : List (Value A)) → IsRun ws at ts vs (run g ws at ts vs)
  unfolding run
  is_run ws at [] vs = run_settled ws at [] vs _ _ (λ t rest front us e. absurd (no_tokens g t rest e)) (settled ws at [] vs)
  is_run ws at (t ∷ ts) vs =
      run_settled ws at (t ∷ ts) vs _ _ (λ u rest front us e. let q : ts ≡ rest = cc in rw (← q) (is_run front u.span.from ts us)) (settled ws at (t ∷ ts) vs)

  -- ---- whole texts

  -- something must stand, or a token is left
  abbrev pub IsEarly : Needed A → List (Token A) → Type 0
  IsEarly (Some n) ts = Unit {0}
  IsEarly None [] = ⊥
  IsEarly None (t ∷ ts) = Unit {0}

  -- the fault where reading a whole text stops
  abbrev pub IsStop : List (Token A) → Fault → Type 0
  IsStop ts f = (others : List (Token A)) × (n : Needed A) × StopsAt a_module [] ts others n × IsEarly n others × (f ≡ Unexpected (place g.end others) (needed_word n))

  ended_fault : (vs : List (Value A)) (ts : List (Token A)) (f : Fault) → ended vs ts ≡ Err f → IsEarly None ts × (f ≡ Unexpected (place g.end ts) (needed_word {A = A} None))
  ended_fault vs [] f e = absurd cc
  ended_fault vs (t ∷ ts) f e = (tt, cc)

  parsed_fault : (ts : List (Token A)) (r : Reading A) (f : Fault) → IsRun a_module 0 ts [] r → (r >>= λ s. ended s.values s.tokens) ≡ Err f → IsComplaint g ts f ⊎ IsStop ts f
  parsed_fault ts (Ok x) f h e = let d = ended_fault x.values x.tokens f e in inr (x.tokens, None, h, d.0, d.1)
  parsed_fault ts (Err d) f (inl h) e = let q : d ≡ f = cc in inl (subst (λ (c : Fault). IsComplaint g ts c) q h)
  parsed_fault ts (Err d) f (inr h) e = let q : d ≡ f = cc in inr (h.0, Some h.1, h.2, tt, sym q ∙ h.3)

  pub first_fault_stops : (ts : List (Token A)) (f : Fault) → IsFirstFault g ts f → IsComplaint g ts f ⊎ IsStop ts f
  unfolding parsed
  first_fault_stops ts f e = parsed_fault ts (run g a_module 0 ts []) f (is_run a_module 0 ts []) e

  behind_on : (front more : List (Token A)) (u : Wanting A) (r : Option (Wanting A))
      → ((x : Wanting A) → behind g.text front x ≡ Some u → behind g.text (front ++ more) x ≡ behind g.text more u)
      → on_wanting r (λ x. behind g.text front x) ≡ Some u → on_wanting r (λ x. behind g.text (front ++ more) x) ≡ behind g.text more u
  behind_on front more u None h e = absurd cc
  behind_on front more u (Some x) h e = h x e

  pub behind_then : (front more : List (Token A)) (w u : Wanting A) → behind g.text front w ≡ Some u → behind g.text (front ++ more) w ≡ behind g.text more u
  unfolding behind
  behind_then [] more w u e = let q : w ≡ u = cc in ap (λ (x : Wanting A). behind g.text more x) q
  behind_then (t ∷ front) more w u e = behind_on front more u (behind_token g.text t w.wants w.values) (λ x h. behind_then front more x u h) e

  -- a token that does not stand there is behind no beginning of a text
  behind_none : (t : Token A) (more : List (Token A)) (u : Wanting A) → behind_token g.text t u.wants u.values ≡ None → behind g.text (t ∷ more) u ≡ None
  unfolding behind
  behind_none t more u e = rw e refl

  nothing_needed : (w u : Wanting A) (n : Symbol × List (Value A)) → Some w ≡ Some u → first_needed g.text w.wants w.values ≡ None → first_needed g.text u.wants u.values ≡ Some n → ⊥
  nothing_needed w u n e h k = let q : w ≡ u = cc in let d : None ≡ Some n = sym h ∙ ap (λ (x : Wanting A). first_needed g.text x.wants x.values) q ∙ k in absurd cc

  pub none_goes_on : (front others : List (Token A)) (n : Needed A) (u : Wanting A)
      → behind g.text front start ≡ Some u → Stuck u.wants u.values others n → IsEarly n others → NoneGoesOn g.text front others
  none_goes_on front [] (Some n) u e s h = λ text. nothing_needed text.last u n (sym text.taken ∙ e) text.whole s.1
  none_goes_on front [] None u e s h = absurd h
  none_goes_on front (t ∷ ts) n u e s h = λ go.
      let more = append_assoc front (t ∷ []) go.0 in
      let none = ap (λ (r : List (Token A)). behind g.text r start) more ∙ behind_then front (t ∷ go.0) start u e ∙ behind_none t go.0 u s.0 in
      let d : None ≡ Some go.1.last = sym none ∙ go.1.taken in
      absurd cc
