-- The two kinds of first faults; what the tests have to do with the rows alone.
use Rattle.std.proofs.Common.{◌≡◌, ℕ, List, [], ◌∷◌, ◌++◌, Some, Ok, Err, ◌⊎◌, inl, inr, refl, sym, ap, subst, ◌∙◌, append_assoc}
use Rattle.std.proofs.lemmas.List.{append-nil}
use Rattle.source_model.specs.Source.{Module}
use Rattle.source_model.specs.Grammar.{Token, Value, module_so_far, Test, Want, Test_}
use Rattle.source_model.specs.Rows.{a_module}
use Rattle.source_model.specs.Parsing.{Given, Fault, complaint, ◌>>=◌, step, settle, Reading, run, ended, parsed, IsFirstFault}
use Rattle.source_model.specs.SurfaceText.{Says}
use Rattle.source_model.specs.Prefixes.{IsText, NoneGoesOn, IsFirstBadPlace, Complains, here, passed, behind_making, behind_option, in_row, IsComplaint}
use Rattle.source_model.proofs.Reading.{run_left, run_begins, run_makes, run_tests, said_is_parsed}
use Rattle.source_model.proofs.Said.{ended_is}
use Rattle.source_model.proofs.Whole.{either}
use Rattle.source_model.proofs.Stops.{IsRun, is_run, IsStop, first_fault_stops, none_goes_on}
use Rattle.source_model.proofs.Endings.{goes_on}

module _ {A : Type 0} (g : Given A) where
  -- ---- a first fault

  pub bad_place : (name : A) (ts : List (Token A)) (f : Fault) → IsStop g ts f → IsFirstBadPlace g ts f
  bad_place name ts f s = record {
    front = s.2.front;
    others = s.0;
    parts = s.2.parts;
    goes_on = goes_on g name s.2.front s.2.wanting s.2.wanted;
    stops = none_goes_on g s.2.front s.0 s.1 s.2.wanting s.2.wanted s.2.stuck s.3;
    wanting = s.2.wanting;
    wanted = s.2.wanted;
    told = rw s.2.stuck.1 s.4;
  }

  placed : (name : A) (ts : List (Token A)) (f : Fault) → IsComplaint g ts f ⊎ IsStop g ts f → IsFirstBadPlace g ts f ⊎ IsComplaint g ts f
  placed name ts f (inl c) = inr c
  placed name ts f (inr s) = inl (bad_place name ts f s)

  pub first_fault_is_placed : (name : A) (ts : List (Token A)) (f : Fault) → IsFirstFault g ts f → IsFirstBadPlace g ts f ⊎ IsComplaint g ts f
  first_fault_is_placed name ts f e = placed name ts f (first_fault_stops g ts f e)

  -- ---- the rows alone and the tests

  run_is_text : (ts : List (Token A)) (vs : List (Value A)) (r : Reading A) → IsRun g a_module 0 ts [] r → (r >>= λ s. ended s.values s.tokens) ≡ Ok vs → IsText g.text ts
  run_is_text ts vs (Ok x) h e =
      let none = (ended_is g x.values vs x.tokens e).1 in
      let all = h.parts ∙ ap (λ (us : List (Token A)). h.front ++ us) none ∙ append-nil h.front in
      record { last = h.wanting; taken = rw all h.wanted; whole = h.stuck.1 }
  run_is_text ts vs (Err f) h e = absurd cc

  pub said_is_text : (ts : List (Token A)) (m : Module A) → Says g ts m → IsText g.text ts
  unfolding parsed
  said_is_text ts m h = run_is_text ts (module_so_far m ∷ []) (run g a_module 0 ts []) (is_run g a_module 0 ts []) (said_is_parsed g ts m h)

  complains_at : (q : Test) (ws : List Want) (at : ℕ) (ts : List (Token A)) (vs : List (Value A)) (f : Fault) → complaint g q at vs ≡ Some f → run g (Test_ q ∷ ws) at ts vs ≡ Err f
  unfolding run settle step
  complains_at q ws at [] vs f e = rw e refl
  complains_at q ws at (t ∷ ts) vs f e = rw e refl

complaint_is_fault : {A : Type 0} {g : Given A} {ws : List Want} {at : ℕ} {ts : List (Token A)} {vs : List (Value A)} {f : Fault} → Complains g ws at ts vs f → run g ws at ts vs ≡ Err f
complaint_is_fault {g = g} (here {q = q} {ws = ws} {at = at} {ts = ts} {vs = vs} {f = f} e) = complains_at g q ws at ts vs f e
complaint_is_fault {g = g} (passed {q = q} {ws = ws} {at = at} {ts = ts} {vs = vs} e c) = run_tests g q ws at ts vs e ∙ complaint_is_fault c
complaint_is_fault {g = g} (behind_making {m = m} {ws = ws} {at = at} {ts = ts} {vs = vs} c) = run_makes g m ws at ts vs ∙ complaint_is_fault c
complaint_is_fault {g = g} (behind_option {s = s} {ws = ws} {at = at} {ts = ts} {vs = vs} n b c) = run_left g s ws at ts vs n b ∙ complaint_is_fault c
complaint_is_fault {g = g} (in_row {s = s} {front = front} {ws = ws} {at = at} {t = t} {ts = ts} {vs = vs} e c) = run_begins g s front ws at t ts vs e ∙ complaint_is_fault c

module _ {A : Type 0} (g : Given A) where
  pub complaint_is_first : (ts : List (Token A)) (f : Fault) → IsComplaint g ts f → IsFirstFault g ts f
  unfolding parsed
  complaint_is_first ts f c = ap (λ (r : Reading A). r >>= λ s. ended s.values s.tokens) (complaint_is_fault c)

  -- a text by the rows alone goes wrong nowhere but at a test
  no_bad_place : (ts : List (Token A)) (f : Fault) → IsText g.text ts → IsFirstBadPlace g ts f → ⊥
  no_bad_place ts f h b = no_text b.others (subst (λ (us : List (Token A)). IsText g.text us) b.parts h) b.stops where
    no_text : (others : List (Token A)) → IsText g.text (b.front ++ others) → NoneGoesOn g.text b.front others → ⊥
    no_text [] h n = n (subst (λ (us : List (Token A)). IsText g.text us) (append-nil b.front) h)
    no_text (t ∷ ts) h n = n (ts, subst (λ (us : List (Token A)). IsText g.text us) (sym (append_assoc b.front (t ∷ []) ts)) h)

  said_or_complaint : (name : A) (ts : List (Token A))
      → IsText g.text ts → ((m : Module A) × Says g ts m) ⊎ ((f : Fault) × IsFirstFault g ts f) → ((m : Module A) × Says g ts m) ⊎ ((f : Fault) × IsComplaint g ts f)
  said_or_complaint name ts h (inl s) = inl s
  said_or_complaint name ts h (inr e) = inr (e.0, complained (first_fault_is_placed g name ts e.0 e.1)) where
    complained : IsFirstBadPlace g ts e.0 ⊎ IsComplaint g ts e.0 → IsComplaint g ts e.0
    complained (inl b) = absurd (no_bad_place ts e.0 h b)
    complained (inr c) = c

  pub text_is_said : (name : A) (ts : List (Token A)) → IsText g.text ts → ((m : Module A) × Says g ts m) ⊎ ((f : Fault) × IsComplaint g ts f)
  text_is_said name ts h = said_or_complaint name ts h (either g ts)
